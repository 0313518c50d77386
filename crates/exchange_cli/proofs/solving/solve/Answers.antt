-- What is made of an outcome is a target, or a certificate.
use Rattle.std.proofs.Common.{inl, inr}
use Rattle.std.specs.Prelude.{◌⊎◌}
use Rattle.std.proofs.lemmas.Result.{IfOk-weaker}
use Rattle.exchange_cli.specs.Certificate.{Refutes, IsUnsolved}
use Rattle.exchange_cli.specs.Exchanged.{IsLoadedFrom, IsFailedFrom}
use Rattle.exchange_cli.specs.Inputs.{Inputs}
use Rattle.exchange_cli.specs.Product.{IsSolved}
use Rattle.exchange_cli.specs.Steps.{read_of}
use Rattle.exchange_cli.proofs.solving.solve.Goals as goal

pub returns-in-Solved : goal.returns-in-Solved
returns-in-Solved c =
    let inputs = read_of c.args.inputs in
    let target = c.args.target.now in
    let loaded = c.in_ok-loaded.loaded in
    IfOk-weaker c.tell.result (λ product. (i : Inputs) → IsLoadedFrom i loaded → IsSolved i target product)
    (λ product. IsSolved inputs target product ⊎ IsUnsolved inputs target product)
    (λ product made. inl (made inputs c.in_ok-loaded.ensures)) c.tell.ensures

pub returns-in-Failed : goal.returns-in-Failed
returns-in-Failed c =
    let inputs = read_of c.args.inputs in
    let target = c.args.target.now in
    let loaded = c.in_ok-loaded.loaded in
    let trace = c.in-Failed.trace in
    let given : IsFailedFrom loaded trace = rw c.in-Failed.is at c.in_ok-outcome.ensures.failed in
    let shows = c.a_given_trace_refutes.ensures inputs loaded trace c.in_ok-loaded.ensures given.accepted in
    IfOk-weaker c.refute.result (λ product. (i : Inputs) → Refutes i trace → IsUnsolved i target product)
    (λ product. IsSolved inputs target product ⊎ IsUnsolved inputs target product)
    (λ product made. inr (made inputs shows)) c.refute.ensures
