-- What is made of an outcome is a target at the instant, or a certificate.
use Rattle.std.proofs.Common.{◌≡◌, inl, inr, subst, to_z, of_z, w64}
use Rattle.std.specs.Prelude.{◌⊎◌}
use Rattle.std.proofs.lemmas.Int.{to_z-of_z}
use Rattle.std.proofs.lemmas.Result.{IfOk-weaker}
use Rattle.exchange_cli.specs.Certificate.{Refutes, IsUnsolved}
use Rattle.exchange_cli.specs.Exchanged.{IsLoadedFrom, IsFailedFrom}
use Rattle.exchange_cli.specs.Inputs.{Inputs}
use Rattle.exchange_cli.specs.Product.{IsShownTarget}
use Rattle.exchange_cli.specs.Steps.{read_of}
use Rattle.exchange_cli.proofs.showing.show.Goals as goal

pub returns-in-Solved : goal.returns-in-Solved
returns-in-Solved c =
    let inputs = read_of c.args.inputs in
    let out = c.args.out.now in
    let t = c.args.instant in
    let loaded = c.in_ok-loaded.loaded in
    let told : to_z w64 (of_z w64 t) ≡ t = to_z-of_z w64 t c.ranges.instant in
    IfOk-weaker c.show_solved.result
    (λ product. (i : Inputs) → IsLoadedFrom i loaded → IsShownTarget i (to_z w64 (of_z w64 t)) out product)
    (λ product. IsShownTarget inputs t out product ⊎ IsUnsolved inputs out product)
    (λ product made. inl (subst (λ z. IsShownTarget inputs z out product) told (made inputs c.in_ok-loaded.ensures))) c.show_solved.ensures

pub returns : goal.returns
returns c =
    let inputs = read_of c.args.inputs in
    let out = c.args.out.now in
    let t = c.args.instant in
    let loaded = c.in_ok-loaded.loaded in
    let trace = c.in-Failed.trace in
    let given : IsFailedFrom loaded trace = rw c.in-Failed.is at c.in_ok-outcome.ensures.failed in
    let shows = c.a_given_trace_refutes.ensures inputs loaded trace c.in_ok-loaded.ensures given.accepted in
    IfOk-weaker c.refute.result (λ product. (i : Inputs) → Refutes i trace → IsUnsolved i out product)
    (λ product. IsShownTarget inputs t out product ⊎ IsUnsolved inputs out product)
    (λ product made. inr (made inputs shows)) c.refute.ensures
