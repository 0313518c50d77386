use Rattle.std.proofs.Common.{◌≡◌, ℕ, List, [], ◌++◌, Bool, length, sym, ap}
use Rattle.std.proofs.lemmas.Result.{IfOk-weaker}
use Rattle.body_match.specs.declared.found.Match.{Match}
use Rattle.body_match.specs.Matches.{IsMatch}
use Rattle.body_match.specs.Search.{Task, IsFindable, IsListedFrom, Gives}
use Rattle.body_match.proofs.GiveLemmas.{gives_same}
use Rattle.body_match.proofs.search.visit_all.Goals as goal

-- matches whose rows begin with none are all
all_from_none : {S : Type 0} (takes : S → Match → S → Type 0) (task : Task) (chosen : List ℕ) (old new : S) → chosen ≡ []
    → (more : Bool) → Gives takes (IsListedFrom task chosen) (IsFindable task) old new more
    → Gives takes (IsMatch task.body (length task.places) task.rows) (IsFindable task) old new more
all_from_none takes task chosen old new none more given =
    gives_same takes (IsFindable task) (IsListedFrom task chosen) (IsMatch task.body (length task.places) task.rows) old new more (λ m h. h.0)
    (λ m h d. (h, (m.rows, ap (λ l. l ++ m.rows) (sym none)))) given

pub returns-clause-gives : goal.returns-clause-gives
returns-clause-gives g c =
    let task = c.args.search.now in
    let chosen : List ℕ = c.in_ok-with_capacity.field-0.items in
    IfOk-weaker c.extend.result
    (λ more. Gives g.V.Visitor.takes (IsListedFrom task chosen) (IsFindable task) c.args.visitor.now c.extend.new.visitor more)
    (λ more. Gives g.V.Visitor.takes (IsMatch task.body (length task.places) task.rows) (IsFindable task) c.args.visitor.now c.extend.new.visitor more)
    (all_from_none g.V.Visitor.takes task chosen c.args.visitor.now c.extend.new.visitor c.in_ok-with_capacity.ensures.items)
    c.extend.ensures.gives
