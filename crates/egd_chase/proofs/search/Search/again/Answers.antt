use Rattle.std.proofs.Common.{◌≡◌, Option, Some, None, List, length, refl}
use Rattle.std.specs.Prelude.{slice_get, IfSome, IfNone, IsSomeAnd}
use Rattle.std.proofs.lemmas.Option.{slice_get_read, IfSome_then}
use Rattle.std.proofs.lemmas.Result.{IfOk-weaker}
use Rattle.rule_core.specs.declared.rules.Egd.{Egd}
use Rattle.body_match.specs.declared.found.Match.{Match}
use Rattle.body_match.specs.Index.{IsUnequalWith}
use Rattle.null_store.proofs.ListLemmas.{and_some}
use Rattle.egd_chase.specs.declared.search.Part.{Part}
use Rattle.egd_chase.specs.Search.{AreParts, IsUnequalMatch}
use Rattle.egd_chase.proofs.IndexLemmas.{egd_of_part, part_at, with_of_egd, with_of_index}
use Rattle.egd_chase.proofs.search.Search.again.Given.{Over}
use Rattle.egd_chase.proofs.search.Search.again.Goals as goal
use Rattle.egd_chase.proofs.search.Search.again.Goals.{After-index}

-- the part of the egd
part_is : (g : Over) (c : After-index g) → slice_get c.args.self.now.parts.items c.args.egd ≡ Some c.index.result.now
part_is g c =
    let parts : List Part = c.args.self.now.parts.items in
    slice_get_read parts (length parts) c.args.egd c.index.result.now refl c.requires c.index.ensures

none_then : {P Q : Type 0} (o : Option Match) → (P → Q) → IfNone o P → IfNone o Q
none_then None f p = f p
none_then (Some m) f p = tt

pub returns-clause-some : goal.returns-clause-some
returns-clause-some g c =
    let rows = c.args.store.now.rows in
    let parts : List Part = c.args.self.now.parts.items in
    let part = c.index.result.now in
    let at = part_is g (goal.at.returns-clause-some g c).After-index in
    IfOk-weaker c.unequal_with.result
    (λ found. IfSome found (IsUnequalWith part.index.index rows part.index.left part.index.right c.args.rows.now))
    (λ found. IfSome found (λ m. (egds : List Egd) → AreParts rows egds parts
    → IsSomeAnd (slice_get egds c.args.egd) (λ e. IsUnequalMatch rows e m)))
    (λ found h. IfSome_then found h (λ m unequal egds are.
    let egd = egd_of_part rows egds parts are c.args.egd part at in
    and_some (λ e. IsUnequalMatch rows e m) (slice_get egds c.args.egd) egd.0 egd.1
    (with_of_egd rows egd.0 part.index egd.2.index c.args.rows.now m unequal)))
    c.unequal_with.ensures.some

pub returns-clause-none : goal.returns-clause-none
returns-clause-none g c =
    let rows = c.args.store.now.rows in
    let parts : List Part = c.args.self.now.parts.items in
    let part = c.index.result.now in
    let at = part_is g (goal.at.returns-clause-none g c).After-index in
    IfOk-weaker c.unequal_with.result
    (λ found. IfNone found ((m : Match) → ¬ (IsUnequalWith part.index.index rows part.index.left part.index.right c.args.rows.now m)))
    (λ found. IfNone found ((egds : List Egd) (e : Egd) (m : Match) → AreParts rows egds parts → slice_get egds c.args.egd ≡ Some e
    → IsUnequalMatch rows e m → ¬ (m.rows ≡ c.args.rows.now)))
    (λ found. none_then found (λ none egds e m are here unequal same.
    let is = part_at rows egds parts are c.args.egd e part here at in
    none m (with_of_index rows e part.index is.index c.args.rows.now m unequal same)))
    c.unequal_with.ensures.none
