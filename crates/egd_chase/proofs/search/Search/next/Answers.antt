use Rattle.std.proofs.Common.{◌≡◌, ◌<◌, Option, Some, List, All, length, refl, ◌∙◌, subst, arith}
use Rattle.std.specs.Prelude.{slice_get, IfSome, IfNone}
use Rattle.std.proofs.lemmas.Option.{slice_get_read}
use Rattle.rule_core.specs.declared.rules.Egd.{Egd}
use Rattle.body_match.specs.declared.found.Match.{Match}
use Rattle.body_match.proofs.ListLemmas.{size_set}
use Rattle.null_store.proofs.ListLemmas.{and_some}
use Rattle.egd_chase.specs.declared.search.Part.{Part}
use Rattle.egd_chase.specs.Search.{IsPartFor, HasNoUnequal, IsUnequalMatch}
use Rattle.egd_chase.proofs.IndexLemmas.{egd_of_part, part_set, none_below_more, none_of_all}
use Rattle.egd_chase.proofs.search.Search.next.Given.{Over}
use Rattle.egd_chase.proofs.search.Search.next.Goals as goal
use Rattle.egd_chase.proofs.search.Search.next.Goals.{After-index_mut}

-- the part at the place
part_is : (g : Over) (c : After-index_mut g) → slice_get c.loop-at.self.parts.items c.loop-at.at ≡ Some c.index_mut.result.now
part_is g c =
    let now : List Part = c.loop-at.self.parts.items in
    let size = c.loop-at.invariant.size in
    let l : c.loop-at.at < length now =
    omega (arith, size, c.loop-at-test.true, c.len-at-end.ensures, c.args.self.now.parts.ok) in
    slice_get_read now (length now) c.loop-at.at c.index_mut.result.now refl l c.index_mut.ensures.value

pub next-requires-clause-part : goal.next-requires-clause-part
next-requires-clause-part g c =
    let egds = c.requires.parts.0 in
    let are = c.loop-at.invariant.parts egds c.requires.parts.1 in
    let egd = egd_of_part c.args.store.now.rows egds c.loop-at.self.parts.items are c.loop-at.at c.index_mut.result.now
    (part_is g (goal.at.next-requires-clause-part g c).After-index_mut) in
    (egd.0, egd.2)

pub returns-in-Some-clause-parts : goal.returns-in-Some-clause-parts
returns-in-Some-clause-parts g c =
    λ egds are. part_set c.args.store.now.rows egds c.loop-at.self.parts.items c.loop-at.at c.index_mut.result.now c.next.new.self
    (part_is g (goal.at.returns-in-Some-clause-parts g c).After-index_mut) c.in_ok-found.ensures.part (c.loop-at.invariant.parts egds are)

pub returns-in-Some-clause-each : goal.returns-in-Some-clause-each
returns-in-Some-clause-each g c =
    let rows = c.args.store.now.rows in
    let part = c.index_mut.result.now in
    let found = c.in-Some.found in
    let each : IfSome (Some found) (λ list. (egd : Egd) → IsPartFor rows egd part → All (IsUnequalMatch rows egd) list) =
    subst (λ (o : Option (List Match)). IfSome o (λ list. (egd : Egd) → IsPartFor rows egd part → All (IsUnequalMatch rows egd) list))
    c.in-Some.is c.in_ok-found.ensures.each in
    λ egds are.
    let egd = egd_of_part rows egds c.loop-at.self.parts.items (c.loop-at.invariant.parts egds are) c.loop-at.at part
    (part_is g (goal.at.returns-in-Some-clause-each g c).After-index_mut) in
    and_some (λ e. All (IsUnequalMatch rows e) found) (slice_get egds c.loop-at.at) egd.0 egd.1 (each egd.0 egd.2)

pub loop-at-preserved : goal.loop-at-preserved
loop-at-preserved g c =
    let rows = c.args.store.now.rows in
    let now : List Part = c.loop-at.self.parts.items in
    let part = c.index_mut.result.now in
    let at = part_is g (goal.at.loop-at-preserved g c).After-index_mut in
    let none : (egd : Egd) → IsPartFor rows egd part → HasNoUnequal rows egd =
    subst (λ (o : Option (List Match)). IfNone o ((egd : Egd) → IsPartFor rows egd part → HasNoUnequal rows egd)) c.in_default.is
    c.in_ok-found.ensures.none in
    record {
      limit = c.loop-at.invariant.limit;
      size = size_set now c.loop-at.at c.next.new.self ∙ c.loop-at.invariant.size;
      parts = λ egds are. part_set rows egds now c.loop-at.at part c.next.new.self at c.in_ok-found.ensures.part
          (c.loop-at.invariant.parts egds are);
      none = λ egds are. none_below_more rows egds now c.loop-at.at part (c.loop-at.invariant.parts egds are) at none
          (c.loop-at.invariant.none egds are);
    }

pub returns-clause-none : goal.returns-clause-none
returns-clause-none g c =
    let size = c.loop-at.invariant.size in
    λ egds are. none_of_all c.args.store.now.rows egds c.loop-at.self.parts.items c.loop-at.at (c.loop-at.invariant.parts egds are)
    (omega (arith, size, c.loop-at-test.false, c.len-at-end.ensures, c.args.self.now.parts.ok)) (c.loop-at.invariant.none egds are)
