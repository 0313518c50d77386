use Rattle.std.proofs.Common.{◌<◌, Option, Some, List, All, Contains, length, refl, subst, arith}
use Rattle.std.specs.Prelude.{IfSome, IfNone}
use Rattle.std.proofs.lemmas.Option.{slice_get_read}
use Rattle.rule_core.specs.declared.rules.Egd.{Egd}
use Rattle.body_match.specs.declared.found.Match.{Match}
use Rattle.egd_chase.specs.Search.{IsIndexFor, IsShownMatch, IsUnequalMatch}
use Rattle.egd_chase.proofs.IndexLemmas.{wait_less, none_waits}
use Rattle.egd_chase.proofs.search.Part.next.Goals as goal

pub returns-in-Some-clause-each : goal.returns-in-Some-clause-each
returns-in-Some-clause-each g c =
    let rows = c.args.store.now.rows in
    let each : IfSome (Some c.in-Some.found) (λ list. (egd : Egd) → IsIndexFor rows egd c.loop-self.self.index → All (IsUnequalMatch rows egd) list) =
    subst (λ (o : Option (List Match)). IfSome o (λ list. (egd : Egd) → IsIndexFor rows egd c.loop-self.self.index
    → All (IsUnequalMatch rows egd) list)) c.in-Some.is c.in_ok-found.ensures.each in
    λ egd is. each egd (c.loop-self.invariant egd is).index

pub loop-self-preserved : goal.loop-self-preserved
loop-self-preserved g c =
    let rows = c.args.store.now.rows in
    let part = c.loop-self.self in
    let waiting = part.waiting.items in
    let row = c.index-row.result.now in
    let l : part.next < length waiting = omega (arith, c.loop-self-test.true, c.len.ensures, part.waiting.ok) in
    let none : (egd : Egd) (m : Match) → IsIndexFor rows egd part.index → IsShownMatch rows egd part.index m → ¬ (Contains m.rows row) =
    subst (λ (o : Option (List Match)). IfNone o ((egd : Egd) (m : Match) → IsIndexFor rows egd part.index
    → IsShownMatch rows egd part.index m → ¬ (Contains m.rows row))) c.in_default.is c.in_ok-found.ensures.none in
    λ egd is.
    let was = c.loop-self.invariant egd is in
    record {
      index = was.index;
      wait = wait_less rows egd part.index waiting part.next row (slice_get_read waiting (length waiting) part.next row refl l c.index-row.ensures)
          (λ m. none egd m was.index) was.wait;
      within = omega (arith, l);
    }

pub returns-clause-none : goal.returns-clause-none
returns-clause-none g c =
    λ egd is. none_waits c.args.store.now.rows egd c.loop-self.self (c.loop-self.invariant egd is)
    (omega (arith, c.loop-self-test.false, c.len.ensures, c.loop-self.self.waiting.ok))
