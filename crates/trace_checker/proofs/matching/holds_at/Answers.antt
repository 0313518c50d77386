use Rattle.std.proofs.Common.{true≢false, List, sym, subst, w64}
use Rattle.std.specs.Option.{IfSome, IfNone}
use Rattle.std.proofs.lemmas.Int.{to_z-of_z}
use Rattle.term_core.specs.declared.const_id.ConstId.{ConstId}
use Rattle.fact_table.specs.Facts.{HasAt}
use Rattle.trace_checker.specs.States.{NameThem}
use Rattle.trace_checker.proofs.SourceLemmas.{source_has, source_named}
use Rattle.trace_checker.proofs.matching.holds_at.Goals as goal

pub returns-in-Some : goal.returns-in-Some
returns-in-Some c =
    let pool = c.args.pool.now in
    let table = c.args.table.now in
    let row = c.args.row.now in
    let ids = c.in-Some.ids in
    let at = to_z-of_z w64 c.args.t c.ranges.t in
    let found = subst (λ o. IfSome o (λ ids. NameThem pool ids c.as_slice.result.now)) c.in-Some.is c.in_ok-ids.ensures.found in
    let name = subst (NameThem pool ids) c.as_slice.ensures.value found in
    let has = source_has pool table c.args.t c.requires c.len.ensures.pool row.relation ids row.names.items name in (
      λ h. has.0 (subst (HasAt table row.relation ids) at (c.has_at.ensures.0 h)),
      λ h. c.has_at.ensures.1 (subst (HasAt table row.relation ids) (sym at) (has.1 h)),
    )

pub returns-in-None : goal.returns-in-None
returns-in-None c =
    let pool = c.args.pool.now in
    let row = c.args.row.now in
    let none = subst (λ o. IfNone o ((ids : List ConstId) → ¬ (NameThem pool ids c.as_slice.result.now))) c.in-None.is c.in_ok-ids.ensures.none in (
      λ h. absurd (true≢false (sym h)),
      λ h.
          let d = source_named pool c.args.table.now c.args.t c.requires row.relation row.names.items h in
          absurd (none d.0 (subst (NameThem pool d.0) (sym c.as_slice.ensures.value) d.1)),
    )
