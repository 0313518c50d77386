use Rattle.std.proofs.Common.{sym, ◌∙◌, subst, w64, List, Contains}
use Rattle.std.proofs.lemmas.Int.{to_z-of_z}
use Rattle.time_line.specs.Span.{Has}
use Rattle.fact_table.specs.declared.fact.Fact.{Fact}
use Rattle.fact_table.proofs.table.FactTable.has_at.Goals as goal

pub returns : goal.returns
returns c =
    let there = c.facts_of.ensures in
    let whole = c.as_slice.ensures ∙ c.self.view_is in
    let same = to_z-of_z w64 c.args.t c.ranges.t in (
      λ t.
          let h = c.some_has.ensures.0 t in
          let f = (there h.1).0 (h.0, h.2, h.3) in
          let d = subst (λ (l : List Fact). Contains l h.1) whole f.0 in
          (d.0, h.1, d.1, d.2, (f.1, f.2, subst (Has h.1.span) same h.4)),
      λ h.
          let d = subst (λ (l : List Fact). Contains l h.1) (sym whole) (h.0, h.2, h.3) in
          let k = (there h.1).1 (d, h.4.0, h.4.1) in
          c.some_has.ensures.1 (k.0, h.1, k.1, k.2, subst (Has h.1.span) (sym same) h.4.2),
    )
