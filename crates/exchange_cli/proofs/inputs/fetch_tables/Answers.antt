-- The tables are read in turn, each with what is left of the limit.
use Rattle.std.proofs.Common.{◌≡◌, ◌+◌, ◌∷◌, refl, sym, ap, ◌∙◌, subst, arith, drop, get_or}
use Rattle.std.proofs.lemmas.Result.{err_from_is_err_and}
use Rattle.std.proofs.lemmas.List.{drop_more, drop_all}
use Rattle.rule_core.specs.Validity.{IsRelation}
use Rattle.mapping_core.specs.Mapping.{Meaning}
use Rattle.exchange_cli.specs.Run.{device}
use Rattle.exchange_cli.proofs.SizeLemmas.{none_is_read, one_more_is_read, all_are_read, all_have_few_cells}
use Rattle.exchange_cli.proofs.StepLemmas.{GoesOnIn, goes_on_first, goes_on_more, goes_on_last, table_stops, keeps_both}
use Rattle.exchange_cli.proofs.inputs.fetch_tables.Goals as goal
use Rattle.exchange_cli.proofs.inputs.fetch_tables.Goals.{After-relation-item, After-as_slice-relation-items}
use Rattle.exchange_cli.proofs.inputs.fetch_tables.Given.{Over}

pub loop-relation-init : goal.loop-relation-init
loop-relation-init g c = record {
  keeps = record { same = refl; later = omega arith };
  goes_on = rw c.new-tables.ensures (goes_on_first (g.S.Shelf.holds c.args.shelf.now) c.args.source.now c.args.mapping.now.rules.sources);
  read = rw c.new-tables.ensures (none_is_read c.args.mapping.now.rules.sources);
}

-- the relations that the loop goes through
relations_are : (g : Over) (c : After-as_slice-relation-items g) → c.as_slice-relation-items.result.now ≡ c.args.mapping.now.rules.sources
relations_are g c = c.as_slice-relation-items.ensures ∙ c.sources.ensures ∙ ap (λ (m : Meaning). m.rules.sources) c.mapping.view_is

-- the relation of a turn is the first of those that are left
goes_on_here : (g : Over) (c : After-relation-item g) → GoesOnIn (g.S.Shelf.holds c.args.shelf.now) c.args.source.now
    c.args.mapping.now.rules.sources
    (c.relation-item.result ∷ drop (c.loop-relation.relation-index + 1) c.args.mapping.now.rules.sources) c.loop-relation.tables
    c.loop-relation.left
goes_on_here g c =
    let sources = c.args.mapping.now.rules.sources in
    let i = c.loop-relation.relation-index in
    let relation = c.relation-item.result in
    let are = relations_are g (goal.at.After-relation-item g c).After-as_slice-relation-items in
    let rest : drop i sources ≡ relation ∷ drop (i + 1) sources =
    drop_more sources i relation (rw are at c.loop-relation-test.true)
    ∙ ap (λ r. r ∷ drop (i + 1) sources) (sym (rw are at c.relation-item.is)) in
    rw rest at c.loop-relation.invariant.goes_on

pub loop-relation-preserved : goal.loop-relation-preserved
loop-relation-preserved g c =
    let holds = g.S.Shelf.holds in
    let faults = g.S.Shelf.faults in
    let before = c.loop-relation.invariant.keeps in
    record {
      keeps = keeps_both (device (holds c.args.shelf.now) (faults c.args.shelf.now))
          (device (holds c.loop-relation.shelf) (faults c.loop-relation.shelf))
          (device (holds c.fetch_table.new.shelf) (faults c.fetch_table.new.shelf)) before c.in_ok-facts.ensures.keeps;
      goes_on = rw c.in_ok-push.ensures.ok (goes_on_more (holds c.args.shelf.now) c.args.source.now
          c.args.mapping.now.rules.sources (drop (c.loop-relation.relation-index + 1) c.args.mapping.now.rules.sources)
          c.relation-item.result c.loop-relation.tables c.loop-relation.left c.in_ok-facts.len c.in_ok-facts.facts
          (goes_on_here g (goal.at.loop-relation-preserved g c).After-relation-item) (rw before.same at c.in_ok-facts.ensures.reads));
      read =
          let are = relations_are g (goal.at.loop-relation-preserved g c).After-as_slice-relation-items in
          let within = rw are at c.loop-relation-test.true in
          let is = rw are at c.relation-item.is in
          rw c.in_ok-push.ensures.ok
          (one_more_is_read c.args.mapping.now.rules.sources c.loop-relation.tables c.loop-relation.relation-index
          c.relation-item.result c.in_ok-facts.facts within is c.loop-relation.invariant.read c.in_ok-facts.ensures.wide
          c.in_ok-facts.ensures.few);
    }

pub fetch_table-requires : goal.fetch_table-requires
fetch_table-requires g c =
    let relation = c.relation-item.result in
    let within = rw (c.as_slice-relation-items.ensures, c.sources.ensures) at c.loop-relation-test.true in
    let is : relation ≡ get_or c.mapping.inside.rules.sources c.loop-relation.relation-index relation =
    rw (c.as_slice-relation-items.ensures, c.sources.ensures) at c.relation-item.is in
    subst IsRelation (sym is) (c.is_kept.ensures.relations.source_relations c.loop-relation.relation-index relation within)

pub returns-in_err-facts-clause-keeps : goal.returns-in_err-facts-clause-keeps
returns-in_err-facts-clause-keeps g c =
    let holds = g.S.Shelf.holds in
    let faults = g.S.Shelf.faults in
    keeps_both (device (holds c.args.shelf.now) (faults c.args.shelf.now))
    (device (holds c.loop-relation.shelf) (faults c.loop-relation.shelf))
    (device (holds c.fetch_table.new.shelf) (faults c.fetch_table.new.shelf)) c.loop-relation.invariant.keeps c.in_err-facts.ensures.keeps

pub returns-in_err-facts-clause-stops : goal.returns-in_err-facts-clause-stops
returns-in_err-facts-clause-stops g c =
    let holds = g.S.Shelf.holds in
    let faults = g.S.Shelf.faults in
    let p = err_from_is_err_and c.from_residual.result c.from_residual.ensures.1 in
    rw (p.1, p.2) (table_stops (device (holds c.args.shelf.now) (faults c.args.shelf.now))
    (device (holds c.loop-relation.shelf) (faults c.loop-relation.shelf))
    (device (holds c.fetch_table.new.shelf) (faults c.fetch_table.new.shelf)) c.args.source.now c.args.mapping.now.rules.sources
    (drop (c.loop-relation.relation-index + 1) c.args.mapping.now.rules.sources) c.relation-item.result c.loop-relation.tables
    c.loop-relation.left c.in_err-facts.field-0.0 c.loop-relation.invariant.keeps c.in_err-facts.ensures.keeps
    (goes_on_here g (goal.at.returns-in_err-facts-clause-stops g c).After-relation-item) c.in_err-facts.ensures.stops)

pub returns-clause-reads : goal.returns-clause-reads
returns-clause-reads g c =
    let sources = c.args.mapping.now.rules.sources in
    let are = relations_are g (goal.at.returns-clause-reads g c).After-as_slice-relation-items in
    let none = drop_all c.loop-relation.relation-index sources (rw are at c.loop-relation-test.false) in
    goes_on_last (g.S.Shelf.holds c.args.shelf.now) c.args.source.now sources c.loop-relation.tables c.loop-relation.left
    (rw none at c.loop-relation.invariant.goes_on)

pub returns-clause-tables : goal.returns-clause-tables
returns-clause-tables g c =
    let are = relations_are g (goal.at.returns-clause-tables g c).After-as_slice-relation-items in
    (all_are_read c.args.mapping.now.rules.sources c.loop-relation.tables c.loop-relation.relation-index
    (rw are at c.loop-relation-test.false) c.loop-relation.invariant.read).each

pub returns-clause-few : goal.returns-clause-few
returns-clause-few g c =
    let sources = c.args.mapping.now.rules.sources in
    let are = relations_are g (goal.at.returns-clause-few g c).After-as_slice-relation-items in
    let valid = rw (ap (λ (m : Meaning). m.rules) c.mapping.view_is) at c.is_kept.ensures in
    all_have_few_cells sources c.loop-relation.tables
    (all_are_read sources c.loop-relation.tables c.loop-relation.relation-index
    (rw are at c.loop-relation-test.false) c.loop-relation.invariant.read)
    (omega (arith, valid.relations.most))
