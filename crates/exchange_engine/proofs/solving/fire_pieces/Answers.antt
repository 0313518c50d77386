use Rattle.std.proofs.Common.{◌∙◌, ap, length, subst, List}
use Rattle.failure_trace.specs.declared.firing.Firing.{Firing}
use Rattle.null_store.specs.Store.{facts_in}
use Rattle.exchange_engine.specs.Loading.{LoadedOf}
use Rattle.exchange_engine.specs.Ran.{CountsPieces}
use Rattle.exchange_engine.specs.Chased.{AreStarted}
use Rattle.exchange_engine.proofs.FiredLemmas.{hold_moves}
use Rattle.exchange_engine.proofs.solving.fire_pieces.Goals as goal

pub returns-clause-started : goal.returns-clause-started
returns-clause-started g c =
    let firings : List Firing = c.in_ok-store.field-0.firings in
    let rows = facts_in c.in_ok-store.field-0.store in
    subst (λ (l : LoadedOf). AreStarted l firings rows) c.loaded.view_is (record {
      fired = record {
        pieces = c.in_ok-pieces.pieces;
        normalised = c.in_ok-pieces.ensures.normalised;
        exact = c.in_ok-store.ensures.firings;
        ends = c.in_ok-store.ensures.ends;
      };
      rows_are = c.in_ok-store.ensures.rows;
      hold = hold_moves c.loaded.inside.rules c.loaded.inside.table c.in_ok-pieces.pieces rows c.in_ok-pieces.ensures.same
          c.in_ok-store.ensures.facts;
    })

pub returns-clause-pieces : goal.returns-clause-pieces
returns-clause-pieces g c =
    subst (λ (l : LoadedOf). CountsPieces l c.len.result) c.loaded.view_is
    (λ other is. c.len.ensures ∙ ap length c.facts.ensures.value
    ∙ ap length (c.normalised_tables_keep_what_holds.ensures.one c.loaded.inside.rules c.loaded.inside.table c.in_ok-pieces.pieces other
    c.in_ok-pieces.ensures.normalised is))
