use Rattle.std.proofs.Common.{List, Some, length, map, sym, ap, ◌∙◌, subst, All}
use Rattle.rule_core.specs.declared.rules.Atom.{Atom}
use Rattle.null_store.specs.declared.piece.NamedPiece.{NamedPiece}
use Rattle.row_arena.specs.Arena.{Arena}
use Rattle.null_store.specs.Lists.{rows_seen}
use Rattle.null_store.specs.Layout.{HasFrontierValues, AddsRows, IsThere, row_for}
use Rattle.null_store.proofs.ThereLemmas.{head_there}
use Rattle.null_store.proofs.firing.fire.Goals as goal

pub add_rows-requires-clause-there : goal.add_rows-requires-clause-there
add_rows-requires-clause-there g c =
    let tgd = c.args.tgd.now in
    let frontier = c.args.frontier.now in
    let more = c.add_pieces.ensures.pieces in
    let values = c.add_pieces.new.values in
    let has : HasFrontierValues tgd frontier values = λ v l o. ap Some (c.add_pieces.ensures.others v l) ∙ c.frontier_values-values.ensures v l o in
    subst (λ (head : List Atom). All (λ (atom : Atom). All (IsThere values (length c.add_pieces.new.rows.pieces)) atom.args) head)
    (sym c.as_slice.ensures)
    (subst (λ (ps : List NamedPiece). All (λ (atom : Atom). All (IsThere values (length ps)) atom.args) tgd.head) (sym more.1)
    (head_there tgd frontier c.args.name c.args.span values c.args.rows.now.pieces more.0 c.requires.safe has more.2))

pub returns-clause-fired : goal.returns-clause-fired
returns-clause-fired g c =
    let tgd = c.args.tgd.now in
    let frontier = c.args.frontier.now in
    let more = c.add_pieces.ensures.pieces in
    let values = c.add_pieces.new.values in
    record {
      values = values;
      more = more.0;
      rows = subst (λ (head : List Atom). AddsRows (rows_seen c.args.rows.now.arena) (rows_seen c.add_rows.new.rows.arena)
          (map (row_for values c.args.span) head)) c.as_slice.ensures
          (subst (λ (a : Arena). AddsRows (rows_seen a) (rows_seen c.add_rows.new.rows.arena)
          (map (row_for values c.args.span) c.as_slice.result.now)) c.add_pieces.ensures.arena c.add_rows.ensures.rows);
      pieces = c.add_rows.ensures.pieces ∙ more.1;
      has_values = λ v l o. ap Some (c.add_pieces.ensures.others v l) ∙ c.frontier_values-values.ensures v l o;
      adds = more.2;
    }
