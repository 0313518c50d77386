-- The tables of an exchange at the instant are a snapshot of a target.
use Rattle.std.proofs.Common.{◌≡◌, List, map, ap, ◌∙◌, subst, to_z, of_z, w64}
use Rattle.std.proofs.lemmas.Int.{to_z-of_z}
use Rattle.rule_core.specs.declared.rules.Relation.{Relation}
use Rattle.rule_core.specs.Mapping.{RuleSet}
use Rattle.exchange_cli.specs.declared.ending.Finding.TheVariants.{Shown}
use Rattle.exchange_cli.specs.Rendering.{stored_table}
use Rattle.exchange_cli.specs.Snapshot.{AreBareFiles, row_count, tables_at}
use Rattle.exchange_cli.proofs.showing.show_solved.Goals as goal

pub returns : goal.returns
returns c = λ inputs from.
    let loaded = c.args.loaded.now in
    let solved = c.args.solved.now in
    let t = c.args.instant in
    let out = c.args.out.now in
    let shown = c.in_ok-shown.shown in
    let told : to_z w64 (of_z w64 t) ≡ t = to_z-of_z w64 t c.ranges.instant in
    let stored = map (stored_table loaded.pool solved.nulls) solved.tables in
    let tables = tables_at t stored in
    let same : loaded.rules.targets ≡ inputs.mapping.rules.targets = ap (λ (r : RuleSet). r.targets) from.rules.2 in
    record {
      groups = record { tables = shown.files; verdict = c.in_ok-verdict.field-0 };
      rows = shown.rows;
      each = record {
        tables = tables;
        snapshot = c.a_target_is_shown_at_each_instant.ensures inputs loaded solved t from c.requires;
        each =
            subst (λ (relations : List Relation). AreBareFiles out relations shown.files tables) same
            (subst (λ z. AreBareFiles out loaded.rules.targets shown.files (tables_at z stored)) told c.in_ok-shown.ensures.each);
        verdict = c.in_ok-verdict.ensures;
        rows_are = c.in_ok-shown.ensures.rows ∙ (λ i. row_count (tables_at (told i) stored));
      };
      files = c.in_ok-with_last.ensures;
      found = λ i. Shown (told i) shown.rows;
      line = c.in_ok-printed_line.ensures;
    }
