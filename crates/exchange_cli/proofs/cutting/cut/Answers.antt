-- The pieces have their constants and their widths from the facts that were read.
use Rattle.std.proofs.Common.{◌≡◌, List, ap, length, refl, sym, subst, ◌∙◌}
use Rattle.rule_core.specs.declared.rules.Relation.{Relation}
use Rattle.rule_core.specs.Mapping.{RuleSet}
use Rattle.fact_table.specs.declared.fact.Fact.{Fact}
use Rattle.exchange_cli.specs.Cutting.{AreAsWide}
use Rattle.exchange_cli.specs.Pieces.{piece_tables}
use Rattle.exchange_cli.specs.Target.{AreTableFiles}
use Rattle.exchange_cli.proofs.CuttingLemmas.{loaded_wide, pieces_in_pool, pieces_as_wide}
use Rattle.exchange_cli.proofs.cutting.cut.Goals as goal

pub piece_files-requires-clause-table : goal.piece_files-requires-clause-table
piece_files-requires-clause-table c = rw (c.as_slice.ensures, c.facts-2.ensures.value) c.in_ok-pieces.ensures.order

pub piece_files-requires-clause-within : goal.piece_files-requires-clause-within
piece_files-requires-clause-within c =
    let loaded = c.in_ok-loaded.loaded in
    rw (c.as_slice.ensures, c.facts-2.ensures.value)
    (pieces_in_pool loaded.rules loaded.table c.in_ok-pieces.pieces c.in_ok-pieces.ensures (length loaded.pool)
    c.in_ok-loaded.ensures.each.facts)

pub piece_files-requires-clause-wide : goal.piece_files-requires-clause-wide
piece_files-requires-clause-wide c =
    let loaded = c.in_ok-loaded.loaded in
    let from = c.in_ok-loaded.ensures in
    let same : loaded.rules.sources ≡ c.args.inputs.mapping.rules.sources = ap (λ (r : RuleSet). r.sources) from.rules.2 in
    let wide : AreAsWide loaded.rules.sources loaded.table =
    subst (λ (relations : List Relation). AreAsWide relations loaded.table) (sym same)
    (loaded_wide c.args.inputs.mapping.rules.sources c.args.inputs.tables loaded.pool loaded.table c.requires.tables from.facts) in
    rw (c.as_slice.ensures, c.facts-2.ensures.value)
    (pieces_as_wide loaded.rules loaded.table c.in_ok-pieces.pieces c.in_ok-pieces.ensures loaded.rules.sources wide)

pub returns : goal.returns
returns c =
    let loaded = c.in_ok-loaded.loaded in
    let pieces : List Fact = c.in_ok-pieces.pieces in
    let from = c.in_ok-loaded.ensures in
    let same : loaded.rules.sources ≡ c.args.inputs.mapping.rules.sources = ap (λ (r : RuleSet). r.sources) from.rules.2 in
    let listed = c.as_slice.ensures ∙ c.facts-2.ensures.value in
    record {
      facts = c.fact_count.result;
      pieces = c.len.result;
      files = record {
        loaded = loaded;
        from = from;
        normalised = pieces;
        pieced = c.in_ok-pieces.ensures;
        each =
            subst (λ (relations : List Relation). AreTableFiles c.args.out.now relations c.in_ok-piece_files.field-0
            (piece_tables loaded.pool pieces 0 relations)) same
            (subst (λ (l : List Fact). AreTableFiles c.args.out.now loaded.rules.sources c.in_ok-piece_files.field-0
            (piece_tables loaded.pool l 0 loaded.rules.sources)) listed c.in_ok-piece_files.ensures);
        facts_are = c.fact_count.ensures;
        pieces_are = c.len.ensures ∙ ap length c.facts.ensures.value;
      };
      found = refl;
      line = c.in_ok-printed_line.ensures;
    }
