use Rattle.std.proofs.Common.{refl, ap, ◌∙◌}
use Rattle.std.specs.List.{flat_map}
use Rattle.rule_core.specs.declared.rules.Place.TheVariants.{Source, Target}
use Rattle.decl_text.specs.Canonical.{declaration_text}
use Rattle.rule_text.specs.declared.rule.Rule.TheVariants.{Tgd, Egd, Query}
use Rattle.rule_text.specs.Canonical.{rule_text}
use Rattle.mapping_core.specs.Mapping.{meaning_of}
use Rattle.mapping_core.proofs.TextsLemmas.{tgds_textual, egds_textual, queries_textual}
use Rattle.mapping_core.proofs.BackLemmas.{read_back, put_together}
use Rattle.mapping_core.proofs.printing.print_lines.Goals as goal

pub print_tgds-requires-clause-texts : goal.print_tgds-requires-clause-texts
print_tgds-requires-clause-texts c =
    rw (c.as_slice-3.ensures, c.tgds.ensures) (tgds_textual c.args.rules.now c.args.pool.now c.requires)

pub print_egds-requires-clause-texts : goal.print_egds-requires-clause-texts
print_egds-requires-clause-texts c =
    rw (c.as_slice-4.ensures, c.egds.ensures) (egds_textual c.args.rules.now c.args.pool.now c.requires)

pub print_queries-requires-clause-texts : goal.print_queries-requires-clause-texts
print_queries-requires-clause-texts c =
    rw (c.as_slice-5.ensures, c.queries.ensures) (queries_textual c.args.rules.now c.args.pool.now c.requires)

pub returns-clause-text : goal.returns-clause-text
returns-clause-text c =
    let set = c.args.rules.now in
    let pool = c.args.pool.now in
    put_together c.push_str.new.self c.push_str-2.new.self c.push_str-3.new.self c.push_str-4.new.self _ _ _ _ _ _ _ _ _ _
    c.in_ok-push_str.ensures.ok c.in_ok-push_str-2.ensures.ok c.in_ok-push_str-3.ensures.ok c.in_ok-push_str-4.ensures.ok
    (c.in_ok-sources.ensures ∙ ap (flat_map (declaration_text Source)) (c.as_slice.ensures ∙ c.sources.ensures))
    (c.as_str.ensures ∙ c.in_ok-targets.ensures ∙ ap (flat_map (declaration_text Target)) (c.as_slice-2.ensures ∙ c.targets.ensures))
    (c.as_str-2.ensures ∙ c.in_ok-tgds.ensures ∙ ap (flat_map (λ t. rule_text set pool (Tgd t))) (c.as_slice-3.ensures ∙ c.tgds.ensures))
    (c.as_str-3.ensures ∙ c.in_ok-egds.ensures ∙ ap (flat_map (λ e. rule_text set pool (Egd e))) (c.as_slice-4.ensures ∙ c.egds.ensures))
    (c.as_str-4.ensures ∙ c.in_ok-queries.ensures ∙ ap (flat_map (λ q. rule_text set pool (Query q))) (c.as_slice-5.ensures ∙ c.queries.ensures))

pub returns-clause-reads : goal.returns-clause-reads
returns-clause-reads c =
    read_back (meaning_of c.args.rules.now c.args.pool.now) c.is_kept.ensures c.len.ensures.pool c.requires c.push_str-4.new.self _ _ _ _ _
    (returns-clause-text c) refl refl refl refl refl
