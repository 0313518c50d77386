-- What the exchange gives is, as it is stored, the target.
use Rattle.std.proofs.Common.{◌≡◌, List, map, ap, refl, subst, ◌∙◌}
use Rattle.rule_core.specs.declared.rules.Relation.{Relation}
use Rattle.rule_core.specs.Mapping.{RuleSet}
use Rattle.exchange_cli.specs.Answers.{answer_relation}
use Rattle.exchange_cli.specs.Rendering.{stored_table}
use Rattle.exchange_cli.specs.Target.{AreTableFiles}
use Rattle.exchange_cli.proofs.BehindLemmas.{are_stored}
use Rattle.exchange_cli.proofs.CertainLemmas.{answers_wide, answers_within, same_relations}
use Rattle.exchange_cli.proofs.solving.tell.Goals as goal

pub render-requires-clause-answers : goal.render-requires-clause-answers
render-requires-clause-answers c = answers_wide c.args.loaded c.args.solved.answers c.requires.answers

pub render-requires-clause-answers_within : goal.render-requires-clause-answers_within
render-requires-clause-answers_within c = answers_within c.args.loaded c.args.solved.answers c.requires.answers

pub returns : goal.returns
returns c = λ inputs from.
    let loaded = c.args.loaded in
    let solved = c.args.solved in
    let target = c.args.target.now in
    let rendered = c.in_ok-files.ensures in
    let given = c.requires in
    let same : loaded.rules.targets ≡ inputs.mapping.rules.targets = ap (λ (r : RuleSet). r.targets) from.rules.2 in
    let answered : map answer_relation loaded.rules.queries ≡ map answer_relation inputs.mapping.rules.queries =
    ap (λ (r : RuleSet). map answer_relation r.queries) from.rules.2 ∙ same_relations from.rules.0 inputs.mapping.rules.queries in
    record {
      groups = rendered.groups;
      each = record {
        tables = record {
          tables = map (stored_table loaded.pool solved.nulls) solved.tables;
          target = c.stored_tables_are_a_target.ensures inputs loaded solved from given;
          each =
              subst (λ (relations : List Relation). AreTableFiles target relations rendered.groups.tables
              (map (stored_table loaded.pool solved.nulls) solved.tables)) same rendered.named;
        };
        answers = record {
          tables = map (stored_table loaded.pool solved.nulls) solved.answers;
          certain = c.stored_answers_are_certain.ensures inputs loaded solved from given;
          each =
              subst (λ (relations : List Relation). AreTableFiles target relations rendered.groups.answers
              (map (stored_table loaded.pool solved.nulls) solved.answers)) answered rendered.answers;
        };
        verdict = rendered.verdict;
      };
      files = rendered.all;
      pieces = solved.counts.pieces;
      firings = solved.counts.firings;
      steps = solved.counts.steps;
      cuts = solved.counts.cuts;
      counts = record {
        loaded = loaded;
        from = from;
        fired = solved.firings;
        on = given.run.fired;
        journal = solved.journal;
        last = given.run.last;
        run = given.run.run;
        same = are_stored loaded.pool solved.tables solved.nulls given.run.last given.coalesced given.nulls given.run.same;
        pieces_are = given.counts.pieces given.run.fired.pieces given.run.fired.normalised;
        firings_are = given.counts.firings;
        steps_are = given.counts.steps;
        cuts_are = given.counts.cuts;
      };
      found = refl;
      line = c.in_ok-printed_line.ensures;
    }
