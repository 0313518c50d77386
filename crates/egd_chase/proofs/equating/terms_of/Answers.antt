use Rattle.std.proofs.Common.{[], ◌∷◌, ◌++◌, map, ap, sym, ◌∙◌}
use Rattle.std.proofs.lemmas.List.{map_push, map_more}
use Rattle.term_core.specs.declared.term.Seen.TheVariants.{Const}
use Rattle.term_core.specs.declared.term.Term.{Term}
use Rattle.rule_core.specs.Values.{term_value}
use Rattle.null_store.specs.Store.{term_in}
use Rattle.egd_chase.proofs.equating.terms_of.Goals as goal

pub term_of-requires : goal.term_of-requires
term_of-requires c = c.requires c.loop-value.value-index (Const (record { 0 = 0 })) c.loop-value-test.true

pub loop-value-preserved : goal.loop-value-preserved
loop-value-preserved c =
    let term : Term = c.in_ok-term_of.field-0 in
    let more = map_more (term_in c.args.store.now) c.args.values.now c.loop-value.value-index (Const (record { 0 = 0 })) c.loop-value-test.true in
    ap (map term_value) c.in_ok-push.ensures.ok ∙ map_push term_value c.loop-value.terms term
    ∙ (λ j. c.loop-value.invariant j ++ c.in_ok-term_of.ensures j ∷ []) ∙ sym more
