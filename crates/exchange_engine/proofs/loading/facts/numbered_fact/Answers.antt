use Rattle.std.proofs.Common.{ℕ, List, sym, ap, ◌∙◌, subst, All, Contains}
use Rattle.rule_core.specs.Terms.{StampedOf}
use Rattle.exchange_engine.proofs.FactLemmas.{as_text-row}
use Rattle.exchange_engine.proofs.loading.facts.numbered_fact.Goals as goal

pub numbers_of-requires : goal.numbers_of-requires
numbers_of-requires c =
    subst (All (Contains c.args.pool.now)) (sym (c.as_slice.ensures ∙ ap (λ (r : StampedOf (List (List ℕ))). r.row) c.raw.view_is)) c.requires

pub returns-clause-reads : goal.returns-clause-reads
returns-clause-reads c =
    as_text-row c.args.pool.now c.args.relation c.in_ok-numbers_of.field-0 c.raw.inside.span c.args.raw.now
    (c.in_ok-numbers_of.ensures.reads ∙ c.as_slice.ensures ∙ ap (λ (r : StampedOf (List (List ℕ))). r.row) c.raw.view_is)
    (ap (λ (r : StampedOf (List (List ℕ))). r.span) c.raw.view_is)
