-- How many cells the head of a valid tgd has.
use Rattle.std.proofs.Common.{◌≡◌, ◌<◌, ◌≤◌, ◌^◌, Option, Some, None, List, length, refl, arith, All, Contains}
use Rattle.std.specs.Prelude.{IsSomeAnd, slice_get, sum_by}
use Rattle.std.proofs.lemmas.List.Elements.{All-contains, All-weaker}
use Rattle.std.proofs.lemmas.List.Sums.{sum_by-le}
use Rattle.rule_core.specs.declared.rules.Atom.{Atom}
use Rattle.rule_core.specs.declared.rules.Relation.{Relation}
use Rattle.rule_core.specs.declared.rules.Tgd.{Tgd}
use Rattle.rule_core.specs.Mapping.{RuleSet}
use Rattle.rule_core.specs.Validity.{FitsRelation, IsRelation, IsTgd, IsValid}
use Rattle.body_match.proofs.ListLemmas.{contains_from_at}

-- an atom has at most as many arguments as a relation has columns
few_arguments : (relations : List Relation) → All IsRelation relations → (atom : Atom) → FitsRelation relations atom → length atom.args ≤ 16
few_arguments relations valid atom fits = by (slice_get relations atom.relation) refl fits
  where
    by : (o : Option Relation) → slice_get relations atom.relation ≡ o → IsSomeAnd o (λ r. length atom.args ≡ length r.columns)
        → length atom.args ≤ 16
    by None e h = absurd h
    by (Some r) e h =
        let is = All-contains IsRelation relations r valid (contains_from_at relations atom.relation r e) in
        omega (arith, h, is.most)

pub few_cells : (rules : RuleSet) → IsValid rules → (tgd : Tgd) → Contains rules.tgds tgd
    → sum_by (λ atom. length atom.args) tgd.head < 2 ^ 64
few_cells rules valid tgd there =
    let is = All-contains (IsTgd rules.sources rules.targets) rules.tgds tgd valid.rules.tgds there in
    let each = All-weaker (FitsRelation rules.targets) (λ (atom : Atom). length atom.args ≤ 16)
    (few_arguments rules.targets valid.relations.target_relations) tgd.head is.head.fit in
    omega (arith, is.head.most, sum_by-le (λ (atom : Atom). length atom.args) 16 tgd.head each)

pub within : (rules : RuleSet) → IsValid rules → (tgd : Tgd) → Contains rules.tgds tgd → tgd.body_vars ≤ length tgd.vars
within rules valid tgd there = (All-contains (IsTgd rules.sources rules.targets) rules.tgds tgd valid.rules.tgds there).within
