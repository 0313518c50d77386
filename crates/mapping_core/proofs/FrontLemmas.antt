-- A mapping stays valid where the last rules are left out, and where all rules and the last relations are.
use Rattle.std.proofs.Common.{◌≢◌, ℕ, ◌≤◌, List, [], ◌∷◌, ◌++◌, length, length-append, All, AllPairs, arith}
use Rattle.std.proofs.lemmas.List.Elements.{All-nil, All-cons, All-head, All-tail, All-weaker, Contains-append_left}
use Rattle.rule_core.specs.declared.rules.Relation.{Relation}
use Rattle.rule_core.specs.declared.rules.Tgd.{Tgd}
use Rattle.rule_core.specs.declared.rules.Egd.{Egd}
use Rattle.rule_core.specs.declared.rules.Query.{Query}
use Rattle.rule_core.specs.Limits.{most_tgds, most_egds, most_queries}
use Rattle.rule_core.proofs.ValidityLemmas.{front_names}
use Rattle.rule_core.specs.Mapping.{rules_of}
use Rattle.rule_core.specs.Validity.{IsRelation, IsTgd, IsEgd, IsQuery, IsValid}
use Rattle.rule_core.proofs.ListLemmas.{AllPairs-nil, AllPairs-cons, AllPairs-head, AllPairs-tail}

All-part : {X : Type 0} (P : X → Type 0) (xs ys : List X) → All P (xs ++ ys) → All P xs
All-part P [] ys h = All-nil P
All-part P (x ∷ xs) ys h = All-cons P x xs (All-head P x (xs ++ ys) h) (All-part P xs ys (All-tail P x (xs ++ ys) h))

AllPairs-part : {X : Type 0} (R : X → X → Type 0) (xs ys : List X) → AllPairs R (xs ++ ys) → AllPairs R xs
AllPairs-part R [] ys h = AllPairs-nil R
AllPairs-part R (x ∷ xs) ys h =
    AllPairs-cons R x xs (λ y c. AllPairs-head R x (xs ++ ys) h y (Contains-append_left xs ys y c))
    (AllPairs-part R xs ys (AllPairs-tail R x (xs ++ ys) h))

no_more : {X : Type 0} (xs ys : List X) (n : ℕ) → length (xs ++ ys) ≤ n → length xs ≤ n
no_more xs ys n h = omega (arith, h, length-append xs ys)

-- the first relations alone
pub valid_relations : (sources later_sources targets later_targets : List Relation) (tgds : List Tgd) (egds : List Egd) (queries : List Query)
    → IsValid (rules_of (sources ++ later_sources) (targets ++ later_targets) tgds egds queries) → IsValid (rules_of sources targets [] [] [])
valid_relations s s' t t' tgds egds queries valid = record {
  relations = record {
    source_relations = All-part IsRelation s s' valid.relations.source_relations;
    target_relations = All-part IsRelation t t' valid.relations.target_relations;
    most = omega (arith, valid.relations.most, length-append s s', length-append t t');
    source_names = AllPairs-part (λ a b. a.name ≢ b.name) s s' valid.relations.source_names;
    target_names = AllPairs-part (λ a b. a.name ≢ b.name) t t' valid.relations.target_names;
    sides = All-weaker (λ a. All (λ b. a.name ≢ b.name) (t ++ t')) (λ a. All (λ b. a.name ≢ b.name) t)
        (λ a h. All-part (λ b. a.name ≢ b.name) t t' h) s (All-part (λ a. All (λ b. a.name ≢ b.name) (t ++ t')) s s' valid.relations.sides);
  };
  rules = record {
    tgds = All-nil (IsTgd s t);
    egds = All-nil (IsEgd t);
    most_tgds = omega arith;
    most_egds = omega arith;
    names = AllPairs-nil (λ (a b : List ℕ). a ≢ b);
  };
  queries = record {
    each = All-nil (IsQuery t);
    most = omega arith;
    names = AllPairs-nil (λ (a b : Query). a.name ≢ b.name);
  };
}

-- all relations with the first rules
pub valid_rules : (sources targets : List Relation) (tgds later_tgds : List Tgd) (egds later_egds : List Egd) (queries later_queries : List Query)
    → IsValid (rules_of sources targets (tgds ++ later_tgds) (egds ++ later_egds) (queries ++ later_queries))
    → IsValid (rules_of sources targets tgds egds queries)
valid_rules s t g g' e e' q q' valid = record {
  relations = valid.relations;
  rules = record {
    tgds = All-part (IsTgd s t) g g' valid.rules.tgds;
    egds = All-part (IsEgd t) e e' valid.rules.egds;
    most_tgds = no_more g g' most_tgds valid.rules.most_tgds;
    most_egds = no_more e e' most_egds valid.rules.most_egds;
    names = front_names (rules_of s t g e q) g g' e e' valid.rules.names;
  };
  queries = record {
    each = All-part (IsQuery t) q q' valid.queries.each;
    most = no_more q q' most_queries valid.queries.most;
    names = AllPairs-part (λ (a b : Query). a.name ≢ b.name) q q' valid.queries.names;
  };
}
