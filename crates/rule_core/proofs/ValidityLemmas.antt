-- What is valid stays valid as relations are added, and a valid list with a new last entry is told by that entry.
use Rattle.std.proofs.Common.{◌≡◌, ℕ, List, [], ◌∷◌, ◌++◌, length, get_or, Option, Some, None, refl, sym, ap, ◌∙◌, subst, arith, All, AllPairs}
use Rattle.std.specs.Prelude.{◌≢◌, ◌↔◌, IsSomeAnd, slice_get}
use Rattle.std.proofs.Math.ListN.{get_or-append}
use Rattle.std.proofs.Math.Seq.{get_or-append_seam}
use Rattle.std.proofs.lemmas.List.{length_push}
use Rattle.std.proofs.lemmas.List.Elements.{All-push, All-weaker}
use Rattle.std.proofs.lemmas.List.Quantifiers.{all_pairs_push}
use Rattle.std.proofs.lemmas.Option.{slice_get-get_or, slice_get_within}
use Rattle.rule_core.specs.declared.rules.Atom.{Atom}
use Rattle.rule_core.specs.declared.rules.Branch.{Branch}
use Rattle.rule_core.specs.declared.rules.Egd.{Egd}
use Rattle.rule_core.specs.declared.rules.Query.{Query}
use Rattle.rule_core.specs.declared.rules.Relation.{Relation}
use Rattle.rule_core.specs.declared.rules.Tgd.{Tgd}
use Rattle.rule_core.specs.Mapping.{RuleSet, rule_names}
use Rattle.rule_core.specs.Validity.{AreDistinct, IsRelation, FitsRelation, AreAtoms, IsTgd, IsEgd, IsBranch, IsQuery, IsValid}
use Rattle.rule_core.specs.declared.rules.Place.{Place}
use Rattle.rule_core.specs.declared.rules.Place.TheVariants.{Source, Target}
use Rattle.rule_core.specs.Adding.{with_relation, with_tgd, with_egd, with_query, IsNewRuleName, IsNewRelation, IsNewTgd, IsNewEgd, IsNewQuery}
use Rattle.rule_core.proofs.DistinctLemmas.{with_first-distinct, first_is_new, with_second-distinct, second_is_new, others_of_both, front-distinct}

module _ {X : Type 0} where
  -- the front and the last of a list with one more
  pub All-front : (P : X → Type 0) (xs : List X) (x : X) → All P (xs ++ x ∷ []) → All P xs
  All-front P xs x h k d lt = subst P (get_or-append xs (x ∷ []) d k lt) (h k d (omega (arith, lt, length_push xs x)))

  pub All-last : (P : X → Type 0) (xs : List X) (x : X) → All P (xs ++ x ∷ []) → P x
  All-last P xs x h = subst P (get_or-append_seam xs x [] x) (h (length xs) x (omega (arith, length_push xs x)))

  pub AllPairs-last : (R : X → X → Type 0) (xs : List X) (x : X) → AllPairs R (xs ++ x ∷ []) → All (λ a. R a x) xs
  AllPairs-last R xs x h k d lt =
      subst (λ a. R a x) (get_or-append xs (x ∷ []) d k lt)
      (subst (R (get_or (xs ++ x ∷ []) k d)) (get_or-append_seam xs x [] d)
      (h k (length xs) d lt (omega (arith, length_push xs x))))

  slice_get-more : (xs : List X) (x : X) (k : ℕ) (y : X) → slice_get xs k ≡ Some y → slice_get (xs ++ x ∷ []) k ≡ Some y
  slice_get-more xs x k y e =
      let lt = slice_get_within xs k y e in
      slice_get-get_or (xs ++ x ∷ []) k y (omega (arith, lt, length_push xs x))
      ∙ ap Some (get_or-append xs (x ∷ []) y k lt) ∙ sym (slice_get-get_or xs k y lt) ∙ e

  IsSomeAnd-more : (P : X → Type 0) (xs : List X) (x : X) (k : ℕ) → IsSomeAnd (slice_get xs k) P → IsSomeAnd (slice_get (xs ++ x ∷ []) k) P
  IsSomeAnd-more P xs x k h = by (slice_get xs k) refl h
    where
      by : (o : Option X) → slice_get xs k ≡ o → IsSomeAnd o P → IsSomeAnd (slice_get (xs ++ x ∷ []) k) P
      by None e h = absurd h
      by (Some y) e h = subst (λ o. IsSomeAnd o P) (sym (slice_get-more xs x k y e)) h

module _ (relations : List Relation) (relation : Relation) where
  atoms_more : (atoms : List Atom) → AreAtoms relations atoms → AreAtoms (relations ++ relation ∷ []) atoms
  atoms_more atoms h = record {
    some = h.some;
    most = h.most;
    fit = All-weaker (FitsRelation relations) (FitsRelation (relations ++ relation ∷ []))
        (λ a f. IsSomeAnd-more (λ r. length a.args ≡ length r.columns) relations relation a.relation f) atoms h.fit;
  }

  pub source_more : (targets : List Relation) (tgd : Tgd) → IsTgd relations targets tgd → IsTgd (relations ++ relation ∷ []) targets tgd
  source_more targets tgd h = record {
    name = h.name;
    vars = h.vars;
    body = atoms_more tgd.body h.body;
    head = h.head;
    body_vars = h.body_vars;
    within = h.within;
    safe = h.safe;
  }

  pub target_more : (sources : List Relation) (tgd : Tgd) → IsTgd sources relations tgd → IsTgd sources (relations ++ relation ∷ []) tgd
  target_more sources tgd h = record {
    name = h.name;
    vars = h.vars;
    body = h.body;
    head = atoms_more tgd.head h.head;
    body_vars = h.body_vars;
    within = h.within;
    safe = h.safe;
  }

  pub egd_more : (egd : Egd) → IsEgd relations egd → IsEgd (relations ++ relation ∷ []) egd
  egd_more egd h = record {
    name = h.name;
    vars = h.vars;
    body = atoms_more egd.body h.body;
    body_vars = h.body_vars;
    left = h.left;
    right = h.right;
  }

  branch_more : (head : List (List ℕ)) (branch : Branch) → IsBranch relations head branch → IsBranch (relations ++ relation ∷ []) head branch
  branch_more head branch h =
      record { vars = h.vars; body = atoms_more branch.body h.body; body_vars = h.body_vars; arity = h.arity; columns = h.columns }

  pub query_more : (query : Query) → IsQuery relations query → IsQuery (relations ++ relation ∷ []) query
  query_more query h = record {
    name = h.name;
    head = h.head;
    head_most = h.head_most;
    distinct = h.distinct;
    some = h.some;
    most = h.most;
    branches = All-weaker (IsBranch relations query.head) (IsBranch (relations ++ relation ∷ []) query.head)
        (branch_more query.head) query.branches h.branches;
  }

module _ (rules : RuleSet) (relation : Relation) where
  -- a mapping with one more source is valid exactly where the source is new
  pub with_source : IsValid rules → IsNewRelation rules relation
      → IsValid (record rules { sources = rules.sources ++ relation ∷ [] })
  with_source h new = record {
    relations = record {
      source_relations = All-push IsRelation rules.sources relation h.relations.source_relations new.valid;
      target_relations = h.relations.target_relations;
      most = omega (arith, new.room, length_push rules.sources relation);
      source_names = all_pairs_push (λ a b. a.name ≢ b.name) rules.sources relation h.relations.source_names new.name.0;
      target_names = h.relations.target_names;
      sides = All-push (λ s. All (λ t. s.name ≢ t.name) rules.targets) rules.sources relation h.relations.sides
          (All-weaker (λ r. r.name ≢ relation.name) (λ t. relation.name ≢ t.name) (λ t n e. n (sym e)) rules.targets new.name.1);
    };
    rules = record {
      tgds = All-weaker (IsTgd rules.sources rules.targets) (IsTgd (rules.sources ++ relation ∷ []) rules.targets)
          (source_more rules.sources relation rules.targets) rules.tgds h.rules.tgds;
      egds = h.rules.egds;
      most_tgds = h.rules.most_tgds;
      most_egds = h.rules.most_egds;
      names = h.rules.names;
    };
    queries = h.queries;
  }

  pub new_source : IsValid (record rules { sources = rules.sources ++ relation ∷ [] })
      → IsNewRelation rules relation
  new_source h = record {
    valid = All-last IsRelation rules.sources relation h.relations.source_relations;
    room = omega (arith, h.relations.most, length_push rules.sources relation);
    name = (
      AllPairs-last (λ a b. a.name ≢ b.name) rules.sources relation h.relations.source_names,
      All-weaker (λ t. relation.name ≢ t.name) (λ r. r.name ≢ relation.name) (λ t n e. n (sym e)) rules.targets
          (All-last (λ s. All (λ t. s.name ≢ t.name) rules.targets) rules.sources relation h.relations.sides),
    );
  }

  -- and so for one more target
  pub with_target : IsValid rules → IsNewRelation rules relation
      → IsValid (record rules { targets = rules.targets ++ relation ∷ [] })
  with_target h new = record {
    relations = record {
      source_relations = h.relations.source_relations;
      target_relations = All-push IsRelation rules.targets relation h.relations.target_relations new.valid;
      most = omega (arith, new.room, length_push rules.targets relation);
      source_names = h.relations.source_names;
      target_names = all_pairs_push (λ a b. a.name ≢ b.name) rules.targets relation h.relations.target_names new.name.1;
      sides = λ k d lt. All-push (λ t. (get_or rules.sources k d).name ≢ t.name) rules.targets relation
          (h.relations.sides k d lt) (new.name.0 k d lt);
    };
    rules = record {
      tgds = All-weaker (IsTgd rules.sources rules.targets) (IsTgd rules.sources (rules.targets ++ relation ∷ []))
          (target_more rules.targets relation rules.sources) rules.tgds h.rules.tgds;
      egds = All-weaker (IsEgd rules.targets) (IsEgd (rules.targets ++ relation ∷ []))
          (egd_more rules.targets relation) rules.egds h.rules.egds;
      most_tgds = h.rules.most_tgds;
      most_egds = h.rules.most_egds;
      names = h.rules.names;
    };
    queries = record {
      each = All-weaker (IsQuery rules.targets) (IsQuery (rules.targets ++ relation ∷ []))
          (query_more rules.targets relation) rules.queries h.queries.each;
      most = h.queries.most;
      names = h.queries.names;
    };
  }

  pub new_target : IsValid (record rules { targets = rules.targets ++ relation ∷ [] })
      → IsNewRelation rules relation
  new_target h = record {
    valid = All-last IsRelation rules.targets relation h.relations.target_relations;
    room = omega (arith, h.relations.most, length_push rules.targets relation);
    name = (
      λ k d lt. All-last (λ t. (get_or rules.sources k d).name ≢ t.name) rules.targets relation (h.relations.sides k d lt),
      AllPairs-last (λ a b. a.name ≢ b.name) rules.targets relation h.relations.target_names,
    );
  }

pub with_relation-valid : (rules : RuleSet) (place : Place) (relation : Relation) → IsValid rules
    → IsNewRelation rules relation → IsValid (with_relation rules place relation)
with_relation-valid rules Source relation h new = with_source rules relation h new
with_relation-valid rules Target relation h new = with_target rules relation h new

pub new_relation : (rules : RuleSet) (place : Place) (relation : Relation) → IsValid (with_relation rules place relation)
    → IsNewRelation rules relation
new_relation rules Source relation h = new_source rules relation h
new_relation rules Target relation h = new_target rules relation h

abbrev tgd_name : Tgd → List ℕ
tgd_name tgd = tgd.name

abbrev egd_name : Egd → List ℕ
egd_name egd = egd.name

-- a rule's name is new exactly where it is new among the rules of each kind
pub new_rule_name : (rules : RuleSet) (name : List ℕ)
    → IsNewRuleName rules name ↔ (All (λ t. t.name ≢ name) rules.tgds × All (λ e. e.name ≢ name) rules.egds)
new_rule_name rules name = others_of_both tgd_name egd_name rules.tgds rules.egds name

-- no two of the first rules of each kind have one name
pub front_names : (rules : RuleSet) (tgds more : List Tgd) (egds others : List Egd)
    → AreDistinct (rule_names (record rules { tgds = tgds ++ more; egds = egds ++ others }))
    → AreDistinct (rule_names (record rules { tgds = tgds; egds = egds }))
front_names rules tgds more egds others = front-distinct tgd_name egd_name tgds egds more others

-- a mapping with one more tgd, egd or query is valid exactly where that is new
module _ (rules : RuleSet) where
  pub with_tgd-valid : (tgd : Tgd) → IsValid rules → IsNewTgd rules tgd → IsValid (with_tgd rules tgd)
  with_tgd-valid tgd h new = record {
    relations = h.relations;
    rules = record {
      tgds = All-push (IsTgd rules.sources rules.targets) rules.tgds tgd h.rules.tgds new.valid;
      egds = h.rules.egds;
      most_tgds = omega (arith, new.room, length_push rules.tgds tgd);
      most_egds = h.rules.most_egds;
      names = with_first-distinct tgd_name egd_name rules.tgds rules.egds tgd h.rules.names new.name;
    };
    queries = h.queries;
  }

  pub new_tgd : (tgd : Tgd) → IsValid (with_tgd rules tgd) → IsNewTgd rules tgd
  new_tgd tgd h = record {
    room = omega (arith, h.rules.most_tgds, length_push rules.tgds tgd);
    valid = All-last (IsTgd rules.sources rules.targets) rules.tgds tgd h.rules.tgds;
    name = first_is_new tgd_name egd_name rules.tgds rules.egds tgd h.rules.names;
  }

  pub with_egd-valid : (egd : Egd) → IsValid rules → IsNewEgd rules egd → IsValid (with_egd rules egd)
  with_egd-valid egd h new = record {
    relations = h.relations;
    rules = record {
      tgds = h.rules.tgds;
      egds = All-push (IsEgd rules.targets) rules.egds egd h.rules.egds new.valid;
      most_tgds = h.rules.most_tgds;
      most_egds = omega (arith, new.room, length_push rules.egds egd);
      names = with_second-distinct tgd_name egd_name rules.tgds rules.egds egd h.rules.names new.name;
    };
    queries = h.queries;
  }

  pub new_egd : (egd : Egd) → IsValid (with_egd rules egd) → IsNewEgd rules egd
  new_egd egd h = record {
    room = omega (arith, h.rules.most_egds, length_push rules.egds egd);
    valid = All-last (IsEgd rules.targets) rules.egds egd h.rules.egds;
    name = second_is_new tgd_name egd_name rules.tgds rules.egds egd h.rules.names;
  }

  pub with_query-valid : (query : Query) → IsValid rules → IsNewQuery rules query → IsValid (with_query rules query)
  with_query-valid query h new = record {
    relations = h.relations;
    rules = record {
      tgds = h.rules.tgds;
      egds = h.rules.egds;
      most_tgds = h.rules.most_tgds;
      most_egds = h.rules.most_egds;
      names = h.rules.names;
    };
    queries = record {
      each = All-push (IsQuery rules.targets) rules.queries query h.queries.each new.valid;
      most = omega (arith, new.room, length_push rules.queries query);
      names = all_pairs_push (λ a b. a.name ≢ b.name) rules.queries query h.queries.names new.name;
    };
  }

  pub new_query : (query : Query) → IsValid (with_query rules query) → IsNewQuery rules query
  new_query query h = record {
    room = omega (arith, h.queries.most, length_push rules.queries query);
    valid = All-last (IsQuery rules.targets) rules.queries query h.queries.each;
    name = AllPairs-last (λ a b. a.name ≢ b.name) rules.queries query h.queries.names;
  }
