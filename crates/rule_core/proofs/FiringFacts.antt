-- A worked example of firing, held against the definitions: a mapping of A(x, y) to B(x, w) and C(w) for some z and w, where
--     A holds a,1 and a,2      makes      B(a, ?w) and C(?w) once
-- Both matches have one list of frontier values, the unused z leaves no unknown, and both atoms of the head share that of w.
use Rattle.std.proofs.Common.{◌≡◌, ◌↔◌, ℕ, zero, suc, pos, Some, List, [], ◌∷◌, map, refl, sym, ap, ◌∙◌, subst, inl, inr, codes, cond, ◌==◌, Contains}
use Rattle.std.specs.Prelude.{IsSomeAnd, slice_get}
use Rattle.std.proofs.lemmas.List.Elements.{All-nil, All-cons, All-head}
use Rattle.term_core.specs.declared.const_id.ConstId.{ConstId}
use Rattle.rule_core.specs.declared.rules.Arg.TheVariants.{Var}
use Rattle.rule_core.specs.declared.rules.Atom.{Atom}
use Rattle.rule_core.specs.declared.rules.Tgd.{Tgd}
use Rattle.rule_core.specs.Terms.{named, TermOf, constant, unknown, FactOf, StampedOf}
use Rattle.rule_core.specs.Mapping.{RuleSet}
use Rattle.rule_core.specs.Match.{image, Matches}
use Rattle.rule_core.specs.Firing.{frontier_of, Fires, fired_facts, IsFiringFact, firing_rows}
use Rattle.rule_core.proofs.ListLemmas.{Contains-nil, Contains-head, Contains-cons_cases}

abbrev atom : ℕ → List ℕ → Atom
atom relation variables = record { relation = relation; args = map Var variables }

abbrev body_atom : Atom
body_atom = atom 0 (0 ∷ 1 ∷ [])

abbrev some_rule : Tgd
some_rule = record {
  name = codes "p";
  vars = codes "x" ∷ codes "y" ∷ codes "z" ∷ codes "w" ∷ [];
  body_vars = 2;
  body = body_atom ∷ [];
  head = atom 0 (0 ∷ 3 ∷ []) ∷ atom 1 (3 ∷ []) ∷ [];
}

abbrev some_rules : RuleSet
some_rules = record { sources = []; targets = []; tgds = some_rule ∷ []; egds = []; queries = [] }

abbrev fact : ℕ → List (TermOf (List ℕ)) → FactOf (List ℕ)
fact relation terms = record { relation = relation; terms = terms }

abbrev a : TermOf (List ℕ)
a = constant (codes "a")

abbrev source : List (FactOf (List ℕ))
source = fact 0 (a ∷ constant (codes "1") ∷ []) ∷ fact 0 (a ∷ constant (codes "2") ∷ []) ∷ []

-- the unknown of the second `exists` variable
abbrev null : TermOf (List ℕ)
null = unknown (named 0 (codes "a" ∷ []) 1)

abbrev made : List (FactOf (List ℕ))
made = fact 0 (a ∷ null ∷ []) ∷ fact 1 (null ∷ []) ∷ []

only_x_is_needed : frontier_of some_rule ≡ 0 ∷ []
only_x_is_needed = refl

abbrev over : FactOf (List ℕ) → StampedOf (FactOf (List ℕ))
over f = record { row = f; span = record { lo = Some (pos 1); hi = Some (pos 8) } }

module _ (name : ConstId → List ℕ) where
  -- each row of the entry is over its span, and an entry of a place without a tgd has no row
  rows_of_one_entry : firing_rows name some_rules
      (record { rule = 0; frontier = codes "a" ∷ []; span = record { lo = Some (pos 1); hi = Some (pos 8) } }
      ∷ record { rule = 1; frontier = []; span = record { lo = Some (pos 1); hi = Some (pos 8) } } ∷ []) ≡ map over made
  rows_of_one_entry = refl

  -- each match gives the frontier value a
  only_a : (of_variable : ℕ → List ℕ) → Matches name (λ v. constant (of_variable v)) (body_atom ∷ []) source → of_variable 0 ≡ codes "a"
  only_a b m =
      let there : Contains source (fact 0 (constant (b 0) ∷ constant (b 1) ∷ [])) =
      All-head (λ atom. Contains source (image name (λ v. constant (b v)) atom)) body_atom [] m in
      elim (Contains-cons_cases (fact 0 (a ∷ constant (codes "1") ∷ [])) (fact 0 (constant (b 0) ∷ constant (b 1) ∷ []))
      (fact 0 (a ∷ constant (codes "2") ∷ []) ∷ []) there) [
        | inl e ↦ let terms = ap (λ (f : FactOf (List ℕ)). f.terms) e in cc
        | inr d ↦ elim (Contains-cons_cases (fact 0 (a ∷ constant (codes "2") ∷ [])) (fact 0 (constant (b 0) ∷ constant (b 1) ∷ [])) [] d) [
          | inl e ↦ let terms = ap (λ (f : FactOf (List ℕ)). f.terms) e in cc
          | inr n ↦ absurd (Contains-nil (fact 0 (constant (b 0) ∷ constant (b 1) ∷ [])) n)
        ]
      ]

  fires_once : (values : List (List ℕ)) → Fires name some_rule source values → values ≡ codes "a" ∷ []
  fires_once values f = let first = only_a f.0 f.1 in sym f.2 ∙ ap (λ (x : List ℕ). x ∷ []) first

  abbrev of_variable : ℕ → List ℕ
  of_variable v = cond (v == 0) (codes "a") (codes "1")

  it_fires : Fires name some_rule source (codes "a" ∷ [])
  it_fires = (
    of_variable,
    All-cons (λ atom. Contains source (image name (λ v. constant (of_variable v)) atom)) body_atom []
        (Contains-head (fact 0 (a ∷ constant (codes "1") ∷ [])) (fact 0 (a ∷ constant (codes "2") ∷ []) ∷ []))
        (All-nil (λ atom. Contains source (image name (λ v. constant (of_variable v)) atom))),
    refl,
  )

  -- the firing facts are what is made
  firing_facts : (f : FactOf (List ℕ)) → IsFiringFact name some_rules source f ↔ Contains made f
  firing_facts f = (λ h. from h.0 h.1, λ c. (0, (codes "a" ∷ [], it_fires, c)))
    where
      from : (place : ℕ) → IsSomeAnd (slice_get some_rules.tgds place)
          (λ tgd. (values : List (List ℕ)) × Fires name tgd source values × Contains (fired_facts name place tgd values) f) → Contains made f
      from zero h = subst (λ values. Contains (fired_facts name 0 some_rule values) f) (fires_once h.0 h.1) h.2
      from (suc place) h = absurd h
