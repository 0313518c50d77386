-- Homomorphisms, one after the other.
use Rattle.std.proofs.Common.{◌≡◌, List, [], ◌∷◌, map, refl, ap, subst, Contains}
use Rattle.term_core.specs.declared.const_id.ConstId.{ConstId}
use Rattle.rule_core.specs.Terms.{Unknown, TermOf, constant, unknown, FactOf}
use Rattle.rule_core.specs.Mapping.{RuleSet}
use Rattle.rule_core.specs.Homomorphism.{term_image, fact_image, Homomorphism}
use Rattle.rule_core.specs.Solution.{IsSolution, IsUniversal}

-- where each unknown goes by both maps
abbrev pub both : {C : Type 0} → (Unknown C → TermOf C) → (Unknown C → TermOf C) → Unknown C → TermOf C
both g h u = term_image h (g u)

map-term_image-both : {C : Type 0} (g h : Unknown C → TermOf C) (terms : List (TermOf C))
    → map (term_image h) (map (term_image g) terms) ≡ map (term_image (both g h)) terms
map-term_image-both g h [] = refl
map-term_image-both g h (constant c ∷ ts) = ap (λ rest. constant c ∷ rest) (map-term_image-both g h ts)
map-term_image-both g h (unknown u ∷ ts) = ap (λ rest. term_image h (g u) ∷ rest) (map-term_image-both g h ts)

pub fact_image-both : {C : Type 0} (g h : Unknown C → TermOf C) (fact : FactOf C)
    → fact_image h (fact_image g fact) ≡ fact_image (both g h) fact
fact_image-both g h fact = λ i. record { relation = fact.relation; terms = map-term_image-both g h fact.terms i }

-- two homomorphisms make one
pub composed : {C : Type 0} (facts : FactOf C → Type 0) (middle target : List (FactOf C))
    → Homomorphism facts middle → Homomorphism (Contains middle) target → Homomorphism facts target
composed facts middle target g h = record {
  of_unknown = both g.of_unknown h.of_unknown;
  into = λ fact c. subst (λ f. Contains target f) (fact_image-both g.of_unknown h.of_unknown fact)
      (h.into (fact_image g.of_unknown fact) (g.into fact c));
}

-- what maps into a universal instance maps into every solution
pub universal_from_below : {C : Type 0} (name : ConstId → C) (rules : RuleSet) (source least target : List (FactOf C))
    → IsUniversal name rules source least → IsSolution name rules source target → Homomorphism (Contains target) least
    → IsUniversal name rules source target
universal_from_below name rules source least target u s g = record {
  solution = s;
  maps = λ other k. composed (Contains target) least other g (u.maps other k);
}
