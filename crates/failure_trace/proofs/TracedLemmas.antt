-- An equality on the facts of an instance goes along when constants get other names and unknowns numbers in their order.
use Rattle.std.proofs.Common.{◌≡◌, ℕ, ◌<◌, Some, List, [], ◌∷◌, map, length}
use Rattle.std.proofs.Common.{refl, sym, ap, ◌∙◌, subst, Contains}
use Rattle.std.specs.declared.cmp.Ordering.{Ordering}
use Rattle.std.specs.declared.cmp.Ordering.TheVariants.{Less, Equal, Greater}
use Rattle.std.specs.Ordering.{nat_cmp}
use Rattle.std.proofs.lemmas.List.{get_or-map}
use Rattle.term_core.specs.declared.const_id.ConstId.{ConstId}
use Rattle.rule_core.specs.declared.rules.Arg.{Arg}
use Rattle.rule_core.specs.declared.rules.Arg.TheVariants.{Var, Const}
use Rattle.rule_core.specs.declared.rules.Atom.{Atom}
use Rattle.rule_core.specs.Terms.{Unknown, numbered, TermOf, constant, unknown, FactOf}
use Rattle.rule_core.specs.Order.{unknown_cmp}
use Rattle.rule_core.specs.Match.{value, image, Matches}
use Rattle.rule_core.specs.Frontier.{Occurs}
use Rattle.rule_core.specs.Homomorphism.{term_image}
use Rattle.rule_core.proofs.ListLemmas.{Contains-head, Contains-cons, Contains-map, All-members}
use Rattle.failure_trace.specs.Equating.{Replacement, bound_to, AreClashing, if_equal, of_unknowns, replacement_of, becomes, replaced_fact}
use Rattle.failure_trace.specs.Projection.{traced_term, traced_fact, traced_facts}

module _ {C D : Type 0} (to : C → D) (number : Unknown C → ℕ) where
  -- what variables are bound to, by place
  pub bound_traced : (terms : List (TermOf C)) (v : ℕ) → v < length terms
      → bound_to (map (traced_term to number) terms) v ≡ traced_term to number (bound_to terms v)
  bound_traced terms v l = get_or-map (traced_term to number) terms v (unknown (numbered 0)) (unknown (numbered 0)) l

  -- the image of an atom whose variables are bound
  module _ (name : ConstId → C) (terms : List (TermOf C)) where
    values_traced : (args : List Arg) → ((v : ℕ) → Contains args (Var v) → v < length terms)
        → map (value (λ k. to (name k)) (bound_to (map (traced_term to number) terms))) args
        ≡ map (traced_term to number) (map (value name (bound_to terms)) args)
    values_traced [] bound = refl
    values_traced (Var v ∷ args) bound =
        let first = bound_traced terms v (bound v (Contains-head (Var v) args)) in
        let rest = values_traced args (λ w there. bound w (Contains-cons (Var v) (Var w) args there)) in
        λ i. first i ∷ rest i
    values_traced (Const k ∷ args) bound =
        ap (λ rest. constant (to (name k)) ∷ rest) (values_traced args (λ w there. bound w (Contains-cons (Const k) (Var w) args there)))

    image_traced : (atom : Atom) → ((v : ℕ) → Contains atom.args (Var v) → v < length terms)
        → image (λ k. to (name k)) (bound_to (map (traced_term to number) terms)) atom
        ≡ traced_fact to number (image name (bound_to terms) atom)
    image_traced atom bound = λ i. record { relation = atom.relation; terms = values_traced atom.args bound i }

    -- a match goes along
    pub match_traced : (atoms : List Atom) (facts : List (FactOf C)) → ((v : ℕ) → Occurs atoms v → v < length terms)
        → Matches name (bound_to terms) atoms facts
        → Matches (λ k. to (name k)) (bound_to (map (traced_term to number) terms)) atoms (traced_facts to number facts)
    match_traced atoms facts bound = All-members (λ atom. Contains facts (image name (bound_to terms) atom))
        (λ atom. Contains (traced_facts to number facts) (image (λ k. to (name k)) (bound_to (map (traced_term to number) terms)) atom)) atoms
        (λ atom there c. subst (Contains (traced_facts to number facts))
        (sym (image_traced atom (λ v inside. bound v (there.0, atom, there.1, there.2, inside))))
        (Contains-map (traced_fact to number) facts (image name (bound_to terms) atom) c))

  abbrev pub traced_replacement : Replacement C → Replacement D
  traced_replacement r = record { gone = numbered (number r.gone); by = traced_term to number r.by }

  -- of two terms
  module _ (cmp : C → C → Ordering) (order : D → D → Ordering) (r : Replacement C) where
    of_two_traced : (u w : Unknown C) (o : Ordering) → of_unknowns cmp u w o ≡ Some r
        → of_unknowns order (numbered (number u)) (numbered (number w)) o ≡ Some (traced_replacement r)
    of_two_traced u w Less e = let same : record { gone = w; by = unknown u } ≡ r = cc in ap (λ q. Some (traced_replacement q)) same
    of_two_traced u w Equal e = absurd cc
    of_two_traced u w Greater e = let same : record { gone = u; by = unknown w } ≡ r = cc in ap (λ q. Some (traced_replacement q)) same

    pub replacement_traced : (a b : TermOf C)
        → ((u w : Unknown C) → a ≡ unknown u → b ≡ unknown w → nat_cmp (number u) (number w) ≡ unknown_cmp cmp u w)
        → replacement_of cmp a b ≡ Some r
        → replacement_of order (traced_term to number a) (traced_term to number b) ≡ Some (traced_replacement r)
    replacement_traced (constant c) (constant d) h e = absurd cc
    replacement_traced (constant c) (unknown w) h e =
        let same : record { gone = w; by = constant c } ≡ r = cc in ap (λ q. Some (traced_replacement q)) same
    replacement_traced (unknown u) (constant d) h e =
        let same : record { gone = u; by = constant d } ≡ r = cc in ap (λ q. Some (traced_replacement q)) same
    replacement_traced (unknown u) (unknown w) h e =
        ap (of_unknowns order (numbered (number u)) (numbered (number w))) (h u w refl refl) ∙ of_two_traced u w (unknown_cmp cmp u w) e

    if_equal_traced : (o : Ordering) (u : Unknown C)
        → if_equal o (traced_term to number r.by) (unknown (numbered (number u))) ≡ traced_term to number (if_equal o r.by (unknown u))
    if_equal_traced Less u = refl
    if_equal_traced Equal u = refl
    if_equal_traced Greater u = refl

    -- replacing and telling are done in either order
    terms_traced : (terms : List (TermOf C))
        → ((u : Unknown C) → Contains terms (unknown u) → nat_cmp (number u) (number r.gone) ≡ unknown_cmp cmp u r.gone)
        → map (term_image (becomes order (traced_replacement r))) (map (traced_term to number) terms)
        ≡ map (traced_term to number) (map (term_image (becomes cmp r)) terms)
    terms_traced [] h = refl
    terms_traced (constant c ∷ terms) h =
        ap (λ rest. constant (to c) ∷ rest) (terms_traced terms (λ u there. h u (Contains-cons (constant c) (unknown u) terms there)))
    terms_traced (unknown u ∷ terms) h =
        let first = ap (λ o. if_equal o (traced_term to number r.by) (unknown (numbered (number u)))) (h u (Contains-head (unknown u) terms))
        ∙ if_equal_traced (unknown_cmp cmp u r.gone) u in
        let rest = terms_traced terms (λ w there. h w (Contains-cons (unknown u) (unknown w) terms there)) in
        λ i. first i ∷ rest i

    pub fact_traced : (fact : FactOf C)
        → ((u : Unknown C) → Contains fact.terms (unknown u) → nat_cmp (number u) (number r.gone) ≡ unknown_cmp cmp u r.gone)
        → replaced_fact order (traced_replacement r) (traced_fact to number fact) ≡ traced_fact to number (replaced_fact cmp r fact)
    fact_traced fact h = λ i. record { relation = fact.relation; terms = terms_traced fact.terms h i }

  -- different constants stay different, if these get different names
  pub clashing_traced : (terms : List (TermOf C))
      → ((c d : C) → Contains terms (constant c) → Contains terms (constant d) → to c ≡ to d → c ≡ d)
      → (a b : TermOf C) → Contains terms a → Contains terms b → AreClashing a b
      → AreClashing (traced_term to number a) (traced_term to number b)
  clashing_traced terms once (constant c) (constant d) left right h = λ e. h (once c d left right e)
  clashing_traced terms once (constant c) (unknown w) left right h = absurd h
  clashing_traced terms once (unknown u) b left right h = absurd h
