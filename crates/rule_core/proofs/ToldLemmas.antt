-- Unknowns that are told otherwise, and stay apart.
use Rattle.std.proofs.Common.{◌≡◌, ◌↔◌, ℕ, ◌<◌, List, [], ◌∷◌, map, refl, sym, ap, ◌∙◌, subst, Contains}
use Rattle.std.proofs.lemmas.List.Elements.{All-weaker, All-contains}
use Rattle.term_core.specs.declared.const_id.ConstId.{ConstId}
use Rattle.rule_core.specs.declared.rules.Arg.{Arg}
use Rattle.rule_core.specs.declared.rules.Arg.TheVariants.{Var, Const}
use Rattle.rule_core.specs.declared.rules.Atom.{Atom}
use Rattle.rule_core.specs.declared.rules.Egd.{Egd}
use Rattle.rule_core.specs.declared.rules.Tgd.{Tgd}
use Rattle.rule_core.specs.Terms.{Unknown, TermOf, constant, unknown, FactOf}
use Rattle.rule_core.specs.Mapping.{RuleSet}
use Rattle.rule_core.specs.Match.{value, image, Matches}
use Rattle.rule_core.specs.Frontier.{Occurs}
use Rattle.rule_core.specs.Validity.{IsTgd, IsEgd, IsValid}
use Rattle.rule_core.specs.Homomorphism.{term_image, fact_image}
use Rattle.rule_core.specs.Solution.{TgdHolds, EgdHolds, IsSolution, IsUniversal}
use Rattle.rule_core.specs.Renaming.{HasUnknown, AreToldApart}
use Rattle.rule_core.proofs.ListLemmas.{Contains-head, Contains-cons, Contains-map, Contains-from_map, All-members}
use Rattle.rule_core.proofs.FiringLemmas.{occurs_from}
use Rattle.rule_core.proofs.HomomorphismLemmas.{universal_from_below}

-- matches as a map carries them

module _ {C : Type 0} (name : ConstId → C) where
  -- the values of arguments, as a map carries them
  values_after : (h : Unknown C → TermOf C) (b : ℕ → TermOf C) (args : List Arg)
      → map (term_image h) (map (value name b) args) ≡ map (value name (λ v. term_image h (b v))) args
  values_after h b [] = refl
  values_after h b (Var v ∷ args) = ap (λ rest. term_image h (b v) ∷ rest) (values_after h b args)
  values_after h b (Const c ∷ args) = ap (λ rest. constant (name c) ∷ rest) (values_after h b args)

  -- the image of an atom goes to its image under the values as they go
  pub image_after : (h : Unknown C → TermOf C) (b : ℕ → TermOf C) (atom : Atom)
      → fact_image h (image name b atom) ≡ image name (λ v. term_image h (b v)) atom
  image_after h b atom = λ i. record { relation = atom.relation; terms = values_after h b atom.args i }

  -- a match goes to a match
  pub Matches-after : (h : Unknown C → TermOf C) (b : ℕ → TermOf C) (atoms : List Atom) (one two : List (FactOf C))
      → ((fact : FactOf C) → Contains one fact → Contains two (fact_image h fact)) → Matches name b atoms one
      → Matches name (λ v. term_image h (b v)) atoms two
  Matches-after h b atoms one two goes =
      All-weaker (λ atom. Contains one (image name b atom)) (λ atom. Contains two (image name (λ v. term_image h (b v)) atom))
      (λ atom c. subst (λ fact. Contains two fact) (image_after h b atom) (goes (image name b atom) c)) atoms

  -- the value of a variable of the body is a term of a fact
  pub bound_term : (b : ℕ → TermOf C) (atoms : List Atom) (instance : List (FactOf C)) (v : ℕ) → Occurs atoms v
      → Matches name b atoms instance → (fact : FactOf C) × Contains instance fact × Contains fact.terms (b v)
  bound_term b atoms instance v occurs m = (
    image name b occurs.1,
    All-contains (λ atom. Contains instance (image name b atom)) atoms occurs.1 m (occurs.0, occurs.2, occurs.3),
    Contains-map (value name b) occurs.1.args (Var v) occurs.4,
  )

-- there and back

module _ {C : Type 0} (told back : Unknown C → Unknown C) where
  -- where an unknown goes, and where it comes from
  abbrev as_told : Unknown C → TermOf C
  as_told u = unknown (told u)

  abbrev as_before : Unknown C → TermOf C
  as_before u = unknown (back u)

  -- terms whose unknowns are told apart come back
  terms_come_back : (terms : List (TermOf C)) → ((u : Unknown C) → Contains terms (unknown u) → back (told u) ≡ u)
      → map (term_image as_before) (map (term_image as_told) terms) ≡ terms
  terms_come_back [] apart = refl
  terms_come_back (constant c ∷ terms) apart =
      ap (λ rest. constant c ∷ rest) (terms_come_back terms (λ w there. apart w (Contains-cons (constant c) (unknown w) terms there)))
  terms_come_back (unknown u ∷ terms) apart =
      let first = apart u (Contains-head (unknown u) terms) in
      let rest = terms_come_back terms (λ w there. apart w (Contains-cons (unknown u) (unknown w) terms there)) in
      λ i. unknown (first i) ∷ rest i

  term_comes_back : (term : TermOf C) (terms : List (TermOf C)) → ((u : Unknown C) → Contains terms (unknown u) → back (told u) ≡ u)
      → Contains terms term → term_image as_before (term_image as_told term) ≡ term
  term_comes_back (constant c) terms apart there = refl
  term_comes_back (unknown u) terms apart there = ap unknown (apart u there)

  -- a term stays, if its unknown does
  term_stays : (term : TermOf C) (terms : List (TermOf C)) → ((u : Unknown C) → Contains terms (unknown u) → told u ≡ u)
      → Contains terms term → term_image as_told term ≡ term
  term_stays (constant c) terms stays there = refl
  term_stays (unknown u) terms stays there = ap unknown (stays u there)

  module _ (target : List (FactOf C)) (apart : AreToldApart target told back) where
    -- the target, with its unknowns told otherwise
    retold : List (FactOf C)
    retold = map (fact_image as_told) target

    apart_in : (fact : FactOf C) → Contains target fact → (u : Unknown C) → Contains fact.terms (unknown u) → back (told u) ≡ u
    apart_in fact there u inside = apart u (there.0, fact, there.1, there.2, inside)

    fact_is_retold : (fact : FactOf C) → Contains target fact → Contains retold (fact_image as_told fact)
    unfolding retold
    fact_is_retold fact there = Contains-map (fact_image as_told) target fact there

    -- each fact as it is told goes back to a fact of the target
    fact_comes_back : (fact : FactOf C) → Contains retold fact → Contains target (fact_image as_before fact)
    unfolding retold
    fact_comes_back fact c =
        let from = Contains-from_map (fact_image as_told) target fact c in
        let same : fact_image as_before (fact_image as_told from.0) ≡ from.0 =
        λ i. record { relation = from.0.relation; terms = terms_come_back from.0.terms (apart_in from.0 from.1) i } in
        subst (λ f. Contains target (fact_image as_before f)) from.2 (subst (λ f. Contains target f) (sym same) from.1)

    pub comes_back : (fact : FactOf C) → Contains (map (fact_image as_told) target) fact → Contains target (fact_image as_before fact)
    unfolding retold
    comes_back fact c = fact_comes_back fact c

    -- its terms go back to what they are told of
    told_again : (fact : FactOf C) → Contains retold fact → (term : TermOf C) → Contains fact.terms term
        → term_image as_told (term_image as_before term) ≡ term
    unfolding retold
    told_again fact c term inside =
        let from = Contains-from_map (fact_image as_told) target fact c in
        let was = Contains-from_map (term_image as_told) from.0.terms term
        (subst (λ (f : FactOf C). Contains f.terms term) (sym from.2) inside) in
        ap (λ t. term_image as_told (term_image as_before t)) (sym was.2)
        ∙ ap (term_image as_told) (term_comes_back was.0 from.0.terms (apart_in from.0 from.1) was.1)
        ∙ was.2

    -- matches go along and come back, and an egd holds where it held
    module _ (name : ConstId → C) where
      pub matches_retold : (binding : ℕ → TermOf C) (atoms : List Atom) → Matches name binding atoms target
          → Matches name (λ v. term_image as_told (binding v)) atoms (map (fact_image as_told) target)
      unfolding retold
      matches_retold binding atoms m = Matches-after name as_told binding atoms target retold fact_is_retold m

      pub matches_come_back : (binding : ℕ → TermOf C) (atoms : List Atom) → Matches name binding atoms (map (fact_image as_told) target)
          → Matches name (λ v. term_image as_before (binding v)) atoms target
      unfolding retold
      matches_come_back binding atoms m = Matches-after name as_before binding atoms retold target fact_comes_back m

      egd_retold : (egd : Egd) → Occurs egd.body egd.left → Occurs egd.body egd.right → EgdHolds name egd target → EgdHolds name egd retold
      egd_retold egd left right holds b m =
          let before : Matches name (λ v. term_image as_before (b v)) egd.body target =
          Matches-after name as_before b egd.body retold target fact_comes_back m in
          let l = bound_term name b egd.body retold egd.left left m in
          let r = bound_term name b egd.body retold egd.right right m in
          sym (told_again l.0 l.1 (b egd.left) l.2)
          ∙ ap (term_image as_told) (holds (λ v. term_image as_before (b v)) before)
          ∙ told_again r.0 r.1 (b egd.right) r.2

      egd_before : (egd : Egd) → Occurs egd.body egd.left → Occurs egd.body egd.right → EgdHolds name egd retold → EgdHolds name egd target
      egd_before egd left right holds b m =
          let told_match : Matches name (λ v. term_image as_told (b v)) egd.body retold =
          Matches-after name as_told b egd.body target retold fact_is_retold m in
          let l = bound_term name b egd.body target egd.left left m in
          let r = bound_term name b egd.body target egd.right right m in
          sym (term_comes_back (b egd.left) l.0.terms (apart_in l.0 l.1) l.2)
          ∙ ap (term_image as_before) (holds (λ v. term_image as_told (b v)) told_match)
          ∙ term_comes_back (b egd.right) r.0.terms (apart_in r.0 r.1) r.2

      pub same_egd_retold : (egd : Egd) → Occurs egd.body egd.left → Occurs egd.body egd.right
          → EgdHolds name egd target ↔ EgdHolds name egd (map (fact_image as_told) target)
      unfolding retold
      same_egd_retold egd left right = (egd_retold egd left right, egd_before egd left right)

    -- rules that hold of the target hold of it as it is told, where the unknowns of the source stay
    module _ (source : List (FactOf C)) (stays : (u : Unknown C) → HasUnknown source u → told u ≡ u) (name : ConstId → C) where
      tgd_retold : (tgd : Tgd) → ((v : ℕ) → v < tgd.body_vars → Occurs tgd.body v) → TgdHolds name tgd source target
          → TgdHolds name tgd source retold
      tgd_retold tgd occurs holds b m =
          let found = holds b m in (
            λ v. term_image as_told (found.0 v),
            λ v l.
                let bound = bound_term name b tgd.body source v (occurs v l) m in
                ap (term_image as_told) (found.1 v l)
                ∙ term_stays (b v) bound.0.terms (λ u inside. stays u (bound.1.0, bound.0, bound.1.1, bound.1.2, inside)) bound.2,
            Matches-after name as_told found.0 tgd.head target retold fact_is_retold found.2,
          )

      solution_retold : (rules : RuleSet) → IsValid rules → IsSolution name rules source target → IsSolution name rules source retold
      solution_retold rules valid solution = record {
        tgds = All-members (λ tgd. TgdHolds name tgd source target) (λ tgd. TgdHolds name tgd source retold) rules.tgds
            (λ tgd there.
            let is = All-contains (IsTgd rules.sources rules.targets) rules.tgds tgd valid.rules.tgds there in
            tgd_retold tgd (λ v l. occurs_from tgd.body v ((is.body_vars.same v).1 l))) solution.tgds;
        egds = All-members (λ egd. EgdHolds name egd target) (λ egd. EgdHolds name egd retold) rules.egds
            (λ egd there.
            let is = All-contains (IsEgd rules.targets) rules.egds egd valid.rules.egds there in
            egd_retold name egd (occurs_from egd.body egd.left ((is.body_vars.same egd.left).1 is.left))
            (occurs_from egd.body egd.right ((is.body_vars.same egd.right).1 is.right))) solution.egds;
      }

      -- and so it is universal
      pub universal_retold : (rules : RuleSet) → IsValid rules → IsUniversal name rules source target
          → IsUniversal name rules source (map (fact_image as_told) target)
      unfolding retold
      universal_retold rules valid universal =
          universal_from_below name rules source target retold universal (solution_retold rules valid universal.solution)
          (record { of_unknown = as_before; into = fact_comes_back })
