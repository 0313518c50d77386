-- What a step comes to, from what the program found.
use Rattle.std.proofs.Common.{◌≡◌, ◌≢◌, ◌↔◌, ℕ, Some, None, List, ◌++◌, length, map, refl, sym, ap, ◌∙◌, subst, inl, inr, All, Contains, MatchOption}
use Rattle.std.proofs.lemmas.List.{length-map}
use Rattle.std.proofs.lemmas.List.Elements.{Contains-append_left, Contains-append_right, Contains-append_cases}
use Rattle.term_core.specs.declared.const_id.ConstId.{ConstId}
use Rattle.rule_core.specs.declared.rules.Atom.{Atom}
use Rattle.rule_core.specs.declared.rules.Egd.{Egd}
use Rattle.rule_core.specs.declared.rules.Tgd.{Tgd}
use Rattle.rule_core.specs.Terms.{FactOf}
use Rattle.rule_core.specs.Match.{image, Matches}
use Rattle.rule_core.specs.Renaming.{HoldTheSame}
use Rattle.rule_core.proofs.ListLemmas.{Contains-map, Contains-from_map}
use Rattle.rule_core.proofs.SetLemmas.{Matches-within}
use Rattle.failure_trace.specs.declared.trace.Bound.{Bound}
use Rattle.failure_trace.specs.declared.why.Why.{Why}
use Rattle.failure_trace.specs.declared.why.Why.TheVariants.{K1, K2, K3, K4, K5}
use Rattle.failure_trace.specs.Equating.{bound_to, Replacement, replacement_of, replaced_fact}
use Rattle.failure_trace.specs.Trace.{terms_in, names_in}
use Rattle.failure_trace.specs.TraceRun.{Instance, Outcome, going, goes, stops, Test, Named, Goes as GoesOn, Stops as StopsBy, FitsEgd, AreNew, given_numbers, with_head, left_side, right_side, EquatesSides, text_cmp}
use Rattle.trace_checker.specs.declared.state.Next.{Next}
use Rattle.trace_checker.specs.declared.state.Next.TheVariants.{Goes, Stops}
use Rattle.trace_checker.specs.States.{IsState, ComesTo, EgdTests}

abbrev Facts : Type 0
Facts = List (FactOf (List ℕ))

-- lists that hold the same facts do so with others behind, and with each fact's image
same_both : (a b c : Facts) → HoldTheSame a b → HoldTheSame b c → HoldTheSame a c
same_both a b c s t fact = (λ h. (t fact).0 ((s fact).0 h), λ h. (s fact).1 ((t fact).1 h))

same_append : (a b more : Facts) → HoldTheSame a b → HoldTheSame (a ++ more) (b ++ more)
same_append a b more s fact = (one a b (λ f. (s f).0), one b a (λ f. (s f).1))
  where
    one : (x y : Facts) → ((f : FactOf (List ℕ)) → Contains x f → Contains y f) → Contains (x ++ more) fact → Contains (y ++ more) fact
    one x y h c = elim (Contains-append_cases x more fact c) [
      | inl d ↦ Contains-append_left y more fact (h fact d)
      | inr d ↦ Contains-append_right y more fact d
    ]

same_map : (g : FactOf (List ℕ) → FactOf (List ℕ)) (a b : Facts) → HoldTheSame a b → HoldTheSame (map g a) (map g b)
same_map g a b s fact = (one a b (λ f. (s f).0), one b a (λ f. (s f).1))
  where
    one : (x y : Facts) → ((f : FactOf (List ℕ)) → Contains x f → Contains y f) → Contains (map g x) fact → Contains (map g y) fact
    one x y h c =
        let d = Contains-from_map g x fact c in
        subst (Contains (map g y)) d.2 (Contains-map g y d.0 (h d.0 d.1))

-- names that are the variables are as many
pub as_many : (binding : List Bound) (vars : List (List ℕ)) → names_in binding ≡ vars → length vars ≡ length binding
as_many binding vars e = ap length (sym e) ∙ length-map binding (λ (b : Bound). b.name)

-- a test that fails, and one that holds
pub fails_test : (P : Type 0) (why : Why) (further : Outcome → Type 0) → ¬ P → ComesTo (Test P why further) (Stops why)
fails_test P why further fails = (stops why, inr (fails, refl), refl)

pub passes_test : (P : Type 0) (why : Why) (further : Outcome → Type 0) (next : Next) → P → ComesTo further next → ComesTo (Test P why further) next
passes_test P why further next p rest = (rest.0, inl (p, rest.1), rest.2)

-- a rule with the name, and none
pub named_rule : {R : Type 0} (name_of : R → List ℕ) (rules : List R) (name : List ℕ) (further : R → Outcome → Type 0) (rule : R) (next : Next)
    → Contains rules rule → name_of rule ≡ name → ComesTo (further rule) next → ComesTo (Named name_of rules name further) next
named_rule name_of rules name further rule next there e rest = (rest.0, inl (rule, there, e, rest.1), rest.2)

pub no_rule : {R : Type 0} (name_of : R → List ℕ) (rules : List R) (name : List ℕ) (further : R → Outcome → Type 0)
    → All (λ rule. name_of rule ≢ name) rules → ComesTo (Named name_of rules name further) (Stops K1)
no_rule name_of rules name further none = (stops K1, inr (none, refl), refl)

module _ (name : ConstId → List ℕ) (binding : List Bound) where
  -- a tgd that fires
  pub fired : (tgd : Tgd) (state held after : Instance) → IsState state held → AreNew state.used (given_numbers tgd binding)
      → HoldTheSame after.facts (state.facts ++ map (image name (bound_to (terms_in binding))) tgd.head)
      → after.used ≡ state.used ++ given_numbers tgd binding
      → ComesTo (Test (AreNew held.used (given_numbers tgd binding)) K4 (GoesOn (going (with_head name tgd binding held)))) (Goes after)
  fired tgd state held after is new facts used = (
    goes (going (with_head name tgd binding held)),
    inl (subst (λ u. AreNew u (given_numbers tgd binding)) is.used new, refl),
    (
      with_head name tgd binding held,
      refl,
      record {
        facts = same_both after.facts (state.facts ++ map (image name (bound_to (terms_in binding))) tgd.head) (with_head name tgd binding held).facts
            facts (same_append state.facts held.facts (map (image name (bound_to (terms_in binding))) tgd.head) is.facts);
        used = used ∙ ap (λ u. u ++ given_numbers tgd binding) is.used;
      },
    ),
  )

  pub not_fired : (tgd : Tgd) (state held : Instance) → IsState state held → ¬ (AreNew state.used (given_numbers tgd binding))
      → ComesTo (Test (AreNew held.used (given_numbers tgd binding)) K4 (GoesOn (going (with_head name tgd binding held)))) (Stops K4)
  not_fired tgd state held is old =
      fails_test (AreNew held.used (given_numbers tgd binding)) K4 (GoesOn (going (with_head name tgd binding held)))
      (λ new. old (subst (λ u. AreNew u (given_numbers tgd binding)) (sym is.used) new))

  -- a match in the state is one in the instance
  pub matched : (atoms : List Atom) (state held : Instance) → IsState state held
      → Matches name (bound_to (terms_in binding)) atoms state.facts ↔ Matches name (bound_to (terms_in binding)) atoms held.facts
  matched atoms state held is = (
    Matches-within name (bound_to (terms_in binding)) atoms state.facts held.facts (λ f. (is.facts f).0),
    Matches-within name (bound_to (terms_in binding)) atoms held.facts state.facts (λ f. (is.facts f).1),
  )

  -- an egd that fits and matches, one that doesn't match, and one that doesn't fit
  pub egd_goes : (egd : Egd) (state held : Instance) (further : Outcome → Type 0) (next : Next) → IsState state held → FitsEgd egd binding
      → Matches name (bound_to (terms_in binding)) egd.body state.facts → ComesTo further next → ComesTo (EgdTests name egd binding held further) next
  egd_goes egd state held further next is fits match rest = (
    rest.0,
    inl (fits, inl ((matched egd.body state held is).0 match, rest.1)),
    rest.2,
  )

  pub egd_unmatched : (egd : Egd) (state held : Instance) (further : Outcome → Type 0) → IsState state held → FitsEgd egd binding
      → ¬ (Matches name (bound_to (terms_in binding)) egd.body state.facts) → ComesTo (EgdTests name egd binding held further) (Stops K3)
  egd_unmatched egd state held further is fits unmatched = (
    stops K3,
    inl (fits, inr (λ m. unmatched ((matched egd.body state held is).1 m), refl)),
    refl,
  )

  pub egd_unfit : (egd : Egd) (held : Instance) (further : Outcome → Type 0) → ¬ (FitsEgd egd binding)
      → ComesTo (EgdTests name egd binding held further) (Stops K2)
  egd_unfit egd held further unfit = (stops K2, inr (unfit, refl), refl)

  -- what an egd replaces
  pub equated : (egd : Egd) (state held after : Instance) (r : Replacement (List ℕ)) → IsState state held
      → replacement_of text_cmp (left_side egd binding) (right_side egd binding) ≡ Some r
      → HoldTheSame after.facts (map (replaced_fact text_cmp r) state.facts) → after.used ≡ state.used
      → ComesTo (EquatesSides egd binding held) (Goes after)
  equated egd state held after r is e facts used = (
    goes (going (record held { facts = map (replaced_fact text_cmp r) held.facts })),
    subst (λ o. MatchOption o (StopsBy K5 (goes (going (record held { facts = map (replaced_fact text_cmp r) held.facts }))))
        (λ x. GoesOn (going (record held { facts = map (replaced_fact text_cmp x) held.facts }))
        (goes (going (record held { facts = map (replaced_fact text_cmp r) held.facts }))))) (sym e) refl,
    (
      record held { facts = map (replaced_fact text_cmp r) held.facts },
      refl,
      record {
        facts = same_both after.facts (map (replaced_fact text_cmp r) state.facts) (map (replaced_fact text_cmp r) held.facts) facts
            (same_map (replaced_fact text_cmp r) state.facts held.facts is.facts);
        used = used ∙ is.used;
      },
    ),
  )

  pub not_equated : (egd : Egd) (held : Instance) → replacement_of text_cmp (left_side egd binding) (right_side egd binding) ≡ None
      → ComesTo (EquatesSides egd binding held) (Stops K5)
  not_equated egd held e = (
    stops K5,
    subst (λ o. MatchOption o (StopsBy K5 (stops K5))
        (λ x. GoesOn (going (record held { facts = map (replaced_fact text_cmp x) held.facts })) (stops K5))) (sym e) refl,
    refl,
  )
