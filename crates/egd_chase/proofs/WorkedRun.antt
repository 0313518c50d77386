-- A run that fails, worked out by hand: S(x, y) -> P(x, y, z) for some z; P(x, y, z) -> z = x; P(x, y, z) -> z = y, where S(A, B) over
-- [1, 8). It fires P(A, B, ?z), the first egd makes ?z the constant A, and then the second asks that A and B are equal. The definitions
-- of a failed run and of what is projected have this run and its trace at 3; and that is accepted, as the law says and by computing.
use Rattle.std.proofs.Common.{◌≡◌, ◌↔◌, ℕ, zero, suc, ℤ, pos, Some, List, [], ◌∷◌, map}
use Rattle.std.proofs.Common.{refl, sym, ap, ◌∙◌, subst, inl, inr, arith, codes, All, AllPairs, Contains, IsSomeAnd, slice_get}
use Rattle.std.specs.Prelude.{slice_index_or}
use Rattle.std.specs.declared.cmp.Ordering.TheVariants.{Less}
use Rattle.std.proofs.lemmas.Int.{ints}
use Rattle.std.proofs.lemmas.List.Elements.{All-nil, All-cons, All-head}
use Rattle.std.proofs.lemmas.List.Sorted.{IsPermutation-refl}
use Rattle.time_line.specs.Span.{Ends, ends, Has, Meet}
use Rattle.term_core.specs.declared.const_id.ConstId.{ConstId}
use Rattle.term_core.specs.declared.term.Unknown.{Unknown as HeldUnknown}
use Rattle.term_core.specs.declared.term.Term.{Term}
use Rattle.term_core.specs.declared.term.Term.TheVariants.{Const as ConstTerm, Null as NullTerm}
use Rattle.term_core.specs.Pool.{IsPool}
use Rattle.rule_core.specs.declared.rules.Arg.TheVariants.{Var}
use Rattle.rule_core.specs.declared.rules.Atom.{Atom}
use Rattle.rule_core.specs.declared.rules.Egd.{Egd}
use Rattle.rule_core.specs.declared.rules.Tgd.{Tgd}
use Rattle.rule_core.specs.Terms.{named, TermOf, constant, unknown, FactOf, StampedOf}
use Rattle.rule_core.specs.Mapping.{RuleSet}
use Rattle.rule_core.specs.Match.{image}
use Rattle.rule_core.specs.Snapshot.{snapshot_at}
use Rattle.rule_core.specs.Firing.{Fires, fired_facts}
use Rattle.rule_core.specs.Renaming.{renamed_stamped}
use Rattle.rule_core.specs.Validity.{IsValid}
use Rattle.rule_core.proofs.ListLemmas.{Contains-nil, Contains-head, Contains-cons_cases, AllPairs-nil, AllPairs-cons}
use Rattle.rule_core.proofs.SnapshotLemmas.{snapshot_covers, covered_in_snapshot}
use Rattle.failure_trace.specs.declared.firing.Firing.{Firing}
use Rattle.failure_trace.specs.declared.firing.Support.{Support}
use Rattle.failure_trace.specs.declared.journal.JournalStep.{JournalStep}
use Rattle.failure_trace.specs.declared.trace.Bound.{Bound}
use Rattle.failure_trace.specs.declared.trace.StepKind.{StepKind}
use Rattle.failure_trace.specs.declared.trace.StepKind.TheVariants.{Tgd as TgdStep, Egd as EgdStep, Clash as ClashStep}
use Rattle.failure_trace.specs.declared.trace.Trace.{Trace}
use Rattle.failure_trace.specs.declared.trace.TraceStep.{TraceStep}
use Rattle.failure_trace.specs.declared.trace.Value.{Value}
use Rattle.failure_trace.specs.declared.trace.Value.TheVariants.{Const, Null}
use Rattle.failure_trace.specs.Firings.{Supports, IsSupported, AreSeparate, IsEarlier, firing_cmp, IsFiredAt, FiresOn, AreFirings}
use Rattle.failure_trace.specs.JournalRun.{RowOf, MatchesOver, HoldsTerm, IsRun, IsClash}
use Rattle.failure_trace.specs.Projected.{pool_text, IsInPool, IsProjected}
use Rattle.failure_trace.specs.TraceRun.{start, IsAccepted}
use Rattle.failure_trace.proofs.TraceTests.{passes}
use Rattle.egd_chase.specs.Accepted.{HoldFiringFactsAt, FailsAt}
use Rattle.egd_chase.proofs.AcceptedLemmas.{projected_are_accepted}

abbrev atom : List ℕ → Atom
atom variables = record { relation = 0; args = map Var variables }

abbrev variables : List (List ℕ)
variables = codes "x" ∷ codes "y" ∷ codes "z" ∷ []

abbrev tgd : Tgd
tgd = record { name = codes "d"; vars = variables; body_vars = 2; body = atom (0 ∷ 1 ∷ []) ∷ []; head = atom (0 ∷ 1 ∷ 2 ∷ []) ∷ [] }

abbrev egd : List ℕ → ℕ → Egd
egd name right = record { name = name; vars = variables; body = atom (0 ∷ 1 ∷ 2 ∷ []) ∷ []; left = 2; right = right }

abbrev rules : RuleSet
rules = record {
  sources = record { name = codes "S"; columns = codes "x" ∷ codes "y" ∷ [] } ∷ [];
  targets = record { name = codes "P"; columns = variables } ∷ [];
  tgds = tgd ∷ [];
  egds = egd (codes "e") 0 ∷ egd (codes "f") 1 ∷ [];
  queries = [];
}

-- two constants and an unknown
abbrev a : ConstId
a = record { 0 = 0 }

abbrev b : ConstId
b = record { 0 = 1 }

abbrev pool : List (List ℕ)
pool = codes "A" ∷ codes "B" ∷ []

abbrev null : HeldUnknown
null = record { rule = 0; frontier = a ∷ b ∷ []; var = 0 }

abbrev null_term : TermOf ConstId
null_term = unknown (named 0 (a ∷ b ∷ []) 0)

abbrev years : Ends
years = ends (Some (pos 1)) (Some (pos 8))

abbrev over_years : List (TermOf ConstId) → RowOf ConstId
over_years terms = record { row = record { relation = 0; terms = terms }; span = years }

abbrev source : List (StampedOf (FactOf ConstId))
source = over_years (constant a ∷ constant b ∷ []) ∷ []

abbrev fired_row : RowOf ConstId
fired_row = over_years (constant a ∷ constant b ∷ null_term ∷ [])

abbrev settled_row : RowOf ConstId
settled_row = over_years (constant a ∷ constant b ∷ constant a ∷ [])

abbrev support : Support
support = record { span = years; binding = a ∷ b ∷ [] }

abbrev firing : Firing
firing = record { rule = 0; frontier = a ∷ b ∷ []; span = years; supports = support ∷ [] }

abbrev step : ℕ → Term → JournalStep
step egd z = record { egd = egd; binding = ConstTerm a ∷ ConstTerm b ∷ z ∷ []; span = years; cuts = [] }

-- what is so of the one member
only : {X : Type 0} (P : X → Type 0) (x : X) → P x → All P (x ∷ [])
only P x p = All-cons P x [] p (All-nil P)

no_pairs : {X : Type 0} (R : X → X → Type 0) (x : X) → AllPairs R (x ∷ [])
no_pairs R x = AllPairs-cons R x [] (λ y c. absurd (Contains-nil y c)) (AllPairs-nil R)

is_the_one : {X : Type 0} (x y : X) → Contains (x ∷ []) y → x ≡ y
is_the_one x y c = elim (Contains-cons_cases x y [] c) [ inl e ↦ e | inr d ↦ absurd (Contains-nil y d) ]

-- what fires

in_source : (t : ℤ) → Has years t → Contains (snapshot_at source t) (record { relation = 0; terms = constant a ∷ constant b ∷ [] })
in_source t h = covered_in_snapshot source (record { relation = 0; terms = constant a ∷ constant b ∷ [] }) t
    (0, over_years (constant a ∷ constant b ∷ []), omega arith, refl, (refl, h))

abbrev of_variable : ℕ → ConstId
of_variable v = slice_index_or (a ∷ b ∷ []) v a

fires : (t : ℤ) → Has years t → Fires (λ c. c) tgd (snapshot_at source t) (a ∷ b ∷ [])
fires t h = (
  of_variable,
  only (λ at. Contains (snapshot_at source t) (image (λ c. c) (λ v. constant (of_variable v)) at)) (atom (0 ∷ 1 ∷ [])) (in_source t h),
  refl,
)

only_these : (t : ℤ) (values : List ConstId) → Fires (λ c. c) tgd (snapshot_at source t) values → (values ≡ a ∷ b ∷ []) × Has years t
only_these t values f =
    let fact : FactOf ConstId = record { relation = 0; terms = constant (f.0 0) ∷ constant (f.0 1) ∷ [] } in
    let there : Contains (snapshot_at source t) fact =
    All-head (λ at. Contains (snapshot_at source t) (image (λ c. c) (λ v. constant (f.0 v)) at)) (atom (0 ∷ 1 ∷ [])) [] f.1 in
    let k = snapshot_covers source fact t there in
    let one = is_the_one (over_years (constant a ∷ constant b ∷ [])) k.1 (k.0, k.2, k.3) in
    let terms : constant a ∷ constant b ∷ [] ≡ constant (f.0 0) ∷ constant (f.0 1) ∷ [] =
    ap (λ (r : RowOf ConstId). r.row.terms) one ∙ ap (λ (r : FactOf ConstId). r.terms) k.4.0 in
    let x : a ≡ f.0 0 = cc in
    let y : b ≡ f.0 1 = cc in
    (sym f.2 ∙ (λ i. sym x i ∷ sym y i ∷ []), subst (λ (r : RowOf ConstId). Has r.span t) (sym one) k.4.1)

exact : (rule : ℕ) (values : List ConstId) (t : ℤ)
    → IsFiredAt (firing ∷ []) rule values t ↔ FiresOn rules (snapshot_at source t) rule values
exact rule values t = (
  λ k.
      let one = is_the_one firing k.1 (k.0, k.2, k.3) in
      let same_rule : 0 ≡ rule = ap (λ (f : Firing). f.rule) one ∙ k.4.0 in
      let same_values : a ∷ b ∷ [] ≡ values = ap (λ (f : Firing). f.frontier) one ∙ k.4.1 in
      let h : Has years t = subst (λ (f : Firing). Has f.span t) (sym one) k.4.2 in
      subst (λ r. FiresOn rules (snapshot_at source t) r values) same_rule
      (subst (FiresOn rules (snapshot_at source t) 0) same_values (fires t h)),
  by rule,
)
  where
    by : (rule : ℕ) → FiresOn rules (snapshot_at source t) rule values → IsFiredAt (firing ∷ []) rule values t
    by zero f = let k = only_these t values f in (0, firing, omega arith, refl, (refl, sym k.0, k.1))
    by (suc n) f = absurd f

supports : Supports source tgd (a ∷ b ∷ []) support
supports = record {
  instant = (pos 3, (omega (arith, ints), omega (arith, ints)));
  size = refl;
  frontier = refl;
  matches = λ binding t gives h.
      let x : binding 0 ≡ constant a = gives 0 a refl in
      let y : binding 1 ≡ constant b = gives 1 b refl in
      only (λ at. Contains (snapshot_at source t) (image (λ c. c) binding at)) (atom (0 ∷ 1 ∷ []))
      (subst (Contains (snapshot_at source t)) (λ i. record { relation = 0; terms = sym x i ∷ sym y i ∷ [] }) (in_source t h));
}

firings_are : AreFirings rules source (firing ∷ [])
firings_are = record {
  exact = exact;
  instants = only (λ (f : Firing). (t : ℤ) × Has f.span t) firing (pos 3, (omega (arith, ints), omega (arith, ints)));
  separate = no_pairs AreSeparate firing;
  ordered = no_pairs (λ f g. firing_cmp f g ≡ Less) firing;
  supported = only (IsSupported rules source) firing (record {
    each = only (Supports source tgd (a ∷ b ∷ [])) support supports;
    order = no_pairs (λ (s t : Support). IsEarlier s.span t.span) support;
    whole = λ t. (
      λ h. (0, support, omega arith, refl, h),
      λ k. subst (λ (s : Support). Has s.span t) (sym (is_the_one support k.1 (k.0, k.2, k.3))) k.4,
    );
  });
}

rows_are : HoldFiringFactsAt rules source (pos 3) (fired_row ∷ [])
rows_are fact = (
  λ c. (0, (a ∷ b ∷ [], fires (pos 3) (omega (arith, ints), omega (arith, ints)), c)),
  λ k. by k.0 k.1,
)
  where
    Makes : ℕ → Tgd → Type 0
    Makes place g = (values : List ConstId) × Fires (λ c. c) g (snapshot_at source (pos 3)) values
        × Contains (fired_facts (λ c. c) place g values) fact

    by : (place : ℕ) → IsSomeAnd (slice_get rules.tgds place) (Makes place) → Contains (snapshot_at (fired_row ∷ []) (pos 3)) fact
    by zero k = subst (λ values. Contains (fired_facts (λ c. c) 0 tgd values) fact) (only_these (pos 3) k.0 k.1).0 k.2
    by (suc n) k = absurd k

-- what settling does

matches : (name : List ℕ) (right : ℕ) (z : TermOf ConstId)
    → MatchesOver (λ c. c) (over_years (constant a ∷ constant b ∷ z ∷ []) ∷ []) (egd name right) (constant a ∷ constant b ∷ z ∷ []) years
matches name right z =
    let row = over_years (constant a ∷ constant b ∷ z ∷ []) in
    record {
      size = refl;
      rows = row ∷ [];
      present = only (Contains (row ∷ [])) row (Contains-head row []);
      images = refl;
      instant = (pos 3, (omega (arith, ints), omega (arith, ints)));
      common = λ t. (
        λ h. only (λ (r : RowOf ConstId). Has r.span t) row h,
        λ h. All-head (λ (r : RowOf ConstId). Has r.span t) row [] h,
      );
    }

run : IsRun rules (fired_row ∷ []) (step 0 (NullTerm null) ∷ []) (settled_row ∷ [])
run = (
  settled_row ∷ [],
  record {
    matches = matches (codes "e") 0 null_term;
    replacement = record { gone = named 0 (a ∷ b ∷ []) 0; by = constant a };
    sides = refl;
    cut = fired_row ∷ [];
    cuts = IsPermutation-refl (fired_row ∷ []);
    left = λ k d l. all_over k d l;
    right = λ k d l h m. let e = h.1 in absurd cc;
    replaced = IsPermutation-refl (settled_row ∷ []);
  },
  IsPermutation-refl (settled_row ∷ []),
)
  where
    OverYears : RowOf ConstId → Type 0
    OverYears r = HoldsTerm r null_term → Meet r.span years → r.span ≡ years

    all_over : All OverYears (fired_row ∷ [])
    all_over = only OverYears fired_row (λ _ _. refl)

clash : IsClash rules (settled_row ∷ []) (step 1 (ConstTerm a))
clash = (
  record {
    matches = matches (codes "f") 1 (constant a);
    sides = λ e. let n : 0 ≡ 1 = ap (λ (c : ConstId). c.0) e in absurd (omega (arith, n));
  },
  refl,
)

it_fails : FailsAt rules source (firing ∷ []) (step 0 (NullTerm null) ∷ []) (step 1 (ConstTerm a)) (pos 3)
it_fails = record {
  firings_are = firings_are;
  rows = fired_row ∷ [];
  rows_are = rows_are;
  state = settled_row ∷ [];
  run = run;
  clash = clash;
  at = (omega (arith, ints), omega (arith, ints));
}

-- and its trace

abbrev binding : Value → List Bound
binding z = record { name = codes "x"; value = Const (codes "A") } ∷ record { name = codes "y"; value = Const (codes "B") }
    ∷ record { name = codes "z"; value = z } ∷ []

abbrev told : StepKind → List ℕ → Value → TraceStep
told kind rule z = record { kind = kind; rule = rule; binding = binding z }

abbrev trace : Trace
trace = record {
  instant = pos 3;
  steps = told TgdStep (codes "d") (Null 1) ∷ told EgdStep (codes "e") (Null 1) ∷ told ClashStep (codes "f") (Const (codes "A")) ∷ [];
}

it_is_told : IsProjected rules pool (firing ∷ []) (step 0 (NullTerm null) ∷ []) (step 1 (ConstTerm a)) (pos 3) trace
it_is_told = record {
  instant = refl;
  fired = told TgdStep (codes "d") (Null 1) ∷ [];
  settled = told EgdStep (codes "e") (Null 1) ∷ [];
  clash = told ClashStep (codes "f") (Const (codes "A"));
  steps = refl;
  firings_are = (
    record {
      support = support;
      among = Contains-head support [];
      at = (omega (arith, ints), omega (arith, ints));
      tells = record { kind_is = refl; rule_is = refl; names = refl; told = refl };
    },
    tt,
  );
  journal_is = (record { kind_is = refl; rule_is = refl; names = refl; told = refl }, tt);
  last_is = record { kind_is = refl; rule_is = refl; names = refl; told = refl };
}

it_is_accepted : IsValid rules → IsPool pool → IsAccepted (pool_text pool) rules (renamed_stamped (pool_text pool) source) trace
it_is_accepted valid is_pool =
    projected_are_accepted rules pool source (firing ∷ []) (step 0 (NullTerm null) ∷ []) (step 1 (ConstTerm a)) (pos 3) trace valid is_pool
    it_fails in_pool it_is_told
  where
    in_pool : All (IsInPool pool) (ConstTerm a ∷ ConstTerm b ∷ ConstTerm a ∷ [])
    in_pool = All-cons (IsInPool pool) (ConstTerm a) (ConstTerm b ∷ ConstTerm a ∷ []) (omega arith)
        (All-cons (IsInPool pool) (ConstTerm b) (ConstTerm a ∷ []) (omega arith) (only (IsInPool pool) (ConstTerm a) (omega arith)))

it_passes : IsAccepted (pool_text pool) rules (renamed_stamped (pool_text pool) source) trace
it_passes = passes (pool_text pool) rules (snapshot_at (renamed_stamped (pool_text pool) source) (pos 3)) 1 start trace.steps refl
