-- Which rows are shown, and for which others they stand.
use Rattle.std.proofs.Common.{◌≡◌, ◌⊎◌, ◌↔◌, inl, inr, ℕ, ℤ, negsuc, ◌≤ℤ◌, ◌+◌, ◌-◌, ◌<◌, ◌≤◌, Option, Some, None, Bool, true, false, List, [], ◌∷◌, ◌++◌, length, get_or, refl, sym, ap, ◌∙◌, subst, ⊎_elim, arith, Contains}
use Rattle.std.specs.Prelude.{slice_get}
use Rattle.std.specs.Bool.{IsTrue}
use Rattle.std.specs.Option.{option_map}
use Rattle.std.proofs.lemmas.Bool.{cases_eq, cases_lt}
use Rattle.std.proofs.lemmas.Int.{ints}
use Rattle.std.proofs.lemmas.List.Elements.{All-contains, Contains-append_cases, Contains-append_left, Contains-append_right}
use Rattle.std.proofs.lemmas.Option.{slice_get-get_or}
use Rattle.rule_core.proofs.ListLemmas.{Contains-nil, Contains-head, Contains-cons_cases}
use Rattle.time_line.specs.Span.{Ends, Has, IsWithinLimit}
use Rattle.rule_core.specs.declared.rules.Arg.{Arg}
use Rattle.rule_core.specs.declared.rules.Arg.TheVariants as args
use Rattle.rule_core.specs.declared.rules.Atom.{Atom}
use Rattle.fact_table.specs.declared.fact.RowHead.{RowHead}
use Rattle.fact_table.specs.Rows.{SeenRow, HasCell, row_at, head_at, head_of}
use Rattle.body_match.specs.declared.lookup.Entry.{Entry}
use Rattle.body_match.specs.declared.plan.Plan.{Plan}
use Rattle.body_match.specs.Keys.{IsEntryOf, IsListedUnder, stop_number}
use Rattle.body_match.specs.Index.{Index, ListsRow}
use Rattle.body_match.specs.Plans.{IsSamePlan, AreSamePlans}
use Rattle.body_match.specs.Equality.{Equality, IsLookedAt, IsShownFor}
use Rattle.body_match.specs.Choice.{AreAlikeUnder, AreChosen, AreEnough, AreHidden, AreLooked, FitsSome, IsAlike, IsHidden, IsLooked, IsOn, IsOtherAt, IsStoodFor, MayMark, StandStill, StandsForLess}
use Rattle.body_match.specs.Renewals.{IsLive, LevelsKeepBut, PlansKeepBut, AreListedInEach}
use Rattle.body_match.proofs.ListLemmas.{is_among, at_within, within_from_at, contains_from_at, at_from_contains}
use Rattle.body_match.proofs.SearchLemmas.{and_some, same_some, row_from_head, cell_from_row}

-- a row has as many cells as its head says
pub has_cells : (source : List (Option SeenRow)) (number : ℕ) (head : RowHead) → head_at source number ≡ Some head
    → (column : ℕ) → column < head.arity → HasCell source number column
has_cells source number head e column l =
    let r = row_from_head source number head e in
    and_some (λ (row : SeenRow). column < length row.cells) (row_at source number) r.0 r.1
    (subst (λ n. column < n) (sym (ap (λ (h : RowHead). h.arity) r.2)) l)

module _ (body : List Atom) (looked : List Bool) (source : List (Option SeenRow)) where
  -- a row that is like another fits the body as it does, and is like what that one is like
  alike_fits : (row other : SeenRow) → IsAlike body looked row other → FitsSome body row → FitsSome body other
  alike_fits row other like fits =
      (fits.0, fits.1, record { relation = like.relation ∙ fits.2.relation; arity = like.arity ∙ fits.2.arity })

  alike_twice : (row mid other : SeenRow) → IsAlike body looked row mid → IsAlike body looked mid other → IsAlike body looked row other
  alike_twice row mid other p q = record {
    relation = q.relation ∙ p.relation;
    arity = q.arity ∙ p.arity;
    cells = λ atom column arg c fits at l.
        q.cells atom column arg c (record { relation = p.relation ∙ fits.relation; arity = p.arity ∙ fits.arity }) at l
        ∙ p.cells atom column arg c fits at l;
  }

  -- what stands for a row does so when others stand for what was marked
  pub stood_still : (old new : List Bool) (number : ℕ) → StandStill body looked source old new
      → IsStoodFor body looked source old number → IsStoodFor body looked source new number
  stood_still old new number still h row t e fits has =
      let s = h row t e fits has in
      let again = still s.number s.on s.other t s.there (alike_fits row s.other s.like fits) s.instant in
      record {
        number = again.number;
        other = again.other;
        on = again.on;
        there = again.there;
        like = alike_twice row s.other again.other s.like again.like;
        instant = again.instant;
      }

  -- a row that is marked stands for itself
  pub stands_itself : (marks : List Bool) (number : ℕ) → IsOn marks number → IsStoodFor body looked source marks number
  stands_itself marks number on row t e fits has = record {
    number = number;
    other = row;
    on = on;
    there = e;
    like = record { relation = refl; arity = refl; cells = λ atom column arg c fit a l. refl };
    instant = has;
  }

  -- and another row does where it is like it
  pub other_is_at : (marks : List Bool) (other row : ℕ) (found head : RowHead) → head_at source other ≡ Some found
      → head_at source row ≡ Some head → found.relation ≡ head.relation → found.arity ≡ head.arity
      → ((atom : Atom) → Contains body atom → head.relation ≡ atom.relation → head.arity ≡ length atom.args
      → AreAlikeUnder looked source row other atom)
      → IsOn marks other → ¬ (other ≡ row) → (seen : SeenRow) (t : ℤ) → row_at source row ≡ Some seen → Has found.span t
      → IsOtherAt body looked source marks row seen t
  other_is_at marks other row found head p q relation arity alike on apart seen t e has =
      let o = row_from_head source other found p in
      let r = row_from_head source row head q in
      let h : head_of seen ≡ head =
      ap head_of (same_some (row_at source row) seen r.0 e r.1) ∙ r.2 in
      record {
        at = record {
          number = other;
          other = o.0;
          on = on;
          there = o.1;
          like = record {
            relation = ap (λ (x : RowHead). x.relation) o.2 ∙ relation ∙ sym (ap (λ (x : RowHead). x.relation) h);
            arity = ap (λ (x : RowHead). x.arity) o.2 ∙ arity ∙ sym (ap (λ (x : RowHead). x.arity) h);
            cells = λ atom column arg c fit a l.
                sym (cell_from_row source other column o.0 o.1)
                ∙ alike atom c (sym (ap (λ (x : RowHead). x.relation) h) ∙ fit.relation)
                (sym (ap (λ (x : RowHead). x.arity) h) ∙ fit.arity) column arg a l
                ∙ cell_from_row source row column seen e;
          };
          instant = subst (λ (s : Ends). Has s t) (sym (ap (λ (x : RowHead). x.span) o.2)) has;
        };
        apart = apart;
      }

  -- a row has the span of its head
  pub has_in_head : (number : ℕ) (head : RowHead) (seen : SeenRow) (t : ℤ) → head_at source number ≡ Some head
      → row_at source number ≡ Some seen → Has seen.span t → Has head.span t
  has_in_head number head seen t p e has =
      let r = row_from_head source number head p in
      let h : head_of seen ≡ head = ap head_of (same_some (row_at source number) seen r.0 e r.1) ∙ r.2 in
      subst (λ (s : Ends). Has s t) (ap (λ (x : RowHead). x.span) h) has

  -- others are enough for a row as long as they are marked
  pub enough_after : (old new : List Bool) (number : ℕ) → ((n : ℕ) → ¬ (n ≡ number) → IsOn old n → IsOn new n)
      → AreEnough body looked source old number → IsStoodFor body looked source new number
  enough_after old new number kept enough row t e fits has =
      let o = enough row t e has in
      record {
        number = o.at.number;
        other = o.at.other;
        on = kept o.at.number o.apart o.at.on;
        there = o.at.there;
        like = o.at.like;
        instant = o.at.instant;
      }

  -- no row need stand for one that is not there, or fits no atom
  pub no_row : (marks : List Bool) (number : ℕ) → head_at source number ≡ None → IsStoodFor body looked source marks number
  no_row marks number none row t e fits has =
      let both : Some (head_of row) ≡ None =
      sym (ap (option_map head_of) e) ∙ none in
      absurd cc

  pub fits_none : (marks : List Bool) (number : ℕ) (head : RowHead) → head_at source number ≡ Some head
      → ((atom : Atom) → Contains body atom → ¬ ((head.relation ≡ atom.relation) × (head.arity ≡ length atom.args)))
      → IsStoodFor body looked source marks number
  fits_none marks number head p none row t e fits has =
      let r = row_from_head source number head p in
      let h : head_of row ≡ head = ap head_of (same_some (row_at source number) row r.0 e r.1) ∙ r.2 in
      absurd (none fits.0 fits.1 (
        sym (ap (λ (x : RowHead). x.relation) h) ∙ fits.2.relation,
        sym (ap (λ (x : RowHead). x.arity) h) ∙ fits.2.arity,
      ))

  -- fewer and fewer are marked
  pub less_none : (marks : List Bool) → StandsForLess body looked source marks marks
  less_none marks = record { size = refl; less = λ n on. on; stand = λ n on. stands_itself marks n on }

  pub less_twice : (old mid new : List Bool) → StandsForLess body looked source old mid → StandsForLess body looked source mid new
      → StandsForLess body looked source old new
  less_twice old mid new p q = record {
    size = q.size ∙ p.size;
    less = λ n on. p.less n (q.less n on);
    stand = λ n on. stood_still mid new n q.stand (p.stand n on);
  }

  pub less_one : (row : ℕ) (old new : List Bool) (list longer : List ℕ) → IsHidden row old new list longer
      → AreEnough body looked source old row → StandsForLess body looked source old new
  less_one row old new list longer h enough = record {
    size = h.size;
    less = h.less;
    stand = λ n on. ⊎_elim
        (λ (same : n ≡ row). subst (IsStoodFor body looked source new) (sym same) (enough_after old new row h.others enough))
        (λ (differ : ¬ (n ≡ row)). stands_itself new n (h.others n differ on))
        (cases_eq n row);
  }

  -- no row or one is marked too, and then others no more
  pub none_marked : (row : ℕ) (marks : List Bool) → MayMark body looked source row marks marks
  none_marked row marks = record { size = refl; on = λ n on. inl on; stand = λ n on. stands_itself marks n on }

  pub one_marked : (row : ℕ) (old mid new : List Bool) → length mid ≡ length old → ((n : ℕ) → IsOn old n → IsOn mid n)
      → ((n : ℕ) → IsOn mid n → IsOn old n ⊎ (n ≡ row)) → StandsForLess body looked source mid new
      → MayMark body looked source row old new
  one_marked row old mid new size kept on h = record {
    size = h.size ∙ size;
    on = λ n o. on n (h.less n o);
    stand = λ n o. h.stand n (kept n o);
  }

  -- rows chosen so far
  pub none_chosen : (rows : List ℕ) (marks : List Bool) → AreChosen body looked source rows marks marks 0
  none_chosen rows marks = record {
    size = refl;
    on = λ n on. inl on;
    still = λ n on. stands_itself marks n on;
    stand = λ k n l. absurd (omega (arith, l));
  }

  pub one_chosen : (rows : List ℕ) (first now new : List Bool) (at row : ℕ) → slice_get rows at ≡ Some row
      → MayMark body looked source row now new → IsStoodFor body looked source new row
      → AreChosen body looked source rows first now at → AreChosen body looked source rows first new (at + 1)
  one_chosen rows first now new at row here marks stood h = record {
    size = marks.size ∙ h.size;
    on = λ n on. ⊎_elim
        (λ (before : IsOn now n). h.on n before)
        (λ (this : n ≡ row). inr (contains_from_at rows at n (here ∙ ap (λ x. Some x) (sym this))))
        (marks.on n on);
    still = λ n on. stood_still now new n marks.stand (h.still n on);
    stand = λ k n l e. ⊎_elim
        (λ (less : k < at). stood_still now new n marks.stand (h.stand k n less e))
        (λ (not : at ≤ k).
        let same : k ≡ at = omega (arith, l, not) in
        let is : row ≡ n = same_some (slice_get rows at) row n here (ap (slice_get rows) (sym same) ∙ e) in
        subst (IsStoodFor body looked source new) is stood)
        (cases_lt k at);
  }

-- what is not looked at need not be the same
module _ (e : Equality) (looked : List Bool) (ok : AreLooked e.index.body e.left e.right looked) where
  looked_at : (arg : Arg) → IsLookedAt e arg → IsLooked looked arg
  looked_at (args.Const c) l = tt
  looked_at (args.Var v) (inl l) = λ off. (ok v off).0 l
  looked_at (args.Var v) (inr (inl l)) = λ off. (ok v off).1 l
  looked_at (args.Var v) (inr (inr l)) = λ off. (ok v off).2 l

  pub shown_for : (source : List (Option SeenRow)) (number : ℕ) → IsStoodFor e.index.body looked source e.shown number
      → IsShownFor e source number
  shown_for source number h row t there fits has =
      let s = h row t there fits has in
      record {
        number = s.number;
        other = s.other;
        shown = s.on;
        there = s.there;
        like = record {
          relation = s.like.relation;
          arity = s.like.arity;
          cells = λ atom column arg c fit a l. s.like.cells atom column arg c fit a (looked_at arg l);
        };
        instant = s.instant;
      }

-- an entry of a row was not dropped
pub live_entry : (source : List (Option SeenRow)) (columns : List ℕ) (number : ℕ) (row : SeenRow) (entry : Entry)
    → IsEntryOf source columns number row entry → IsLive entry
live_entry source columns number row entry h none =
    by_stop row.span.hi h.span.stop (subst (λ (x : ℤ). stop_number row.span.hi ≤ℤ x) none h.to)
  where
    by_stop : (hi : Option ℤ) → IsWithinLimit hi → stop_number hi ≤ℤ negsuc 9223372036854775807 → ⊥
    by_stop None limit l = omega (arith, ints)
    by_stop (Some hi) limit l = let low = limit.0 in omega (arith, ints)

-- rows that are listed stay so where others are dropped
pub listed_but : (gone : List ℕ) (a b : Plan) → IsSamePlan a b → LevelsKeepBut gone a.levels.items b.levels.items
    → (source : List (Option SeenRow)) (number : ℕ) → ¬ (Contains gone number)
    → IsListedUnder a.body a.levels.items source number → IsListedUnder b.body b.levels.items source number
listed_but gone a b same kept source number other listed before atom level some e f row form =
    let old = at_within a.levels.items (before - 1)
    (let l = within_from_at b.levels.items (before - 1) level f in omega (arith, l, same.levels.size)) in
    let h = listed before atom old.0 some (ap (λ atoms. slice_get atoms before) (sym same.body) ∙ e) old.1 row form in
    let columns = same.levels.columns (before - 1) old.0 level old.1 f in
    let entry = h.2 in (
      h.0,
      kept (before - 1) old.0 level old.1 f h.0 h.1 (λ c. other (subst (Contains gone) entry.row c))
          (live_entry source old.0.columns.items number row h.0 entry),
      subst (λ columns. IsEntryOf source columns number row h.0) (sym columns) entry,
    )

module _ (old new : Index) (same : AreSamePlans old.plans new.plans) (gone : List ℕ) (kept : PlansKeepBut gone old.plans new.plans) where
  pub lists_still : (source : List (Option SeenRow)) (number : ℕ) → ¬ (Contains gone number) → ListsRow old source number
      → ListsRow new source number
  lists_still source number other listed k d l =
      let b = slice_get-get_or new.plans k d l in
      let a = at_within old.plans k (omega (arith, l, same.size)) in
      listed_but gone a.0 (get_or new.plans k d) (same.each k a.0 (get_or new.plans k d) a.1 b)
      (kept k a.0 (get_or new.plans k d) a.1 b) source number other
      (All-contains (λ (plan : Plan). IsListedUnder plan.body plan.levels.items source number) old.plans a.0 listed
      (contains_from_at old.plans k a.0 a.1))

pub lists_fresh : (index : Index) (source : List (Option SeenRow)) (fresh : List ℕ) → AreListedInEach index.plans source fresh
    → (number : ℕ) → Contains fresh number → ListsRow index source number
lists_fresh index source fresh listed number c k d l =
    listed k (get_or index.plans k d) (slice_get-get_or index.plans k d l) number c

-- rows hidden so far
pub record AreHiddenSoFar (rows : List ℕ) (old new : List Bool) (list : List ℕ) (first : ℕ) : Type 0 where
  pub off : (k number : ℕ) → k < first → slice_get rows k ≡ Some number → ¬ (IsOn new number)
  pub less : (number : ℕ) → IsOn new number → IsOn old number
  pub others : (number : ℕ) → ¬ (Contains rows number) → IsOn old number → IsOn new number
  pub were : (number : ℕ) → Contains list number → Contains rows number

pub none_hidden : (rows : List ℕ) (marks : List Bool) → AreHiddenSoFar rows marks marks [] 0
none_hidden rows marks = record {
  off = λ k number l. absurd (omega (arith, l));
  less = λ n on. on;
  others = λ n other on. on;
  were = λ n c. absurd (Contains-nil n c);
}

pub one_hidden : (rows : List ℕ) (first now new : List Bool) (list longer : List ℕ) (at row : ℕ) → slice_get rows at ≡ Some row
    → IsHidden row now new list longer → AreHiddenSoFar rows first now list at → AreHiddenSoFar rows first new longer (at + 1)
one_hidden rows first now new list longer at row here this h = record {
  off = λ k n l e on. ⊎_elim
      (λ (before : k < at). h.off k n before e (this.less n on))
      (λ (not : at ≤ k).
      let same : k ≡ at = omega (arith, l, not) in
      let is : row ≡ n = same_some (slice_get rows at) row n here (ap (slice_get rows) (sym same) ∙ e) in
      this.off (subst (IsOn new) (sym is) on))
      (cases_lt k at);
  less = λ n on. h.less n (this.less n on);
  others = λ n other on.
      this.others n (λ same. other (contains_from_at rows at n (here ∙ ap (λ x. Some x) (sym same)))) (h.others n other on);
  were = λ n c. ⊎_elim
      (λ (old : Contains list n). h.were n old)
      (λ (same : n ≡ row). contains_from_at rows at n (here ∙ ap (λ x. Some x) (sym same)))
      (this.added n c);
}

pub all_hidden : (rows : List ℕ) (first now : List Bool) (list : List ℕ) (done : ℕ) → length rows ≤ done
    → AreHiddenSoFar rows first now list done → AreHidden rows first now list
all_hidden rows first now list done whole h = record {
  off = λ n c.
      let k = at_from_contains rows n c in
      let within = within_from_at rows k.0 n k.1 in
      h.off k.0 n (omega (arith, within, whole)) k.1;
  others = λ n other. (h.less n, h.others n other);
  were = h.were;
}

-- the part of a list that is marked
abbrev pub AreShownSoFar : List Bool → List ℕ → List ℕ → ℕ → Type 0
AreShownSoFar marks rows list first = (number : ℕ) → Contains list number
    ↔ ((k : ℕ) × (k < first) × (slice_get rows k ≡ Some number) × IsOn marks number)

pub none_picked : (marks : List Bool) (rows : List ℕ) → AreShownSoFar marks rows [] 0
none_picked marks rows number = (λ c. absurd (Contains-nil number c), λ h. absurd (omega (arith, h.1)))

module _ (marks : List Bool) (rows list : List ℕ) (at row : ℕ) (here : slice_get rows at ≡ Some row) (so : AreShownSoFar marks rows list at) where
  before_this : (number k : ℕ) → k < at + 1 → slice_get rows k ≡ Some number → (k < at) ⊎ (number ≡ row)
  before_this number k l e = ⊎_elim
      (λ (less : k < at). inl less)
      (λ (not : at ≤ k).
      let same : k ≡ at = omega (arith, l, not) in
      inr (same_some (slice_get rows at) number row (ap (slice_get rows) (sym same) ∙ e) here))
      (cases_lt k at)

  pub one_picked : IsOn marks row → AreShownSoFar marks rows (list ++ row ∷ []) (at + 1)
  one_picked on number = (
    λ c. elim (Contains-append_cases list (row ∷ []) number c) [
      | inl d ↦ let h = (so number).0 d in (h.0, omega (arith, h.1), h.2, h.3)
      | inr d ↦ elim (Contains-cons_cases row number [] d) [
        | inl same ↦ (at, omega arith, here ∙ ap (λ x. Some x) same, subst (IsOn marks) same on)
        | inr e ↦ absurd (Contains-nil number e)
      ]
    ],
    λ h. ⊎_elim
        (λ (less : h.0 < at). Contains-append_left list (row ∷ []) number ((so number).1 (h.0, less, h.2, h.3)))
        (λ (same : number ≡ row). Contains-append_right list (row ∷ []) number (subst (Contains (row ∷ [])) (sym same) (Contains-head row [])))
        (before_this number h.0 h.1 h.2),
  )

  pub one_passed : ¬ (IsOn marks row) → AreShownSoFar marks rows list (at + 1)
  one_passed off number = (
    λ c. let h = (so number).0 c in (h.0, omega (arith, h.1), h.2, h.3),
    λ h. ⊎_elim
        (λ (less : h.0 < at). (so number).1 (h.0, less, h.2, h.3))
        (λ (same : number ≡ row). absurd (off (subst (IsOn marks) same h.3)))
        (before_this number h.0 h.1 h.2),
  )

pub all_picked : (marks : List Bool) (rows list : List ℕ) (done : ℕ) → length rows ≤ done → AreShownSoFar marks rows list done
    → (number : ℕ) → Contains list number ↔ (Contains rows number × IsOn marks number)
all_picked marks rows list done whole so number = (
  λ c. let h = (so number).0 c in (contains_from_at rows h.0 number h.2, h.3),
  λ h.
      let k = at_from_contains rows number h.0 in
      let within = within_from_at rows k.0 number k.1 in
      (so number).1 (k.0, omega (arith, within, whole), k.1, h.1),
)

-- what would make a test true, where it is false
pub not_so : {P : Type 0} (b : Bool) → (P → IsTrue b) → b ≡ false → ¬ P
not_so b then off p = let both : true ≡ false = sym (then p) ∙ off in absurd cc

-- what is added is not marked
pub one_not_marked : (marks : List Bool) (first list : List ℕ) (row : ℕ) → ¬ (IsOn marks row)
    → ((number : ℕ) → Contains list number → Contains first number ⊎ ¬ (IsOn marks number))
    → (number : ℕ) → Contains (list ++ row ∷ []) number → Contains first number ⊎ ¬ (IsOn marks number)
one_not_marked marks first list row off so number c = elim (Contains-append_cases list (row ∷ []) number c) [
  | inl d ↦ so number d
  | inr d ↦ elim (Contains-cons_cases row number [] d) [
    | inl same ↦ inr (subst (λ n. ¬ (IsOn marks n)) same off)
    | inr e ↦ absurd (Contains-nil number e)
  ]
]

-- rows taken in: all of them are hidden, then some chosen

module _ (rows gone fresh : List ℕ) (old hidden grown new : List Bool) (off : AreHidden rows old hidden gone)
    (room : (number : ℕ) → IsOn grown number ↔ IsOn hidden number) (body : List Atom) (looked : List Bool)
    (source : List (Option SeenRow)) (chosen : AreChosen body looked source rows grown new (length rows)) where
  -- a row that is shown was, and is none of them, or is one of them
  pub taken_from : (number : ℕ) → IsOn new number → (¬ (Contains rows number) × IsOn old number) ⊎ Contains rows number
  taken_from number on = ⊎_elim
      (λ (before : IsOn grown number).
      let still = (room number).0 before in
      let not : ¬ (Contains rows number) = λ c. off.off number c still in
      inl (not, (off.others number not).0 still))
      (λ (c : Contains rows number). inr c)
      (chosen.on number on)

  pub taken_others : (number : ℕ) → IsOn new number → IsOn old number ⊎ Contains rows number
  taken_others number on = ⊎_elim
      (λ (h : ¬ (Contains rows number) × IsOn old number). inl h.1)
      (λ (c : Contains rows number). inr c)
      (taken_from number on)

  pub taken_listed : (dropped : List ℕ) → ((number : ℕ) → Contains dropped number → Contains gone number ⊎ ¬ (IsOn new number))
      → ((number : ℕ) → Contains fresh number ↔ (Contains rows number × IsOn new number))
      → (before after : Index) → AreSamePlans before.plans after.plans → PlansKeepBut dropped before.plans after.plans
      → AreListedInEach after.plans source fresh
      → ((number : ℕ) → ¬ (Contains rows number) → IsOn old number → ListsRow before source number)
      → (number : ℕ) → IsOn new number → ListsRow after source number
  taken_listed dropped drops picked before after same kept listed lists number on = ⊎_elim
      (λ (h : ¬ (Contains rows number) × IsOn old number).
      lists_still before after same dropped kept source number
      (λ c. ⊎_elim
      (λ (d : Contains gone number). h.0 (off.were number d))
      (λ (out : ¬ (IsOn new number)). out on)
      (drops number c))
      (lists number h.0 h.1))
      (λ (c : Contains rows number). lists_fresh after source fresh listed number ((picked number).1 (c, on)))
      (taken_from number on)

  stand_of_rows : (number : ℕ) → Contains rows number → IsStoodFor body looked source new number
  stand_of_rows number c =
      let k = at_from_contains rows number c in
      chosen.stand k.0 number (within_from_at rows k.0 number k.1) k.1

  pub taken_stand : (number : ℕ) → Contains rows number ⊎ IsOn old number → IsStoodFor body looked source new number
  taken_stand number (inl c) = stand_of_rows number c
  taken_stand number (inr on) = ⊎_elim
      (λ (c : Contains rows number). stand_of_rows number c)
      (λ (not : ¬ (Contains rows number)). chosen.still number ((room number).1 ((off.others number not).1 on)))
      (is_among rows number)
