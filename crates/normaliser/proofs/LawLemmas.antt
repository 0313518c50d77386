-- What the pieces of a table hold, and that rows of them that match have one span.
use Rattle.std.proofs.Common.{◌≡◌, ◌⊎◌, ℕ, zero, suc, ℤ, pos, ◌≤ℤ◌, ◌<ℤ◌, ◌-ℤ◌, Bool, true, false, Option, Some, None, List, [], ◌∷◌, ◌++◌, map, refl, sym, ap, ◌∙◌, subst, inl, inr, ⊎_elim, rules, arith, All, Contains, slice_get}
use Rattle.std.specs.Prelude.{IsSomeAnd}
use Rattle.std.specs.List.{AllZip}
use Rattle.std.specs.declared.cmp.Ordering.{Ordering}
use Rattle.std.specs.declared.cmp.Ordering.TheVariants.{Less, Equal, Greater}
use Rattle.std.proofs.lemmas.Cmp.{tied_itself}
use Rattle.std.proofs.lemmas.Int.{ints, by_lt_z}
use Rattle.std.proofs.lemmas.List.Elements.{All-nil, All-cons, All-head, All-tail, All-contains, Contains-append_left, Contains-append_right}
use Rattle.time_line.specs.Span.{Ends, IsFrom, IsBefore, Has, IsInside, span_cmp}
use Rattle.time_line.specs.SpanOrder.{span_cmp-total}
use Rattle.term_core.specs.declared.const_id.ConstId.{ConstId}
use Rattle.term_core.specs.declared.term.Seen.{Seen}
use Rattle.term_core.specs.declared.term.Seen.TheVariants.{Const}
use Rattle.rule_core.specs.declared.rules.Arg.{Arg}
use Rattle.rule_core.specs.declared.rules.Atom.{Atom}
use Rattle.rule_core.specs.Mapping.{RuleSet}
use Rattle.rule_core.proofs.ListLemmas.{Contains-head, Contains-cons, Contains-cons_cases, Contains-nil, same_strict_lists}
use Rattle.rule_core.proofs.SnapshotLemmas.{Decides-has}
use Rattle.rule_core.specs.Snapshot.{has}
use Rattle.fact_table.specs.declared.fact.Fact.{Fact}
use Rattle.fact_table.specs.Facts.{fact_cmp}
use Rattle.fact_table.specs.Rows.{SeenRow, row_at, row_of, rows_of}
use Rattle.fact_table.proofs.OrderLemmas.{fact_cmp-total, fact_cmp-IsAntisymmetric}
use Rattle.body_match.specs.Matches.{seen_value, IsImage, IsImageAt, HoldsAt}
use Rattle.body_match.proofs.ListLemmas.{contains_from_at, at_from_contains}
use Rattle.body_match.proofs.SearchLemmas.{some_and, and_some, same_some}
use Rattle.normaliser.specs.Normalised.{HaveSameSnapshots, AreEqualInTime, AreDisjointInTime, IsEqualOrDisjoint, AreJoined, IsEndOf, IsEndInGroup, IsPartOf, IsPieceOf, IsNormalised}
use Rattle.normaliser.specs.Normalised.Reaches.{here, step}
use Rattle.normaliser.proofs.InsideLemmas.{IsFrom-later, IsBefore-earlier, inside_whole, same_span}
use Rattle.normaliser.proofs.GroupLemmas.{fact_at, row_from_fact, row_there}
use Rattle.normaliser.proofs.SnapshotLemmas.{snapshot_moves}

-- what isn't refuted, step by step
abbrev Unrefuted : Type 0 → Type 0
Unrefuted A = ¬ (¬ A)

known : {A : Type 0} → A → Unrefuted A
known a f = f a

next : {A B : Type 0} → Unrefuted A → (A → Unrefuted B) → Unrefuted B
next a f g = a (λ x. f x g)

-- whether an instant is strictly inside is a test
inside_or_not : (s : Ends) (m : ℤ) → IsInside s m ⊎ ¬ (IsInside s m)
inside_or_not s m = by_tests (has s m) (has s (m -ℤ pos 1)) refl refl
  where
    by_tests : (a b : Bool) → has s m ≡ a → has s (m -ℤ pos 1) ≡ b → IsInside s m ⊎ ¬ (IsInside s m)
    by_tests true true p q = inl ((Decides-has s m).0 p, (Decides-has s (m -ℤ pos 1)).0 q)
    by_tests false b p q = inr (λ h. let up : has s m ≡ true = (Decides-has s m).1 h.0 in absurd cc)
    by_tests true false p q = inr (λ h. let up : has s (m -ℤ pos 1) ≡ true = (Decides-has s (m -ℤ pos 1)).1 h.1 in absurd cc)

-- an instant of a span is in a part of it
module _ (cuts : ℤ → Type 0) (span : Ends) (t : ℤ) where
  -- the part isn't cut by the first of some ends
  record IsCutBy (ends : List ℤ) (part : Ends) : Type 0 where
    pub at : Has part t
    pub within : (u : ℤ) → Has part u → Has span u
    pub bounds : (m : ℤ) → IsEndOf part m → IsEndOf span m ⊎ cuts m
    pub uncut : (m : ℤ) → Contains ends m → cuts m → ¬ (IsInside part m)

  not_inside : (ends : List ℤ) (part : Ends) (m : ℤ) → IsCutBy ends part → (cuts m → ¬ (IsInside part m)) → IsCutBy (m ∷ ends) part
  not_inside ends part m h out = record {
    at = h.at;
    within = h.within;
    bounds = h.bounds;
    uncut = λ k c d. ⊎_elim
        (λ (e : m ≡ k). subst (λ n. ¬ (IsInside part n)) e (out (subst cuts (sym e) d)))
        (λ (c' : Contains ends k). h.uncut k c' d)
        (Contains-cons_cases m k ends c);
  }

  -- the side of an end on which the instant is
  cut_at : (ends : List ℤ) (part : Ends) (m : ℤ) → IsCutBy ends part → cuts m → IsInside part m → (side : Ends) × IsCutBy (m ∷ ends) side
  cut_at ends part m h c i = by_lt_z t m
      (λ (l : t <ℤ m). (
        record { lo = part.lo; hi = Some m },
        record {
          at = (h.at.0, l);
          within = λ u k. h.within u (k.0, before_stop u k.1);
          bounds = λ n e. ⊎_elim (λ x. h.bounds n (inl x)) (λ (x : Some m ≡ Some n). let same : m ≡ n = cc in inr (subst cuts same c)) e;
          uncut = λ k d f j. ⊎_elim
              (λ (e : m ≡ k). let late : k <ℤ m = j.0.1 in omega (arith, ints, late, e))
              (λ (d' : Contains ends k). h.uncut k d' f (inside_whole (record { lo = part.lo; hi = Some m }) part (λ u x. (x.0, before_stop u x.1)) k j))
              (Contains-cons_cases m k ends d);
        },
      ))
      (λ (g : m ≤ℤ t). (
        record { lo = Some m; hi = part.hi },
        record {
          at = (g, h.at.1);
          within = λ u k. h.within u (from_start u k.0, k.1);
          bounds = λ n e. ⊎_elim (λ (x : Some m ≡ Some n). let same : m ≡ n = cc in inr (subst cuts same c)) (λ x. h.bounds n (inr x)) e;
          uncut = λ k d f j. ⊎_elim
              (λ (e : m ≡ k). let early : m ≤ℤ (k -ℤ pos 1) = j.1.0 in omega (arith, ints, early, e))
              (λ (d' : Contains ends k). h.uncut k d' f (inside_whole (record { lo = Some m; hi = part.hi }) part (λ u x. (from_start u x.0, x.1)) k j))
              (Contains-cons_cases m k ends d);
        },
      ))
    where
      before_stop : (u : ℤ) → u <ℤ m → IsBefore part.hi u
      before_stop u l = IsBefore-earlier part.hi u m (omega (arith, ints, l)) i.0.1

      from_start : (u : ℤ) → m ≤ℤ u → IsFrom part.lo u
      from_start u l = IsFrom-later part.lo m u l i.0.0

  cut_by_all : (ends : List ℤ) → Has span t → Unrefuted ((part : Ends) × IsCutBy ends part)
  cut_by_all [] at = known (
    span,
    record {
      at = at;
      within = λ u h. h;
      bounds = λ m e. inl e;
      uncut = λ m c. absurd (Contains-nil m c);
    },
  )
  cut_by_all (m ∷ ends) at = next (cut_by_all ends at) (λ h. next (either (cuts m)) (λ d. known (by d h.0 h.1)))
    where
      either : (A : Type 0) → Unrefuted (A ⊎ ¬ A)
      either A f = f (inr (λ a. f (inl a)))

      by : cuts m ⊎ ¬ (cuts m) → (part : Ends) → IsCutBy ends part → (side : Ends) × IsCutBy (m ∷ ends) side
      by (inl c) part h = ⊎_elim
          (λ (i : IsInside part m). cut_at ends part m h c i)
          (λ (o : ¬ (IsInside part m)). (part, not_inside ends part m h (λ _. o)))
          (inside_or_not part m)
      by (inr o) part h = (part, not_inside ends part m h (λ c. absurd (o c)))

  pub part_at : (ends : List ℤ) → ((m : ℤ) → cuts m → Contains ends m) → Has span t → Unrefuted ((part : Ends) × IsPartOf cuts span part × Has part t)
  part_at ends listed at = next (cut_by_all ends at) (λ h. known (
    h.0,
    record {
      instant = (t, h.1.at);
      within = h.1.within;
      bounds = h.1.bounds;
      uncut = λ m c. h.1.uncut m (listed m c) c;
    },
    h.1.at,
  ))

-- whether two spans are the same is a test
same_span_or_not : (a b : Ends) → (a ≡ b) ⊎ (a ≡ b → ⊥)
same_span_or_not a b = by_order (span_cmp a b) refl
  where
    differs : (o : Ordering) → span_cmp a b ≡ o → (o ≡ Equal → ⊥) → a ≡ b → ⊥
    differs o e other same = other (sym e ∙ subst (λ (s : Ends). span_cmp a s ≡ Equal) same (tied_itself span_cmp-total a))

    by_order : (o : Ordering) → span_cmp a b ≡ o → (a ≡ b) ⊎ (a ≡ b → ⊥)
    by_order Less e = inr (differs Less e (λ h. cc))
    by_order Greater e = inr (differs Greater e (λ h. cc))
    by_order Equal e = inl (search rules)

-- the ends of all facts
one_end : Option ℤ → List ℤ
one_end None = []
one_end (Some m) = m ∷ []

abbrev ends_of : List Fact → List ℤ
ends_of [] = []
ends_of (f ∷ fs) = (one_end f.span.lo ++ one_end f.span.hi) ++ ends_of fs

one_listed : (end : Option ℤ) (m : ℤ) → end ≡ Some m → Contains (one_end end) m
unfolding one_end
one_listed None m e = absurd cc
one_listed (Some k) m e = let same : k ≡ m = cc in subst (Contains (k ∷ [])) same (Contains-head k [])

end_listed : (facts : List Fact) (n : ℕ) (fact : Fact) (m : ℤ) → slice_get facts n ≡ Some fact → IsEndOf fact.span m → Contains (ends_of facts) m
end_listed [] n fact m e h = absurd cc
end_listed (f ∷ fs) zero fact m e h =
    let same : f ≡ fact = cc in
    Contains-append_left (one_end f.span.lo ++ one_end f.span.hi) (ends_of fs) m
    (of_this (subst (λ (g : Fact). IsEndOf g.span m) (sym same) h))
  where
    of_this : IsEndOf f.span m → Contains (one_end f.span.lo ++ one_end f.span.hi) m
    of_this (inl x) = Contains-append_left (one_end f.span.lo) (one_end f.span.hi) m (one_listed f.span.lo m x)
    of_this (inr x) = Contains-append_right (one_end f.span.lo) (one_end f.span.hi) m (one_listed f.span.hi m x)
end_listed (f ∷ fs) (suc n) fact m e h =
    Contains-append_right (one_end f.span.lo ++ one_end f.span.hi) (ends_of fs) m (end_listed fs n fact m e h)

-- whether some piece with the row of a fact has an instant is a test
abbrev IsHeldBy : List Fact → Fact → ℤ → Type 0
IsHeldBy pieces fact t = (p : Fact) × Contains pieces p × (p.relation ≡ fact.relation) × (p.row ≡ fact.row) × Has p.span t

abbrev over_span : Fact → Ends → Fact
over_span fact span = record { relation = fact.relation; row = fact.row; span = span }

held_or_not : (pieces : List Fact) (fact : Fact) (t : ℤ) → IsHeldBy pieces fact t ⊎ ¬ (IsHeldBy pieces fact t)
held_or_not [] fact t = inr (λ h. Contains-nil h.0 h.1)
held_or_not (p ∷ ps) fact t = by (fact_cmp (over_span fact p.span) p) (has p.span t) refl refl (held_or_not ps fact t)
  where
    there : IsHeldBy ps fact t → IsHeldBy (p ∷ ps) fact t
    there h = (h.0, Contains-cons p h.0 ps h.1, h.2, h.3, h.4)

    ties : p.relation ≡ fact.relation → p.row ≡ fact.row → fact_cmp (over_span fact p.span) p ≡ Equal
    ties r s =
        let same : p ≡ over_span fact p.span = λ i. record { relation = r i; row = s i; span = p.span } in
        subst (λ (q : Fact). fact_cmp (over_span fact p.span) q ≡ Equal) (sym same) (tied_itself fact_cmp-total (over_span fact p.span))

    other : ¬ ((p.relation ≡ fact.relation) × (p.row ≡ fact.row) × Has p.span t) → IsHeldBy ps fact t ⊎ ¬ (IsHeldBy ps fact t)
        → IsHeldBy (p ∷ ps) fact t ⊎ ¬ (IsHeldBy (p ∷ ps) fact t)
    other none (inl h) = inl (there h)
    other none (inr f) = inr (λ h. ⊎_elim
        (λ (e : p ≡ h.0). none (
          ap (λ (q : Fact). q.relation) e ∙ h.2,
          ap (λ (q : Fact). q.row) e ∙ h.3,
          subst (λ (q : Fact). Has q.span t) (sym e) h.4,
        ))
        (λ (d : Contains ps h.0). f (h.0, d, h.2, h.3, h.4))
        (Contains-cons_cases p h.0 ps h.1))

    by : (o : Ordering) (b : Bool) → fact_cmp (over_span fact p.span) p ≡ o → has p.span t ≡ b → IsHeldBy ps fact t ⊎ ¬ (IsHeldBy ps fact t)
        → IsHeldBy (p ∷ ps) fact t ⊎ ¬ (IsHeldBy (p ∷ ps) fact t)
    by Less b e d rest = other (λ h. let same = ties h.0 h.1 in absurd cc) rest
    by Greater b e d rest = other (λ h. let same = ties h.0 h.1 in absurd cc) rest
    by Equal true e d rest =
        let same = fact_cmp-IsAntisymmetric (over_span fact p.span) p e in
        inl (p, Contains-head p ps, sym (ap (λ (q : Fact). q.relation) same), sym (ap (λ (q : Fact). q.row) same), (Decides-has p.span t).0 d)
    by Equal false e d rest = other (λ h. let up : has p.span t ≡ true = (Decides-has p.span t).1 h.2 in absurd cc) rest

module _ (mapping : RuleSet) (table pieces : List Fact) (norm : IsNormalised mapping table pieces) where
  abbrev cuts_at : ℕ → ℤ → Type 0
  cuts_at place = IsEndInGroup mapping table place

  -- each piece is one of a fact, and each fact is held by pieces
  piece_of : (piece : Fact) → Contains pieces piece
      → (place : ℕ) × (fact : Fact) × (slice_get table place ≡ Some fact) × IsPieceOf (cuts_at place) fact piece
  piece_of piece c =
      let h = (norm.exact piece).0 c in
      let s = some_and (λ (f : Fact). IsPieceOf (cuts_at h.0) f piece) (slice_get table h.0) h.1 in
      (h.0, s.0, s.1, s.2)

  held : (fact : Fact) (t : ℤ) → Contains table fact → Has fact.span t → IsHeldBy pieces fact t
  held fact t c h = ⊎_elim (λ x. x) (λ (f : ¬ (IsHeldBy pieces fact t)). absurd (found (λ x. f x))) (held_or_not pieces fact t)
    where
      listed : (place : ℕ) (m : ℤ) → cuts_at place m → Contains (ends_of table) m
      listed place m e =
          let s = some_and (λ (f : Fact). IsEndOf f.span m) (slice_get table e.0) e.2 in
          end_listed table e.0 s.0 m s.1 s.2

      found : Unrefuted (IsHeldBy pieces fact t)
      found =
          let at = at_from_contains table fact c in
          next (part_at (cuts_at at.0) fact.span t (ends_of table) (listed at.0) h) (λ p.
          known (
            over_span fact p.0,
            (norm.exact (over_span fact p.0)).1 (
              at.0,
              and_some (λ (f : Fact). IsPieceOf (cuts_at at.0) f (over_span fact p.0)) (slice_get table at.0) fact at.1
                  (record { relation = refl; row = refl; part = p.1 }),
            ),
            refl,
            refl,
            p.2,
          ))

  pub same_snapshots : HaveSameSnapshots table pieces
  same_snapshots t fact = (
    snapshot_moves table pieces t (λ relation row h.
        let p = held h.1 t (h.0, h.2, h.3) h.4.2 in
        (p.1.0, p.0, p.1.1, p.1.2, (p.2 ∙ h.4.0, p.3 ∙ h.4.1, p.4))) fact,
    snapshot_moves pieces table t (λ relation row h.
        let p = piece_of h.1 (h.0, h.2, h.3) in
        let c = contains_from_at table p.0 p.1 p.2 in
        (c.0, p.1, c.1, c.2, (sym p.3.relation ∙ h.4.0, sym p.3.row ∙ h.4.1, p.3.part.within t h.4.2))) fact,
  )

  -- the fact of a piece at a place, and the places of the facts of all pieces of a match
  abbrev IsMadeOf : ℕ → ℕ → Type 0
  IsMadeOf number place = (piece : Fact) × (fact : Fact) × (slice_get pieces number ≡ Some piece) × (slice_get table place ≡ Some fact)
      × IsPieceOf (cuts_at place) fact piece

  from_image : (value : Arg → Option Seen) (atom : Atom) (t : ℤ) (n : ℕ) → IsImageAt (rows_of pieces) value atom n → HoldsAt (rows_of pieces) t n
      → (place : ℕ) × IsMadeOf n place × IsImageAt (rows_of table) value atom place × HoldsAt (rows_of table) t place
  from_image value atom t n image holds =
      let row = some_and (IsImage value atom) (row_at (rows_of pieces) n) image in
      let at = some_and (λ (r : SeenRow). Has r.span t) (row_at (rows_of pieces) n) holds in
      let piece = fact_at pieces n row.0 row.1 in
      let p = piece_of piece.0 (contains_from_at pieces n piece.0 piece.1) in
      let shown = row_from_fact table p.0 p.1 p.2 in
      let whole = subst (IsImage value atom) (sym piece.2) row.2 in
      let same_at = same_some (row_at (rows_of pieces) n) at.0 row.0 at.1 row.1 in
      let has_piece = subst (λ (r : SeenRow). Has r.span t) (same_at ∙ sym piece.2) at.2 in (
        p.0,
        (piece.0, p.1, piece.1, p.2, p.3),
        and_some (IsImage value atom) (row_at (rows_of table) p.0) (row_of p.1) shown (record {
          relation = sym p.3.relation ∙ whole.relation;
          cells = ap (λ (r : List ConstId). map Some (map Const r)) (sym p.3.row) ∙ whole.cells;
        }),
        and_some (λ (r : SeenRow). Has r.span t) (row_at (rows_of table) p.0) (row_of p.1) shown (p.3.part.within t has_piece),
      )

  places_of : (value : Arg → Option Seen) (t : ℤ) (body : List Atom) (numbers : List ℕ) → AllZip (IsImageAt (rows_of pieces) value) body numbers
      → All (HoldsAt (rows_of pieces) t) numbers
      → (places : List ℕ) × AllZip IsMadeOf numbers places × AllZip (IsImageAt (rows_of table) value) body places × All (HoldsAt (rows_of table) t) places
  places_of value t [] [] z all = ([], tt, tt, All-nil (HoldsAt (rows_of table) t))
  places_of value t [] (n ∷ ns) z all = absurd z
  places_of value t (a ∷ as') [] z all = absurd z
  places_of value t (a ∷ as') (n ∷ ns) z all =
      let first = from_image value a t n z.0 (All-head (HoldsAt (rows_of pieces) t) n ns all) in
      let rest = places_of value t as' ns z.1 (All-tail (HoldsAt (rows_of pieces) t) n ns all) in (
        first.0 ∷ rest.0,
        (first.1, rest.1),
        (first.2, rest.2),
        All-cons (HoldsAt (rows_of table) t) first.0 rest.0 first.3 rest.3,
      )

  place_for : (numbers places : List ℕ) → AllZip IsMadeOf numbers places → (n : ℕ) → Contains numbers n → (place : ℕ) × Contains places place × IsMadeOf n place
  place_for [] [] z n c = absurd (Contains-nil n c)
  place_for [] (p ∷ ps) z n c = absurd z
  place_for (m ∷ ms) [] z n c = absurd z
  place_for (m ∷ ms) (p ∷ ps) z n c = ⊎_elim
      (λ (e : m ≡ n). (p, Contains-head p ps, subst (λ k. IsMadeOf k p) e z.0))
      (λ (d : Contains ms n). let h = place_for ms ps z.1 n d in (h.0, Contains-cons p h.0 ps h.1, h.2))
      (Contains-cons_cases m n ms c)

  -- pieces of facts of one group that hold together have one span
  same_in_group : (a b : ℕ) → AreJoined mapping table a b → (f g p q : Fact) → slice_get table a ≡ Some f → slice_get table b ≡ Some g
      → IsPieceOf (cuts_at a) f p → IsPieceOf (cuts_at b) g q → (t : ℤ) → Has p.span t → Has q.span t → p.span ≡ q.span
  same_in_group a b joined f g p q at_a at_b in_a in_b t has_p has_q =
      same_span p.span q.span t has_p has_q
      (λ m e. in_a.part.uncut m (moved joined m (end_in_group b g q at_b in_b m e)))
      (λ m e. in_b.part.uncut m (moved (back joined) m (end_in_group a f p at_a in_a m e)))
    where
      back : AreJoined mapping table a b → AreJoined mapping table b a
      back h = record { tgd = h.tgd; numbers = h.numbers; rule = h.rule; fits = h.fits; meet = h.meet; uses = (h.uses.1, h.uses.0) }

      moved : {x y : ℕ} → AreJoined mapping table x y → (m : ℤ) → cuts_at y m → cuts_at x m
      moved h m e = (e.0, step h e.1, e.2)

      end_in_group : (place : ℕ) (fact piece : Fact) → slice_get table place ≡ Some fact → IsPieceOf (cuts_at place) fact piece → (m : ℤ)
          → IsEndOf piece.span m → cuts_at place m
      end_in_group place fact piece at part m e = ⊎_elim
          (λ (x : IsEndOf fact.span m). (place, here, and_some (λ (k : Fact). IsEndOf k.span m) (slice_get table place) fact at x))
          (λ x. x)
          (part.part.bounds m e)

  -- whether rows have the span of the first of them is a test
  abbrev IsOver : Ends → ℕ → Type 0
  IsOver span n = IsSomeAnd (row_at (rows_of pieces) n) (λ row. row.span ≡ span)

  abbrev IsOther : Ends → List ℕ → Type 0
  IsOther span numbers = (n : ℕ) × (row : SeenRow) × Contains numbers n × (row_at (rows_of pieces) n ≡ Some row) × (row.span ≡ span → ⊥)

  over_or_other : (span : Ends) (numbers : List ℕ) → ((n : ℕ) → Contains numbers n → (row : SeenRow) × (row_at (rows_of pieces) n ≡ Some row))
      → All (IsOver span) numbers ⊎ IsOther span numbers
  over_or_other span [] there = inl (All-nil (IsOver span))
  over_or_other span (n ∷ ns) there =
      let row = there n (Contains-head n ns) in
      ⊎_elim
      (λ (e : row.0.span ≡ span). ⊎_elim
      (λ (all : All (IsOver span) ns). inl (All-cons (IsOver span) n ns
      (and_some (λ (r : SeenRow). r.span ≡ span) (row_at (rows_of pieces) n) row.0 row.1 e) all))
      (λ (h : IsOther span ns). inr (h.0, h.1, Contains-cons n h.0 ns h.2, h.3, h.4))
      (over_or_other span ns (λ k c. there k (Contains-cons n k ns c))))
      (λ (d : row.0.span ≡ span → ⊥). inr (n, row.0, Contains-head n ns, row.1, d))
      (same_span_or_not row.0.span span)

  pub equal_or_disjoint : IsEqualOrDisjoint mapping pieces
  equal_or_disjoint tgd numbers c fits = by numbers fits.1 (row_there (rows_of pieces) (seen_value fits.0) tgd.body numbers fits.1)
    where
      apart : (numbers : List ℕ) → AllZip (IsImageAt (rows_of pieces) (seen_value fits.0)) tgd.body numbers → (n : ℕ) (first : SeenRow)
          → Contains numbers n → row_at (rows_of pieces) n ≡ Some first → IsOther first.span numbers → AreDisjointInTime (rows_of pieces) numbers
      apart numbers z n first in_n at other t all =
          let places = places_of (seen_value fits.0) t tgd.body numbers z all in
          let a = place_for numbers places.0 places.1 n in_n in
          let b = place_for numbers places.0 places.1 other.0 other.2 in
          let joined : AreJoined mapping table a.0 b.0 = record {
            tgd = tgd;
            numbers = places.0;
            rule = c;
            fits = (fits.0, places.2);
            meet = (t, places.3);
            uses = (a.1, b.1);
          } in
          let row_a = same_row_of n a.2.0 first a.2.2 at in
          let row_b = same_row_of other.0 b.2.0 other.1 b.2.2 other.3 in
          let has_a = has_of n a.2.0 t a.2.2 (All-contains (HoldsAt (rows_of pieces) t) numbers n all in_n) in
          let has_b = has_of other.0 b.2.0 t b.2.2 (All-contains (HoldsAt (rows_of pieces) t) numbers other.0 all other.2) in
          let same = same_in_group a.0 b.0 joined a.2.1 b.2.1 a.2.0 b.2.0 a.2.3 b.2.3 a.2.4 b.2.4 t has_a has_b in
          other.4 (ap (λ (r : SeenRow). r.span) (sym row_b) ∙ sym same ∙ ap (λ (r : SeenRow). r.span) row_a)
        where
          same_row_of : (n : ℕ) (piece : Fact) (row : SeenRow) → slice_get pieces n ≡ Some piece → row_at (rows_of pieces) n ≡ Some row → row_of piece ≡ row
          same_row_of n piece row p e = same_some (row_at (rows_of pieces) n) (row_of piece) row (row_from_fact pieces n piece p) e

          has_of : (n : ℕ) (piece : Fact) (t : ℤ) → slice_get pieces n ≡ Some piece → HoldsAt (rows_of pieces) t n → Has piece.span t
          has_of n piece t p h =
              let s = some_and (λ (r : SeenRow). Has r.span t) (row_at (rows_of pieces) n) h in
              subst (λ (r : SeenRow). Has r.span t) (sym (same_row_of n piece s.0 p s.1)) s.2

      by : (numbers : List ℕ) → AllZip (IsImageAt (rows_of pieces) (seen_value fits.0)) tgd.body numbers
          → ((n : ℕ) → Contains numbers n → (row : SeenRow) × (row_at (rows_of pieces) n ≡ Some row))
          → AreEqualInTime (rows_of pieces) numbers ⊎ AreDisjointInTime (rows_of pieces) numbers
      by [] z there = inl (record { lo = None; hi = None }, All-nil (IsOver (record { lo = None; hi = None })))
      by (n ∷ ns) z there =
          let row = there n (Contains-head n ns) in
          ⊎_elim
          (λ (all : All (IsOver row.0.span) (n ∷ ns)). inl (row.0.span, all))
          (λ (other : IsOther row.0.span (n ∷ ns)). inr (apart (n ∷ ns) z n row.0 (Contains-head n ns) row.1 other))
          (over_or_other row.0.span (n ∷ ns) there)

-- there is one normalised table
pub one_normalised : (mapping : RuleSet) (table a b : List Fact) → IsNormalised mapping table a → IsNormalised mapping table b → a ≡ b
one_normalised mapping table a b p q =
    same_strict_lists fact_cmp fact_cmp-total a b p.order q.order
    (λ piece c. (q.exact piece).1 ((p.exact piece).0 c)) (λ piece c. (p.exact piece).1 ((q.exact piece).0 c))
