-- What appending to the text of an `EntryLog` does to its entries.
use Rattle.std.proofs.Common.{◌≡◌, ℕ, true, false, Some, eqb, nat_cmp, ◌+◌, ◌-◌, ◌≤◌, List, [], ◌∷◌, ◌++◌, length, map, take, drop, refl, ap, ◌∙◌, All, slice_range, arith, length-append, length-drop, append_assoc}
use Rattle.std.proofs.lemmas.List.{take-append-le, drop-append-le, take_all}
use Rattle.std.proofs.lemmas.List.Elements.{All-head, All-tail}
use Rattle.std.proofs.Math.Seq.{drop-append_seam}
use Rattle.std.proofs.lemmas.Map.Text.{is_eq-slice_cmp}
use Rattle.std.proofs.lemmas.Cmp.{nat_list_cmp_total}
use Rattle.std.specs.Cmp.Lexicographic.{slice_cmp}
use Rattle.std.specs.FinMap.{insert, get, find, get-from_entries}
use lib.Pointwise.{pointwise}
use Rattle.shelf_core.specs.declared.entry_log.Place.{Place}
use Rattle.shelf_core.specs.Layout.{IsInText, entry_at, entries_at}

-- a part of the text is the same after more is appended
pub slice_range-append : (xs ys : List ℕ) (i j : ℕ) → i ≤ j → j ≤ length xs → slice_range (xs ++ ys) i j ≡ slice_range xs i j
slice_range-append xs ys i j ordered within =
    let start : i ≤ length xs = omega arith in
    let size : j - i ≤ length (drop i xs) = simp length-drop (omega arith) in
    ap (take (j - i)) (drop-append-le i xs ys start) ∙ take-append-le (j - i) (drop i xs) ys size

-- the part that was appended last
pub slice_range-appended : (xs ys : List ℕ) (i j : ℕ) → i ≡ length xs → j ≡ i + length ys → slice_range (xs ++ ys) i j ≡ ys
slice_range-appended xs ys i j start end =
    ap (λ n. take (j - i) (drop n (xs ++ ys))) start ∙ ap (take (j - i)) (drop-append_seam xs ys) ∙ take_all (j - i) ys (omega arith)

-- the entries at places of the text stay
pub entries-append : (text more : List ℕ) (places : List Place) → All (IsInText (length text)) places →
    map (entry_at (text ++ more)) places ≡ map (entry_at text) places
entries-append text more [] inside = refl
entries-append text more (place ∷ places) inside =
    let here : IsInText (length text) place = All-head (IsInText (length text)) place places inside in
    let name_end : place.middle ≤ length text = omega (arith, here.bytes, here.whole) in
    let name = slice_range-append text more place.start place.middle here.name name_end in
    let bytes = slice_range-append text more place.middle place.end here.bytes here.whole in
    let rest = entries-append text more places (All-tail (IsInText (length text)) place places inside) in
    cc

-- an entry that is appended is inserted
pub entries_at-append : (text name bytes : List ℕ) (places : List Place) (place : Place) → All (IsInText (length text)) places →
    place.start ≡ length text → place.middle ≡ place.start + length name → place.end ≡ place.middle + length bytes →
    entries_at ((text ++ name) ++ bytes) (place ∷ places) ≡ insert (entries_at text places) name bytes
entries_at-append text name bytes places place inside start middle end =
    let size : length (text ++ name) ≡ length text + length name = length-append text name in
    let its_name : slice_range ((text ++ name) ++ bytes) place.start place.middle ≡ name =
    slice_range-append (text ++ name) bytes place.start place.middle (omega arith) (omega arith)
    ∙ slice_range-appended text name place.start place.middle start middle in
    let its_bytes : slice_range ((text ++ name) ++ bytes) place.middle place.end ≡ bytes =
    slice_range-appended (text ++ name) bytes place.middle place.end (omega arith) end in
    let rest : map (entry_at ((text ++ name) ++ bytes)) places ≡ map (entry_at text) places =
    ap (λ whole. map (entry_at whole) places) (append_assoc text name bytes) ∙ entries-append text (name ++ bytes) places inside in
    cc

-- the first place has the name, so the entry is its bytes
pub find-here : (text name : List ℕ) (place : Place) (rest places : List Place) → places ≡ place ∷ rest →
    pointwise eqb name (slice_range text place.start place.middle) ≡ true →
    find (slice_cmp nat_cmp) name (map (entry_at text) places) ≡ Some (slice_range text place.middle place.end)
find-here text name place rest places first same =
    rw first (rw (is_eq-slice_cmp name (slice_range text place.start place.middle), same) refl)

-- the first place has another name, so the entry is that of the rest
pub find-further : (text name : List ℕ) (place : Place) (rest places : List Place) → places ≡ place ∷ rest →
    pointwise eqb name (slice_range text place.start place.middle) ≡ false →
    find (slice_cmp nat_cmp) name (map (entry_at text) places) ≡ find (slice_cmp nat_cmp) name (map (entry_at text) rest)
find-further text name place rest places first other =
    rw first (rw (is_eq-slice_cmp name (slice_range text place.start place.middle), other) refl)

-- the entry of a log is that of its newest place with the name
pub get-entries_at : (text name : List ℕ) (places : List Place) →
    get (entries_at text places) name ≡ find (slice_cmp nat_cmp) name (map (entry_at text) places)
get-entries_at text name places = get-from_entries nat_list_cmp_total (map (entry_at text) places) name
