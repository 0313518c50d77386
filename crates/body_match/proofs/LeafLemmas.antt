-- A row is chosen for each atom: the values, the match, and that there is no other.
use Rattle.std.proofs.Common.{◌≡◌, ℕ, ◌<◌, ◌≤◌, Option, Some, List, [], ◌++◌, length, get_or, map, refl, sym, ap, ◌∙◌, subst, ⊎_elim, arith, All}
use Rattle.std.specs.Prelude.{slice_get, IsSome}
use Rattle.std.specs.Option.{option_and_then}
use Rattle.std.proofs.lemmas.Bool.{cases_lt}
use Rattle.std.proofs.lemmas.Option.{slice_get-get_or, slice_get_past}
use Rattle.std.proofs.lemmas.List.{append-nil, length-append, length-map, nil_from_length}
use Rattle.time_line.specs.Span.{Ends}
use Rattle.term_core.specs.declared.term.Seen.{Seen}
use Rattle.rule_core.specs.declared.rules.Arg.{Arg}
use Rattle.rule_core.specs.declared.rules.Arg.TheVariants.{Var, Const}
use Rattle.rule_core.specs.declared.rules.Atom.{Atom}
use Rattle.fact_table.specs.Rows.{SeenRow, cell_at}
use Rattle.body_match.specs.declared.found.Match.{Match}
use Rattle.body_match.specs.Matches.{seen_value, IsImageAt, HoldsAt, IsMatch}
use Rattle.body_match.specs.Search.{Task, IsTask, cell_in, placed_value, IsPartial, BeginsWith, IsListedFrom}
use Rattle.body_match.proofs.ListLemmas.{at_within, within_from_at, at_map, at_from_map, same_at_each, zip_from_each, zip_length}
use Rattle.body_match.proofs.EndsLemmas.{same_ends}
use Rattle.body_match.proofs.SearchLemmas.{same_some, image_cell, placed_in_match}

-- a match has no more rows than the body has atoms
pub whole_rows : (body : List Atom) (vars : ℕ) (rows : List (Option SeenRow)) (chosen : List ℕ) (m : Match) → IsMatch body vars rows m
    → BeginsWith chosen m.rows → length chosen ≡ length body → chosen ≡ m.rows
whole_rows body vars rows chosen m whole begins size =
    let long = zip_length (IsImageAt rows (seen_value m.binding)) body m.rows whole.images in
    let none : length begins.0 ≡ 0 = omega (arith, long, size, ap length begins.1, length-append chosen begins.0) in
    sym (begins.1 ∙ ap (λ l. chosen ++ l) (nil_from_length begins.0 none) ∙ append-nil chosen)

module _ (task : Task) (ok : IsTask task) (chosen : List ℕ) (span : Ends) (partial : IsPartial task chosen span)
    (whole : length chosen ≡ length task.body) where
  -- there is a cell at each place
  pub placed_all : All (λ place. IsSome (cell_in task chosen place)) task.places
  placed_all v d l =
      let place = get_or task.places v d in
      let first = (ok.places.each v place (slice_get-get_or task.places v d l)).there in
      let n = at_within chosen place.atom (let h = within_body place.atom first.0 first.1 in omega (arith, h, whole)) in
      let cell = image_cell task.rows (placed_value task chosen) first.0 n.0 place.column (Var v)
      (partial.images place.atom n.0 first.0 first.1 n.1) first.2 in
      subst (λ w. IsSome w) (sym (ap (option_and_then (λ m. cell_at task.rows m place.column)) n.1 ∙ cell.1)) refl
    where
      within_body : (k : ℕ) (atom : Atom) → slice_get task.body k ≡ Some atom → k < length task.body
      within_body k atom e = within_from_at task.body k atom e

  -- a match is another one's only if its rows begin so
  pub same_rows : (m : Match) → IsMatch task.body (length task.places) task.rows m → BeginsWith chosen m.rows → chosen ≡ m.rows
  same_rows m h begins = whole_rows task.body (length task.places) task.rows chosen m h begins whole

  module _ (binding : List Seen) (values : map Some binding ≡ map (cell_in task chosen) task.places) where
    size : length binding ≡ length task.places
    size = sym (length-map binding Some) ∙ ap length values ∙ length-map task.places (cell_in task chosen)

    -- arguments stand for the same by the places and by the values
    pub seen_placed : (arg : Arg) → placed_value task chosen arg ≡ seen_value binding arg
    seen_placed (Const c) = refl
    seen_placed (Var v) = ⊎_elim
        (λ (l : v < length task.places).
        let place = at_within task.places v l in
        let there = ap (λ x. slice_get x v) values ∙ at_map (cell_in task chosen) task.places v place.0 place.1 in
        let value = at_from_map Some binding v (cell_in task chosen place.0) there in
        ap (option_and_then (cell_in task chosen)) place.1 ∙ sym value.2 ∙ sym value.1)
        (λ (g : length task.places ≤ v).
        ap (option_and_then (cell_in task chosen)) (slice_get_past task.places v g)
        ∙ sym (slice_get_past binding v (omega (arith, g, size))))
        (cases_lt v (length task.places))

    abbrev pub made : Match
    made = record { rows = chosen; binding = binding; span = span }

    pub made_is_match : IsMatch task.body (length task.places) task.rows made
    made_is_match = record {
      images = zip_from_each (IsImageAt task.rows (seen_value binding)) task.body chosen (sym whole)
          (λ k atom n e c. subst (λ (value : Arg → Option Seen). IsImageAt task.rows value atom n) (λ i arg. seen_placed arg i)
          (partial.images k n atom e c));
      values = size;
      common = partial.common;
      instant = partial.instant;
    }

    pub only_made : (m : Match) → IsListedFrom task chosen m → made ≡ m
    only_made m h =
        let match = h.0 in
        let rows = same_rows m match h.1 in
        let same_binding : binding ≡ m.binding = same_at_each binding m.binding (size ∙ sym match.values) (λ v x y p q.
        let place = at_within task.places v (omega (arith, within_from_at binding v x p, size)) in
        let first = (ok.places.each v place.0 place.1).there in
        let inside = within_from_at task.body place.0.atom first.0 first.1 in
        same_some (slice_get binding v) x y p
        (sym (seen_placed (Var v))
        ∙ placed_in_match task ok m match chosen place.0.atom place.0.column first.0 (Var v) h.1 first.1 first.2
        (omega (arith, inside, whole)) ∙ q)) in
        let same_span = same_ends span m.span partial.instant (λ t. (
          λ s. (match.common t).1 (subst (All (HoldsAt task.rows t)) rows ((partial.common t).0 s)),
          λ s. (partial.common t).1 (subst (All (HoldsAt task.rows t)) (sym rows) ((match.common t).0 s)),
        )) in
        λ i. record { rows = rows i; binding = same_binding i; span = same_span i }

    pub made_is_listed : IsListedFrom task chosen made
    made_is_listed = (made_is_match, ([], sym (append-nil chosen)))
