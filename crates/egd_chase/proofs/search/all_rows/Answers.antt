use Rattle.std.proofs.Common.{◌≡◌, ◌+◌, ◌++◌, ◌∷◌, [], ℕ, Some, None, List, sym, ap, ◌∙◌, subst, arith, Contains}
use Rattle.std.specs.Option.{option_map}
use Rattle.std.proofs.lemmas.List.Elements.{Contains-append_left, Contains-append_right, Contains-push}
use Rattle.fact_table.specs.Rows.{SeenRow, row_at, head_of}
use Rattle.egd_chase.proofs.IndexLemmas.{rows_in, more_rows, more_in_first, more_in_second, all_rows_below}
use Rattle.egd_chase.proofs.search.all_rows.Goals as goal
use Rattle.egd_chase.proofs.search.all_rows.Goals.{in-Some+then-has_piece+in_ok-push, in-Some+else-has_piece+in_ok-push-2, in_default}

pub loop-row-preserved : goal.loop-row-preserved
loop-row-preserved g c =
    let rows = c.args.store.now.rows in
    let n = c.loop-row.row in
    let front : List ℕ = c.loop-row.rows.items in
    let back : List ℕ = c.loop-row.later.items in
    elim c.match-head.branch [
      | in-Some+then-has_piece+in_ok-push w ↦ rows_in rows (n + 1) front (back ++ n ∷ []) c.match-head.rows.items c.match-head.later.items
          (λ i. (w.rows-is i).items) ((λ i. (w.later-is i).items) ∙ w.in_ok-push.ensures.items)
          (more_rows rows n (front ++ back) (front ++ (back ++ n ∷ [])) (more_in_second front back n)
          (λ row e. Contains-append_right front (back ++ n ∷ []) n (Contains-push back n)) c.loop-row.invariant)
      | in-Some+else-has_piece+in_ok-push-2 w ↦ rows_in rows (n + 1) (front ++ n ∷ []) back c.match-head.rows.items c.match-head.later.items
          ((λ i. (w.rows-is i).items) ∙ w.in_ok-push-2.ensures.items) (λ i. (w.later-is i).items)
          (more_rows rows n (front ++ back) ((front ++ n ∷ []) ++ back) (more_in_first front back n)
          (λ row e. Contains-append_left (front ++ n ∷ []) back n (Contains-push front n)) c.loop-row.invariant)
      | in_default w ↦ rows_in rows (n + 1) front back c.match-head.rows.items c.match-head.later.items
          (λ i. (w.rows-is i).items) (λ i. (w.later-is i).items)
          (more_rows rows n (front ++ back) (front ++ back) (λ k h. h)
          (λ row e.
          let clash : None ≡ Some (head_of row) = sym w.in_default.is ∙ c.head.ensures ∙ ap (option_map head_of) e in
          absurd cc)
          c.loop-row.invariant)
    ]

pub returns : goal.returns
returns g c =
    let rows = c.args.store.now.rows in
    let front : List ℕ = c.loop-row.rows.items in
    let back : List ℕ = c.loop-row.later.items in
    let is : c.extend_from_slice.new.self.items ≡ front ++ back =
    c.in_ok-extend_from_slice.ensures.items ∙ (λ i. front ++ c.as_slice.ensures.value i) in
    subst (λ (l : List ℕ). (number : ℕ) (row : SeenRow) → row_at rows number ≡ Some row → Contains l number) (sym is)
    (all_rows_below rows c.loop-row.row (front ++ back) (omega (arith, c.loop-row-test.false, c.bound-row-end.ensures)) c.loop-row.invariant)
