-- A sound store is sound after a firing, and holds the rows of the firing too.
use Rattle.std.proofs.Common.{◌≡◌, ℕ, ◌+◌, ◌<◌, ◌≤◌, Option, Some, List, [], ◌++◌, length, map, get_or, refl, sym, ap, ◌∙◌, subst, arith, All}
use Rattle.std.specs.Prelude.{slice_get, IsSomeAnd, IsPermutation}
use Rattle.std.specs.Option.{option_map_or}
use Rattle.std.proofs.lemmas.List.{map-append}
use Rattle.std.proofs.lemmas.List.Elements.{All-append, All-contains, All-same}
use Rattle.std.proofs.lemmas.Option.{slice_get_within, slice_get-get_or}
use Rattle.time_line.specs.Span.{Ends}
use Rattle.term_core.specs.declared.const_id.ConstId.{ConstId}
use Rattle.rule_core.specs.declared.rules.Atom.{Atom}
use Rattle.rule_core.specs.declared.rules.Tgd.{Tgd}
use Rattle.rule_core.specs.Terms.{FactOf, StampedOf}
use Rattle.rule_core.specs.Mapping.{RuleSet}
use Rattle.rule_core.specs.Validity.{IsWithin, IsRelation, IsTgd, IsValid}
use Rattle.rule_core.specs.declared.rules.Relation.{Relation}
use Rattle.rule_core.specs.Firing.{frontier_of, fired_facts}
use Rattle.fact_table.specs.Rows.{SeenRow}
use Rattle.null_store.specs.declared.piece.NamedPiece.{NamedPiece}
use Rattle.null_store.specs.Store.{NameOf, PieceOf, Spare, Store, facts_in, IsStore}
use Rattle.null_store.specs.Changes.{HasRoom, CanFire, IsFresh, AddsFiring, head_cells, exists_count}
use Rattle.null_store.specs.Lists.{rows_seen}
use Rattle.null_store.specs.Layout.{LinkedArena, piece_of, store_of, IsSound, piece_for, IsReady, IsFired}
use Rattle.null_store.proofs.ListLemmas.{some_and, and_some, same_some, holds_at, contains_from_at}
use Rattle.null_store.proofs.FiringLemmas.{store_after, facts_after}

-- what a caller knows of the name, told of the store as it is laid out
pub asks : (rules : RuleSet) (inside now : Store) (name : ℕ) (span : Ends) (n : NameOf) → inside ≡ now
    → slice_get inside.names name ≡ Some n → IsSomeAnd (slice_get now.names name) (λ m. CanFire rules now m × IsFresh now m span) → CanFire rules inside n × IsFresh inside n span
asks rules inside now name span n view at h =
    holds_at (λ (m : NameOf). CanFire rules inside m × IsFresh inside m span) (slice_get inside.names name) n at
    (subst (λ (s : Store). IsSomeAnd (slice_get s.names name) (λ m. CanFire rules s m × IsFresh s m span)) (sym view) h)

-- the tgd that is read at the place of a name's rule
pub rule_at : (rules : RuleSet) (store : Store) (n : NameOf) (tgds : List Tgd) (tgd : Tgd) → tgds ≡ rules.tgds
    → tgd ≡ get_or tgds n.rule tgd → CanFire rules store n → slice_get rules.tgds n.rule ≡ Some tgd
rule_at rules store n tgds tgd e is can =
    let there = some_and (λ (t : Tgd). (length n.frontier ≡ length (frontier_of t))
    × HasRoom store (length t.head) (head_cells t) (exists_count t)) (slice_get rules.tgds n.rule) can in
    slice_get-get_or rules.tgds n.rule tgd (slice_get_within rules.tgds n.rule there.0 there.1)
    ∙ ap Some (sym (is ∙ ap (λ (l : List Tgd). get_or l n.rule tgd) e))

-- a valid rule is ready where it can fire
pub ready : (rules : RuleSet) (tgd : Tgd) (n : NameOf) (held : LinkedArena) (names : List NameOf) → IsValid rules
    → slice_get rules.tgds n.rule ≡ Some tgd → CanFire rules (store_of held names) n → IsReady tgd n.frontier held
ready rules tgd n held names valid at can =
    let its = All-contains (IsTgd rules.sources rules.targets) rules.tgds tgd valid.rules.tgds
    (contains_from_at rules.tgds n.rule tgd at) in
    let fits = holds_at (λ (t : Tgd). (length n.frontier ≡ length (frontier_of t))
    × HasRoom (store_of held names) (length t.head) (head_cells t) (exists_count t)) (slice_get rules.tgds n.rule) tgd at can in
    record {
      few = its.vars.most;
      within = its.within;
      safe = its.safe;
      narrow = λ k d l.
          let r = some_and (λ (r : Relation). length (get_or tgd.head k d).args ≡ length r.columns) (slice_get rules.targets
          (get_or tgd.head k d).relation) (its.head.fit k d l) in
          let most = (All-contains IsRelation rules.targets r.0 valid.relations.target_relations
          (contains_from_at rules.targets (get_or tgd.head k d).relation r.0 r.1)).most in
          omega (arith, most, r.2);
      size = fits.0;
      rows = fits.1.rows;
      cells = fits.1.cells;
      pieces = fits.1.pieces;
    }

-- a rule without `exists` variables adds no piece
pub none_new : (tgd : Tgd) (n : NameOf) (name : ℕ) (span : Ends) (held after : LinkedArena)
    (fired : IsFired tgd n.frontier name span held after) → exists_count tgd ≡ 0 → ¬ (0 < length fired.more)
none_new tgd n name span held after fired none some = omega (arith, fired.adds.few, none, some)

module _ (tgd : Tgd) (n : NameOf) (name : ℕ) (span : Ends) (names : List NameOf) (held after : LinkedArena)
    (safe : All (λ (atom : Atom). All (IsWithin (length tgd.vars)) atom.args) tgd.head)
    (fired : IsFired tgd n.frontier name span held after) (is_named : 0 < length fired.more → slice_get names name ≡ Some n)
    (sound : IsSound held names) (fresh : 0 < length fired.more → IsFresh (store_of held names) n span) where
  abbrev spare : Spare
  spare = record { rows = held.arena.spare_rows; cells = held.arena.spare_cells; pieces = held.room }

  abbrev spare_after : Spare
  spare_after = record { rows = after.arena.spare_rows; cells = after.arena.spare_cells; pieces = after.room }

  abbrev rows : List (Option SeenRow)
  rows = rows_seen held.arena

  abbrev later : List (Option SeenRow)
  later = rows_seen after.arena

  abbrev more_pieces : List (Option PieceOf)
  more_pieces = map (piece_of names) fired.more

  pieces_is : map (piece_of names) after.pieces ≡ map (piece_of names) held.pieces ++ more_pieces
  pieces_is = ap (map (piece_of names)) fired.pieces ∙ map-append (piece_of names) held.pieces fired.more

  more_named : All (λ (piece : NamedPiece). piece.name < length names) fired.more
  more_named k d l =
      let h = fired.adds.only k l in
      let is = slice_get-get_or fired.more k d l in
      let same = same_some (slice_get fired.more k) (get_or fired.more k d) (piece_for tgd name span h.0) is h.2.piece in
      let number = ap (λ (piece : NamedPiece). piece.name) same in
      let there = slice_get_within names name n (is_named (omega (arith, l))) in
      omega (arith, number, there)

  pub sound_after : IsSound after names
  sound_after = record {
    store =
        subst (λ (p : List (Option PieceOf)).
        IsStore (record { rows = later; pieces = p; names = names; spare = spare_after })) (sym pieces_is)
        (store_after tgd n name span names fired.values held.pieces fired.more is_named safe fired.has_values fired.adds rows later spare
        spare_after sound.store fresh fired.rows);
    named = All-same (λ (piece : NamedPiece). piece.name < length names) after.pieces (held.pieces ++ fired.more) fired.pieces
        (All-append (λ (piece : NamedPiece). piece.name < length names) held.pieces fired.more sound.named more_named);
  }

  pub adds_firing : (rules : RuleSet) → slice_get rules.tgds n.rule ≡ Some tgd
      → after.arena.spare_rows + length tgd.head ≡ held.arena.spare_rows
      → after.arena.spare_cells + head_cells tgd ≡ held.arena.spare_cells → held.room ≤ after.room + exists_count tgd
      → AddsFiring rules n span (store_of held names) (store_of after names)
  adds_firing rules at rows_left cells_left pieces_left =
      let before = facts_in (store_of held names) in
      let stamped : FactOf ConstId → StampedOf (FactOf ConstId) = λ fact. record { row = fact; span = span } in
      let its = ap (λ (o : Option Tgd). before
      ++ option_map_or (λ t. map stamped (fired_facts (λ c. c) n.rule t n.frontier)) o []) at in
      let whole = facts_after tgd n name span names fired.values held.pieces fired.more is_named safe fired.has_values fired.adds rows later
      spare spare_after sound.store fresh fired.rows in
      record {
        rows = subst (λ l. IsPermutation l (facts_in (store_of after names))) (sym its)
            (subst (λ (p : List (Option PieceOf)). IsPermutation (before ++ map stamped (fired_facts (λ c. c) n.rule tgd n.frontier))
            (facts_in (record { rows = later; pieces = p; names = names; spare = spare_after }))) (sym pieces_is) whole);
        names = refl;
        kept = fired.rows.kept;
        room = and_some (λ (t : Tgd). (held.arena.spare_rows ≤ after.arena.spare_rows + length t.head)
            × (held.arena.spare_cells ≤ after.arena.spare_cells + head_cells t) × (held.room ≤ after.room + exists_count t))
            (slice_get rules.tgds n.rule) tgd at (omega (arith, rows_left), omega (arith, cells_left), pieces_left);
      }
