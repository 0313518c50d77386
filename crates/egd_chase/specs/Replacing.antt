-- Which of the values of two cells is to be replaced by the other. No public clause cites this module.
use Rattle.std.specs.Prelude.{◌≡◌, ℕ, Some}
use Rattle.time_line.specs.Span.{Ends, HasInstant}
use Rattle.term_core.specs.declared.const_id.ConstId.{ConstId}
use Rattle.term_core.specs.declared.term.Seen.{Seen}
use Rattle.term_core.specs.Order.{id_cmp}
use Rattle.rule_core.specs.Terms.{TermOf}
use Rattle.rule_core.specs.Values.{unknown_value}
use Rattle.failure_trace.specs.Equating.{replacement_of}
use Rattle.null_store.specs.Store.{PieceOf, Store, piece_at, term_in, IsLiveOver}
use Rattle.null_store.specs.Changes.{CanStandFor}

-- the value shows the term, and where it is a piece it is live over the span
pub record IsValueOf (store : Store) (term : TermOf ConstId) (c : Ends) (value : Seen) : Type 0 where
  pub term_is : term_in store value ≡ term
  pub live : IsLiveOver store c value

-- the two values show the two terms
pub record AreValuesOf (store : Store) (l r : TermOf ConstId) (c : Ends) (left right : Seen) : Type 0 where
  pub left_is : IsValueOf store l c left
  pub right_is : IsValueOf store r c right

-- the value can stand for the live piece over the span, and its term is what the piece's unknown becomes where the terms are made equal
pub record IsChoice (store : Store) (l r : TermOf ConstId) (c : Ends) (piece : ℕ) (by : Seen) : Type 0 where
  pub its : PieceOf
  pub live : piece_at store piece ≡ Some its
  pub span : its.span ≡ c
  pub instant : HasInstant c
  pub stands : CanStandFor store piece its by
  pub sides : replacement_of id_cmp l r ≡ Some (record { gone = unknown_value its.unknown; by = term_in store by })
