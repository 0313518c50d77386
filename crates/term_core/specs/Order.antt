-- The order of unknowns and of terms. Numbers of constants are ordered by size, and so as their texts in a pool.
use Rattle.std.specs.declared.cmp.Ordering.{Ordering}
use Rattle.std.specs.declared.cmp.Ordering.TheVariants.{Less, Greater}
use Rattle.std.specs.Ordering.{nat_cmp, ordering_then}
use Rattle.std.specs.Cmp.Lexicographic.{slice_cmp}
use Rattle.term_core.specs.declared.const_id.ConstId.{ConstId}
use Rattle.term_core.specs.declared.term.Unknown.{Unknown}
use Rattle.term_core.specs.declared.term.Term.{Term}
use Rattle.term_core.specs.declared.term.Term.TheVariants.{Const, Null}

-- constants by their numbers
abbrev pub id_cmp : ConstId → ConstId → Ordering
id_cmp c d = nat_cmp c.0 d.0

-- by rule, then by frontier values from left to right, then by variable
abbrev pub unknown_cmp : Unknown → Unknown → Ordering
unknown_cmp u w = ordering_then (nat_cmp u.rule w.rule) (ordering_then (slice_cmp id_cmp u.frontier w.frontier) (nat_cmp u.var w.var))

-- constants stand before unknowns
abbrev pub term_cmp : Term → Term → Ordering
term_cmp (Const c) (Const d) = id_cmp c d
term_cmp (Const c) (Null w) = Less
term_cmp (Null u) (Const d) = Greater
term_cmp (Null u) (Null w) = unknown_cmp u w
