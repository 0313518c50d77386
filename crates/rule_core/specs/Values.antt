-- Terms and rows as programs hold them, with constants by their numbers, as terms and rows of the definitions.
use Rattle.std.specs.Prelude.{List, map}
use Rattle.term_core.specs.declared.const_id.ConstId.{ConstId}
use Rattle.term_core.specs.declared.term.Unknown.{Unknown as HeldUnknown}
use Rattle.term_core.specs.declared.term.Term.{Term}
use Rattle.term_core.specs.declared.term.Term.TheVariants.{Const, Null}
use Rattle.rule_core.specs.Terms.{Unknown, named, TermOf, constant, unknown, StampedOf}

-- an unknown by the place of its rule, its frontier values and the place of its variable
abbrev pub unknown_value : HeldUnknown → Unknown ConstId
unknown_value u = named u.rule u.frontier u.var

-- a constant or an unknown
abbrev pub term_value : Term → TermOf ConstId
term_value (Const c) = constant c
term_value (Null u) = unknown (unknown_value u)

-- a table of rows
abbrev pub table_value : List (StampedOf (List Term)) → List (StampedOf (List (TermOf ConstId)))
table_value table = map (λ e. record { row = map term_value e.row; span = e.span }) table
