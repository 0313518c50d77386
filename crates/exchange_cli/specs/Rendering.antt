-- How a target is written: each constant as its text, and each unknown by its number.
use Rattle.std.specs.Prelude.{◌≡◌, ℕ, ◌+◌, List, length, map, count_by, All, AllPairs}
use Rattle.std.specs.declared.cmp.Ordering.TheVariants.{Less}
use Rattle.std.specs.Ordering.{is_lt}
use Rattle.term_core.specs.declared.term.Unknown.{Unknown as HeldUnknown}
use Rattle.term_core.specs.declared.term.Term.{Term}
use Rattle.term_core.specs.declared.term.Term.TheVariants.{Const, Null}
use Rattle.term_core.specs.Order.{unknown_cmp}
use Rattle.rule_core.specs.Mapping.{RuleSet}
use Rattle.rule_core.specs.Terms.{numbered, TermOf, constant, unknown}
use Rattle.exchange_engine.specs.Loading.{text_in}
use Rattle.exchange_engine.specs.Solved.{IsTermWithin, TermTable}
use Rattle.exchange_cli.specs.Target.{TargetTable, AreTableFiles}
use Rattle.exchange_engine.specs.declared.outcome.Solved.{Solved}
use Rattle.exchange_cli.specs.Answers.{answer_relation}
use Rattle.exchange_cli.specs.Endings.{solved as solved_text}
use Rattle.exchange_cli.specs.Files.{SolvedFiles, IsVerdict, in_order}
use Rattle.exchange_cli.specs.declared.file.FileOut.{FileOut}

-- the number of an unknown among those of a target: its place in their order, counted from 1
abbrev pub rank_in : List HeldUnknown → HeldUnknown → ℕ
rank_in nulls u = count_by (λ w. is_lt (unknown_cmp w u)) nulls + 1

-- a term as it is stored
abbrev pub stored_term : List (List ℕ) → List HeldUnknown → Term → TermOf (List ℕ)
stored_term pool nulls (Const c) = constant (text_in pool c)
stored_term pool nulls (Null u) = unknown (numbered (rank_in nulls u))

-- the rows of a table as they are stored, over the same spans
abbrev pub stored_table : List (List ℕ) → List HeldUnknown → TermTable → TargetTable
stored_table pool nulls table = map (λ e. record { row = map (stored_term pool nulls) e.row; span = e.span }) table

-- each term of the table can be stored: the constants are of the pool, and the unknowns ascend
pub record IsRenderable (pool : List (List ℕ)) (nulls : List HeldUnknown) (table : TermTable) : Type 0 where
  pub within : All (λ e. All (IsTermWithin (length pool)) e.row) table
  pub ascending : AllPairs (λ u w. unknown_cmp u w ≡ Less) nulls

-- the tables of the relations as files, in their order, the answers of the queries, and then the verdict
pub record AreRendered (pool : List (List ℕ)) (rules : RuleSet) (solved : Solved) (prefix : List ℕ) (files : List FileOut) : Type 0 where
  pub groups : SolvedFiles
  pub named : AreTableFiles prefix rules.targets groups.tables (map (stored_table pool solved.nulls) solved.tables)
  pub answers : AreTableFiles prefix (map answer_relation rules.queries) groups.answers (map (stored_table pool solved.nulls) solved.answers)
  pub verdict : IsVerdict prefix solved_text groups.verdict
  pub all : files ≡ in_order groups
