-- A mapping whose constants are told by the numbers of another pool.
use Rattle.std.specs.Prelude.{◌≡◌, ℕ, ◌<◌, ◌≤◌, List, length, map, slice_get, slice_index_or}
use Rattle.term_core.specs.declared.const_id.ConstId.{ConstId}
use Rattle.rule_core.specs.declared.rules.Arg.{Arg}
use Rattle.rule_core.specs.declared.rules.Arg.TheVariants.{Var, Const}
use Rattle.rule_core.specs.declared.rules.Atom.{Atom}
use Rattle.rule_core.specs.declared.rules.Tgd.{Tgd}
use Rattle.rule_core.specs.declared.rules.Egd.{Egd}
use Rattle.rule_core.specs.declared.rules.Branch.{Branch}
use Rattle.rule_core.specs.declared.rules.Query.{Query}
use Rattle.rule_core.specs.Mapping.{RuleSet}

-- an argument with another number, if it is a constant
abbrev pub renumbered_arg : (ConstId → ConstId) → Arg → Arg
renumbered_arg number (Var v) = Var v
renumbered_arg number (Const c) = Const (number c)

-- an atom, a rule, a disjunct, a query and a mapping with other numbers for their constants, and else the same
abbrev pub renumbered_atom : (ConstId → ConstId) → Atom → Atom
renumbered_atom number atom = record atom { args = map (renumbered_arg number) atom.args }

abbrev pub renumbered_tgd : (ConstId → ConstId) → Tgd → Tgd
renumbered_tgd number tgd = record tgd { body = map (renumbered_atom number) tgd.body; head = map (renumbered_atom number) tgd.head }

abbrev pub renumbered_egd : (ConstId → ConstId) → Egd → Egd
renumbered_egd number egd = record egd { body = map (renumbered_atom number) egd.body }

abbrev pub renumbered_branch : (ConstId → ConstId) → Branch → Branch
renumbered_branch number branch = record branch { body = map (renumbered_atom number) branch.body }

abbrev pub renumbered_query : (ConstId → ConstId) → Query → Query
renumbered_query number query = record query { branches = map (renumbered_branch number) query.branches }

abbrev pub renumbered : (ConstId → ConstId) → RuleSet → RuleSet
renumbered number rules = record rules {
  tgds = map (renumbered_tgd number) rules.tgds;
  egds = map (renumbered_egd number) rules.egds;
  queries = map (renumbered_query number) rules.queries;
}

-- the number of each text in the one pool becomes its number in the other, and what is no number of a text stays
pub record KeepsTexts (from to : List (List ℕ)) (number : ConstId → ConstId) : Type 0 where
  pub texts : (c : ConstId) → c.0 < length from → slice_get to (number c).0 ≡ slice_get from c.0
  pub others : (c : ConstId) → length from ≤ c.0 → number c ≡ c

-- the same mapping, with the texts of the one pool by their numbers in the other
abbrev pub IsRebased : List (List ℕ) → List (List ℕ) → RuleSet → RuleSet → Type 0
IsRebased from to rules rebased = (number : ConstId → ConstId) × KeepsTexts from to number × (rebased ≡ renumbered number rules)

-- the number at the constant's place in a list, or its own past the end
abbrev pub number_in : List ConstId → ConstId → ConstId
number_in ids c = slice_index_or ids c.0 c
