-- Canonical texts, held against lines that were written by hand.
use Rattle.std.proofs.Common.{◌≡◌, ℕ, List, [], ◌∷◌, ◌++◌, codes, refl}
use Rattle.rule_core.specs.declared.rules.Relation.{Relation}
use Rattle.rule_core.specs.declared.rules.Arg.{Arg}
use Rattle.rule_core.specs.declared.rules.Arg.TheVariants.{Var, Const}
use Rattle.rule_core.specs.declared.rules.Atom.{Atom}
use Rattle.rule_core.specs.declared.rules.Branch.{Branch}
use Rattle.rule_core.specs.Mapping.{RuleSet}
use Rattle.decl_text.specs.Canonical.{quoted_text}
use Rattle.rule_text.specs.declared.rule.Rule.TheVariants.{Tgd, Egd, Query}
use Rattle.rule_text.specs.Canonical.{argument_text, rule_text}

-- two sources and two targets, by their names alone
abbrev relation : List ℕ → Relation
relation name = record { name = name; columns = [] }

abbrev people : RuleSet
people = record {
  sources = relation (codes "E") ∷ relation (codes "S") ∷ [];
  targets = relation (codes "Emp") ∷ relation (codes "D") ∷ [];
  tgds = [];
  egds = [];
  queries = [];
}

abbrev n_c_s : List (List ℕ)
n_c_s = codes "n" ∷ codes "c" ∷ codes "s" ∷ []

abbrev atom : ℕ → List Arg → Atom
atom relation args = record { relation = relation; args = args }

exists_line : rule_text people [] (Tgd (record {
  name = codes "d1";
  vars = n_c_s;
  body_vars = 2;
  body = atom 0 (Var 0 ∷ Var 1 ∷ []) ∷ [];
  head = atom 0 (Var 0 ∷ Var 1 ∷ Var 2 ∷ []) ∷ [];
})) ≡ codes "tgd d1: E(n, c) -> exists s: Emp(n, c, s)" ++ 10 ∷ []
exists_line = refl

joined_line : rule_text people [] (Tgd (record {
  name = codes "d2";
  vars = n_c_s;
  body_vars = 3;
  body = atom 0 (Var 0 ∷ Var 1 ∷ []) ∷ atom 1 (Var 0 ∷ Var 2 ∷ []) ∷ [];
  head = atom 0 (Var 0 ∷ Var 1 ∷ Var 2 ∷ []) ∷ [];
})) ≡ codes "tgd d2: E(n, c), S(n, s) -> Emp(n, c, s)" ++ 10 ∷ []
joined_line = refl

-- a constant stands by its text in quotes
constant_text : argument_text (codes "18k" ∷ codes "IBM" ∷ []) [] (Const (record { 0 = 1 })) ≡ quoted_text (codes "IBM")
constant_text = refl

egd_line : rule_text people [] (Egd (record {
  name = codes "e1";
  vars = codes "n" ∷ codes "c" ∷ codes "s" ∷ codes "r" ∷ [];
  body = atom 0 (Var 0 ∷ Var 1 ∷ Var 2 ∷ []) ∷ atom 0 (Var 0 ∷ Var 1 ∷ Var 3 ∷ []) ∷ [];
  left = 2;
  right = 3;
})) ≡ codes "egd e1: Emp(n, c, s), Emp(n, c, r) -> s = r" ++ 10 ∷ []
egd_line = refl

abbrev one_atom : ℕ → List ℕ → Branch
one_atom relation columns = record { vars = codes "x" ∷ []; body = atom relation (Var 0 ∷ []) ∷ []; columns = columns }

query_line : rule_text people [] (Query (record { name = codes "q"; head = codes "x" ∷ []; branches = one_atom 0 (0 ∷ []) ∷ one_atom 1 (0 ∷ []) ∷ [] }))
    ≡ codes "query q(x): Emp(x) | D(x)" ++ 10 ∷ []
query_line = refl

closed_query_line : rule_text people [] (Query (record { name = codes "any"; head = []; branches = one_atom 1 [] ∷ [] }))
    ≡ codes "query any(): D(x)" ++ 10 ∷ []
closed_query_line = refl
