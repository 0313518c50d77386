-- Traces that are checked by hand: salaries of persons at companies, where Ada has two salaries from 2016 on and before 2017.
use Rattle.std.proofs.Common.{◌≡◌, ℕ, ℤ, pos, Option, Some, None, List, [], ◌∷◌, ◌++◌, map, refl, codes}
use Rattle.term_core.specs.declared.const_id.ConstId.{ConstId}
use Rattle.rule_core.specs.declared.rules.Relation.{Relation}
use Rattle.rule_core.specs.declared.rules.Arg.TheVariants.{Var}
use Rattle.rule_core.specs.declared.rules.Atom.{Atom}
use Rattle.rule_core.specs.Terms.{constant, FactOf, StampedOf}
use Rattle.rule_core.specs.Mapping.{RuleSet}
use Rattle.rule_core.specs.Snapshot.{snapshot_at}
use Rattle.failure_trace.specs.declared.trace.Value.TheVariants.{Const, Null}
use Rattle.failure_trace.specs.declared.trace.Bound.{Bound}
use Rattle.failure_trace.specs.declared.trace.StepKind.{StepKind}
use Rattle.failure_trace.specs.declared.trace.StepKind.TheVariants.{Tgd as TgdStep, Egd as EgdStep, Clash as ClashStep}
use Rattle.failure_trace.specs.declared.trace.TraceStep.{TraceStep}
use Rattle.failure_trace.specs.declared.trace.Trace.{Trace}
use Rattle.failure_trace.specs.declared.why.Why.{Why}
use Rattle.failure_trace.specs.declared.why.Why.TheVariants.{K1, K2, K3, K4, K5, K6, K7, K8}
use Rattle.failure_trace.specs.TraceRun.{start, IsAccepted, IsRefused}
use Rattle.failure_trace.proofs.TraceTests.{first_failure, passes, fails}

-- an atom of the relation with these variables
abbrev atom : ℕ → List ℕ → Atom
atom relation variables = record { relation = relation; args = map Var variables }

abbrev relation : List ℕ → List (List ℕ) → Relation
relation name columns = record { name = name; columns = columns }

-- E(n, c) -> Emp(n, c, s) for some s; E(n, c), S(n, s) -> Emp(n, c, s); Emp(n, c, s), Emp(n, c, r) -> s = r
abbrev salaries : RuleSet
salaries = record {
  sources = relation (codes "E") (codes "name" ∷ codes "company" ∷ []) ∷ relation (codes "S") (codes "name" ∷ codes "salary" ∷ []) ∷ [];
  targets = relation (codes "Emp") (codes "name" ∷ codes "company" ∷ codes "salary" ∷ []) ∷ [];
  tgds =
      record {
        name = codes "d1";
        vars = codes "n" ∷ codes "c" ∷ codes "s" ∷ [];
        body_vars = 2;
        body = atom 0 (0 ∷ 1 ∷ []) ∷ [];
        head = atom 0 (0 ∷ 1 ∷ 2 ∷ []) ∷ [];
      }
      ∷ record {
        name = codes "d2";
        vars = codes "n" ∷ codes "c" ∷ codes "s" ∷ [];
        body_vars = 3;
        body = atom 0 (0 ∷ 1 ∷ []) ∷ atom 1 (0 ∷ 2 ∷ []) ∷ [];
        head = atom 0 (0 ∷ 1 ∷ 2 ∷ []) ∷ [];
      }
      ∷ [];
  egds =
      record {
        name = codes "e1";
        vars = codes "n" ∷ codes "c" ∷ codes "s" ∷ codes "r" ∷ [];
        body = atom 0 (0 ∷ 1 ∷ 2 ∷ []) ∷ atom 0 (0 ∷ 1 ∷ 3 ∷ []) ∷ [];
        left = 2;
        right = 3;
      }
      ∷ [];
  queries = [];
}

abbrev fact : ℕ → List (List ℕ) → ℤ → Option ℤ → StampedOf (FactOf (List ℕ))
fact relation texts lo hi = record { row = record { relation = relation; terms = map constant texts }; span = record { lo = Some lo; hi = hi } }

abbrev source : List (StampedOf (FactOf (List ℕ)))
source =
    fact 0 (codes "Ada" ∷ codes "IBM" ∷ []) (pos 2012) (Some (pos 2014))
    ∷ fact 0 (codes "Ada" ∷ codes "Google" ∷ []) (pos 2014) None
    ∷ fact 0 (codes "Bob" ∷ codes "IBM" ∷ []) (pos 2013) (Some (pos 2018))
    ∷ fact 1 (codes "Ada" ∷ codes "18k" ∷ []) (pos 2013) None
    ∷ fact 1 (codes "Bob" ∷ codes "13k" ∷ []) (pos 2015) None
    ∷ fact 1 (codes "Ada" ∷ codes "20k" ∷ []) (pos 2016) (Some (pos 2017))
    ∷ []

abbrev step : StepKind → List ℕ → List Bound → TraceStep
step kind rule binding = record { kind = kind; rule = rule; binding = binding }

abbrev is : List ℕ → List ℕ → Bound
is name text = record { name = name; value = Const text }

abbrev is_null : List ℕ → ℕ → Bound
is_null name number = record { name = name; value = Null number }

-- Ada, at Google
abbrev ada : List Bound
ada = is (codes "n") (codes "Ada") ∷ is (codes "c") (codes "Google") ∷ []

abbrev ada_earns : List ℕ → List Bound
ada_earns salary = ada ++ is (codes "s") salary ∷ []

abbrev earns : List ℕ → TraceStep
earns salary = step TgdStep (codes "d2") (ada_earns salary)

abbrev both : List ℕ → List ℕ → List Bound
both s r = ada_earns s ++ is (codes "r") r ∷ []

abbrev clash : TraceStep
clash = step ClashStep (codes "e1") (both (codes "18k") (codes "20k"))

abbrev unknown_salary : TraceStep
unknown_salary = step TgdStep (codes "d1") (ada ++ is_null (codes "s") 1 ∷ [])

abbrev the_salary : TraceStep
the_salary = step EgdStep (codes "e1") (ada ++ is_null (codes "s") 1 ∷ is (codes "r") (codes "18k") ∷ [])

abbrev trace : ℤ → List TraceStep → Trace
trace instant steps = record { instant = instant; steps = steps }

abbrev two_salaries : List TraceStep
two_salaries = earns (codes "18k") ∷ earns (codes "20k") ∷ clash ∷ []

module _ (name : ConstId → List ℕ) where
  abbrev Accepted : ℤ → List TraceStep → Type 0
  Accepted instant steps = IsAccepted name salaries source (trace instant steps)

  abbrev Refused : ℤ → List TraceStep → ℕ → Why → Type 0
  Refused instant steps at why = IsRefused name salaries source (trace instant steps) at why

  -- what the tests come to is found by computing
  accepted : (instant : ℤ) (steps : List TraceStep) → first_failure name salaries (snapshot_at source instant) 1 start steps ≡ None
      → Accepted instant steps
  accepted instant steps e = passes name salaries (snapshot_at source instant) 1 start steps e

  refused : (instant : ℤ) (steps : List TraceStep) (at : ℕ) (why : Why)
      → first_failure name salaries (snapshot_at source instant) 1 start steps ≡ Some (at, why) → Refused instant steps at why
  refused instant steps at why e = fails name salaries (snapshot_at source instant) 1 start steps at why e

  ada_has_two_salaries : Accepted (pos 2016) two_salaries
  ada_has_two_salaries = accepted (pos 2016) two_salaries refl

  a_year_later_she_has_one : Refused (pos 2017) two_salaries 2 K3
  a_year_later_she_has_one = refused (pos 2017) two_salaries 2 K3 refl

  without_the_first : Refused (pos 2016) (earns (codes "20k") ∷ clash ∷ []) 2 K3
  without_the_first = refused (pos 2016) (earns (codes "20k") ∷ clash ∷ []) 2 K3 refl

  without_the_second : Refused (pos 2016) (earns (codes "18k") ∷ clash ∷ []) 2 K3
  without_the_second = refused (pos 2016) (earns (codes "18k") ∷ clash ∷ []) 2 K3 refl

  without_the_clash : Refused (pos 2016) (earns (codes "18k") ∷ earns (codes "20k") ∷ []) 3 K7
  without_the_clash = refused (pos 2016) (earns (codes "18k") ∷ earns (codes "20k") ∷ []) 3 K7 refl

  no_step : Refused (pos 2016) [] 1 K7
  no_step = refused (pos 2016) [] 1 K7 refl

  a_step_behind_the_clash : Refused (pos 2016) (two_salaries ++ clash ∷ []) 4 K8
  a_step_behind_the_clash = refused (pos 2016) (two_salaries ++ clash ∷ []) 4 K8 refl

  equal_constants_do_not_clash :
      Refused (pos 2016) (earns (codes "18k") ∷ step ClashStep (codes "e1") (both (codes "18k") (codes "18k")) ∷ []) 2 K6
  equal_constants_do_not_clash =
      refused (pos 2016) (earns (codes "18k") ∷ step ClashStep (codes "e1") (both (codes "18k") (codes "18k")) ∷ []) 2 K6 refl

  no_such_rule : Refused (pos 2016) (step TgdStep (codes "d9") (ada_earns (codes "18k")) ∷ []) 1 K1
  no_such_rule = refused (pos 2016) (step TgdStep (codes "d9") (ada_earns (codes "18k")) ∷ []) 1 K1 refl

  an_egd_is_no_tgd : Refused (pos 2016) (step TgdStep (codes "e1") (ada_earns (codes "18k")) ∷ []) 1 K1
  an_egd_is_no_tgd = refused (pos 2016) (step TgdStep (codes "e1") (ada_earns (codes "18k")) ∷ []) 1 K1 refl

  a_binding_is_missing : Refused (pos 2016) (step TgdStep (codes "d2") ada ∷ []) 1 K2
  a_binding_is_missing = refused (pos 2016) (step TgdStep (codes "d2") ada ∷ []) 1 K2 refl

  an_unknown_is_wanted : Refused (pos 2016) (step TgdStep (codes "d1") (ada_earns (codes "18k")) ∷ []) 1 K2
  an_unknown_is_wanted = refused (pos 2016) (step TgdStep (codes "d1") (ada_earns (codes "18k")) ∷ []) 1 K2 refl

  an_unknown_is_given_once : Refused (pos 2016) (unknown_salary ∷ unknown_salary ∷ []) 2 K4
  an_unknown_is_given_once = refused (pos 2016) (unknown_salary ∷ unknown_salary ∷ []) 2 K4 refl

  equal_constants_are_not_made_equal :
      Refused (pos 2016) (earns (codes "18k") ∷ step EgdStep (codes "e1") (both (codes "18k") (codes "18k")) ∷ []) 2 K5
  equal_constants_are_not_made_equal =
      refused (pos 2016) (earns (codes "18k") ∷ step EgdStep (codes "e1") (both (codes "18k") (codes "18k")) ∷ []) 2 K5 refl

  a_replaced_unknown_stays_used : Refused (pos 2016) (unknown_salary ∷ earns (codes "18k") ∷ the_salary ∷ unknown_salary ∷ []) 4 K4
  a_replaced_unknown_stays_used = refused (pos 2016) (unknown_salary ∷ earns (codes "18k") ∷ the_salary ∷ unknown_salary ∷ []) 4 K4 refl

  a_replaced_unknown_is_gone : Refused (pos 2016) (unknown_salary ∷ earns (codes "18k") ∷ the_salary ∷ the_salary ∷ []) 4 K3
  a_replaced_unknown_is_gone = refused (pos 2016) (unknown_salary ∷ earns (codes "18k") ∷ the_salary ∷ the_salary ∷ []) 4 K3 refl

  an_equality_is_no_clash : Refused (pos 2016) (unknown_salary ∷ earns (codes "18k") ∷ the_salary ∷ []) 4 K7
  an_equality_is_no_clash = refused (pos 2016) (unknown_salary ∷ earns (codes "18k") ∷ the_salary ∷ []) 4 K7 refl
