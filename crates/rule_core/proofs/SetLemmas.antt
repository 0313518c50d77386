-- Instances are read as sets of facts.
use Rattle.std.proofs.Common.{ℕ, List, get_or, Contains}
use Rattle.std.proofs.lemmas.List.Elements.{All-weaker}
use Rattle.term_core.specs.declared.const_id.ConstId.{ConstId}
use Rattle.rule_core.specs.declared.rules.Atom.{Atom}
use Rattle.rule_core.specs.declared.rules.Egd.{Egd}
use Rattle.rule_core.specs.declared.rules.Tgd.{Tgd}
use Rattle.rule_core.specs.declared.rules.Query.{Query}
use Rattle.rule_core.specs.Terms.{TermOf, FactOf}
use Rattle.rule_core.specs.Mapping.{RuleSet}
use Rattle.rule_core.specs.Match.{image, Matches}
use Rattle.rule_core.specs.Solution.{TgdHolds, EgdHolds, IsSolution, IsSolvable, IsUniversal}
use Rattle.rule_core.specs.Answers.{IsAnswer, IsCertain}
use Rattle.rule_core.specs.Renaming.{HoldTheSame}

module _ {C : Type 0} (name : ConstId → C) where
  -- a match in an instance is one in an instance that holds all of its facts
  pub Matches-within : (b : ℕ → TermOf C) (atoms : List Atom) (one two : List (FactOf C))
      → ((fact : FactOf C) → Contains one fact → Contains two fact) → Matches name b atoms one → Matches name b atoms two
  Matches-within b atoms one two h =
      All-weaker (λ atom. Contains one (image name b atom)) (λ atom. Contains two (image name b atom)) (λ atom. h (image name b atom)) atoms

  -- rules that hold of some instances hold of others with the same facts
  module _ (source other target result : List (FactOf C)) (s : HoldTheSame source other) (t : HoldTheSame target result) where
    tgd_same_sets : (tgd : Tgd) → TgdHolds name tgd source target → TgdHolds name tgd other result
    tgd_same_sets tgd holds b m =
        let found = holds b (Matches-within b tgd.body other source (λ fact. (s fact).1) m) in
        (found.0, found.1, Matches-within found.0 tgd.head target result (λ fact. (t fact).0) found.2)

    egd_same_sets : (egd : Egd) → EgdHolds name egd target → EgdHolds name egd result
    egd_same_sets egd holds b m = holds b (Matches-within b egd.body result target (λ fact. (t fact).1) m)

    pub solution_same_sets : (rules : RuleSet) → IsSolution name rules source target → IsSolution name rules other result
    solution_same_sets rules solution = record {
      tgds = λ k d l. tgd_same_sets (get_or rules.tgds k d) (solution.tgds k d l);
      egds = λ k d l. egd_same_sets (get_or rules.egds k d) (solution.egds k d l);
    }

  -- a universal instance stays one
  pub universal_same_sets : (rules : RuleSet) (source other target result : List (FactOf C)) → HoldTheSame source other
      → HoldTheSame target result → IsUniversal name rules source target → IsUniversal name rules other result
  universal_same_sets rules source other target result s t universal = record {
    solution = solution_same_sets source other target result s t rules universal.solution;
    maps = λ any solution.
        let back = solution_same_sets other source any any (λ fact. ((s fact).1, (s fact).0)) (λ fact. (λ c. c, λ c. c)) rules solution in
        let map = universal.maps any back in
        record { of_unknown = map.of_unknown; into = λ fact c. map.into fact ((t fact).1 c) };
  }

  -- there is a solution for the other source too
  pub solvable_same_sets : (rules : RuleSet) (source other : List (FactOf C)) → HoldTheSame source other
      → IsSolvable name rules source → IsSolvable name rules other
  solvable_same_sets rules source other s solvable =
      (solvable.0, solution_same_sets source other solvable.0 solvable.0 s (λ fact. (λ c. c, λ c. c)) rules solvable.1)

  -- answers stay, and what is certain
  pub answer_same_sets : (query : Query) (instance other : List (FactOf C)) (terms : List (TermOf C)) → HoldTheSame instance other
      → IsAnswer name query instance terms → IsAnswer name query other terms
  answer_same_sets query instance other terms s a =
      (a.0, a.1, a.2, a.3, (a.4.0, Matches-within a.4.0 a.1.body instance other (λ fact. (s fact).0) a.4.1, a.4.2))

  pub certain_same_sets : (rules : RuleSet) (query : Query) (source other : List (FactOf C)) (constants : List C)
      → HoldTheSame source other → IsCertain name rules query source constants → IsCertain name rules query other constants
  certain_same_sets rules query source other constants s certain target solution =
      certain target (solution_same_sets other source target target (λ fact. ((s fact).1, (s fact).0)) (λ fact. (λ c. c, λ c. c)) rules solution)
