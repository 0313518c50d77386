-- What the laws say, over any constants: of a list of constants that is certain, of unknowns that are told otherwise, and of maps
-- of unknowns.
use Rattle.std.specs.Prelude.{◌≡◌, ◌≢◌, ◌⊎◌, ◌↔◌, ℕ, List, map, Contains}
use Rattle.term_core.specs.declared.const_id.ConstId.{ConstId}
use Rattle.rule_core.specs.declared.rules.Atom.{Atom}
use Rattle.rule_core.specs.declared.rules.Egd.{Egd}
use Rattle.rule_core.specs.declared.rules.Query.{Query}
use Rattle.rule_core.specs.Terms.{Unknown, TermOf, constant, unknown, FactOf}
use Rattle.rule_core.specs.Mapping.{RuleSet}
use Rattle.rule_core.specs.Match.{Matches}
use Rattle.rule_core.specs.Frontier.{Occurs}
use Rattle.rule_core.specs.Homomorphism.{term_image, fact_image, Homomorphism}
use Rattle.rule_core.specs.Solution.{EgdHolds, IsUniversal}
use Rattle.rule_core.specs.Answers.{IsAnswer, IsCertain}
use Rattle.rule_core.specs.Renaming.{AreToldApart}

-- where an instance is universal, a list of constants is certain exactly when it is an answer there
abbrev pub CertainIsAnswered : Type 0 → Type 0
CertainIsAnswered C =
    (name : ConstId → C) (rules : RuleSet) (query : Query) (source target : List (FactOf C)) (constants : List C)
    → IsUniversal name rules source target
    → IsCertain name rules query source constants ↔ IsAnswer name query target (map constant constants)

-- the unknowns of a term and of an instance, told otherwise
abbrev pub retold_term : {C : Type 0} → (Unknown C → Unknown C) → TermOf C → TermOf C
retold_term told term = term_image (λ u. unknown (told u)) term

abbrev pub retold : {C : Type 0} → (Unknown C → Unknown C) → List (FactOf C) → List (FactOf C)
retold told instance = map (fact_image (λ u. unknown (told u))) instance

-- matches go along with the unknowns, and come back
abbrev pub MatchesAreRetold : Type 0 → Type 0
MatchesAreRetold C =
    (name : ConstId → C) (binding : ℕ → TermOf C) (atoms : List Atom) (instance : List (FactOf C)) (told back : Unknown C → Unknown C)
    → AreToldApart instance told back
    → (Matches name binding atoms instance → Matches name (λ v. retold_term told (binding v)) atoms (retold told instance))
    × (Matches name binding atoms (retold told instance) → Matches name (λ v. retold_term back (binding v)) atoms instance)

-- an egd whose sides occur in its body holds where it held, and nowhere else
abbrev pub EgdsAreRetold : Type 0 → Type 0
EgdsAreRetold C =
    (name : ConstId → C) (egd : Egd) (instance : List (FactOf C)) (told back : Unknown C → Unknown C)
    → Occurs egd.body egd.left → Occurs egd.body egd.right → AreToldApart instance told back
    → EgdHolds name egd instance ↔ EgdHolds name egd (retold told instance)

-- lists of constants are answers where they were
abbrev pub AnswersAreRetold : Type 0 → Type 0
AnswersAreRetold C =
    (name : ConstId → C) (query : Query) (instance : List (FactOf C)) (told back : Unknown C → Unknown C) (constants : List C)
    → AreToldApart instance told back
    → IsAnswer name query instance (map constant constants) ↔ IsAnswer name query (retold told instance) (map constant constants)

-- facts stay where each unknown does
abbrev pub ImagesStay : Type 0 → Type 0
ImagesStay C = (fact : FactOf C) → fact_image unknown fact ≡ fact

-- two maps after each other are one, and so are two homomorphisms
abbrev pub ImagesCompose : Type 0 → Type 0
ImagesCompose C =
    (first second : Unknown C → TermOf C) (fact : FactOf C)
    → fact_image second (fact_image first fact) ≡ fact_image (λ u. term_image second (first u)) fact

abbrev pub MapsCompose : Type 0 → Type 0
MapsCompose C =
    (first second third : List (FactOf C))
    → Homomorphism (Contains first) second → Homomorphism (Contains second) third → Homomorphism (Contains first) third

-- the map takes the unknown to the term, and leaves each other as it is
abbrev pub IsReplacement : {C : Type 0} → Unknown C → TermOf C → (Unknown C → TermOf C) → Type 0
IsReplacement {C} u term by = (w : Unknown C) → ((w ≡ u) × (by w ≡ term)) ⊎ (by w ≡ unknown w)

-- a match of the egd in the instance has the two sides, in one order or the other
abbrev pub AreSides : {C : Type 0} → (ConstId → C) → Egd → List (FactOf C) → TermOf C → TermOf C → Type 0
AreSides {C} name egd instance one other = (binding : ℕ → TermOf C) × Matches name binding egd.body instance
    × (((binding egd.left ≡ one) × (binding egd.right ≡ other)) ⊎ ((binding egd.left ≡ other) × (binding egd.right ≡ one)))

-- where a match makes an unknown and a term equal, and the term replaces the unknown, each map into an instance in which the egd
-- holds stays one
abbrev pub ReplacingKeepsMaps : Type 0 → Type 0
ReplacingKeepsMaps C =
    (name : ConstId → C) (egd : Egd) (facts instance : List (FactOf C)) (u : Unknown C) (term : TermOf C) (by : Unknown C → TermOf C)
    → AreSides name egd facts (unknown u) term → IsReplacement u term by → EgdHolds name egd instance
    → (h : Unknown C → TermOf C) → ((fact : FactOf C) → Contains facts fact → Contains instance (fact_image h fact))
    → (fact : FactOf C) → Contains (map (fact_image by) facts) fact → Contains instance (fact_image h fact)

-- where a match makes two different constants equal, nothing maps into an instance in which the egd holds
abbrev pub ClashesHaveNoMap : Type 0 → Type 0
ClashesHaveNoMap C =
    (name : ConstId → C) (egd : Egd) (facts instance : List (FactOf C)) (c d : C)
    → c ≢ d → AreSides name egd facts (constant c) (constant d) → EgdHolds name egd instance
    → ¬ (Homomorphism (Contains facts) instance)
