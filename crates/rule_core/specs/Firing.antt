-- What tgds make of a source. A tgd fires once for each list of frontier values that some match of its body gives, whether or not
-- its head holds already. An `exists` variable then stands for the unknown that the tgd's place, these values and the variable name.
use Rattle.std.specs.Prelude.{◌≡◌, ℕ, ◌-◌, ◌==◌, Bool, Option, List, [], map, filter, flat_map, position, option_and_then, Contains, IsSomeAnd, slice_get}
use Rattle.std.specs.List.{list_any, range_with_len}
use Rattle.std.specs.Option.{option_map_or}
use Rattle.time_line.specs.Span.{Ends}
use Rattle.term_core.specs.declared.const_id.ConstId.{ConstId}
use Rattle.rule_core.specs.declared.rules.Atom.{Atom}
use Rattle.rule_core.specs.declared.rules.Tgd.{Tgd}
use Rattle.rule_core.specs.Terms.{named, TermOf, constant, unknown, FactOf, StampedOf}
use Rattle.rule_core.specs.Mapping.{RuleSet}
use Rattle.rule_core.specs.Match.{image, Matches}
use Rattle.rule_core.specs.Validity.{occurrences}

-- whether the variable is an argument of one of the atoms
abbrev pub has_variable : List Atom → ℕ → Bool
has_variable atoms v = list_any (λ w. v == w) (occurrences atoms)

-- the body's variables that occur in the head, ascending
abbrev pub frontier_of : Tgd → List ℕ
frontier_of tgd = filter (has_variable tgd.head) (range_with_len 0 tgd.body_vars)

-- the value at the place that the variable has in the frontier, if it has one
abbrev pub frontier_value : {C : Type 0} → List ℕ → List C → ℕ → Option C
frontier_value frontier values v = option_and_then (λ place. slice_get values place) (position (λ w. w == v) frontier)

-- what a variable of the head of the tgd at the place stands for: a frontier variable for its value, any other for the unknown that
-- the place, the frontier values and its own place among the `exists` variables name
abbrev pub fired_term : {C : Type 0} → ℕ → Tgd → List C → ℕ → TermOf C
fired_term place tgd values v =
    option_map_or constant (frontier_value (frontier_of tgd) values v) (unknown (named place values (v - tgd.body_vars)))

-- a firing, or a stretch of one: the place of its tgd, the frontier values, and a span
pub record FiringOf (C : Type 0) : Type 0 where
  pub rule : ℕ
  pub frontier : List C
  pub span : Ends

module _ {C : Type 0} (name : ConstId → C) where
  -- some constants of the variables match the body in the source, and these are the values of the frontier
  abbrev pub Fires : Tgd → List (FactOf C) → List C → Type 0
  Fires tgd source values =
      (of_variable : ℕ → C) × Matches name (λ v. constant (of_variable v)) tgd.body source × (map of_variable (frontier_of tgd) ≡ values)

  -- the images of the head of the tgd at the place
  abbrev pub fired_facts : ℕ → Tgd → List C → List (FactOf C)
  fired_facts place tgd values = map (image name (fired_term place tgd values)) tgd.head

  -- the fact is an image of the head of a tgd that fires on the source
  abbrev pub IsFiringFact : RuleSet → List (FactOf C) → FactOf C → Type 0
  IsFiringFact rules source fact = (place : ℕ) × IsSomeAnd (slice_get rules.tgds place)
      (λ tgd. (values : List C) × Fires tgd source values × Contains (fired_facts place tgd values) fact)

  -- the images of the head of an entry's tgd, each over the entry's span
  abbrev pub entry_rows : RuleSet → FiringOf C → List (StampedOf (FactOf C))
  entry_rows rules entry = option_map_or
      (λ tgd. map (λ fact. record { row = fact; span = entry.span }) (fired_facts entry.rule tgd entry.frontier))
      (slice_get rules.tgds entry.rule) []

  -- the rows of all entries, in their order
  abbrev pub firing_rows : RuleSet → List (FiringOf C) → List (StampedOf (FactOf C))
  firing_rows rules entries = flat_map (entry_rows rules) entries
