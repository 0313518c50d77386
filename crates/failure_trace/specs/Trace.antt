-- What a trace's bindings say, as terms of the definitions: constants by their texts, unknowns by their numbers.
use Rattle.std.specs.Prelude.{ℕ, List, [], ◌∷◌, map, flat_map, ⊤}
use Rattle.rule_core.specs.Terms.{numbered, TermOf, constant, unknown}
use Rattle.failure_trace.specs.declared.trace.Value.{Value}
use Rattle.failure_trace.specs.declared.trace.Value.TheVariants.{Const, Null}
use Rattle.failure_trace.specs.declared.trace.Bound.{Bound}

-- a text, or an unknown with its number
abbrev pub term_of : Value → TermOf (List ℕ)
term_of (Const text) = constant text
term_of (Null number) = unknown (numbered number)

-- the value is an unknown
abbrev pub IsUnknown : Value → Type 0
IsUnknown (Const text) = ⊥
IsUnknown (Null number) = ⊤

-- its number, if it is one
abbrev pub numbers_of : Value → List ℕ
numbers_of (Const text) = []
numbers_of (Null number) = number ∷ []

-- the names that are bound, in their order
abbrev pub names_in : List Bound → List (List ℕ)
names_in binding = map (λ b. b.name) binding

-- what they are bound to
abbrev pub terms_in : List Bound → List (TermOf (List ℕ))
terms_in binding = map (λ b. term_of b.value) binding

-- the numbers of the unknowns among this
abbrev pub numbers_in : List Bound → List ℕ
numbers_in binding = flat_map (λ b. numbers_of b.value) binding
