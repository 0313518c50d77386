-- Where a line stands behind its bodies and its disjuncts. No public clause cites this module.
use Rattle.std.specs.Prelude.{◌≡◌, ◌⊎◌, ℕ, List, All, Contains, Option, Some, None, ⊤}
use Rattle.rule_core.specs.declared.rules.Branch.{Branch}
use Rattle.decl_text.specs.declared.token.Kind.TheVariants.{Bar, LineEnd, Finish}
use Rattle.decl_text.specs.declared.token.Token.{Token}
use Rattle.rule_text.specs.declared.follows.After.{After}
use Rattle.rule_text.specs.declared.follows.After.TheVariants.{Next, Closed}
use Rattle.rule_text.specs.declared.part.Part.{Part}
use Rattle.rule_text.specs.declared.part.Part.TheVariants.{TgdBody, EgdBody}
use Rattle.rule_text.specs.declared.rule.Rule.TheVariants.{Query}
use Rattle.rule_text.specs.RuleLine.{Frame, body_of_tgd, body_of_egd, disjunct_of, Said, nothing_said, RulePosition, wants_atom, after_atom, after_arrow, wants_left, stated, AreColumns}

-- an arrow stands behind the atoms of this part
abbrev pub IsBody : Part → Type 0
IsBody part = (part ≡ TgdBody) ⊎ (part ≡ EgdBody)

-- behind the arrow
abbrev pub behind_arrow : Frame → Said → RulePosition
behind_arrow (body_of_tgd name) said = after_arrow name said
behind_arrow (body_of_egd name) said = wants_left name said
behind_arrow other said = after_atom other said

-- behind these disjuncts: one more follows, or the query is stated
abbrev pub behind_disjuncts : List ℕ → List (List ℕ) → List Branch → After → RulePosition
behind_disjuncts name head branches (Next to) = wants_atom (disjunct_of name head branches) nothing_said
behind_disjuncts name head branches (Closed to) = stated (Query (record { name = name; head = head; branches = branches }))

-- one more disjunct follows
abbrev pub GoesOn : After → Type 0
GoesOn (Next to) = ⊤
GoesOn (Closed to) = ⊥

-- the number of each head variable among the variables, or none, where one isn't there
abbrev pub IsColumnList : List (List ℕ) → List (List ℕ) → Option (List ℕ) → Type 0
IsColumnList vars head (Some columns) = AreColumns vars head columns
IsColumnList vars head None = ¬ (All (Contains vars) head)

-- the token is a bar, or ends the line
abbrev pub EndsDisjunct : Token → Type 0
EndsDisjunct token = (token.kind ≡ Bar) ⊎ ((token.kind ≡ LineEnd) ⊎ (token.kind ≡ Finish))

-- what the token behind a disjunct leads to
abbrev pub StandsBehind : Token → After → Type 0
StandsBehind token (Next to) = (token.kind ≡ Bar) × (to ≡ token.end)
StandsBehind token (Closed to) = ((token.kind ≡ LineEnd) ⊎ (token.kind ≡ Finish)) × (to ≡ token.end)
