-- Which part of a line a list of atoms is, and what is said of all frames of a part. No public clause cites this module.
use Rattle.std.specs.Prelude.{◌≡◌, ◌⊎◌, ℕ, ◌<◌, ◌≤◌, List, length}
use Rattle.rule_core.specs.declared.rules.Atom.{Atom}
use Rattle.rule_core.specs.declared.rules.Place.{Place}
use Rattle.rule_core.specs.declared.rules.Relation.{Relation}
use Rattle.rule_core.specs.Adding.{relations_of}
use Rattle.rule_core.specs.Limits.{longest_constant}
use Rattle.rule_core.specs.Mapping.{RuleSet}
use Rattle.decl_text.specs.declared.fault.Code.{Code}
use Rattle.decl_text.specs.declared.fault.Code.TheVariants.{U1, U3, U6}
use Rattle.decl_text.specs.declared.fault.MappingFault.{MappingFault}
use Rattle.decl_text.specs.declared.token.Kind.TheVariants.{Quoted}
use Rattle.decl_text.specs.declared.token.Token.{Token}
use Rattle.decl_text.specs.Tests.{Says, Leads, Fails}
use Rattle.rule_text.specs.declared.part.Part.{Part}
use Rattle.rule_text.specs.declared.part.Part.TheVariants.{TgdBody, TgdHead, EgdBody, Disjunct}
use Rattle.rule_text.specs.RuleLine.{Frame, body_of_tgd, head_of_tgd, body_of_egd, disjunct_of, Said, RulePosition, IsFirstAt, IsFirstNamed, HasName, rule_tests}

-- the part of its line that a list of atoms is
abbrev pub part_of : Frame → Part
part_of (body_of_tgd name) = TgdBody
part_of (head_of_tgd name body body_vars) = TgdHead
part_of (body_of_egd name) = EgdBody
part_of (disjunct_of name head branches) = Disjunct

-- these variables and these atoms
abbrev pub said_of : List (List ℕ) → List Atom → Said
said_of vars atoms = record { vars = vars; atoms = atoms }

module _ (rules : RuleSet) (pool : List (List ℕ)) (bytes : List ℕ) where
  -- in each frame of the part, the line leads from the one position at the first offset to the other at the second
  abbrev pub LeadsIn : Part → ℕ → (Frame → RulePosition) → ℕ → (Frame → RulePosition) → Type 0
  LeadsIn part from position to last =
      (frame : Frame) → part_of frame ≡ part → Leads (rule_tests rules pool) bytes from (position frame) to (last frame)

  -- in each frame of the part, this is the first fault from that position on
  abbrev pub FailsIn : Part → ℕ → (Frame → RulePosition) → MappingFault → Type 0
  FailsIn part from position fault =
      (frame : Frame) → part_of frame ≡ part → Fails (rule_tests rules pool) bytes from (position frame) fault

-- the relation with the name is the first of it on this side; it has this number, and so many columns
abbrev pub IsFound : RuleSet → Place → List ℕ → ℕ → ℕ → Type 0
IsFound rules side name number width =
    (relation : Relation) × IsFirstNamed (relations_of rules side) name number relation × (width ≡ length relation.columns)

-- some relation has the name
abbrev pub IsDeclared : RuleSet → List ℕ → Type 0
IsDeclared rules name = HasName rules.sources name ⊎ HasName rules.targets name

-- why no relation with the name is found on this side: there is none at all, or it is of the other side
abbrev pub IsMissing : RuleSet → Place → List ℕ → Code → Type 0
IsMissing rules side name code =
    (¬ (IsDeclared rules name) × (code ≡ U1))
    ⊎ (IsDeclared rules name × ¬ (HasName (relations_of rules side) name) × (code ≡ U3))

-- the token is a constant of the pool, which has this number
abbrev pub IsConstant : List (List ℕ) → List ℕ → Token → ℕ → Type 0
IsConstant pool bytes token number = (text : List ℕ)
    × Says bytes token (record { kind = Quoted; text = text }) × (length text ≤ longest_constant) × IsFirstAt pool text number

-- the token is a text in quotes that is too long
abbrev pub IsLong : List ℕ → Token → MappingFault → Type 0
IsLong bytes token fault = (text : List ℕ)
    × Says bytes token (record { kind = Quoted; text = text }) × (longest_constant < length text) × (fault ≡ record { code = U6; place = token.start })
