-- Where a rule's line isn't over, a token is wanted.
use Rattle.std.proofs.Common.{inl, inr, ⊎_elim, ℕ, List, [], refl}
use Rattle.rule_core.specs.Mapping.{RuleSet}
use Rattle.decl_text.specs.declared.token.Kind.TheVariants.{Equals}
use Rattle.decl_text.specs.declared.fault.Code.TheVariants.{X5, X6, X7, X8}
use Rattle.decl_text.specs.Declaration.{EndsLine}
use Rattle.decl_text.specs.Tests.{Lexeme, goes, stops, IsFinal}
use Rattle.rule_text.specs.RuleLine.{Frame, body_of_tgd, head_of_tgd, body_of_egd, disjunct_of, kind_code, Said, RulePosition, begins, wants_tgd_name, wants_egd_name, wants_query_name, wants_head_parenthesis, wants_head, wants_head_variable, wants_head_comma, wants_colon, wants_atom, wants_parenthesis, wants_argument, wants_comma, after_atom, after_arrow, wants_exists_variable, wants_exists_comma, wants_left, wants_equals, wants_right, wants_line_end, stated, rule_tests}

-- the line isn't over
abbrev pub IsOpen : RulePosition → Type 0
IsOpen (stated rule) = ⊥
IsOpen other = Unit {0}

-- `=` is wanted at one position alone
abbrev equals : Lexeme
equals = record { kind = Equals; text = [] }

no_line_end : ¬ (EndsLine equals)
no_line_end = ⊎_elim (λ e. cc) (λ e. cc)

after_atom_wants : (rules : RuleSet) (pool : List (List ℕ)) (frame : Frame) (said : Said)
    → ¬ (IsFinal (rule_tests rules pool) (after_atom frame said))
after_atom_wants rules pool (body_of_tgd name) said final = final equals (stops X6) (inr ((λ e. cc), inr ((λ e. cc), refl)))
after_atom_wants rules pool (head_of_tgd name body n) said final = final equals (stops X6) (inr ((λ e. cc), inr (no_line_end, refl)))
after_atom_wants rules pool (body_of_egd name) said final = final equals (stops X7) (inr ((λ e. cc), inr ((λ e. cc), refl)))
after_atom_wants rules pool (disjunct_of name head branches) said final =
    final equals (stops X8) (inr ((λ e. cc), inr ((λ e. cc), inr (no_line_end, refl))))

pub rule_wants : (rules : RuleSet) (pool : List (List ℕ)) (position : RulePosition) → IsOpen position
    → ¬ (IsFinal (rule_tests rules pool) position)
rule_wants rules pool begins here final =
    final equals (stops X5) (inr ((λ e. let k = e.0 in cc), inr ((λ e. let k = e.0 in cc), inr ((λ e. let k = e.0 in cc), refl))))
rule_wants rules pool wants_tgd_name here final = final equals (stops X6) (inr ((λ e. cc), refl))
rule_wants rules pool wants_egd_name here final = final equals (stops X7) (inr ((λ e. cc), refl))
rule_wants rules pool wants_query_name here final = final equals (stops X8) (inr ((λ e. cc), refl))
rule_wants rules pool (wants_head_parenthesis name) here final = final equals (stops X8) (inr ((λ e. cc), refl))
rule_wants rules pool (wants_head name) here final = final equals (stops X8) (inr ((λ e. cc), inr ((λ e. cc), refl)))
rule_wants rules pool (wants_head_variable name head) here final = final equals (stops X8) (inr ((λ e. cc), refl))
rule_wants rules pool (wants_head_comma name head) here final = final equals (stops X8) (inr ((λ e. cc), inr ((λ e. cc), refl)))
rule_wants rules pool (wants_colon frame) here final = final equals (stops (kind_code frame)) (inr ((λ e. cc), refl))
rule_wants rules pool (wants_atom frame said) here final = final equals (stops (kind_code frame)) (inr ((λ e. cc), refl))
rule_wants rules pool (wants_parenthesis frame said atom) here final = final equals (stops (kind_code frame)) (inr ((λ e. cc), refl))
rule_wants rules pool (wants_argument frame said atom) here final =
    final equals (stops (kind_code frame)) (inr ((λ e. cc), inr ((λ e. cc), refl)))
rule_wants rules pool (wants_comma frame said atom) here final =
    final equals (stops (kind_code frame)) (inr ((λ e. cc), inr ((λ e. cc), refl)))
rule_wants rules pool (after_atom frame said) here final = after_atom_wants rules pool frame said final
rule_wants rules pool (after_arrow name said) here final =
    final equals (stops X6) (inr ((λ e. let k = e.0 in cc), inr ((λ e. cc), refl)))
rule_wants rules pool (wants_exists_variable name body n vars) here final = final equals (stops X6) (inr ((λ e. cc), refl))
rule_wants rules pool (wants_exists_comma name body n vars) here final =
    final equals (stops X6) (inr ((λ e. cc), inr ((λ e. cc), refl)))
rule_wants rules pool (wants_left name said) here final = final equals (stops X7) (inr ((λ e. cc), refl))
rule_wants rules pool (wants_equals name said left) here final = final equals (goes (wants_right name said left)) (inl (refl, refl))
rule_wants rules pool (wants_right name said left) here final = final equals (stops X7) (inr ((λ e. cc), refl))
rule_wants rules pool (wants_line_end rule) here final = final equals (stops X7) (inr (no_line_end, refl))
rule_wants rules pool (stated rule) here final = here
