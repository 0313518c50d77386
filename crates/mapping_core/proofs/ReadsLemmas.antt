-- What is known after each line of a mapping's text.
use Rattle.std.proofs.Common.{◌≡◌, ◌≢◌, ◌⊎◌, ◌↔◌, inl, inr, ℕ, ◌<◌, ◌≤◌, List, [], ◌∷◌, length, slice_get, Some, IsUtf8, Contains, refl, sym, ap, ◌∙◌, arith, rules}
use Rattle.std.proofs.lemmas.List.Elements.{All-weaker, All-contains_itself}
use Rattle.std.proofs.lemmas.Option.{slice_get_within}
use Rattle.term_core.specs.declared.const_id.ConstId.{ConstId}
use Rattle.rule_core.specs.Mapping.{RuleSet}
use Rattle.rule_core.proofs.ListLemmas.{Contains-nil, Contains-cons_cases}
use Rattle.rule_core.specs.declared.rules.Place.{Place}
use Rattle.rule_core.specs.declared.rules.Relation.{Relation}
use Rattle.rule_core.specs.Adding.{with_relation}
use Rattle.decl_text.specs.declared.token.Kind.TheVariants.{Name, Quoted, LineEnd, Finish}
use Rattle.decl_text.specs.declared.token.Token.{Token}
use Rattle.decl_text.specs.declared.fault.MappingFault.{MappingFault}
use Rattle.decl_text.specs.Tokens.{IsNextToken, IsNextFault}
use Rattle.decl_text.specs.TokenList.{KnowsTexts}
use Rattle.decl_text.specs.Tests.{Lexeme, Outcome, goes, IsFinal, Pass, Fails}
use Rattle.decl_text.specs.Declaration.{declared, declaration_tests, IsDeclaration, FailsDeclaration}
use Rattle.decl_text.specs.Declaration as declaration
use Rattle.decl_text.proofs.TestLemmas.{Leads-none, Leads-join, Fails-own, Fails-later, sign_says}
use Rattle.rule_text.specs.declared.rule.Rule.{Rule}
use Rattle.rule_text.specs.RuleLine.{stated, rule_tests, IsRule, FailsRule}
use Rattle.rule_text.specs.RuleLine as line
use Rattle.rule_text.specs.Adding.{with_rule}
use Rattle.rule_text.specs.Constants.{HasConstant, IsQuotedAmong}
use Rattle.mapping_core.specs.Mapping.{AnyHasConstant, IsConstantText, HasItsConstants, meaning_of}
use Rattle.mapping_core.specs.Reading.{at_line, of_declaration, of_rule, mapping_tests, no_rules, IsPoolOf, IsMapping}
use Rattle.mapping_core.specs.Steps.{ReadsTo, RuleBegins, OtherBegins}
use Rattle.rule_text.proofs.ConstantLemmas.{rule_texts, rule_texts_short, rule_constants_known}
use Rattle.decl_text.proofs.FitLemmas.{declared_unquoted}
use Rattle.mapping_core.proofs.QuotedLemmas.{quoted_utf8, quoted_split, quoted_first, quoted_rest, quoted_no_finish, Pass-stand, Stand-forward, AtEnd-finish, token_forward}
use Rattle.mapping_core.proofs.PlacedLemmas.{Pass-begun, Fails-begun}
use Rattle.mapping_core.proofs.LineLemmas.{rule_step, declaration_step, rule_first, rule_word, rule_word_is_name, declaration_first, declaration_word, more_constants, same_constants}

no_constants : (constant : ConstId) → ¬ AnyHasConstant no_rules constant
no_constants constant (inl a) = absurd (omega (arith, a.2))
no_constants constant (inr (inl a)) = absurd (omega (arith, a.2))
no_constants constant (inr (inr a)) = absurd (omega (arith, a.2))

pub ReadsTo-start : (bytes : List ℕ) (pool : List (List ℕ)) → ReadsTo bytes pool 0 no_rules
ReadsTo-start bytes pool = record {
  lines = Leads-none (mapping_tests pool) bytes 0 (at_line no_rules);
  quoted = λ text. (λ q. inr q, λ h. elim h [ inl c ↦ absurd (no_constants c.0 c.1) | inr q ↦ q ]);
  short = λ text c. absurd (no_constants c.0 c.1);
  there = λ constant has. absurd (no_constants constant has);
}

-- a line is read, whose constants are these
ReadsTo-line : (bytes : List ℕ) (pool : List (List ℕ)) (from : ℕ) (set after : RuleSet) (tokens : List Token) (to : ℕ) (New : ConstId → Type 0)
    → ReadsTo bytes pool from set → Pass (mapping_tests pool) bytes from (at_line set) tokens to (at_line after)
    → ((constant : ConstId) → AnyHasConstant after constant ↔ (AnyHasConstant set constant ⊎ New constant))
    → ((text : List ℕ) → IsQuotedAmong bytes tokens text ↔ ((constant : ConstId) × New constant × (slice_get pool constant.0 ≡ Some text)))
    → ((text : List ℕ) → ((constant : ConstId) × New constant × (slice_get pool constant.0 ≡ Some text)) → length text ≤ 4096)
    → ((constant : ConstId) → New constant → constant.0 < length pool)
    → ReadsTo bytes pool to after
ReadsTo-line bytes pool from set after tokens to New before pass more quotes short there =
    let stand = Pass-stand (mapping_tests pool) bytes from (at_line set) tokens to (at_line after) pass in
    record {
      lines = Leads-join (mapping_tests pool) bytes 0 (at_line no_rules) from (at_line set) to (at_line after) before.lines (tokens, pass);
      quoted = λ text. (
        λ q. elim ((before.quoted text).0 q) [
          | inl old ↦ inl (old.0, (more old.0).1 (inl old.1), old.2)
          | inr later ↦ elim (quoted_split bytes from tokens to text stand later) [
            | inl here ↦ let new = (quotes text).0 here in inl (new.0, (more new.0).1 (inr new.1), new.2)
            | inr rest ↦ inr rest
          ]
        ],
        λ h. elim h [
          | inl c ↦ elim ((more c.0).0 c.1) [
            | inl old ↦ (before.quoted text).1 (inl (c.0, old, c.2))
            | inr new ↦ (before.quoted text).1 (inr (quoted_first bytes from tokens to text stand ((quotes text).1 (c.0, new, c.2))))
          ]
          | inr rest ↦ (before.quoted text).1 (inr (quoted_rest bytes from tokens to text stand rest))
        ],
      );
      short = λ text c. elim ((more c.0).0 c.1) [ inl old ↦ before.short text (c.0, old, c.2) | inr new ↦ short text (c.0, new, c.2) ];
      there = λ constant has. elim ((more constant).0 has) [ inl old ↦ before.there constant old | inr new ↦ there constant new ];
    }

-- a line without constants
ReadsTo-plain : (bytes : List ℕ) (pool : List (List ℕ)) (from : ℕ) (set after : RuleSet) (tokens : List Token) (to : ℕ)
    → ReadsTo bytes pool from set → Pass (mapping_tests pool) bytes from (at_line set) tokens to (at_line after)
    → ((constant : ConstId) → AnyHasConstant after constant ↔ AnyHasConstant set constant)
    → ((text : List ℕ) → ¬ IsQuotedAmong bytes tokens text)
    → ReadsTo bytes pool to after
ReadsTo-plain bytes pool from set after tokens to before pass same none =
    ReadsTo-line bytes pool from set after tokens to (λ constant. ⊥) before pass
    (λ constant. (λ h. inl ((same constant).0 h), λ h. elim h [ inl old ↦ (same constant).1 old | inr new ↦ absurd new ]))
    (λ text. (λ q. absurd (none text q), λ c. absurd c.1)) (λ text c. absurd c.1) (λ constant new. absurd new)

rule_goes_on : (rule : Rule) → line.begins ≢ stated rule
rule_goes_on rule e = search rules

declaration_goes_on : (place : Place) (relation : Relation) → declaration.begins ≢ declared place relation
declaration_goes_on place relation e = search rules

pub ReadsTo-rule : (bytes : List ℕ) (pool : List (List ℕ)) (from : ℕ) (set : RuleSet) (rule : Rule) (to : ℕ)
    → ReadsTo bytes pool from set → IsRule bytes set pool from rule to → ReadsTo bytes pool to (with_rule set rule)
ReadsTo-rule bytes pool from set rule to before (tokens, pass) =
    let whole = Pass-begun (rule_tests set pool) (mapping_tests pool) bytes (of_rule set) (rule_step set pool) line.begins (at_line set) from tokens to
    (stated rule) (rule_goes_on rule) (λ lexeme next h. rule_first set pool lexeme (goes next) (rule_word set pool lexeme next h) h) pass in
    let texts = rule_texts set pool bytes from rule tokens to pass in
    ReadsTo-line bytes pool from set (with_rule set rule) tokens to (HasConstant rule) before whole (more_constants set rule) texts
    (λ text needs. rule_texts_short set pool bytes from rule tokens to pass text ((texts text).1 needs))
    (λ constant has. let known = rule_constants_known set pool bytes from rule tokens to pass constant has in
    slice_get_within pool constant.0 known.0 known.1)

pub ReadsTo-declaration : (bytes : List ℕ) (pool : List (List ℕ)) (from : ℕ) (set : RuleSet) (place : Place)
    (relation : Relation) (to : ℕ)
    → ReadsTo bytes pool from set → IsDeclaration bytes set from place relation to → ReadsTo bytes pool to (with_relation set place relation)
ReadsTo-declaration bytes pool from set place relation to before (tokens, pass) =
    let whole = Pass-begun (declaration_tests set) (mapping_tests pool) bytes (of_declaration set) (declaration_step set pool) declaration.begins
    (at_line set) from tokens to (declared place relation) (declaration_goes_on place relation)
    (λ lexeme next h. let word = declaration_word set lexeme next h in declaration_first set pool lexeme (goes next) word.0 word.1 h) pass in
    ReadsTo-plain bytes pool from set (with_relation set place relation) tokens to before whole (same_constants set place relation)
    (λ text among. declared_unquoted bytes set from place relation tokens to pass among.0 text among.1 among.2)

line_end_is_other : (LineEnd ≢ Name) × (LineEnd ≢ Quoted)
line_end_is_other = (λ e. search rules, λ e. search rules)

pub ReadsTo-empty : (bytes : List ℕ) (pool : List (List ℕ)) (from : ℕ) (set : RuleSet) (token : Token) → ReadsTo bytes pool from set
    → IsNextToken bytes from token → token.kind ≡ LineEnd → ReadsTo bytes pool token.end set
ReadsTo-empty bytes pool from set token before next kind =
    let says = (sign_says bytes from token LineEnd next kind (λ e. absurd (line_end_is_other.0 e), λ e. absurd (line_end_is_other.1 e))).says in
    ReadsTo-plain bytes pool from set set (token ∷ []) token.end before
    (next, (at_line set, record { lexeme = record { kind = LineEnd; text = [] }; says = says; tested = inl (inl refl, refl) }, (refl, refl)))
    (λ constant. (λ h. h, λ h. h))
    (λ text q. elim (Contains-cons_cases token q.0 [] q.1) [
      | inl e ↦ line_end_is_other.1 (sym kind ∙ ap (λ t. t.kind) e ∙ sym q.2.kind)
      | inr c ↦ Contains-nil q.0 c
    ])

-- a line has some bytes
line_forward : {P : Type 0} (tests : P → Lexeme → Outcome P → Type 0) (bytes : List ℕ) (begin last : P) (from : ℕ) (tokens : List Token) (to : ℕ)
    → begin ≢ last → ((lexeme : Lexeme) (next : P) → tests begin lexeme (goes next) → lexeme.kind ≢ Finish)
    → Pass tests bytes from begin tokens to last → from < to
line_forward tests bytes begin last from [] to more word pass = absurd (more (sym pass.1))
line_forward tests bytes begin last from (token ∷ tokens) to more word (next, (q, comes, rest)) =
    let some = token_forward bytes from token next (λ e. word comes.lexeme q comes.tested (comes.says.kind ∙ e)) in
    let on = Stand-forward bytes token.end tokens to (Pass-stand tests bytes token.end q tokens to last rest) in
    omega arith

pub rule_forward : (bytes : List ℕ) (pool : List (List ℕ)) (from : ℕ) (set : RuleSet) (rule : Rule) (to : ℕ) → IsRule bytes set pool from rule to
    → from < to
rule_forward bytes pool from set rule to (tokens, pass) = line_forward (rule_tests set pool) bytes line.begins (stated rule) from tokens to
    (rule_goes_on rule) (λ lexeme next h e. name_is_no_finish (sym (rule_word_is_name lexeme (rule_word set pool lexeme next h)) ∙ e)) pass
  where
    name_is_no_finish : Name ≡ Finish → ⊥
    name_is_no_finish e = search rules

pub declaration_forward : (bytes : List ℕ) (from : ℕ) (set : RuleSet) (place : Place) (relation : Relation) (to : ℕ)
    → IsDeclaration bytes set from place relation to → from < to
declaration_forward bytes from set place relation to (tokens, pass) = line_forward (declaration_tests set) bytes declaration.begins
    (declared place relation) from tokens to (declaration_goes_on place relation)
    (λ lexeme next h e. (declaration_word set lexeme next h).0 (inr e)) pass

-- at the beginning of a line a token is wanted
pub line_wants : (pool : List (List ℕ)) (set : RuleSet) → ¬ IsFinal (mapping_tests pool) (at_line set)
line_wants pool set final = final (record { kind = LineEnd; text = [] }) (goes (at_line set)) (inl (inl refl, refl))

-- a fault of a line is the first of the text
pub rule_fails : (bytes : List ℕ) (pool : List (List ℕ)) (from : ℕ) (set : RuleSet) (fault : MappingFault) → ReadsTo bytes pool from set
    → RuleBegins bytes from → FailsRule bytes set pool from fault → Fails (mapping_tests pool) bytes 0 (at_line no_rules) fault
rule_fails bytes pool from set fault before begins fails =
    Fails-later (mapping_tests pool) bytes 0 (at_line no_rules) from (at_line set) fault before.lines
    (Fails-begun (rule_tests set pool) (mapping_tests pool) bytes (of_rule set) (rule_step set pool) line.begins (at_line set) from fault
    (λ token lexeme outcome stands h. rule_first set pool lexeme outcome (begins token lexeme stands) h) (line_wants pool set) fails)

pub declaration_fails : (bytes : List ℕ) (pool : List (List ℕ)) (from : ℕ) (set : RuleSet) (fault : MappingFault) → ReadsTo bytes pool from set
    → OtherBegins bytes from → FailsDeclaration bytes set from fault → Fails (mapping_tests pool) bytes 0 (at_line no_rules) fault
declaration_fails bytes pool from set fault before begins fails =
    Fails-later (mapping_tests pool) bytes 0 (at_line no_rules) from (at_line set) fault before.lines
    (Fails-begun (declaration_tests set) (mapping_tests pool) bytes (of_declaration set) (declaration_step set pool) declaration.begins (at_line set)
    from fault (λ token lexeme outcome stands h. let other = begins token lexeme stands in declaration_first set pool lexeme outcome other.0 other.1 h)
    (line_wants pool set) fails)

-- so is the fault of a token at the beginning of a line
pub token_fails : (bytes : List ℕ) (pool : List (List ℕ)) (from : ℕ) (set : RuleSet) (fault : MappingFault) → ReadsTo bytes pool from set
    → IsNextFault bytes from fault → Fails (mapping_tests pool) bytes 0 (at_line no_rules) fault
token_fails bytes pool from set fault before own =
    Fails-later (mapping_tests pool) bytes 0 (at_line no_rules) from (at_line set) fault before.lines
    (Fails-own (mapping_tests pool) bytes from (at_line set) (line_wants pool set) fault own)

-- the pool has what stands in quotes from a line on
pub ReadsTo-knows : (bytes : List ℕ) (pool : List (List ℕ)) (from : ℕ) (set : RuleSet) → ReadsTo bytes pool from set → IsPoolOf bytes pool
    → KnowsTexts bytes from pool
ReadsTo-knows bytes pool from set before all text q = (all.quoted text).1 ((before.quoted text).1 (inr q))

-- at the end of the text, all is read
pub ReadsTo-end : (bytes : List ℕ) (pool : List (List ℕ)) (from : ℕ) (set : RuleSet) (token : Token) → ReadsTo bytes pool from set
    → IsPoolOf bytes pool → IsNextToken bytes from token → token.kind ≡ Finish → IsMapping bytes (meaning_of set pool)
ReadsTo-end bytes pool from set token before all next kind = record {
  pool = all;
  lines = record {
    at = from;
    before = at_line set;
    finish = token;
    good = before.lines;
    next = next;
    kind = kind;
    comes = record {
      lexeme = record { kind = Finish; text = [] };
      says = (sign_says bytes from token Finish next kind (λ e. search rules, λ e. search rules)).says;
      tested = inl (inr refl, refl);
    };
  };
}

pub ReadsTo-constants : (bytes : List ℕ) (pool : List (List ℕ)) (from : ℕ) (set : RuleSet) (token : Token) → ReadsTo bytes pool from set
    → IsPoolOf bytes pool → IsNextToken bytes from token → token.kind ≡ Finish → HasItsConstants set pool
ReadsTo-constants bytes pool from set token before all next kind =
    let used : (text : List ℕ) → Contains pool text → IsConstantText set pool text = λ text c.
    elim ((before.quoted text).0 ((all.quoted text).0 c)) [
      | inl constant ↦ constant
      | inr later ↦ absurd (quoted_no_finish bytes from text (AtEnd-finish bytes from token next kind) later)
    ] in
    record {
      there = before.there;
      used = All-weaker (Contains pool) (IsConstantText set pool) used pool (All-contains_itself pool);
      utf8 = All-weaker (Contains pool) IsUtf8 (λ text c. quoted_utf8 bytes 0 text ((all.quoted text).0 c)) pool (All-contains_itself pool);
      short = All-weaker (Contains pool) (λ text. length text ≤ 4096) (λ text c. before.short text (used text c)) pool (All-contains_itself pool);
    }
