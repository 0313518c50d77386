-- Each step of a query's line outside its atoms, by its tests.
use Rattle.std.proofs.Common.{◌≡◌, ◌⊎◌, inl, inr, ℕ, ◌<◌, ◌≤◌, List, [], ◌∷◌, ◌++◌, length, All, Contains, refl, sym, subst, ◌∙◌, arith}
use Rattle.rule_text.proofs.WantedLemmas.{rule_wants}
use Rattle.std.specs.Prelude.{◌≢◌}
use Rattle.std.proofs.lemmas.List.Elements.{All-nil, All-cons}
use Rattle.rule_core.specs.declared.rules.Branch.{Branch}
use Rattle.rule_core.specs.Mapping.{RuleSet}
use Rattle.decl_text.specs.declared.token.Kind.TheVariants.{LeftParen, RightParen, Comma, Bar, LineEnd, Finish}
use Rattle.decl_text.specs.declared.token.Token.{Token}
use Rattle.decl_text.specs.declared.fault.Code.TheVariants.{X8, U4, U6}
use Rattle.decl_text.specs.declared.fault.MappingFault.{MappingFault}
use Rattle.decl_text.specs.Tokens.{IsNextToken}
use Rattle.decl_text.specs.Parts.{StandsNext, FailsAt, IsOther}
use Rattle.decl_text.specs.Tests.{Lexeme, stops, Leads, Fails}
use Rattle.decl_text.specs.Declaration.{EndsLine}
use Rattle.decl_text.proofs.TestLemmas.{Leads-one, Fails-token, Fails-at}
use Rattle.rule_text.specs.declared.follows.After.{After}
use Rattle.rule_text.specs.declared.follows.After.TheVariants.{Next, Closed}
use Rattle.rule_text.specs.declared.rule.Rule.{Rule}
use Rattle.rule_text.specs.declared.rule.Rule.TheVariants.{Query}
use Rattle.rule_text.specs.RuleLine.{disjunct_of, Said, nothing_said, wants_head_parenthesis, wants_head, wants_head_variable, wants_head_comma, wants_colon, wants_atom, after_atom, stated, rule_tests, IsFirstAt, AreColumns, HasHead}
use Rattle.rule_text.specs.Follows.{offset_of, StandsSign, IsNoAfter}
use Rattle.rule_text.specs.Behind.{EndsDisjunct, StandsBehind, GoesOn, behind_disjuncts}
use Rattle.rule_text.proofs.LineLemmas.{Leads-sign, Leads-alike, Fails-alike}
use Rattle.rule_text.proofs.LookupLemmas.{first_is_there}
use Rattle.rule_text.proofs.RuleLemmas.{NoComma, end_is_no_comma, end_is_no_bar}

-- where each head variable has a column, each is in the disjunct
pub columns_have_head : (vars head : List (List ℕ)) (columns : List ℕ) → AreColumns vars head columns → All (Contains vars) head
columns_have_head vars [] columns are = All-nil (Contains vars)
columns_have_head vars (name ∷ names) [] are = absurd are
columns_have_head vars (name ∷ names) (column ∷ columns) are =
    All-cons (Contains vars) name names (first_is_there vars name column are.0) (columns_have_head vars names columns are.1)

-- one more column for one more head variable
pub columns_push : (vars head : List (List ℕ)) (columns : List ℕ) (name : List ℕ) (column : ℕ) → AreColumns vars head columns
    → IsFirstAt vars name column → AreColumns vars (head ++ name ∷ []) (columns ++ column ∷ [])
columns_push vars [] [] name column are first = (first, tt)
columns_push vars [] (k ∷ ks) name column are first = absurd are
columns_push vars (n ∷ ns) [] name column are first = absurd are
columns_push vars (n ∷ ns) (k ∷ ks) name column are first = (are.0, columns_push vars ns ks name column are.1 first)

-- one more disjunct follows a bar alone
pub bar_goes_on : (token : Token) (after : After) → StandsBehind token after → GoesOn after → token.kind ≡ Bar
bar_goes_on token (Next to) stands more = stands.0
bar_goes_on token (Closed to) stands more = absurd more

-- what stands behind a disjunct ends it
pub behind_ends : (token : Token) (after : After) → StandsBehind token after → EndsDisjunct token
behind_ends token (Next to) stands = inl stands.0
behind_ends token (Closed to) stands = inr stands.0

-- it stands up to the token's end
pub offset_behind : (token : Token) (after : After) → StandsBehind token after → offset_of after ≡ token.end
offset_behind token (Next to) stands = stands.1
offset_behind token (Closed to) stands = stands.1

-- a disjunct with these variables, these atoms and these columns
abbrev pub branch_of : Said → List ℕ → Branch
branch_of said columns = record { vars = said.vars; body = said.atoms; columns = columns }

-- the query of these
abbrev pub query_of : List ℕ → List (List ℕ) → List Branch → Rule
query_of name head branches = Query (record { name = name; head = head; branches = branches })

module _ (rules : RuleSet) (pool : List (List ℕ)) (bytes : List ℕ) (from : ℕ) (name : List ℕ) where
  -- the parenthesis before the head variables
  pub head_opens : (to : ℕ) → StandsSign bytes from LeftParen to
      → Leads (rule_tests rules pool) bytes from (wants_head_parenthesis name) to (wants_head name)
  head_opens to sign =
      Leads-sign (rule_tests rules pool) bytes from (wants_head_parenthesis name) (wants_head name) LeftParen to sign (inl (refl, refl))

  pub head_opens_not : (fault : MappingFault) → FailsAt bytes from (IsOther LeftParen X8) fault
      → Fails (rule_tests rules pool) bytes from (wants_head_parenthesis name) fault
  head_opens_not fault =
      Fails-at (rule_tests rules pool) bytes from (wants_head_parenthesis name) (rule_wants rules pool (wants_head_parenthesis name) tt) (IsOther LeftParen X8) fault
      (λ lexeme code bad. inr (bad.0, λ i. stops (bad.1 i)))

  -- no head variable
  pub head_is_empty : (token : Token) (lexeme : Lexeme) → StandsNext bytes from token lexeme → token.kind ≡ RightParen
      → Leads (rule_tests rules pool) bytes from (wants_head name) token.end (wants_colon (disjunct_of name [] []))
  head_is_empty token lexeme stands kind =
      Leads-one (rule_tests rules pool) bytes from (wants_head name) (wants_colon (disjunct_of name [] [])) token lexeme stands
      (inl (stands.says.kind ∙ kind, refl))

  module _ (other : (token : Token) → IsNextToken bytes from token → token.kind ≢ RightParen) where
    pub head_goes : (to : ℕ) (head : List (List ℕ))
        → Leads (rule_tests rules pool) bytes from (wants_head_variable name []) to (wants_colon (disjunct_of name head []))
        → Leads (rule_tests rules pool) bytes from (wants_head name) to (wants_colon (disjunct_of name head []))
    head_goes to head =
        Leads-alike (rule_tests rules pool) bytes from (wants_head_variable name []) (wants_head name)
        (λ token lexeme outcome stands tested. inr ((λ e. other token stands.next (sym stands.says.kind ∙ e)), tested))
        to (wants_colon (disjunct_of name head [])) (λ e. cc)

    pub head_fails : (fault : MappingFault) → Fails (rule_tests rules pool) bytes from (wants_head_variable name []) fault
        → Fails (rule_tests rules pool) bytes from (wants_head name) fault
    head_fails =
        Fails-alike (rule_tests rules pool) bytes from (wants_head_variable name []) (wants_head name)
        (λ token lexeme outcome stands tested. inr ((λ e. other token stands.next (sym stands.says.kind ∙ e)), tested))
        (rule_wants rules pool (wants_head name) tt)

  -- what follows a head variable
  pub head_comma_goes : (head : List (List ℕ)) (to : ℕ) → StandsSign bytes from Comma to
      → Leads (rule_tests rules pool) bytes from (wants_head_comma name head) to (wants_head_variable name head)
  head_comma_goes head to sign =
      Leads-sign (rule_tests rules pool) bytes from (wants_head_comma name head) (wants_head_variable name head) Comma to sign (inl (refl, refl))

  pub head_closes : (head : List (List ℕ)) (to : ℕ) → StandsSign bytes from RightParen to
      → Leads (rule_tests rules pool) bytes from (wants_head_comma name head) to (wants_colon (disjunct_of name head []))
  head_closes head to sign =
      Leads-sign (rule_tests rules pool) bytes from (wants_head_comma name head) (wants_colon (disjunct_of name head [])) RightParen to sign
      (inr ((λ e. let no : RightParen ≡ Comma = e in cc), inl (refl, refl)))

  pub head_comma_fails : (head : List (List ℕ)) (fault : MappingFault) → FailsAt bytes from (IsNoAfter RightParen X8) fault
      → Fails (rule_tests rules pool) bytes from (wants_head_comma name head) fault
  head_comma_fails head fault =
      Fails-at (rule_tests rules pool) bytes from (wants_head_comma name head) (rule_wants rules pool (wants_head_comma name head) tt) (IsNoAfter RightParen X8) fault
      (λ lexeme code bad. inr (bad.0, inr (bad.1, λ i. stops (bad.2 i))))

  -- what follows a disjunct
  module _ (head : List (List ℕ)) (branches : List Branch) (said : Said) (token : Token) (lexeme : Lexeme)
      (stands : StandsNext bytes from token lexeme) where
    bar_is_no_comma : token.kind ≡ Bar → lexeme.kind ≢ Comma
    bar_is_no_comma kind comma = let e : Bar ≡ Comma = sym kind ∙ (sym stands.says.kind ∙ comma) in cc

    pub bar_goes : (columns : List ℕ) → token.kind ≡ Bar → length branches < 7 → AreColumns said.vars head columns
        → Leads (rule_tests rules pool) bytes from (after_atom (disjunct_of name head branches) said)
        token.end (wants_atom (disjunct_of name head (branches ++ branch_of said columns ∷ [])) nothing_said)
    bar_goes columns kind few are =
        Leads-one (rule_tests rules pool) bytes from (after_atom (disjunct_of name head branches) said)
        (wants_atom (disjunct_of name head (branches ++ branch_of said columns ∷ [])) nothing_said) token lexeme stands
        (inr (bar_is_no_comma kind, inl (stands.says.kind ∙ kind, inl (columns_have_head said.vars head columns are, inl (few, (columns, are, refl))))))

    pub query_ends : (columns : List ℕ) → EndsLine lexeme → AreColumns said.vars head columns
        → Leads (rule_tests rules pool) bytes from (after_atom (disjunct_of name head branches) said)
        token.end (stated (query_of name head (branches ++ branch_of said columns ∷ [])))
    query_ends columns ends are =
        Leads-one (rule_tests rules pool) bytes from (after_atom (disjunct_of name head branches) said)
        (stated (query_of name head (branches ++ branch_of said columns ∷ []))) token lexeme stands
        (inr (
          end_is_no_comma lexeme ends,
          inr (
            end_is_no_bar lexeme ends,
            inl (
              ends,
              inl (
                columns_have_head said.vars head columns are,
                (columns, are, refl),
              ),
            ),
          ),
        ))

    pub disjunct_goes_on : NoComma bytes from → token.kind ≢ Bar → ¬ (EndsLine lexeme)
        → Fails (rule_tests rules pool) bytes from (after_atom (disjunct_of name head branches) said) (record { code = X8; place = token.start })
    disjunct_goes_on last bar more =
        Fails-token (rule_tests rules pool) bytes from (after_atom (disjunct_of name head branches) said) token lexeme X8 stands
        (inr (
          (λ comma. last token stands.next (sym stands.says.kind ∙ comma)),
          inr ((λ e. bar (sym stands.says.kind ∙ e)), inr (more, refl)),
        ))

    pub head_is_missing : (token.kind ≡ Bar) ⊎ EndsLine lexeme → ¬ (HasHead head said)
        → Fails (rule_tests rules pool) bytes from (after_atom (disjunct_of name head branches) said) (record { code = U4; place = token.start })
    head_is_missing (inl kind) none =
        Fails-token (rule_tests rules pool) bytes from (after_atom (disjunct_of name head branches) said) token lexeme U4 stands
        (inr (bar_is_no_comma kind, inl (stands.says.kind ∙ kind, inr (none, refl))))
    head_is_missing (inr ends) none =
        Fails-token (rule_tests rules pool) bytes from (after_atom (disjunct_of name head branches) said) token lexeme U4 stands
        (inr (end_is_no_comma lexeme ends, inr (end_is_no_bar lexeme ends, inl (ends, inr (none, refl)))))

    pub bars_too_many : (columns : List ℕ) → token.kind ≡ Bar → AreColumns said.vars head columns → 7 ≤ length branches
        → Fails (rule_tests rules pool) bytes from (after_atom (disjunct_of name head branches) said) (record { code = U6; place = token.start })
    bars_too_many columns kind are full =
        Fails-token (rule_tests rules pool) bytes from (after_atom (disjunct_of name head branches) said) token lexeme U6 stands
        (inr (
          bar_is_no_comma kind,
          inl (
            stands.says.kind ∙ kind,
            inl (
              columns_have_head said.vars head columns are,
              inr ((λ few. omega arith), refl),
            ),
          ),
        ))

    says_end : (token.kind ≡ LineEnd) ⊎ (token.kind ≡ Finish) → EndsLine lexeme
    says_end (inl e) = inl (stands.says.kind ∙ e)
    says_end (inr e) = inr (stands.says.kind ∙ e)

    end_says : EndsLine lexeme → (token.kind ≡ LineEnd) ⊎ (token.kind ≡ Finish)
    end_says (inl e) = inl (sym stands.says.kind ∙ e)
    end_says (inr e) = inr (sym stands.says.kind ∙ e)

    pub disjunct_ends : (columns : List ℕ) (after : After) → StandsBehind token after → (GoesOn after → length branches < 7)
        → AreColumns said.vars head columns
        → Leads (rule_tests rules pool) bytes from (after_atom (disjunct_of name head branches) said)
        (offset_of after) (behind_disjuncts name head (branches ++ branch_of said columns ∷ []) after)
    disjunct_ends columns (Next to) behind few are =
        subst (λ (n : ℕ). Leads (rule_tests rules pool) bytes from (after_atom (disjunct_of name head branches) said)
        n (wants_atom (disjunct_of name head (branches ++ branch_of said columns ∷ [])) nothing_said)) (sym behind.1)
        (bar_goes columns behind.0 (few tt) are)
    disjunct_ends columns (Closed to) behind few are =
        subst (λ (n : ℕ). Leads (rule_tests rules pool) bytes from (after_atom (disjunct_of name head branches) said)
        n (stated (query_of name head (branches ++ branch_of said columns ∷ [])))) (sym behind.1)
        (query_ends columns (says_end behind.0) are)

    pub wrong_behind : NoComma bytes from → ¬ (EndsDisjunct token)
        → Fails (rule_tests rules pool) bytes from (after_atom (disjunct_of name head branches) said) (record { code = X8; place = token.start })
    wrong_behind last none = disjunct_goes_on last (λ bar. none (inl bar)) (λ ends. none (inr (end_says ends)))

    pub head_missing_at : EndsDisjunct token → ¬ (All (Contains said.vars) head)
        → Fails (rule_tests rules pool) bytes from (after_atom (disjunct_of name head branches) said) (record { code = U4; place = token.start })
    head_missing_at (inl bar) none = head_is_missing (inl bar) none
    head_missing_at (inr ends) none = head_is_missing (inr (says_end ends)) none
