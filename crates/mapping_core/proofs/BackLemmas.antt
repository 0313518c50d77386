-- A mapping's canonical text is read as the mapping.
use Rattle.std.proofs.Common.{◌≡◌, inl, inr, ℕ, ◌+◌, List, [], ◌∷◌, ◌++◌, append_assoc, append-nil, length, length-append, drop, All, IsUtf8, Contains, Any, refl, sym, ap, ◌∙◌, subst, arith}
use Rattle.std.specs.List.{flat_map}
use Rattle.std.proofs.lemmas.List.Elements.{All-contains, Contains-append_right}
use Rattle.term_core.specs.declared.const_id.ConstId.{ConstId}
use Rattle.term_core.specs.Pool.{IsPool}
use Rattle.term_core.proofs.PoolLemmas.{found_there}
use Rattle.rule_core.specs.Mapping.{RuleSet, rules_of}
use Rattle.rule_core.specs.Adding.{with_relation}
use Rattle.rule_core.proofs.ListLemmas.{Contains-head}
use Rattle.rule_core.specs.Validity.{IsValid}
use Rattle.rule_core.specs.declared.rules.Place.{Place}
use Rattle.rule_core.specs.declared.rules.Place.TheVariants.{Source, Target}
use Rattle.rule_core.specs.declared.rules.Relation.{Relation}
use Rattle.rule_core.specs.declared.rules.Tgd.{Tgd as TgdValue}
use Rattle.rule_core.specs.declared.rules.Egd.{Egd as EgdValue}
use Rattle.rule_core.specs.declared.rules.Query.{Query as QueryValue}
use Rattle.decl_text.specs.Canonical.{declaration_text}
use Rattle.decl_text.specs.Declaration.{IsDeclaration}
use Rattle.decl_text.specs.declared.token.Kind.TheVariants.{Finish}
use Rattle.decl_text.specs.Tokens.{IsNextToken}
use Rattle.decl_text.proofs.PrintedLemmas.{declaration_written}
use Rattle.rule_text.specs.declared.rule.Rule.{Rule}
use Rattle.rule_text.specs.declared.rule.Rule.TheVariants.{Tgd, Egd, Query}
use Rattle.rule_text.specs.Canonical.{rule_text}
use Rattle.rule_text.specs.RuleLine.{IsRule}
use Rattle.rule_text.specs.Adding.{with_rule}
use Rattle.rule_text.specs.Constants.{HasConstant, HasTexts}
use Rattle.rule_text.proofs.AtomLemmas.{IsShortText}
use Rattle.rule_text.proofs.TgdLemmas.{tgd_written}
use Rattle.rule_text.proofs.EgdLemmas.{egd_written}
use Rattle.rule_text.proofs.QueryLemmas.{query_written}
use Rattle.mapping_core.specs.Mapping.{Meaning, HasItsConstants, AnyHasConstant, IsConstantText}
use Rattle.mapping_core.specs.Reading.{IsPoolOf, IsMapping}
use Rattle.mapping_core.specs.Steps.{ReadsTo}
use Rattle.mapping_core.proofs.FrontLemmas.{valid_relations, valid_rules}
use Rattle.mapping_core.proofs.TextsLemmas.{rule_textual, text_there}
use Rattle.mapping_core.proofs.QuotedLemmas.{quoted_no_finish, AtEnd-finish}
use Rattle.mapping_core.proofs.ReadsLemmas.{ReadsTo-start, ReadsTo-declaration, ReadsTo-rule, ReadsTo-end}

-- lines of one kind, one after another, each of which is read where it stands
module _ {X : Type 0} (text : X → List ℕ) (set_of : List X → RuleSet) (bytes : List ℕ) (pool : List (List ℕ)) (all : List X)
    (line : (before rest : List ℕ) (done : List X) (x : X) (todo : List X) → all ≡ done ++ x ∷ todo → bytes ≡ before ++ (text x ++ rest)
    → ReadsTo bytes pool (length before) (set_of done) → ReadsTo bytes pool (length before + length (text x)) (set_of (done ++ x ∷ []))) where
  lines_read : (done todo : List X) (before rest : List ℕ) → all ≡ done ++ todo → bytes ≡ before ++ (flat_map text todo ++ rest)
      → ReadsTo bytes pool (length before) (set_of done) → ReadsTo bytes pool (length (before ++ flat_map text todo)) (set_of all)
  lines_read done [] before rest whole is reads =
      subst (λ xs. ReadsTo bytes pool (length (before ++ [])) (set_of xs)) (sym (whole ∙ append-nil done))
      (subst (λ l. ReadsTo bytes pool (length l) (set_of done)) (sym (append-nil before)) reads)
  lines_read done (x ∷ todo) before rest whole is reads =
      let here = is ∙ ap (λ l. before ++ l) (append_assoc (text x) (flat_map text todo) rest) in
      let first = line before (flat_map text todo ++ rest) done x todo whole here reads in
      let after : ReadsTo bytes pool (length (before ++ text x)) (set_of (done ++ x ∷ [])) =
      subst (λ n. ReadsTo bytes pool n (set_of (done ++ x ∷ []))) (sym (length-append before (text x))) first in
      let more = lines_read (done ++ x ∷ []) todo (before ++ text x) rest (whole ∙ sym (append_assoc done (x ∷ []) todo))
      (here ∙ sym (append_assoc before (text x) (flat_map text todo ++ rest))) after in
      subst (λ l. ReadsTo bytes pool (length l) (set_of all)) (append_assoc before (text x) (flat_map text todo)) more

-- the end of the text stands at its length
end_there : (bytes : List ℕ) → IsNextToken bytes (length bytes) (record { kind = Finish; start = length bytes; end = length bytes })
end_there bytes = record {
  gap = [];
  spelled = [];
  rest = [];
  bytes_are = none bytes;
  gap_before = record { blanks = []; comment = []; bytes_are = refl; all_blank = λ k d lt. absurd (omega (arith, lt)); one_comment = tt };
  start_is = omega arith;
  end_is = omega arith;
  whole = (refl, refl);
}
  where
    none : (l : List ℕ) → drop (length l) l ≡ []
    none [] = refl
    none (x ∷ xs) = none xs

-- a canonical line is read where it stands
declaration_line : (bytes : List ℕ) (pool : List (List ℕ)) (before rest : List ℕ) (set : RuleSet) (place : Place) (relation : Relation)
    → IsValid (with_relation set place relation) → bytes ≡ before ++ (declaration_text place relation ++ rest)
    → ReadsTo bytes pool (length before) set
    → ReadsTo bytes pool (length before + length (declaration_text place relation)) (with_relation set place relation)
declaration_line bytes pool before rest set place relation valid is reads =
    let to = length before + length (declaration_text place relation) in
    ReadsTo-declaration bytes pool (length before) set place relation to reads
    (subst (λ b. IsDeclaration b set (length before) place relation to) (sym is) ((declaration_written set place relation valid).leads before rest tt))

rule_line : (bytes : List ℕ) (pool : List (List ℕ)) (before rest : List ℕ) (set : RuleSet) (rule : Rule)
    → IsValid (with_rule set rule) → IsPool pool → All IsUtf8 pool → HasTexts pool IsShortText rule
    → bytes ≡ before ++ (rule_text set pool rule ++ rest) → ReadsTo bytes pool (length before) set
    → ReadsTo bytes pool (length before + length (rule_text set pool rule)) (with_rule set rule)
rule_line bytes pool before rest set rule valid ordered utf8 texts is reads =
    let to = length before + length (rule_text set pool rule) in
    ReadsTo-rule bytes pool (length before) set rule to reads
    (subst (λ b. IsRule b set pool (length before) rule to) (sym is) (written rule valid texts before rest))
  where
    written : (rule : Rule) → IsValid (with_rule set rule) → HasTexts pool IsShortText rule → (before rest : List ℕ)
        → IsRule (before ++ (rule_text set pool rule ++ rest)) set pool (length before) rule (length before + length (rule_text set pool rule))
    written (Tgd tgd) valid texts before rest = (tgd_written set pool tgd valid ordered utf8 texts.0 texts.1).leads before rest tt
    written (Egd egd) valid texts before rest = (egd_written set pool egd valid ordered utf8 texts).leads before rest tt
    written (Query query) valid texts before rest = (query_written set pool query valid ordered utf8 texts).leads before rest tt

-- a member of a list, by what stands before it
Any-there : {X : Type 0} (P : X → Type 0) (all done : List X) (x : X) (todo : List X) → all ≡ done ++ x ∷ todo → P x → Any P all
Any-there P all done x todo whole holds =
    let c = subst (λ l. Contains l x) (sym whole) (Contains-append_right done (x ∷ todo) x (Contains-head x todo)) in
    (c.0, x, c.1, c.2, holds)

split : {X : Type 0} (all done : List X) (x : X) (todo : List X) → all ≡ done ++ x ∷ todo → all ≡ (done ++ x ∷ []) ++ todo
split all done x todo whole = whole ∙ sym (append_assoc done (x ∷ []) todo)

module _ (m : Meaning) (valid : IsValid m.rules) (ordered : IsPool m.pool) (constants : HasItsConstants m.rules m.pool) (bytes : List ℕ) where
  abbrev S : List Relation
  S = m.rules.sources

  abbrev T : List Relation
  T = m.rules.targets

  texts_of : (rule : Rule) → ((c : ConstId) → HasConstant rule c → AnyHasConstant m.rules c) → HasTexts m.pool IsShortText rule
  texts_of rule among =
      rule_textual m.pool IsShortText rule (λ c has. text_there m.pool IsShortText c constants.short (constants.there c (among c has)))

  source_line : (before rest : List ℕ) (done : List Relation) (x : Relation) (todo : List Relation) → S ≡ done ++ x ∷ todo
      → bytes ≡ before ++ (declaration_text Source x ++ rest) → ReadsTo bytes m.pool (length before) (rules_of done [] [] [] [])
      → ReadsTo bytes m.pool (length before + length (declaration_text Source x)) (rules_of (done ++ x ∷ []) [] [] [] [])
  source_line before rest done x todo whole is reads =
      declaration_line bytes m.pool before rest (rules_of done [] [] [] []) Source x
      (valid_relations (done ++ x ∷ []) todo [] T m.rules.tgds m.rules.egds m.rules.queries
      (subst (λ l. IsValid (rules_of l T m.rules.tgds m.rules.egds m.rules.queries)) (split S done x todo whole) valid)) is reads

  target_line : (before rest : List ℕ) (done : List Relation) (x : Relation) (todo : List Relation) → T ≡ done ++ x ∷ todo
      → bytes ≡ before ++ (declaration_text Target x ++ rest) → ReadsTo bytes m.pool (length before) (rules_of S done [] [] [])
      → ReadsTo bytes m.pool (length before + length (declaration_text Target x)) (rules_of S (done ++ x ∷ []) [] [] [])
  target_line before rest done x todo whole is reads =
      declaration_line bytes m.pool before rest (rules_of S done [] [] []) Target x
      (valid_relations S [] (done ++ x ∷ []) todo m.rules.tgds m.rules.egds m.rules.queries
      (subst (λ l. IsValid (rules_of l ((done ++ x ∷ []) ++ todo) m.rules.tgds m.rules.egds m.rules.queries)) (sym (append-nil S))
      (subst (λ l. IsValid (rules_of S l m.rules.tgds m.rules.egds m.rules.queries)) (split T done x todo whole) valid))) is reads

  tgd_line : (before rest : List ℕ) (done : List TgdValue) (x : TgdValue) (todo : List TgdValue) → m.rules.tgds ≡ done ++ x ∷ todo
      → bytes ≡ before ++ (rule_text m.rules m.pool (Tgd x) ++ rest) → ReadsTo bytes m.pool (length before) (rules_of S T done [] [])
      → ReadsTo bytes m.pool (length before + length (rule_text m.rules m.pool (Tgd x))) (rules_of S T (done ++ x ∷ []) [] [])
  tgd_line before rest done x todo whole is reads =
      rule_line bytes m.pool before rest (rules_of S T done [] []) (Tgd x)
      (valid_rules S T (done ++ x ∷ []) todo [] m.rules.egds [] m.rules.queries
      (subst (λ l. IsValid (rules_of S T l m.rules.egds m.rules.queries)) (split m.rules.tgds done x todo whole) valid))
      ordered constants.utf8
      (texts_of (Tgd x) (λ c has. inl (Any-there (λ t. HasConstant (Tgd t) c) m.rules.tgds done x todo whole has))) is reads

  egd_line : (before rest : List ℕ) (done : List EgdValue) (x : EgdValue) (todo : List EgdValue) → m.rules.egds ≡ done ++ x ∷ todo
      → bytes ≡ before ++ (rule_text m.rules m.pool (Egd x) ++ rest) → ReadsTo bytes m.pool (length before) (rules_of S T m.rules.tgds done [])
      → ReadsTo bytes m.pool (length before + length (rule_text m.rules m.pool (Egd x))) (rules_of S T m.rules.tgds (done ++ x ∷ []) [])
  egd_line before rest done x todo whole is reads =
      rule_line bytes m.pool before rest (rules_of S T m.rules.tgds done []) (Egd x)
      (valid_rules S T m.rules.tgds [] (done ++ x ∷ []) todo [] m.rules.queries
      (subst (λ l. IsValid (rules_of S T l ((done ++ x ∷ []) ++ todo) m.rules.queries)) (sym (append-nil m.rules.tgds))
      (subst (λ l. IsValid (rules_of S T m.rules.tgds l m.rules.queries)) (split m.rules.egds done x todo whole) valid)))
      ordered constants.utf8
      (texts_of (Egd x) (λ c has. inr (inl (Any-there (λ e. HasConstant (Egd e) c) m.rules.egds done x todo whole has)))) is reads

  query_line : (before rest : List ℕ) (done : List QueryValue) (x : QueryValue) (todo : List QueryValue) → m.rules.queries ≡ done ++ x ∷ todo
      → bytes ≡ before ++ (rule_text m.rules m.pool (Query x) ++ rest)
      → ReadsTo bytes m.pool (length before) (rules_of S T m.rules.tgds m.rules.egds done)
      → ReadsTo bytes m.pool (length before + length (rule_text m.rules m.pool (Query x))) (rules_of S T m.rules.tgds m.rules.egds (done ++ x ∷ []))
  query_line before rest done x todo whole is reads =
      rule_line bytes m.pool before rest (rules_of S T m.rules.tgds m.rules.egds done) (Query x)
      (valid_rules S T m.rules.tgds [] m.rules.egds [] (done ++ x ∷ []) todo
      (subst (λ l. IsValid (rules_of S T l (m.rules.egds ++ []) ((done ++ x ∷ []) ++ todo))) (sym (append-nil m.rules.tgds))
      (subst (λ l. IsValid (rules_of S T m.rules.tgds l ((done ++ x ∷ []) ++ todo))) (sym (append-nil m.rules.egds))
      (subst (λ l. IsValid (rules_of S T m.rules.tgds m.rules.egds l)) (split m.rules.queries done x todo whole) valid))))
      ordered constants.utf8
      (texts_of (Query x) (λ c has. inr (inr (Any-there (λ q. HasConstant (Query q) c) m.rules.queries done x todo whole has)))) is reads

  -- the lines of all kinds, where each begins at the end of the ones before
  module _ (a b c d e : List ℕ) (is : bytes ≡ a ++ (b ++ (c ++ (d ++ e)))) (a_is : a ≡ flat_map (declaration_text Source) S)
      (b_is : b ≡ flat_map (declaration_text Target) T) (c_is : c ≡ flat_map (λ t. rule_text m.rules m.pool (Tgd t)) m.rules.tgds)
      (d_is : d ≡ flat_map (λ g. rule_text m.rules m.pool (Egd g)) m.rules.egds)
      (e_is : e ≡ flat_map (λ q. rule_text m.rules m.pool (Query q)) m.rules.queries) where
    after_sources : ReadsTo bytes m.pool (length a) (rules_of S [] [] [] [])
    after_sources =
        subst (λ l. ReadsTo bytes m.pool (length l) (rules_of S [] [] [] [])) (sym a_is)
        (lines_read (declaration_text Source) (λ done. rules_of done [] [] [] []) bytes m.pool S source_line [] S [] (b ++ (c ++ (d ++ e))) refl
        (is ∙ ap (λ l. l ++ (b ++ (c ++ (d ++ e)))) a_is) (ReadsTo-start bytes m.pool))

    after_targets : ReadsTo bytes m.pool (length (a ++ b)) (rules_of S T [] [] [])
    after_targets =
        subst (λ l. ReadsTo bytes m.pool (length (a ++ l)) (rules_of S T [] [] [])) (sym b_is)
        (lines_read (declaration_text Target) (λ done. rules_of S done [] [] []) bytes m.pool T target_line [] T a (c ++ (d ++ e)) refl
        (is ∙ ap (λ l. a ++ (l ++ (c ++ (d ++ e)))) b_is) after_sources)

    is_after_targets : bytes ≡ (a ++ b) ++ (c ++ (d ++ e))
    is_after_targets = is ∙ sym (append_assoc a b (c ++ (d ++ e)))

    after_tgds : ReadsTo bytes m.pool (length ((a ++ b) ++ c)) (rules_of S T m.rules.tgds [] [])
    after_tgds =
        subst (λ l. ReadsTo bytes m.pool (length ((a ++ b) ++ l)) (rules_of S T m.rules.tgds [] [])) (sym c_is)
        (lines_read (λ t. rule_text m.rules m.pool (Tgd t)) (λ done. rules_of S T done [] []) bytes m.pool m.rules.tgds tgd_line [] m.rules.tgds (a ++ b)
        (d ++ e) refl (is_after_targets ∙ ap (λ l. (a ++ b) ++ (l ++ (d ++ e))) c_is) after_targets)

    is_after_tgds : bytes ≡ ((a ++ b) ++ c) ++ (d ++ e)
    is_after_tgds = is_after_targets ∙ sym (append_assoc (a ++ b) c (d ++ e))

    after_egds : ReadsTo bytes m.pool (length (((a ++ b) ++ c) ++ d)) (rules_of S T m.rules.tgds m.rules.egds [])
    after_egds =
        subst (λ l. ReadsTo bytes m.pool (length (((a ++ b) ++ c) ++ l)) (rules_of S T m.rules.tgds m.rules.egds [])) (sym d_is)
        (lines_read (λ g. rule_text m.rules m.pool (Egd g)) (λ done. rules_of S T m.rules.tgds done []) bytes m.pool m.rules.egds egd_line []
        m.rules.egds ((a ++ b) ++ c) e refl (is_after_tgds ∙ ap (λ l. ((a ++ b) ++ c) ++ (l ++ e)) d_is) after_tgds)

    is_after_egds : bytes ≡ (((a ++ b) ++ c) ++ d) ++ e
    is_after_egds = is_after_tgds ∙ sym (append_assoc ((a ++ b) ++ c) d e)

    after_queries : ReadsTo bytes m.pool (length ((((a ++ b) ++ c) ++ d) ++ e)) m.rules
    after_queries =
        subst (λ l. ReadsTo bytes m.pool (length ((((a ++ b) ++ c) ++ d) ++ l)) m.rules) (sym e_is)
        (lines_read (λ q. rule_text m.rules m.pool (Query q)) (λ done. rules_of S T m.rules.tgds m.rules.egds done) bytes m.pool m.rules.queries
        query_line [] m.rules.queries (((a ++ b) ++ c) ++ d) [] refl
        (is_after_egds ∙ ap (λ l. (((a ++ b) ++ c) ++ d) ++ l) (e_is ∙ sym (append-nil (flat_map (λ q. rule_text m.rules m.pool (Query q)) m.rules.queries))))
        after_egds)

    all_read : ReadsTo bytes m.pool (length bytes) m.rules
    all_read = subst (λ l. ReadsTo bytes m.pool (length l) m.rules) (sym is_after_egds) after_queries

    pool_is : IsPoolOf bytes m.pool
    pool_is = record {
      ordered = ordered;
      quoted = λ text. (
        λ there. (all_read.quoted text).1 (inl (All-contains (IsConstantText m.rules m.pool) m.pool text constants.used there)),
        λ q. elim ((all_read.quoted text).0 q) [
          | inl constant ↦ found_there m.pool constant.0.0 text constant.2
          | inr later ↦ absurd (quoted_no_finish bytes (length bytes) text (AtEnd-finish bytes (length bytes) _ (end_there bytes) refl) later)
        ],
      );
    }

    pub read_back : IsMapping bytes m
    read_back = ReadsTo-end bytes m.pool (length bytes) m.rules _ all_read pool_is (end_there bytes) refl

-- five texts, added one after another
pub put_together : (first second third fourth a b c d e A B C D E : List ℕ) → first ≡ a ++ b → second ≡ first ++ c → third ≡ second ++ d
    → fourth ≡ third ++ e → a ≡ A → b ≡ B → c ≡ C → d ≡ D → e ≡ E → fourth ≡ A ++ (B ++ (C ++ (D ++ E)))
put_together first second third fourth a b c d e A B C D E one two three four a_is b_is c_is d_is e_is =
    four ∙ ap (λ l. l ++ e) (three ∙ ap (λ l. l ++ d) (two ∙ ap (λ l. l ++ c) one))
    ∙ (λ i. (((a_is i ++ b_is i) ++ c_is i) ++ d_is i) ++ e_is i)
    ∙ append_assoc ((A ++ B) ++ C) D E ∙ append_assoc (A ++ B) C (D ++ E) ∙ append_assoc A B (C ++ (D ++ E))
