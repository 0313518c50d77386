-- Tests that come to some outcome: each of their facts holds or not.
use Rattle.std.proofs.Common.{◌≡◌, ◌⊎◌, inl, inr, ⊎_elim, ℕ, ◌<◌, ◌≤◌, List, [], ◌∷◌, length, codes, All, Contains, refl, ap, ◌∙◌, subst, arith}
use Rattle.std.proofs.lemmas.Bool.{cases_eq, cases_lt}
use Rattle.std.proofs.lemmas.List.Elements.{All-nil, All-cons, All-head, All-tail}
use Rattle.rule_core.proofs.ListLemmas.{Contains-nil, Contains-head, Contains-cons, Contains-cons_cases}
use Rattle.decl_text.specs.declared.token.Kind.{Kind}
use Rattle.decl_text.specs.declared.token.Kind.TheVariants.{Name, Quoted, LeftParen, RightParen, Comma, Colon, Arrow, Equals, Bar, LineEnd, Finish}
use Rattle.decl_text.specs.declared.fault.Code.{Code}
use Rattle.decl_text.specs.Tests.{Lexeme, Outcome, goes, stops, Goes, Stops, When, Test}
use Rattle.decl_text.specs.Declaration.{Named, IsKeyword, EndsLine}

-- the fact holds or not
abbrev pub Decided : Type 0 → Type 0
Decided fact = fact ⊎ ¬ fact

pub same_kind : (a b : Kind) → Decided (a ≡ b)
same_kind Name Name = inl refl
same_kind Name b = inr (λ e. cc)
same_kind Quoted Quoted = inl refl
same_kind Quoted b = inr (λ e. cc)
same_kind LeftParen LeftParen = inl refl
same_kind LeftParen b = inr (λ e. cc)
same_kind RightParen RightParen = inl refl
same_kind RightParen b = inr (λ e. cc)
same_kind Comma Comma = inl refl
same_kind Comma b = inr (λ e. cc)
same_kind Colon Colon = inl refl
same_kind Colon b = inr (λ e. cc)
same_kind Arrow Arrow = inl refl
same_kind Arrow b = inr (λ e. cc)
same_kind Equals Equals = inl refl
same_kind Equals b = inr (λ e. cc)
same_kind Bar Bar = inl refl
same_kind Bar b = inr (λ e. cc)
same_kind LineEnd LineEnd = inl refl
same_kind LineEnd b = inr (λ e. cc)
same_kind Finish Finish = inl refl
same_kind Finish b = inr (λ e. cc)

pub same_text : (a b : List ℕ) → Decided (a ≡ b)
same_text [] [] = inl refl
same_text [] (y ∷ ys) = inr (λ e. cc)
same_text (x ∷ xs) [] = inr (λ e. cc)
same_text (x ∷ xs) (y ∷ ys) =
    ⊎_elim (λ first. ⊎_elim (λ rest. inl (ap (λ z. z ∷ xs) first ∙ ap (λ l. y ∷ l) rest)) (λ other. inr (λ e. let rest : xs ≡ ys = cc in other rest)) (same_text xs ys))
    (λ other. inr (λ e. let first : x ≡ y = cc in other first)) (cases_eq x y)

pub both : {A B : Type 0} → Decided A → Decided B → Decided (A × B)
both (inl a) (inl b) = inl (a, b)
both (inl a) (inr other) = inr (λ h. other h.1)
both (inr other) b = inr (λ h. other h.0)

pub one_of : {A B : Type 0} → Decided A → Decided B → Decided (A ⊎ B)
one_of (inl a) b = inl (inl a)
one_of (inr other) (inl b) = inl (inr b)
one_of (inr other) (inr further) = inr (λ h. ⊎_elim other further h)

pub denied : {A : Type 0} → Decided A → Decided (¬ A)
denied (inl a) = inr (λ other. other a)
denied (inr other) = inl other

pub less : (m n : ℕ) → Decided (m < n)
less m n = ⊎_elim (λ h. inl h) (λ h. inr (λ l. omega arith)) (cases_lt m n)

pub at_most : (m n : ℕ) → Decided (m ≤ n)
at_most m n = ⊎_elim (λ h. inr (λ l. omega arith)) (λ h. inl h) (cases_lt n m)

pub each : {X : Type 0} (Is : X → Type 0) → ((x : X) → Decided (Is x)) → (xs : List X) → Decided (All Is xs)
each Is decided [] = inl (All-nil Is)
each Is decided (x ∷ xs) =
    ⊎_elim (λ first. ⊎_elim (λ rest. inl (All-cons Is x xs first rest)) (λ other. inr (λ h. other (All-tail Is x xs h))) (each Is decided xs))
    (λ other. inr (λ h. other (All-head Is x xs h))) (decided x)

pub there : (texts : List (List ℕ)) (text : List ℕ) → Decided (Contains texts text)
there [] text = inr (λ c. Contains-nil text c)
there (t ∷ ts) text =
    ⊎_elim (λ same. inl (subst (λ x. Contains (t ∷ ts) x) same (Contains-head t ts)))
    (λ other. ⊎_elim (λ later. inl (Contains-cons t text ts later))
    (λ none. inr (λ c. ⊎_elim other none (Contains-cons_cases t text ts c))) (there ts text)) (same_text t text)

module _ {P : Type 0} where
  -- some outcome fits
  abbrev pub Some : (Outcome P → Type 0) → Type 0
  Some fits = (outcome : Outcome P) × fits outcome

  pub Goes-some : (position : P) → Some (Goes position)
  Goes-some position = (goes position, refl)

  pub Stops-some : (code : Code) → Some (Stops code)
  Stops-some code = (stops code, refl)

  pub When-some : {fact : Type 0} {one other : Outcome P → Type 0} → Decided fact → (fact → Some one) → Some other → Some (When fact one other)
  When-some (inl holds) f g = ((f holds).0, inl (holds, (f holds).1))
  When-some (inr fails) f g = (g.0, inr (fails, g.1))

  pub Test-some : {fact : Type 0} {code : Code} {further : Outcome P → Type 0} → Decided fact → (fact → Some further) → Some (Test fact code further)
  Test-some {code = code} decided f = When-some decided f (Stops-some code)

  pub Named-some : (wrong word : Code) (token : Lexeme) {further : Outcome P → Type 0} → (token.kind ≡ Name → Some further)
      → Some (Named wrong word token further)
  Named-some wrong word token f =
      Test-some (same_kind token.kind Name)
      (λ name. Test-some (denied (same_text token.text (codes "exists")))
      (λ other. Test-some (at_most (length token.text) 64)
      (λ short. f name)))

pub is_keyword : (token : Lexeme) (word : List ℕ) → Decided (IsKeyword token word)
is_keyword token word = both (same_kind token.kind Name) (same_text token.text word)

pub ends_line : (token : Lexeme) → Decided (EndsLine token)
ends_line token = one_of (same_kind token.kind LineEnd) (same_kind token.kind Finish)
