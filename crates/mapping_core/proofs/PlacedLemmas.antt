-- A line's reading is a part of the whole text's reading.
use Rattle.std.proofs.Common.{◌≢◌, inl, inr, ℕ, List, [], ◌∷◌, refl, sym, ap, subst}
use Rattle.decl_text.specs.declared.token.Token.{Token}
use Rattle.decl_text.specs.declared.fault.MappingFault.{MappingFault}
use Rattle.decl_text.specs.Tests.{Lexeme, Outcome, goes, stops, IsFinal, Pass, FailsNext, Fails}
use Rattle.decl_text.specs.Parts.{StandsNext}
use Rattle.mapping_core.specs.Reading.{placed}

module _ {P Q : Type 0} (inner : P → Lexeme → Outcome P → Type 0) (outer : Q → Lexeme → Outcome Q → Type 0) (bytes : List ℕ) (place : P → Q)
    (step : (p : P) (lexeme : Lexeme) (outcome : Outcome P) → inner p lexeme outcome → outer (place p) lexeme (placed place outcome)) where
  pub Pass-placed : (from : ℕ) (p : P) (tokens : List Token) (to : ℕ) (last : P)
      → Pass inner bytes from p tokens to last → Pass outer bytes from (place p) tokens to (place last)
  Pass-placed from p [] to last pass = (pass.0, ap place pass.1)
  Pass-placed from p (token ∷ tokens) to last (next, (q, comes, more)) = (
    next,
    (
      place q,
      record { lexeme = comes.lexeme; says = comes.says; tested = step p comes.lexeme (goes q) comes.tested },
      Pass-placed token.end q tokens to last more,
    ),
  )

  FailsNext-placed : (from : ℕ) (p : P) (fault : MappingFault) → FailsNext inner bytes from p fault → FailsNext outer bytes from (place p) fault
  FailsNext-placed from p fault (inl (wanted, own)) =
      inl (λ final. wanted (λ lexeme outcome h. final lexeme (placed place outcome) (step p lexeme outcome h)), own)
  FailsNext-placed from p fault (inr (token, next, comes, at)) = inr (
    token,
    next,
    record { lexeme = comes.lexeme; says = comes.says; tested = step p comes.lexeme (stops fault.code) comes.tested },
    at,
  )

  -- a line that leads on from its beginning leads on from where it begins in the whole text
  pub Pass-begun : (begin : P) (start : Q) (from : ℕ) (tokens : List Token) (to : ℕ) (last : P) → begin ≢ last
      → ((lexeme : Lexeme) (next : P) → inner begin lexeme (goes next) → outer start lexeme (goes (place next)))
      → Pass inner bytes from begin tokens to last → Pass outer bytes from start tokens to (place last)
  Pass-begun begin start from [] to last more first pass = absurd (more (sym pass.1))
  Pass-begun begin start from (token ∷ tokens) to last more first (next, (q, comes, rest)) = (
    next,
    (
      place q,
      record { lexeme = comes.lexeme; says = comes.says; tested = first comes.lexeme q comes.tested },
      Pass-placed token.end q tokens to last rest,
    ),
  )

  -- and a fault of the line is one of the whole text
  pub Fails-begun : (begin : P) (start : Q) (from : ℕ) (fault : MappingFault)
      → ((token : Token) (lexeme : Lexeme) (outcome : Outcome P) → StandsNext bytes from token lexeme → inner begin lexeme outcome
      → outer start lexeme (placed place outcome))
      → ¬ IsFinal outer start → Fails inner bytes from begin fault → Fails outer bytes from start fault
  Fails-begun begin start from fault first open_ fails = by_tokens fails.good.0 fails.good.1
    where
      by_tokens : (tokens : List Token) → Pass inner bytes from begin tokens fails.at fails.after → Fails outer bytes from start fault
      by_tokens [] pass = record {
        at = from;
        after = start;
        good = ([], (refl, refl));
        next = begun (subst (λ p. FailsNext inner bytes from p fault) pass.1 (subst (λ n. FailsNext inner bytes n fails.after fault) pass.0 fails.next));
      }
        where
          begun : FailsNext inner bytes from begin fault → FailsNext outer bytes from start fault
          begun (inl (wanted, own)) = inl (open_, own)
          begun (inr (token, next, comes, at)) = inr (
            token,
            next,
            record {
              lexeme = comes.lexeme;
              says = comes.says;
              tested = first token comes.lexeme (stops fault.code) (record { next = next; says = comes.says }) comes.tested;
            },
            at,
          )
      by_tokens (token ∷ tokens) (next, (q, comes, rest)) = record {
        at = fails.at;
        after = place fails.after;
        good = (
          token ∷ tokens,
          (
            next,
            (
              place q,
              record {
                lexeme = comes.lexeme;
                says = comes.says;
                tested = first token comes.lexeme (goes q) (record { next = next; says = comes.says }) comes.tested;
              },
              Pass-placed token.end q tokens fails.at fails.after rest,
            ),
          ),
        );
        next = FailsNext-placed fails.at fails.after fault fails.next;
      }
