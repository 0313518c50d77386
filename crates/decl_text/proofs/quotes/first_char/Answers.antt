use Rattle.std.proofs.Common.{List, ◌++◌, ◌≡◌, ℕ, length, take, subst}
use Rattle.std.specs.Str.{StartsWithNoChar}
use Rattle.decl_text.proofs.QuoteLemmas.{no_char_at_front, char_at_front}
use Rattle.decl_text.proofs.quotes.first_char.Goals as goal

pub returns-clause-some : goal.returns-clause-some
returns-clause-some c =
    let front : (more : List ℕ) × (take 4 c.args.bytes.now ≡ c.valid_front.result.now ++ more) =
    subst (λ l. (more : List ℕ) × (l ≡ c.valid_front.result.now ++ more)) c.short_front.ensures c.valid_front.ensures.front in
    char_at_front c.next.result c.args.bytes.now c.valid_front.result.now _ _ _ c.chars.ensures.rest front c.next.ensures.steps.0

pub returns-clause-none : goal.returns-clause-none
returns-clause-none c =
    let none : length c.valid_front.result.now ≡ 0 → StartsWithNoChar (take 4 c.args.bytes.now) =
    subst (λ l. length c.valid_front.result.now ≡ 0 → StartsWithNoChar l) c.short_front.ensures c.valid_front.ensures.none in
    no_char_at_front c.next.result c.args.bytes.now c.valid_front.result.now _ _ _ c.chars.ensures.rest none c.next.ensures.steps.0
