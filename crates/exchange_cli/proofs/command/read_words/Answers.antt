-- The four words are those that the pattern names.
use Rattle.std.proofs.Common.{◌≡◌, ◌∙◌, ℕ, ℤ, List, ap, map, string_bytes, length, arith, rules, codes, sym}
use Rattle.std.proofs.lemmas.Bool.Decides.{nat_tests}
use Rattle.std.proofs.lemmas.List.{length-map}
use Rattle.body_match.proofs.UnequalLemmas.{none_weaker}
use Rattle.exchange_cli.specs.Words.{Exchange, Normalise, Snapshot, Check, Origin, Spells, SpellsNone}
use Rattle.exchange_cli.proofs.ListLemmas.{four}
use Rattle.exchange_cli.proofs.command.read_words.Goals.{in_default-via-then-words-lt4, in_default-via-else-words-lt4+else-words-lt5}
use Rattle.exchange_cli.proofs.command.read_words.Goals as goal

-- words that are not four spell neither of the commands of four
only_snapshot : (words : List (List ℕ)) → ¬ (length words ≡ 4)
    → ((origin : Origin) (t : ℤ) (out : List ℕ) → ¬ (Spells words (Snapshot origin t out))) → SpellsNone words
only_snapshot words other none (Exchange origin target) is = other (ap length is)
only_snapshot words other none (Normalise origin out) is = other (ap length is)
only_snapshot words other none (Check origin trace) is = other (ap length is)
only_snapshot words other none (Snapshot origin t out) is = none origin t out is

pub returns-in_default-clause-other : goal.returns-in_default-clause-other
returns-in_default-clause-other c =
    let not_four : ¬ (length c.args.words.now ≡ 4) = λ four. elim c.in_default.branch [
      | in_default-via-then-words-lt4 w ↦ grind (arith, nat_tests)
      | in_default-via-else-words-lt4+else-words-lt5 w ↦ grind (arith, nat_tests)
    ] in
    none_weaker _ _ (only_snapshot (map string_bytes c.args.words.now)
    (λ four. not_four (sym (length-map c.args.words.now string_bytes) ∙ four))) c.read_snapshot.result c.read_snapshot.ensures.other

pub returns-then-eq-clause-spelled : goal.returns-then-eq-clause-spelled
returns-then-eq-clause-spelled c =
    let size : length c.args.words.now ≡ 4 = omega arith in
    let all = four c.args.words.now c.first-item.result c.mapping-item.result c.source-item.result c.last-item.result size
    c.first-item.is c.mapping-item.is c.source-item.is c.last-item.is in
    let word : string_bytes c.first-item.result ≡ codes "exchange" = search rules in
    ap (map string_bytes) all ∙ cc

pub returns-then-eq-2-clause-spelled : goal.returns-then-eq-2-clause-spelled
returns-then-eq-2-clause-spelled c =
    let size : length c.args.words.now ≡ 4 = omega arith in
    let all = four c.args.words.now c.first-item.result c.mapping-item.result c.source-item.result c.last-item.result size
    c.first-item.is c.mapping-item.is c.source-item.is c.last-item.is in
    let word : string_bytes c.first-item.result ≡ codes "normalise" = search rules in
    ap (map string_bytes) all ∙ cc

pub returns-then-eq-3-clause-spelled : goal.returns-then-eq-3-clause-spelled
returns-then-eq-3-clause-spelled c =
    let size : length c.args.words.now ≡ 4 = omega arith in
    let all = four c.args.words.now c.first-item.result c.mapping-item.result c.source-item.result c.last-item.result size
    c.first-item.is c.mapping-item.is c.source-item.is c.last-item.is in
    let word : string_bytes c.first-item.result ≡ codes "check" = search rules in
    ap (map string_bytes) all ∙ cc
