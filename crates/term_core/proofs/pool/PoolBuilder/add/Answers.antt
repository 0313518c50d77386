use Rattle.std.proofs.Common.{◌≡◌, map, string_bytes, false, true≢false, sym, ◌∙◌}
use Rattle.std.specs.List.{list_any}
use Rattle.std.specs.Str.{bytes_eq}
use Rattle.term_core.proofs.PoolLemmas.{any_Decides, inserted_last, texts_with_known, texts_with_last}
use Rattle.term_core.proofs.pool.PoolBuilder.add.Goals as goal

pub returns-then-contains-clause-has : goal.returns-then-contains-clause-has
returns-then-contains-clause-has c =
    let there = (any_Decides (λ k. string_bytes k) c.self.inside.texts.keys c.args.text.now).0 (sym c.contains.ensures ∙ c.if-contains.true) in
    rw (← c.self.view_is) (texts_with_known (map (λ k. string_bytes k) c.self.inside.texts.keys) c.args.text.now there)

pub returns-clause-has : goal.returns-clause-has
returns-clause-has c =
    let last = inserted_last (λ k. string_bytes k) c.self.inside.texts.keys c.insert.new.self.keys c.in_ok-text.text c.args.text.now
    c.in_ok-text.ensures.ok (sym c.contains.ensures ∙ c.if-contains.false) c.in_ok-insert.ensures.keys in
    rw (← c.self.view_is) (texts_with_last (map (λ k. string_bytes k) c.self.inside.texts.keys) _ c.args.text.now last)

pub returns-clause-once : goal.returns-clause-once
returns-clause-once c =
    let none : list_any (λ k. bytes_eq c.args.text.now (string_bytes k)) c.self.inside.texts.keys ≡ false =
    sym c.contains.ensures ∙ c.if-contains.false in
    rw (← c.self.view_is) (λ there. absurd (true≢false
    (sym ((any_Decides (λ k. string_bytes k) c.self.inside.texts.keys c.args.text.now).1 there) ∙ none)))
