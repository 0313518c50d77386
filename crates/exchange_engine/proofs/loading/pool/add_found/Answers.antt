use Rattle.std.proofs.Common.{◌≡◌, length, subst, inr, arith, Contains}
use Rattle.std.proofs.lemmas.List.{length-map}
use Rattle.std.proofs.lemmas.Option.{slice_get-get_or}
use Rattle.exchange_engine.specs.Gathered.{Gains, texts_of}
use Rattle.exchange_engine.specs.declared.loading.pool.Found.{Found}
use Rattle.exchange_engine.proofs.GatheredLemmas.{Gains-text, Gains-texts, Gains-there, text_found}
use Rattle.exchange_engine.proofs.loading.pool.add_found.Goals as goal

pub loop-place-preserved-then-was_last : goal.loop-place-preserved-then-was_last
loop-place-preserved-then-was_last c =
    let found = c.args.found.now in
    let i = c.loop-place.place in
    let mid = c.loop-place.builder in
    Gains-text c.args.builder.now mid mid (texts_of found) i _
    (text_found found i _ (slice_get-get_or found i _ (omega (arith, c.loop-place-test.true)))) c.loop-place.invariant
    (Gains-there mid _ ((c.loop-place.invariant.texts _).1 (inr (c.was_last.ensures c.if-was_last.true))))

pub loop-place-preserved : goal.loop-place-preserved
loop-place-preserved c =
    let found = c.args.found.now in
    let i = c.loop-place.place in
    Gains-text c.args.builder.now c.loop-place.builder c.add.new.self (texts_of found) i _
    (text_found found i _ (slice_get-get_or found i _ (omega (arith, c.loop-place-test.true)))) c.loop-place.invariant
    (record { texts = c.in_ok-add.ensures.has; few = c.in_ok-add.ensures.few })

pub returns : goal.returns
returns c =
    let found = c.args.found.now in
    let size : length (texts_of found) ≡ length found = length-map found (λ (f : Found). f.text.now) in
    subst (Gains c.args.builder.now c.loop-place.builder (Contains (texts_of found))) size
    (Gains-texts c.args.builder.now c.loop-place.builder (texts_of found) c.loop-place.place (omega (arith, size)) c.loop-place.invariant)
