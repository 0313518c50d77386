-- The five words are those that the pattern names, and the fourth is an instant.
use Rattle.std.proofs.Common.{◌≡◌, ◌∙◌, ℤ, ap, sym, subst, map, string_bytes, length, arith, rules, codes, Some, SFits, to_z, of_z, w64}
use Rattle.time_line.specs.Span.{IsWithinInstants}
use Rattle.time_line.specs.Numeral.{IsNumber, number_of}
use Rattle.std.proofs.lemmas.Int.{to_z-of_z}
use Rattle.exchange_cli.proofs.ListLemmas.{five}
use Rattle.exchange_cli.proofs.snapshot_words.read_snapshot.Goals as goal

pub returns-clause-spelled : goal.returns-clause-spelled
returns-clause-spelled c =
    let size : length c.args.words.now ≡ 5 = omega arith in
    let all = five c.args.words.now c.first-item.result c.mapping-item.result c.source-item.result c.instant-item.result c.out-item.result
    size c.first-item.is c.mapping-item.is c.source-item.is c.instant-item.is c.out-item.is in
    let word : string_bytes c.first-item.result ≡ codes "snapshot" = search rules in
    let number : c.as_bytes.result.now ≡ string_bytes c.instant-item.result = search rules in
    let t : ℤ = c.in-Ok.t in
    let fits : SFits w64 t = search rules in
    let same : to_z w64 (of_z w64 t) ≡ t = to_z-of_z w64 t fits in (
      string_bytes c.instant-item.result,
      record {
        form = subst IsNumber number c.in-Ok.ensures.value.0;
        is = ap number_of (sym number) ∙ c.in-Ok.ensures.value.1 ∙ sym same;
        within = subst (λ z. IsWithinInstants (Some z)) (sym same) c.in-Ok.ensures.within;
      },
      ap (map string_bytes) all ∙ cc,
    )
