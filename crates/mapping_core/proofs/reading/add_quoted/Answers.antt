use Rattle.std.proofs.Common.{rules, inl, inr}
use Rattle.std.proofs.lemmas.Result.{on_ok_weaker}
use Rattle.mapping_core.proofs.PoolLemmas.{says_quoted}
use Rattle.mapping_core.proofs.reading.add_quoted.Goals as goal

pub returns-clause-has : goal.returns-clause-has
returns-clause-has c = on_ok_weaker c.add.result
    (λ has text. let says = says_quoted c.args.bytes.now c.args.token.now c.in_ok-text.text (search rules) c.in_ok-text.ensures text in (
      λ new. elim ((has text).0 new) [ inl old ↦ inl old | inr same ↦ inr (says.1 (search rules)) ],
      λ h. (has text).1 (elim h [ inl old ↦ inl old | inr said ↦ inr (search (rules, says.0 said)) ]),
    ))
    c.add.ensures.has
