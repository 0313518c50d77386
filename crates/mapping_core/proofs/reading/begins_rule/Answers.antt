use Rattle.std.proofs.Common.{inl, inr, sym, ◌∙◌}
use Rattle.std.proofs.lemmas.Bool.{false≢true}
use Rattle.mapping_core.proofs.reading.begins_rule.Goals as goal
use Rattle.mapping_core.proofs.reading.begins_rule.Goals.{then-is_word, else-is_word}

pub returns-then-is_word-2 : goal.returns-then-is_word-2
returns-then-is_word-2 c from lexeme stands = (
  λ yes_. elim c.if-is_word.branch [
    | then-is_word w ↦ inl ((c.is_word.ensures from lexeme stands).0 w.if-is_word.true)
    | else-is_word w ↦ inr (inl ((w.is_word-else-is_word.ensures from lexeme stands).0 (sym w.value-is ∙ yes_)))
  ],
  λ _. c.if-is_word-2.true,
)

pub returns-else-is_word-2 : goal.returns-else-is_word-2
returns-else-is_word-2 c from lexeme stands = (
  λ yes_. inr (inr ((c.is_word-else-is_word-2.ensures from lexeme stands).0 yes_)),
  λ word. elim word [
    | inl tgd ↦ absurd (elim c.if-is_word.branch [
      | then-is_word w ↦ false≢true (sym c.if-is_word-2.false ∙ w.value-is ∙ w.if-is_word.true)
      | else-is_word w ↦ false≢true (sym w.if-is_word.false ∙ (c.is_word.ensures from lexeme stands).1 tgd)
    ])
    | inr other ↦ elim other [
      | inl egd ↦ absurd (elim c.if-is_word.branch [
        | then-is_word w ↦ false≢true (sym c.if-is_word-2.false ∙ w.value-is ∙ w.if-is_word.true)
        | else-is_word w ↦ false≢true (sym c.if-is_word-2.false ∙ w.value-is ∙ (w.is_word-else-is_word.ensures from lexeme stands).1 egd)
      ])
      | inr query ↦ (c.is_word-else-is_word-2.ensures from lexeme stands).1 query
    ]
  ],
)
