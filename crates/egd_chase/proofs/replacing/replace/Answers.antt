use Rattle.std.proofs.Common.{◌≡◌, ◌++◌, ℕ, List, sym, ap, ◌∙◌, subst, Contains}
use Rattle.std.specs.Prelude.{⊤}
use Rattle.std.proofs.lemmas.List.Elements.{All-weaker, All-contains_itself, Contains-append_left, Contains-append_right}
use Rattle.null_store.specs.Store.{PieceOf, piece_at}
use Rattle.null_store.specs.Changes.{CanStandFor}
use Rattle.null_store.proofs.ListLemmas.{and_some}
use Rattle.egd_chase.specs.Replacing.{IsChoice}
use Rattle.egd_chase.proofs.ReplaceLemmas.{fitted_values, replaces, others_same}
use Rattle.egd_chase.proofs.SharedLemmas.{replaced_keeps}
use Rattle.egd_chase.proofs.SideLemmas.{spans_stay}
use Rattle.egd_chase.proofs.replacing.replace.Given.{Over}
use Rattle.egd_chase.proofs.replacing.replace.Goals as goal
use Rattle.egd_chase.proofs.replacing.replace.Goals.{After-choice_of-choice, After-from_vec}

-- the choice for the sides that are asked for
choice : (g : Over) (c : After-choice_of-choice g)
    → IsChoice c.args.store.now c.requires.0 c.requires.1 c.requires.2 c.choice_of-choice.result.piece c.choice_of-choice.result.by
choice g c = c.choice_of-choice.ensures c.requires.0 c.requires.1 c.requires.2
    (fitted_values c.args.store.now c.is_kept.ensures c.requires.0 c.requires.1 c.requires.2 c.args.left c.args.right c.requires.3
    c.cell-left.result c.cell-right.result c.cell-left.ensures.value c.cell-right.ensures.value) c.requires.4

-- the numbers that are given
numbers : (g : Over) (c : After-from_vec g) → c.from_vec.result ≡ c.in_ok-occurrence_rows.field-0 ++ c.args.made.now
numbers g c = c.from_vec.ensures ∙ c.in_ok-extend_from_slice.ensures.items ∙ ap (λ (l : List ℕ). l ++ c.args.made.now) c.into_vec-rows.ensures

pub occurrence_rows-requires : goal.occurrence_rows-requires
occurrence_rows-requires g c =
    let its = choice g (goal.at.occurrence_rows-requires g c).After-choice_of-choice in
    and_some (λ (_ : PieceOf). ⊤) (piece_at c.args.store.now c.choice_of-choice.result.piece) its.its its.live tt

pub substitute-requires : goal.substitute-requires
substitute-requires g c =
    let its = choice g (goal.at.substitute-requires g c).After-choice_of-choice in
    let piece = c.choice_of-choice.result.piece in
    and_some (λ (p : PieceOf). CanStandFor c.args.store.now piece p c.choice_of-choice.result.by) (piece_at c.args.store.now piece) its.its
    its.live its.stands

pub returns-clause-replaces : goal.returns-clause-replaces
returns-clause-replaces g c = λ l r s fitted can.
    let old = c.args.store.now in
    let values = fitted_values old c.is_kept.ensures l r s c.args.left c.args.right fitted c.cell-left.result c.cell-right.result
    c.cell-left.ensures.value c.cell-right.ensures.value in
    replaces old c.substitute.new.self c.is_kept.ensures l r s c.cell-left.result c.cell-right.result values
    c.choice_of-choice.result.piece c.choice_of-choice.result.by (c.choice_of-choice.ensures l r s values can) c.substitute.ensures.terms

pub returns-clause-others : goal.returns-clause-others
returns-clause-others g c = λ number other.
    let rows = c.in_ok-occurrence_rows.field-0 in
    let are = numbers g (goal.at.returns-clause-others g c).After-from_vec in
    others_same c.args.store.now c.substitute.new.self c.choice_of-choice.result.piece c.choice_of-choice.result.by rows
    c.in_ok-occurrence_rows.ensures.rows c.substitute.ensures.substitutes.cells number
    (λ there. other (subst (λ (l : List ℕ). Contains l number) (sym are) (Contains-append_left rows c.args.made.now number there)))

pub returns-clause-made : goal.returns-clause-made
returns-clause-made g c =
    let rows = c.in_ok-occurrence_rows.field-0 in
    let made = c.args.made.now in
    let are = numbers g (goal.at.returns-clause-made g c).After-from_vec in
    All-weaker (Contains made) (Contains c.from_vec.result)
    (λ n there. subst (λ (l : List ℕ). Contains l n) (sym are) (Contains-append_right rows made n there)) made (All-contains_itself made)

pub returns-clause-shared : goal.returns-clause-shared
returns-clause-shared g c =
    let rows = c.in_ok-occurrence_rows.field-0 in
    let are = numbers g (goal.at.returns-clause-shared g c).After-from_vec in
    replaced_keeps c.args.store.now c.substitute.new.self c.choice_of-choice.result.piece c.choice_of-choice.result.by rows
    c.in_ok-occurrence_rows.ensures.rows c.substitute.ensures.substitutes.cells c.from_vec.result
    (λ n there. subst (λ (l : List ℕ). Contains l n) (sym are) (Contains-append_left rows c.args.made.now n there))

pub returns-clause-spans : goal.returns-clause-spans
returns-clause-spans g c = spans_stay c.args.store.now.rows c.substitute.new.self.rows c.choice_of-choice.result.piece c.choice_of-choice.result.by
    c.substitute.ensures.substitutes.cells
