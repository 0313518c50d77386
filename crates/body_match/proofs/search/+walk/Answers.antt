use Rattle.std.proofs.Common.{◌≡◌, ℕ, ◌<◌, ◌≤◌, true, false, Bool, List, Some, [], ◌∷◌, ◌++◌, length, refl, sym, ap, ◌∙◌, subst, arith}
use Rattle.std.specs.Prelude.{slice_get}
use Rattle.std.proofs.lemmas.Option.{slice_get_read}
use Rattle.body_match.specs.Search.{IsFindable, IsListedFrom, Gives}
use Rattle.body_match.proofs.GiveLemmas.{IsListedBetween, gives_none, between_none, between_more, between_stop, between_all}
use Rattle.body_match.proofs.search.+walk.Goals as goal

pub extend-loop-at-init : goal.extend-loop-at-init
extend-loop-at-init g t c =
    let task = c.args.search.now in
    let chosen = c.args.walk.now.chosen.items in
    let old : List ℕ = c.args.walk.now.next.items in
    let next : List ℕ = c.find_next.new.walk.next.items in
    let first : length old ≡ c.len-first.result = omega (arith, c.len-first.ensures, c.args.walk.now.next.ok.0) in record {
      chosen = c.in_ok-find_next.ensures.chosen;
      next = refl;
      gives = subst (λ n. Gives g.V.Visitor.takes (IsListedBetween task chosen next (length old) n) (IsFindable task)
          c.args.visitor.now c.args.visitor.now true)
          first (between_none task chosen g.V.Visitor.takes old next c.in_ok-find_next.ensures.next c.args.visitor.now);
    }

pub extend-returns-then-not-branch-clause-gives : goal.extend-returns-then-not-branch-clause-gives
extend-returns-then-not-branch-clause-gives g t c =
    let task = c.args.search.now in
    let chosen = c.args.walk.now.chosen.items in
    let old : List ℕ = c.args.walk.now.next.items in
    let next : List ℕ = c.find_next.new.walk.next.items in
    let here : List ℕ = c.loop-at.walk.next.items in
    let row = c.index-row.result.now in
    let at = c.loop-at.at in
    let from : length old ≤ at = omega (arith, c.len-first.ensures, c.args.walk.now.next.ok.0, c.loop-at.auto.at, c.loop-at-test.true) in
    let within : at < length here =
    omega (arith, c.loop-at-test.true, c.len-at-end.ensures, c.find_next.new.walk.next.ok.0, ap length c.loop-at.invariant.next) in
    let there : slice_get next at ≡ Some row = ap (λ (l : List ℕ). slice_get l at) (sym c.loop-at.invariant.next)
    ∙ slice_get_read here (length here) at row refl within c.index-row.ensures in
    let more : length chosen < length task.body =
    omega (arith, c.if-len-body.false, c.len.ensures, c.args.walk.now.chosen.ok.0, c.requires.within, ap length c.body.ensures.value) in
    let given : Gives g.V.Visitor.takes (IsListedFrom task (c.loop-at.walk.chosen.items ++ row ∷ [])) (IsFindable task) c.loop-at.visitor
    c.extend_by.new.visitor false =
    subst (λ (b : Bool). Gives g.V.Visitor.takes (IsListedFrom task (c.loop-at.walk.chosen.items ++ row ∷ [])) (IsFindable task) c.loop-at.visitor
    c.extend_by.new.visitor b) c.if-not-branch.true c.in_ok-extend_by.ensures.gives in
    between_stop task chosen g.V.Visitor.takes old next c.in_ok-find_next.ensures.next at row c.args.visitor.now c.loop-at.visitor
    c.extend_by.new.visitor more from there c.loop-at.invariant.gives
    (subst (λ (l : List ℕ). Gives g.V.Visitor.takes (IsListedFrom task (l ++ row ∷ [])) (IsFindable task) c.loop-at.visitor c.extend_by.new.visitor false)
    c.loop-at.invariant.chosen given)

pub extend-loop-at-preserved : goal.extend-loop-at-preserved
extend-loop-at-preserved g t c =
    let task = c.args.search.now in
    let chosen = c.args.walk.now.chosen.items in
    let old : List ℕ = c.args.walk.now.next.items in
    let next : List ℕ = c.find_next.new.walk.next.items in
    let here : List ℕ = c.loop-at.walk.next.items in
    let row = c.index-row.result.now in
    let at = c.loop-at.at in
    let from : length old ≤ at = omega (arith, c.len-first.ensures, c.args.walk.now.next.ok.0, c.loop-at.auto.at, c.loop-at-test.true) in
    let within : at < length here =
    omega (arith, c.loop-at-test.true, c.len-at-end.ensures, c.find_next.new.walk.next.ok.0, ap length c.loop-at.invariant.next) in
    let there : slice_get next at ≡ Some row = ap (λ (l : List ℕ). slice_get l at) (sym c.loop-at.invariant.next)
    ∙ slice_get_read here (length here) at row refl within c.index-row.ensures in
    let given : Gives g.V.Visitor.takes (IsListedFrom task (c.loop-at.walk.chosen.items ++ row ∷ [])) (IsFindable task) c.loop-at.visitor
    c.extend_by.new.visitor true =
    subst (λ (b : Bool). Gives g.V.Visitor.takes (IsListedFrom task (c.loop-at.walk.chosen.items ++ row ∷ [])) (IsFindable task) c.loop-at.visitor
    c.extend_by.new.visitor b) c.if-not-branch.false c.in_ok-extend_by.ensures.gives in record {
      chosen = c.in_ok-extend_by.ensures.chosen ∙ c.loop-at.invariant.chosen;
      next = c.in_ok-extend_by.ensures.next ∙ c.loop-at.invariant.next;
      gives = between_more task chosen g.V.Visitor.takes old next c.in_ok-find_next.ensures.next at row c.args.visitor.now c.loop-at.visitor
          c.extend_by.new.visitor from there c.loop-at.invariant.gives
          (subst (λ (l : List ℕ). Gives g.V.Visitor.takes (IsListedFrom task (l ++ row ∷ [])) (IsFindable task) c.loop-at.visitor c.extend_by.new.visitor true)
          c.loop-at.invariant.chosen given);
    }

pub extend-returns-clause-gives : goal.extend-returns-clause-gives
extend-returns-clause-gives g t c =
    let task = c.args.search.now in
    let chosen = c.args.walk.now.chosen.items in
    let old : List ℕ = c.args.walk.now.next.items in
    let next : List ℕ = c.find_next.new.walk.next.items in
    let past : length next ≤ c.loop-at.at = omega (arith, c.loop-at-test.false, c.len-at-end.ensures, c.find_next.new.walk.next.ok.0) in
    let more : length chosen < length task.body =
    omega (arith, c.if-len-body.false, c.len.ensures, c.args.walk.now.chosen.ok.0, c.requires.within, ap length c.body.ensures.value) in
    between_all task chosen g.V.Visitor.takes old next c.in_ok-find_next.ensures.next c.loop-at.at c.args.visitor.now c.loop-at.visitor more
    past c.loop-at.invariant.gives

pub extend_by-returns-in_default-clause-gives : goal.extend_by-returns-in_default-clause-gives
extend_by-returns-in_default-clause-gives g t c =
    let front = ap (λ (l : List ℕ). l ++ c.args.row ∷ []) c.as_slice.ensures.value in
    gives_none g.V.Visitor.takes (IsFindable c.args.search.now) (IsListedFrom c.args.search.now (c.args.walk.now.chosen.items ++ c.args.row ∷ [])) c.args.visitor.now true
    (λ m h. c.in_default.ensures.none m (subst (λ l. IsListedFrom c.args.search.now l m) (sym front) h))
