use Rattle.std.proofs.Common.{◌⊎◌, inl, inr, ◌↔◌, ℕ, Bool, List, length, Contains, sym, subst, ⊎_elim}
use Rattle.rule_core.specs.declared.rules.Atom.{Atom}
use Rattle.body_match.specs.Index.{Index, ListsRow}
use Rattle.body_match.specs.Equality.{Equality, IsShown}
use Rattle.body_match.specs.Choice.{AreChosen, IsOn}
use Rattle.body_match.specs.Renewals.{AreListedInEach, PlansKeepBut}
use Rattle.body_match.proofs.IndexLemmas.{can_list, still_index}
use Rattle.body_match.proofs.ChoiceLemmas.{shown_for, taken_listed, taken_others, taken_stand}
use Rattle.body_match.proofs.equality.EqualityIndex.take_in.Given.{Over}
use Rattle.body_match.proofs.equality.EqualityIndex.take_in.Goals as goal
use Rattle.body_match.proofs.equality.EqualityIndex.take_in.Goals.{After-drop-gone-2}

-- the rows that were chosen, with the body as it is
are_chosen : (g : Over) (c : After-drop-gone-2 g)
    → AreChosen c.self.inside.body c.self.inside.looked.items (g.F.FactSource.rows c.args.source.now) c.args.rows.now c.grow.new.shown.items
    c.choose.new.choice.shown.items (length c.args.rows.now)
are_chosen g c =
    let source = g.F.FactSource.rows c.args.source.now in
    let rows = c.args.rows.now in
    let before = c.grow.new.shown.items in
    let after = c.choose.new.choice.shown.items in
    subst (λ (body : List Atom). AreChosen body c.self.inside.looked.items source rows before after (length rows)) c.as_slice-body.ensures
    (subst (λ (looked : List Bool). AreChosen c.as_slice-body.result.now looked source rows before after (length rows))
    c.as_slice-looked.ensures.value c.in_ok-hidden.ensures)

pub renew_plans-requires : goal.renew_plans-requires
renew_plans-requires g c = λ k plan e. can_list c.self.inside.body c.self.inside.vars k plan (c.self.invariant.0.each k plan e)

pub invariant_of-self-in_err-renew_plans : goal.invariant_of-self-in_err-renew_plans
invariant_of-self-in_err-renew_plans g c = (
  still_index c.self.inside.body c.self.inside.vars c.self.inside.plans.items c.renew_plans.new.plans.items c.renew_plans.ensures.same
      c.self.invariant.0,
  c.self.invariant.1,
)

pub invariant_of-self-2 : goal.invariant_of-self-2
invariant_of-self-2 g c = (
  still_index c.self.inside.body c.self.inside.vars c.self.inside.plans.items c.renew_plans.new.plans.items c.renew_plans.ensures.same
      c.self.invariant.0,
  c.self.invariant.1,
)

pub returns-clause-listed : goal.returns-clause-listed
returns-clause-listed g c =
    let source = g.F.FactSource.rows c.args.source.now in
    let inside = c.self.inside in
    let marks : List Bool = c.choose.new.choice.shown.items in
    let before : Index = record { body = inside.body; vars = inside.vars; plans = inside.plans.items } in
    let after : Index = record { body = inside.body; vars = inside.vars; plans = c.renew_plans.new.plans.items } in
    taken_listed c.args.rows.now c.in_ok-gone.gone.items c.in_ok-fresh.fresh.items inside.choice.shown.items c.hide.new.shown.items
    c.grow.new.shown.items marks c.in_ok-gone.ensures c.in_ok-grow.ensures.same inside.body inside.looked.items
    source (are_chosen g (goal.at.returns-clause-listed g c).After-drop-gone-2) c.add_hidden.new.gone.items
    (subst (λ (m : List Bool). (number : ℕ) → Contains c.add_hidden.new.gone.items number → Contains c.in_ok-gone.gone.items number ⊎ ¬ (IsOn m number))
    c.as_slice-shown.ensures.value c.in_ok-add_hidden.ensures)
    (subst (λ (m : List Bool). (number : ℕ) → Contains c.in_ok-fresh.fresh.items number ↔ (Contains c.args.rows.now number × IsOn m number))
    c.as_slice-shown.ensures.value c.in_ok-fresh.ensures)
    before after c.renew_plans.ensures.same
    (subst (λ (gone : List ℕ). PlansKeepBut gone before.plans after.plans) c.as_slice-gone.ensures.value c.in_ok-renew_plans.ensures.kept)
    (subst (λ (fresh : List ℕ). AreListedInEach after.plans source fresh) c.as_slice-listed.ensures.value c.in_ok-renew_plans.ensures.listed)
    (λ number other on. subst (λ (e : Equality). ListsRow e.index source number) (sym c.self.view_is)
    (c.requires.listed number other (subst (λ (e : Equality). IsShown e number) c.self.view_is on)))

pub returns-clause-others : goal.returns-clause-others
returns-clause-others g c = λ number on.
    let inside = c.self.inside in
    ⊎_elim
    (λ (was : IsOn inside.choice.shown.items number). inl (subst (λ (e : Equality). IsShown e number) c.self.view_is was))
    (λ (c : Contains c.args.rows.now number). inr c)
    (taken_others c.args.rows.now c.in_ok-gone.gone.items c.in_ok-fresh.fresh.items inside.choice.shown.items c.hide.new.shown.items
    c.grow.new.shown.items c.choose.new.choice.shown.items c.in_ok-gone.ensures c.in_ok-grow.ensures.same inside.body inside.looked.items
    (g.F.FactSource.rows c.args.source.now) (are_chosen g (goal.at.returns-clause-others g c).After-drop-gone-2) number on)

pub returns-clause-stand : goal.returns-clause-stand
returns-clause-stand g c = λ number there.
    let source = g.F.FactSource.rows c.args.source.now in
    let inside = c.self.inside in
    let now : Equality = record {
      index = record { body = inside.body; vars = inside.vars; plans = c.renew_plans.new.plans.items };
      left = inside.left;
      right = inside.right;
      shown = c.choose.new.choice.shown.items;
    } in
    let was : Contains c.args.rows.now number ⊎ IsOn inside.choice.shown.items number =
    subst (λ (e : Equality). Contains c.args.rows.now number ⊎ IsShown e number) (sym c.self.view_is) there in
    shown_for now inside.looked.items c.self.invariant.1 source number
    (taken_stand c.args.rows.now c.in_ok-gone.gone.items c.in_ok-fresh.fresh.items inside.choice.shown.items c.hide.new.shown.items
    c.grow.new.shown.items c.choose.new.choice.shown.items c.in_ok-gone.ensures c.in_ok-grow.ensures.same inside.body inside.looked.items
    source (are_chosen g (goal.at.returns-clause-stand g c).After-drop-gone-2) number was)

pub returns-clause-shown : goal.returns-clause-shown
returns-clause-shown g c = λ number.
    let fresh : List ℕ = c.in_ok-fresh.fresh.items in
    subst (λ (list : List ℕ). Contains list number ↔ (Contains c.args.rows.now number × IsOn c.choose.new.choice.shown.items number))
    (sym c.from_vec.ensures)
    (subst (λ (m : List Bool). Contains fresh number ↔ (Contains c.args.rows.now number × IsOn m number)) c.as_slice-shown.ensures.value
    (c.in_ok-fresh.ensures number))
