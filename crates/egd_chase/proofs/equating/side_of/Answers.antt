use Rattle.std.proofs.Common.{◌≡◌, ◌<◌, ◌≤◌, Some, List, ℕ, length, get_or, sym, ap, ◌∙◌, subst, arith, ⊎_elim, Contains}
use Rattle.std.specs.Prelude.{slice_get}
use Rattle.std.proofs.lemmas.Bool.{cases_lt}
use Rattle.std.proofs.lemmas.Option.{slice_get-get_or}
use Rattle.rule_core.specs.declared.rules.Arg.TheVariants.{Var}
use Rattle.rule_core.specs.declared.rules.Atom.{Atom}
use Rattle.body_match.specs.Matches.{IsImageAt, seen_value}
use Rattle.body_match.proofs.ListLemmas.{within_from_at, zip_length}
use Rattle.body_match.proofs.PlaceLemmas.{atom_from_occurs}
use Rattle.body_match.proofs.SearchLemmas.{next_atom, same_some}
use Rattle.egd_chase.proofs.MatchBridge.{side_there}
use Rattle.egd_chase.proofs.equating.side_of.Goals as goal

pub unreachable-requires : goal.unreachable-requires
unreachable-requires c =
    let body = c.args.egd.now.body in
    let h = atom_from_occurs body c.args.variable ((c.requires.egd.1.body_vars.same c.args.variable).1 c.requires.variable) in
    let within = within_from_at body h.0 h.1 h.2 in
    c.loop-at.invariant h.0 h.1 (omega (arith, within, c.loop-at-test.false, ap length c.as_slice-atom-items.ensures)) h.2 h.3

pub bounds-as_slice-at : goal.bounds-as_slice-at
bounds-as_slice-at c =
    let found = c.args.found.now in
    let body = c.args.egd.now.body in
    let long = zip_length (IsImageAt c.requires.matches.0 (seen_value found.binding)) body found.rows c.requires.matches.1.images in
    omega (arith, long, ap length c.as_slice.ensures, ap length c.as_slice-atom-items.ensures, c.loop-at-test.true)

pub returns-in-Some : goal.returns-in-Some
returns-in-Some c = λ store h.
    let found = c.args.found.now in
    let body = c.args.egd.now.body in
    let at = c.loop-at.at in
    let atom = c.atom-item.result in
    let below : at < length body = omega (arith, c.loop-at-test.true, ap length c.as_slice-atom-items.ensures) in
    let long = zip_length (IsImageAt store.rows (seen_value found.binding)) body found.rows h.images in
    let here = next_atom body c.as_slice-atom-items.result.now at atom c.as_slice-atom-items.ensures below c.atom-item.is in
    let row : slice_get found.rows at ≡ Some (get_or c.as_slice.result.now at 0) =
    slice_get-get_or found.rows at 0 (omega (arith, below, long)) ∙ ap (λ (l : List ℕ). Some (get_or l at 0)) (sym c.as_slice.ensures) in
    side_there store body (length c.args.egd.now.vars) found h at c.in-Some.column c.args.variable (get_or c.as_slice.result.now at 0) atom here
    c.in-Some.ensures.some row

pub loop-at-preserved : goal.loop-at-preserved
loop-at-preserved c = λ k other l e has.
    let body = c.args.egd.now.body in
    let at = c.loop-at.at in
    let atom = c.atom-item.result in
    let below : at < length body = omega (arith, c.loop-at-test.true, ap length c.as_slice-atom-items.ensures) in
    let here = next_atom body c.as_slice-atom-items.result.now at atom c.as_slice-atom-items.ensures below c.atom-item.is in
    ⊎_elim
    (λ (before : k < at). c.loop-at.invariant k other before e has)
    (λ (not : at ≤ k).
    let last : k ≡ at = omega (arith, l, not) in
    let same : other ≡ atom = same_some (slice_get body at) other atom (ap (slice_get body) (sym last) ∙ e) here in
    c.in_default.ensures.none (subst (λ (a : Atom). Contains a.args (Var c.args.variable)) same has))
    (cases_lt k at)
