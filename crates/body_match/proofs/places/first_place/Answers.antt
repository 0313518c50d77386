use Rattle.std.proofs.Common.{◌<◌, refl, ⊎_elim, arith}
use Rattle.std.proofs.lemmas.Bool.{cases_lt}
use Rattle.body_match.proofs.ListLemmas.{within_from_at}
use Rattle.body_match.proofs.PlaceLemmas.{atom_from_occurs}
use Rattle.body_match.proofs.SearchLemmas.{next_atom}
use Rattle.body_match.proofs.places.first_place.Goals as goal

pub returns : goal.returns
returns c =
    let h = atom_from_occurs c.args.body.now c.args.variable c.requires in
    let within = within_from_at c.args.body.now h.0 h.1 h.2 in
    absurd (c.loop-atom.invariant h.0 h.1 (omega (arith, within, c.loop-atom-test.false)) h.2 h.3)

pub returns-in-Some : goal.returns-in-Some
returns-in-Some c =
    let atom = c.index-body-atom.result in
    let here = next_atom c.args.body.now c.args.body.now c.loop-atom.atom atom refl c.loop-atom-test.true c.index-body-atom.is in
    record {
      there = (atom, here, c.in-Some.ensures.some);
      first = λ k other e has. ⊎_elim (λ (l : k < c.loop-atom.atom). absurd (c.loop-atom.invariant k other l e has)) (λ g. g)
          (cases_lt k c.loop-atom.atom);
    }
