use Rattle.std.proofs.Common.{◌≡◌, ◌+◌, ◌-◌, ◌*◌, ◌<◌, length, refl, subst, ◌∙◌, arith}
use Rattle.std.proofs.lemmas.Option.{slice_get_read}
use Rattle.body_match.specs.Lookup.{AreJoined}
use Rattle.body_match.proofs.ListLemmas.{size_set, at_set_other}
use Rattle.body_match.proofs.TreeLemmas.{joined_none, joined_more}
use Rattle.body_match.proofs.lookup.join_up.Goals as goal

pub loop-node-init : goal.loop-node-init
loop-node-init c = record {
  within = omega arith;
  size = c.requires;
  leaf = λ at l. refl;
  joined = joined_none c.args.reaches.now.items c.args.leaves c.requires;
}

pub loop-node-preserved : goal.loop-node-preserved
loop-node-preserved c =
    let reaches = c.loop-node.reaches.items in
    let node = c.loop-node.node - 1 in
    let more = c.loop-node-test.true in
    let size = c.loop-node.invariant.size in
    let within = c.loop-node.invariant.within in
    let left : 2 * node < length reaches = omega (arith, size, within, more) in
    let right : 2 * node + 1 < length reaches = omega (arith, size, within, more) in
    let before : AreJoined reaches (node + 1) =
    subst (AreJoined reaches) (let e : c.loop-node.node ≡ node + 1 = omega (arith, more) in e) c.loop-node.invariant.joined in record {
      within = omega (arith, within);
      size = size_set reaches node c.join.result ∙ size;
      leaf = λ at l. at_set_other reaches node at c.join.result (λ e. omega (arith, e, l, within, more)) ∙ c.loop-node.invariant.leaf at l;
      joined = joined_more reaches node c.index.result.now c.index-in-loop-node.result.now c.join.result (omega (arith, more))
          (slice_get_read reaches (length reaches) (2 * node) c.index.result.now refl left c.index.ensures)
          (slice_get_read reaches (length reaches) (2 * node + 1) c.index-in-loop-node.result.now refl right c.index-in-loop-node.ensures) c.join.ensures.left
          c.join.ensures.right before;
    }

pub returns-clause-joined : goal.returns-clause-joined
returns-clause-joined c = λ node reach other below past. c.loop-node.invariant.joined node reach other below (omega (arith, past, c.loop-node-test.false))
