use Rattle.std.proofs.Common.{◌<◌, ◌∙◌, length, refl, sym, arith}
use Rattle.std.specs.Vec.{with_item}
use Rattle.trace_checker.specs.declared.numbers.Numbers.{Numbers}
use Rattle.trace_checker.proofs.NumberLemmas.{renamed, apart_eqb}
use Rattle.trace_checker.proofs.numbers.Numbers.rename.Goals as goal

pub index_mut-requires : goal.index_mut-requires
index_mut-requires c =
    let within : c.args.inner < length c.args.self.now.outer.items = (c.requires.own c.args.gone c.args.inner c.requires.there).0 in
    omega (arith, within, c.args.self.now.outer.ok)

pub returns : goal.returns
returns c =
    let after : Numbers = record { outer = with_item c.args.self.now.outer c.args.inner c.args.kept; inner = c.insert.new.self } in
    renamed c.args.self.now after c.args.gone c.args.kept c.args.inner c.requires.own c.requires.there refl
    c.in_ok-insert.ensures.updates.1
    (λ n apart. c.in_ok-insert.ensures.updates.2 n (apart_eqb c.args.kept n (λ e. apart (sym e))) ∙ c.swap_remove.ensures.updates.0 n)
