use Rattle.std.proofs.Common.{ℤ, Option, Result, Ok, Err, List, subst}
use Rattle.std.specs.Result.{OnOk}
use Rattle.normaliser.specs.declared.cuts.Cut.{Cut}
use Rattle.normaliser.specs.Cuts.{AddsCut, AddsCuts}
use Rattle.normaliser.proofs.cuts.add_cuts.Goals as goal

on_ok : {E : Type 0} (r : Result Unit E) (P Q : Type 0) → (P → Q) → OnOk r P → OnOk r Q
on_ok (Ok u) P Q f h = f h
on_ok (Err e) P Q f h = h

pub returns-clause-both : goal.returns-clause-both
returns-clause-both c =
    let old : List Cut = c.args.cuts.now.items in
    let between : List Cut = c.add_cut.new.cuts.items in
    let new : List Cut = c.add_cut-2.new.cuts.items in
    on_ok c.add_cut-2.result (AddsCut c.args.group c.hi.result between new) (_ → AddsCuts c.args.group c.args.span.now old new)
    (λ h _. (
      between,
      subst (λ (e : Option ℤ). AddsCut c.args.group e old between) c.lo.ensures.end c.in_ok-add_cut.ensures.adds,
      subst (λ (e : Option ℤ). AddsCut c.args.group e between new) c.hi.ensures.end h,
    ))
    c.add_cut-2.ensures.adds
