use Rattle.std.proofs.Common.{sym, subst, All, Contains}
use Rattle.failure_trace.specs.JournalRun.{left_of, right_of}
use Rattle.null_store.specs.Store.{facts_in}
use Rattle.egd_chase.specs.declared.sides.Side.{Side}
use Rattle.egd_chase.specs.Sides.{HoldsSide, IsFitted, AreFitted, CanBeEqual, match_terms}
use Rattle.egd_chase.proofs.MatchBridge.{unequal_sides_differ, one_is_unknown}
use Rattle.egd_chase.proofs.TurnLemmas.{sides_change}
use Rattle.egd_chase.proofs.CuttingLemmas.{on_one}
use Rattle.egd_chase.proofs.EqualityLemmas.{begun, swapped, equated, changed, if_ok, if_ok_of_three}
use Rattle.egd_chase.proofs.SharedLemmas.{all_keep}
use Rattle.egd_chase.proofs.equality.equate.Goals as goal

pub fit-requires : goal.fit-requires
fit-requires g c =
    let store = c.args.store.now in
    let egd = c.args.egd.now in
    let found = c.args.found.now in
    let span = found.span in
    let l = left_of egd (match_terms store found) in
    let r = right_of egd (match_terms store found) in
    let first = begun l r span store c.new-cutting.result c.new-cutting.ensures.notes c.new-cutting.ensures.made
    (subst (HoldsSide store l span) (sym c.new-cutting.ensures.own) (c.side_of-left.ensures store c.requires.matches.match))
    (subst (HoldsSide store r span) (sym c.new-cutting.ensures.other) (c.side_of-right.ensures store c.requires.matches.match))
    c.requires.spans in
    record { cuts = (l, r, store, first) }

pub fit-requires-2 : goal.fit-requires-2
fit-requires-2 g c =
    let store = c.args.store.now in
    let egd = c.args.egd.now in
    let found = c.args.found.now in
    let span = found.span in
    let l = left_of egd (match_terms store found) in
    let r = right_of egd (match_terms store found) in
    let first = begun l r span store c.new-cutting.result c.new-cutting.ensures.notes c.new-cutting.ensures.made
    (subst (HoldsSide store l span) (sym c.new-cutting.ensures.own) (c.side_of-left.ensures store c.requires.matches.match))
    (subst (HoldsSide store r span) (sym c.new-cutting.ensures.other) (c.side_of-right.ensures store c.requires.matches.match))
    c.requires.spans in
    let left_cut = c.in_ok-fit.ensures.cuts l r store first in
    let second = swapped l r span store c.fit.new.store c.fit.new.self c.swap.new.self left_cut.0 c.swap.ensures.own c.swap.ensures.other
    c.swap.ensures.notes c.swap.ensures.made in
    record { cuts = (r, l, store, second) }

pub replace-requires : goal.replace-requires
replace-requires g c =
    let store = c.args.store.now in
    let egd = c.args.egd.now in
    let found = c.args.found.now in
    let span = found.span in
    let l = left_of egd (match_terms store found) in
    let r = right_of egd (match_terms store found) in
    let first = begun l r span store c.new-cutting.result c.new-cutting.ensures.notes c.new-cutting.ensures.made
    (subst (HoldsSide store l span) (sym c.new-cutting.ensures.own) (c.side_of-left.ensures store c.requires.matches.match))
    (subst (HoldsSide store r span) (sym c.new-cutting.ensures.other) (c.side_of-right.ensures store c.requires.matches.match))
    c.requires.spans in
    let left_cut = c.in_ok-fit.ensures.cuts l r store first in
    let second = swapped l r span store c.fit.new.store c.fit.new.self c.swap.new.self left_cut.0 c.swap.ensures.own c.swap.ensures.other
    c.swap.ensures.notes c.swap.ensures.made in
    let both_cut = c.in_ok-fit-2.ensures.cuts r l store second in
    let mid = c.fit-2.new.store in
    let fitted : AreFitted mid l r span c.fit-2.new.self.other c.fit-2.new.self.own = record {
      left_held = both_cut.0.other_held;
      right_held = both_cut.0.own_held;
      left_over = both_cut.2 (subst (λ (s : Side). IsFitted c.fit.new.store l span s) (sym c.swap.ensures.other) left_cut.1);
      right_over = both_cut.1;
    } in
    let can : CanBeEqual l r = record {
      different = unequal_sides_differ store c.requires.egd.0 egd c.requires.egd.1 found c.requires.matches c.is_kept.ensures;
      one_unknown = one_is_unknown store c.requires.egd.0 egd c.requires.egd.1 found c.requires.matches c.requires.sides;
    } in
    (l, r, span, fitted, can)

pub returns-clause-equates : goal.returns-clause-equates
returns-clause-equates g c =
    let store = c.args.store.now in
    let egd = c.args.egd.now in
    let found = c.args.found.now in
    let span = found.span in
    let l = left_of egd (match_terms store found) in
    let r = right_of egd (match_terms store found) in
    let first = begun l r span store c.new-cutting.result c.new-cutting.ensures.notes c.new-cutting.ensures.made
    (subst (HoldsSide store l span) (sym c.new-cutting.ensures.own) (c.side_of-left.ensures store c.requires.matches.match))
    (subst (HoldsSide store r span) (sym c.new-cutting.ensures.other) (c.side_of-right.ensures store c.requires.matches.match))
    c.requires.spans in
    let left_cut = c.in_ok-fit.ensures.cuts l r store first in
    let second = swapped l r span store c.fit.new.store c.fit.new.self c.swap.new.self left_cut.0 c.swap.ensures.own c.swap.ensures.other
    c.swap.ensures.notes c.swap.ensures.made in
    let both_cut = c.in_ok-fit-2.ensures.cuts r l store second in
    let mid = c.fit-2.new.store in
    let fitted : AreFitted mid l r span c.fit-2.new.self.other c.fit-2.new.self.own = record {
      left_held = both_cut.0.other_held;
      right_held = both_cut.0.own_held;
      left_over = both_cut.2 (subst (λ (s : Side). IsFitted c.fit.new.store l span s) (sym c.swap.ensures.other) left_cut.1);
      right_over = both_cut.1;
    } in
    let can : CanBeEqual l r = record {
      different = unequal_sides_differ store c.requires.egd.0 egd c.requires.egd.1 found c.requires.matches c.is_kept.ensures;
      one_unknown = one_is_unknown store c.requires.egd.0 egd c.requires.egd.1 found c.requires.matches c.requires.sides;
    } in
    let notes = c.fit-2.new.self.notes in
    on_one c.replace.result (c.replace.ensures.replaces l r span fitted can)
    (equated egd store mid c.replace.new.store found notes c.requires.matches
    (sides_change (facts_in store) r l span notes (facts_in mid) both_cut.0.cuts))

pub returns-clause-spans : goal.returns-clause-spans
returns-clause-spans g c =
    let store = c.args.store.now in
    let egd = c.args.egd.now in
    let found = c.args.found.now in
    let span = found.span in
    let l = left_of egd (match_terms store found) in
    let r = right_of egd (match_terms store found) in
    let first = begun l r span store c.new-cutting.result c.new-cutting.ensures.notes c.new-cutting.ensures.made
    (subst (HoldsSide store l span) (sym c.new-cutting.ensures.own) (c.side_of-left.ensures store c.requires.matches.match))
    (subst (HoldsSide store r span) (sym c.new-cutting.ensures.other) (c.side_of-right.ensures store c.requires.matches.match))
    c.requires.spans in
    let left_cut = c.in_ok-fit.ensures.cuts l r store first in
    let second = swapped l r span store c.fit.new.store c.fit.new.self c.swap.new.self left_cut.0 c.swap.ensures.own c.swap.ensures.other
    c.swap.ensures.notes c.swap.ensures.made in
    let both_cut = c.in_ok-fit-2.ensures.cuts r l store second in
    on_one c.replace.result c.replace.ensures.spans (λ keep. keep both_cut.0.spans)

pub returns-clause-changes : goal.returns-clause-changes
returns-clause-changes g c =
    let store = c.args.store.now in
    let egd = c.args.egd.now in
    let found = c.args.found.now in
    let span = found.span in
    let l = left_of egd (match_terms store found) in
    let r = right_of egd (match_terms store found) in
    let first = begun l r span store c.new-cutting.result c.new-cutting.ensures.notes c.new-cutting.ensures.made
    (subst (HoldsSide store l span) (sym c.new-cutting.ensures.own) (c.side_of-left.ensures store c.requires.matches.match))
    (subst (HoldsSide store r span) (sym c.new-cutting.ensures.other) (c.side_of-right.ensures store c.requires.matches.match))
    c.requires.spans in
    let left_cut = c.in_ok-fit.ensures.cuts l r store first in
    let second = swapped l r span store c.fit.new.store c.fit.new.self c.swap.new.self left_cut.0 c.swap.ensures.own c.swap.ensures.other
    c.swap.ensures.notes c.swap.ensures.made in
    let both_cut = c.in_ok-fit-2.ensures.cuts r l store second in
    if_ok c.replace.result c.replace.ensures.others c.replace.ensures.made
    (λ rows others made. changed store c.fit-2.new.store c.replace.new.store c.fit-2.new.self.made.items rows both_cut.0.only both_cut.0.spans
    others (subst (All (Contains rows)) c.as_slice.ensures.value made))

pub returns-clause-shared : goal.returns-clause-shared
returns-clause-shared g c =
    let store = c.args.store.now in
    let egd = c.args.egd.now in
    let found = c.args.found.now in
    let span = found.span in
    let l = left_of egd (match_terms store found) in
    let r = right_of egd (match_terms store found) in
    let first = begun l r span store c.new-cutting.result c.new-cutting.ensures.notes c.new-cutting.ensures.made
    (subst (HoldsSide store l span) (sym c.new-cutting.ensures.own) (c.side_of-left.ensures store c.requires.matches.match))
    (subst (HoldsSide store r span) (sym c.new-cutting.ensures.other) (c.side_of-right.ensures store c.requires.matches.match))
    c.requires.spans in
    let left_cut = c.in_ok-fit.ensures.cuts l r store first in
    let second = swapped l r span store c.fit.new.store c.fit.new.self c.swap.new.self left_cut.0 c.swap.ensures.own c.swap.ensures.other
    c.swap.ensures.notes c.swap.ensures.made in
    let both_cut = c.in_ok-fit-2.ensures.cuts r l store second in
    if_ok_of_three c.replace.result c.replace.ensures.others c.replace.ensures.made c.replace.ensures.shared
    (λ rows others made shared. all_keep store c.fit-2.new.store c.replace.new.store c.fit-2.new.self.made.items rows both_cut.0.shared shared
    both_cut.0.spans others (subst (All (Contains rows)) c.as_slice.ensures.value made))
