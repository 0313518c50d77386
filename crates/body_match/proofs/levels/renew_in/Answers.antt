use Rattle.std.proofs.Common.{ℕ, List, Contains, subst}
use Rattle.std.proofs.lemmas.Result.{on_ok_weaker}
use Rattle.body_match.specs.declared.lookup.Entry.{Entry}
use Rattle.body_match.proofs.levels.renew_in.Goals as goal

pub drop_rows-requires : goal.drop_rows-requires
drop_rows-requires g c = λ column h.
    c.requires column (subst (λ (l : List ℕ). Contains l column) c.as_slice-columns.ensures.value h)

pub entries_among-requires : goal.entries_among-requires
entries_among-requires g c = λ column h.
    c.requires column (subst (λ (l : List ℕ). Contains l column) c.as_slice-columns.ensures.value h)

pub returns-clause-kept : goal.returns-clause-kept
returns-clause-kept g c =
    on_ok_weaker c.add_all.result
    (λ (h : (entry : Entry) → Contains c.drop_rows.new.listed entry → Contains c.add_all.new.self entry) entry k other live.
    h entry (c.in_ok-drop_rows.ensures entry k other live)) c.add_all.ensures.kept
