use Rattle.std.proofs.Common.{◌∙◌, sym, subst, inl, inr, Contains}
use Rattle.trace_checker.specs.States.{fact_named}
use Rattle.trace_checker.specs.Listed.{facts_of}
use Rattle.trace_checker.proofs.FactLemmas.{row_there, row_added}
use Rattle.trace_checker.proofs.ListedLemmas.{listed_with}
use Rattle.trace_checker.proofs.rows.add.Goals as goal

pub returns-clause-added : goal.returns-clause-added
returns-clause-added c =
    row_added c.args.rows.now.keys c.insert.new.self.keys c.args.row c.in_ok-insert.ensures.keys

pub returns-clause-listed : goal.returns-clause-listed
returns-clause-listed c = λ left.
    listed_with (facts_of c.args.rows.now.keys) (facts_of c.insert.new.self.keys) left c.args.holders.now c.list.new.self (fact_named c.args.row)
    (row_added c.args.rows.now.keys c.insert.new.self.keys c.args.row c.in_ok-insert.ensures.keys) c.in_ok-list.ensures.kept
    c.in_ok-list.ensures.there

pub returns-then-contains-clause-added : goal.returns-then-contains-clause-added
returns-then-contains-clause-added c = λ fact. (
  inl,
  λ there. elim there [
    | inl d ↦ d
    | inr e ↦ subst (Contains (facts_of c.args.rows.now.keys)) e
        (row_there c.args.rows.now.keys c.args.row (sym c.contains.ensures ∙ c.if-contains.true))
  ],
)
