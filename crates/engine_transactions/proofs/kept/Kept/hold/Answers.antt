-- By what the statement is.
use Rattle.std.proofs.Common.{sym, ◌∙◌}
use Rattle.statements.specs.Views.{statement_view}
use Rattle.tx_history.specs.Kinds.{kind_in}
use Rattle.tx_history.specs.declared.statement_kind.StatementKind.TheVariants as kind
use Rattle.engine_transactions.proofs.HoldLemmas.{held_as, other_write, keeps_held}
use Rattle.engine_transactions.proofs.kept.Kept.hold.Goals as goal

pub returns-in-Commit-clause-holds : goal.returns-in-Commit-clause-holds
returns-in-Commit-clause-holds g c =
    let x = statement_view c.args.statement in
    held_as c.args.self.now x kind.Commit c.hold_commit.result c.hold_commit.new.self (sym c.kind_of.ensures ∙ c.in-Commit.is) c.hold_commit.ensures.holds

pub returns-in-Commit-clause-keeps : goal.returns-in-Commit-clause-keeps
returns-in-Commit-clause-keeps g c = keeps_held c.args.self.now c.hold_commit.new.self (statement_view c.args.statement) c.hold_commit.result c.hold_commit.ensures.same

pub hold_write-requires-clause-write : goal.hold_write-requires-clause-write
hold_write-requires-clause-write g c =
    let x = statement_view c.args.statement in
    other_write (kind_in x) c.requires.writes (λ is. c.in_default.not-Commit (c.kind_of.ensures ∙ is))

pub returns-in_default-clause-holds : goal.returns-in_default-clause-holds
returns-in_default-clause-holds g c =
    let x = statement_view c.args.statement in
    let is = other_write (kind_in x) c.requires.writes (λ is. c.in_default.not-Commit (c.kind_of.ensures ∙ is)) in
    held_as c.args.self.now x kind.Write c.hold_write.result c.hold_write.new.self is c.hold_write.ensures.holds

pub returns-in_default-clause-keeps : goal.returns-in_default-clause-keeps
returns-in_default-clause-keeps g c = keeps_held c.args.self.now c.hold_write.new.self (statement_view c.args.statement) c.hold_write.result c.hold_write.ensures.same
