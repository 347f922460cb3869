use Rattle.std.proofs.Common.{sym, ◌∙◌}
use Rattle.std.proofs.lemmas.Bool.{false≢true}
use Rattle.db_check.proofs.checking.check.Goals as goal

pub returns-then-not-branch : goal.returns-then-not-branch
returns-then-not-branch g c is = false≢true (sym c.if-not-branch.true ∙ c.in_ok-may_be_read.ensures.1 is)

pub admit_fields-requires-clause-read : goal.admit_fields-requires-clause-read
admit_fields-requires-clause-read g c = (c.in_ok-may_be_read.ensures.0 c.if-not-branch.false).0

pub admit_fields-requires-clause-well : goal.admit_fields-requires-clause-well
admit_fields-requires-clause-well g c = (c.in_ok-may_be_read.ensures.0 c.if-not-branch.false).1
