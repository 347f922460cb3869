use Rattle.std.proofs.Common.{arith}
use Rattle.row_changes.proofs.ChangedLaws.{changed_is}
use Rattle.kept_changes.proofs.one_table.change.Goals as goal

pub returns-clause-rows : goal.returns-clause-rows
returns-clause-rows c = changed_is c.args.table.now.rows c.args.changes.now c.apply.new.self.rows c.apply.ensures.applied.rises c.apply.ensures.applied.changed

pub returns-clause-back : goal.returns-clause-back
returns-clause-back c = (c.args.changes.now, c.apply.ensures.applied, omega (arith, c.apply.ensures.room))
