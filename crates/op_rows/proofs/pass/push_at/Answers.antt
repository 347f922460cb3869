use Rattle.op_rows.proofs.PassLemmas.{puts_nothing}
use Rattle.op_rows.proofs.pass.push_at.Goals as goal

pub returns-then-at-tables : goal.returns-then-at-tables
returns-then-at-tables c = puts_nothing c.args.tables.now c.args.at c.args.id c.args.cell c.if-at-tables.true
