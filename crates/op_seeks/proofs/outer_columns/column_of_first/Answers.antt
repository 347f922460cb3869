use Rattle.std.proofs.Common.{arith}
use Rattle.op_seeks.proofs.OuterColumnLemmas.{first_column, first_none}
use Rattle.op_seeks.proofs.outer_columns.column_of_first.Goals as goal

pub returns-then-place-it : goal.returns-then-place-it
returns-then-place-it c = first_column c.args.it.now.first c.args.it.now.second c.args.place c.if-place-it.true

pub returns : goal.returns
returns c = let not = c.if-place-it.false in first_none c.args.it.now.first c.args.it.now.second c.args.place (omega (arith, not))
