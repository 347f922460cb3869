use Rattle.std.proofs.Common.{arith}
use Rattle.op_seeks.proofs.OuterColumnLemmas.{second_column, second_low, second_none}
use Rattle.op_seeks.proofs.outer_columns.column_of_second.Goals as goal

pub returns-then-place-it : goal.returns-then-place-it
returns-then-place-it c = second_low c.args.it.now.first c.args.it.now.second c.args.place c.if-place-it.true

pub returns-then-column-it : goal.returns-then-column-it
returns-then-column-it c =
    let not = c.if-place-it.false in
    second_column c.args.it.now.first c.args.it.now.second c.args.place (omega (arith, not)) c.if-column-it.true

pub returns : goal.returns
returns c =
    let not = c.if-place-it.false in
    let past = c.if-column-it.false in
    second_none c.args.it.now.first c.args.it.now.second c.args.place (omega (arith, not)) (omega (arith, past))
