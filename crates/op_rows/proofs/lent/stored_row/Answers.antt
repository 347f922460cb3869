use Rattle.std.proofs.Common.{◌∙◌}
use Rattle.op_rows.proofs.LentLemmas.{stored_there, stored_past}
use Rattle.op_rows.proofs.lent.stored_row.Goals as goal

pub returns-in-Some : goal.returns-in-Some
returns-in-Some c =
    let found = c.in-Some.ensures.lookup in
    c.get-in-Some.ensures.value ∙ stored_there c.args.tables.now c.args.id c.args.at c.in-Some.table.now found.3.0 found.1

pub returns-in-None : goal.returns-in-None
returns-in-None c = stored_past c.args.tables.now c.args.id c.args.at c.in-None.ensures.lookup.3
