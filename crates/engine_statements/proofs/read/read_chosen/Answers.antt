use Rattle.std.proofs.Common.{length, sym, subst}
use Rattle.op_law.specs.Tables.{RowsWide}
use Rattle.ordinary_table.specs.Shown.{condition_of}
use Rattle.engine_statements.specs.Calls.{rows_in}
use Rattle.engine_statements.proofs.ReadLemmas.{alone_wide, pinned_part}
use Rattle.engine_statements.proofs.read.read_chosen.Goals as goal

pub returns-in_ok-read_row-in-Some-clause-chosen : goal.returns-in_ok-read_row-in-Some-clause-chosen
returns-in_ok-read_row-in-Some-clause-chosen g c =
    pinned_part (condition_of c.args.condition) c.in-Some.id (rows_in c.args.reader.database.now c.args.found.now.number) _ c.requires.found.stands.rises c.in-Some.ensures c.in_ok-read_row-in-Some.ensures

pub returns-in_ok-read_row-in-Some-clause-wide : goal.returns-in_ok-read_row-in-Some-clause-wide
returns-in_ok-read_row-in-Some-clause-wide g c =
    let width = length c.args.found.now.heading.now.columns in
    subst (RowsWide width) (sym c.in_ok-read_row-in-Some.ensures) (alone_wide width (rows_in c.args.reader.database.now c.args.found.now.number) c.in-Some.id c.requires.found.stands.wide)
