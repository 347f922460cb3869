use Rattle.std.proofs.Common.{length, sym, subst}
use Rattle.op_law.specs.Tables.{RowsWide}
use Rattle.row_store.specs.Rows.{Rows}
use Rattle.ordinary_table.specs.Shown.{HasChosen, condition_of}
use Rattle.engine_statements.specs.Calls.{rows_in}
use Rattle.engine_statements.proofs.ReadLemmas.{of_answer}
use Rattle.engine_statements.proofs.update.update_found.Goals as goal

pub update_rows-requires : goal.update_rows-requires
update_rows-requires g c = record {
  width = length c.args.found.now.heading.now.columns;
  wide = subst (RowsWide (length c.args.found.now.heading.now.columns)) (sym c.table.ensures) c.in_ok-read.ensures.wide;
  set = c.requires.sets;
  reads = c.requires.reads;
}

pub returns-clause-rows : goal.returns-clause-rows
returns-clause-rows g c =
    let rows = rows_in c.args.reader.database.now c.args.found.now.number in
    let has = subst (λ (part : Rows). HasChosen (condition_of c.args.condition) rows part) (sym c.table.ensures) c.in_ok-read.ensures.chosen in
    of_answer _ _ c.update_rows.result (λ made h. h rows has) c.update_rows.ensures.rows

pub returns-clause-old : goal.returns-clause-old
returns-clause-old g c =
    let rows = rows_in c.args.reader.database.now c.args.found.now.number in
    let has = subst (λ (part : Rows). HasChosen (condition_of c.args.condition) rows part) (sym c.table.ensures) c.in_ok-read.ensures.chosen in
    of_answer _ _ c.update_rows.result (λ made h. h rows has) c.update_rows.ensures.old

pub returns-clause-chosen : goal.returns-clause-chosen
returns-clause-chosen g c =
    let rows = rows_in c.args.reader.database.now c.args.found.now.number in
    let has = subst (λ (part : Rows). HasChosen (condition_of c.args.condition) rows part) (sym c.table.ensures) c.in_ok-read.ensures.chosen in
    of_answer _ _ c.update_rows.result (λ made h. h rows has) c.update_rows.ensures.chosen
