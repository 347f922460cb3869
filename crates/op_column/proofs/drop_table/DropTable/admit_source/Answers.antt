use Rattle.std.proofs.Common.{ap, sym, ◌∙◌}
use Rattle.op_column.specs.inner.Calls.{is_one_cell}
use Rattle.op_column.proofs.TableLemmas.{admits_kept, admits_other}
use Rattle.op_column.proofs.drop_table.DropTable.admit_source.Goals as goal

pub returns-then-not-is_one_row : goal.returns-then-not-is_one_row
returns-then-not-is_one_row c =
    admits_other c.args.self.now.width c.args._near.now c.args.aux.now
    (ap (is_one_cell c.args.self.now.width) (sym c.in_ok-kept.ensures) ∙ sym c.is_one_row.ensures ∙ c.if-not-is_one_row.true)

pub returns : goal.returns
returns c =
    admits_kept c.args.self.now.width c.args._near.now c.in_ok-kept.kept c.args.aux.now c.in_ok-kept.ensures
    (ap (is_one_cell c.args.self.now.width) (sym c.in_ok-kept.ensures) ∙ sym c.is_one_row.ensures ∙ c.if-not-is_one_row.false)
