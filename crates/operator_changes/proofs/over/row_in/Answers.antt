use Rattle.std.proofs.Common.{◌≡◌, IfOk, ap, sym, ◌∙◌, subst, arith}
use Rattle.row_store.specs.Rows.{Rows, row_of}
use Rattle.row_store.specs.States.{TableState}
use Rattle.operator_changes.proofs.LoopLemmas.{content_at, content_out}
use Rattle.operator_changes.proofs.over.row_in.Goals as goal

pub returns-then-which-tables : goal.returns-then-which-tables
returns-then-which-tables c =
    let table = c.index-tables-which.result in
    let here = ap (λ (t : TableState). t.rows) c.index-tables-which.is ∙ sym (content_at c.args.tables.now c.args.which table c.if-which-tables.true) in
    subst (λ (rows : Rows). IfOk c.copy_of.result (λ row. row ≡ row_of rows c.args.id)) here c.copy_of.ensures

pub returns-else-which-tables : goal.returns-else-which-tables
returns-else-which-tables c =
    sym (ap (λ (rows : Rows). row_of rows c.args.id) (content_out c.args.tables.now c.args.which (omega (arith, c.if-which-tables.false))))
