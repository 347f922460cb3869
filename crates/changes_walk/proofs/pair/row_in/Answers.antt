use Rattle.std.proofs.Common.{◌≡◌, IfOk, ap, sym, subst, arith}
use Rattle.row_store.specs.Rows.{Rows, row_of}
use Rattle.changes_walk.proofs.SideLemmas.{table_in, table_out}
use Rattle.changes_walk.proofs.pair.row_in.Goals as goal

pub returns-then-which-numbers : goal.returns-then-which-numbers
returns-then-which-numbers g c =
    let here = table_in (g.D.StateRead.state c.args.rows.now).tables c.args.numbers.now c.args.which 0 c.if-which-numbers.true in
    subst (λ (rows : Rows). IfOk c.row.result (λ row. row ≡ row_of rows c.args.id)) (sym here) c.row.ensures

pub returns-else-which-numbers : goal.returns-else-which-numbers
returns-else-which-numbers g c =
    let none = table_out (g.D.StateRead.state c.args.rows.now).tables c.args.numbers.now c.args.which (omega (arith, c.if-which-numbers.false)) in
    sym (ap (λ (rows : Rows). row_of rows c.args.id) none)
