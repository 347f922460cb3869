use Rattle.std.specs.Prelude.{IfOk}
use Rattle.std.proofs.Common.{◌≡◌, sym, ap, ◌∙◌, subst}
use Rattle.row_store.specs.Rows.{Rows}
use Rattle.op_law.specs.Local.{rows_only}
use Rattle.db_state.specs.Parts.{passes}
use Rattle.db_state.specs.declared.sight.Sight.{Sight}
use Rattle.db_state.proofs.PartLaws.{rows_all}
use Rattle.db_state.proofs.sight.copy_seen.Goals as goal

pub returns-in-All : goal.returns-in-All
returns-in-All c =
    let rows = c.args.table.now.rows in
    let whole = ap (λ (sight : Sight). rows_only (passes sight) rows) c.in-All.is ∙ rows_all rows in
    subst (λ (seen : Rows). IfOk c.copy.result (λ made. made.rows ≡ seen)) (sym whole) c.copy.ensures
