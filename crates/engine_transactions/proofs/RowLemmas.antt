-- Whether a table has other rows.
use Rattle.std.proofs.Common.{◌≡◌, Bool, true, false, not, sym, ap, subst}
use Rattle.row_store.specs.Rows.{Rows}
use Rattle.op_law.proofs.OnlyLaws.{by_test}
use Rattle.engine_sessions.specs.Told.{TellsApart}
use Rattle.tx_history.specs.History.{same_rows}
use Rattle.tx_history.proofs.RowLaws.{rows_equal, rows_same}

-- it has where that is told
pub told : (before now : Rows) (b : Bool) → TellsApart before now b → not (same_rows before now) ≡ b
told before now true apart = by_test (same_rows before now) (λ e. absurd (apart (sym (rows_equal before now e)))) (λ e. ap not e)
told before now false same = ap not (subst (λ (rows : Rows). same_rows before rows ≡ true) (sym same) (rows_same before))
