-- The row that was read along the way.
use Rattle.std.proofs.Common.{◌≡◌, ℕ, Bool, true, List, [], None, sym, ap, ◌∙◌}
use Rattle.row_store.specs.Rows.{Rows, row_of}
use Rattle.row_store.specs.States.{TableState}
use Rattle.op_law.specs.Local.{rows_only}
use Rattle.version_model.specs.Kept.{rows_now, value_of}
use Rattle.version_model.specs.declared.numbered.Numbered.{Numbered}
use Rattle.db_state.proofs.PartLaws.{row_seen}
use Rattle.db_state.proofs.StoredLemmas.{unstored_rows}

-- its row is that of the state, where what was read and the state show the same of what passes
pub row_read : (P : ℕ → Bool) (stored read : List (Numbered TableState)) (t id : ℕ) (rows : Rows) → value_of stored t ≡ None → P id ≡ true → rows_only P (rows_now stored read t) ≡ rows_only P rows → row_of (rows_now [] read t) id ≡ row_of rows id
row_read P stored read t id rows none passes same =
    ap (λ (x : Rows). row_of x id) (sym (unstored_rows stored read t none))
    ∙ sym (row_seen P (rows_now stored read t) id passes)
    ∙ ap (λ (x : Rows). row_of x id) same
    ∙ row_seen P rows id passes
