-- Stored tables, and those that were read beside them.
use Rattle.std.specs.Prelude.{IfOk, IfSome, Result, Ok, Err}
use Rattle.std.specs.Option.{option_copied, option_map_or}
use Rattle.std.proofs.Common.{◌≡◌, ℕ, List, [], Bor, Option, Some, None, sym, ap, ◌∙◌}
use Rattle.row_store.specs.Rows.{Rows}
use Rattle.row_store.specs.States.{TableState}
use Rattle.op_law.specs.Local.{rows_only}
use Rattle.op_law.specs.Meaning.{Meaning}
use Rattle.version_model.specs.Kept.{latest_of, newer_rows, rows_at, rows_now, value_of}
use Rattle.version_model.specs.declared.numbered.Numbered.{Numbered}
use Rattle.db_state.specs.Fields.{IsDatabase, state_for}
use Rattle.db_state.specs.declared.parts.Parts.{Parts}
use Rattle.db_state.specs.Parts.{passes}
use Rattle.db_state.specs.declared.sight.Sight.TheVariants.{All}
use Rattle.db_state.proofs.PartLaws.{rows_all}
use Rattle.db_state.proofs.FoundLaws.{in_numbers}

-- a stored table has the rows of the state
pub lent_right : {O : Type 0} (meaning : O → Meaning) (p : Parts O) → IsDatabase meaning p → (t : ℕ) (o : Option (Bor TableState)) → option_copied o ≡ value_of p.stored t → IfSome o (λ (b : Bor TableState). b.now.rows ≡ (state_for meaning p).tables t)
lent_right {O} meaning p is t None found = tt
lent_right {O} meaning p is t (Some b) found =
    let stored : rows_at p.stored t ≡ (state_for meaning p).tables t = is.stands.stored t ((is.tables t).0 (in_numbers p.stored t b.now found)) in
    ap (λ (o : Option TableState). option_map_or (λ (x : TableState). x.rows) o []) found ∙ stored

-- a table that isn't stored is among those that were read
pub unstored_rows : (stored read : List (Numbered TableState)) (t : ℕ) → value_of stored t ≡ None → rows_now stored read t ≡ rows_now [] read t
unstored_rows stored read t none = ap (λ (o : Option TableState). newer_rows (latest_of read t) (option_map_or (λ (x : TableState). x.rows) o [])) none

-- what was read of all rows is the table
pub read_whole : {E : Type 0} (read : Result TableState E) (rows : Rows) → IfOk read (λ (table : TableState). rows_only (passes All) table.rows ≡ rows_only (passes All) rows) → IfOk read (λ (table : TableState). table.rows ≡ rows)
read_whole {E} (Ok table) rows same = sym (rows_all table.rows) ∙ same ∙ rows_all rows
read_whole {E} (Err e) rows same = tt
