-- The keys of both tables in two columns that are equal wherever the condition holds.
use Rattle.std.specs.Prelude.{◌≡◌, ℕ, true, List, Some}
use Rattle.par_base.specs.declared.value.Value.{Value}
use Rattle.row_store.specs.Rows.{Rows, row_of}
use Rattle.op_law.specs.Identifiers.{has_id}
use Rattle.table_keys.specs.Keys.{keys_by}
use Rattle.table_keys.specs.declared.columns.KeyColumns.TheVariants.{One}
use Rattle.pair_rows.specs.declared.half.Half.{Half}
use Rattle.pair_rows.specs.declared.half.Half.TheVariants.{First, Second}
use Rattle.op_cond_join.specs.Joinings.{joining}
use Rattle.equal_columns.specs.Columns.{MakesEqual}
use Rattle.cond_closing.specs.declared.by_keys.ByKeys.{ByKeys}

-- its columns, x of S and y of T, are equal wherever the condition holds
abbrev pub HasEqual : ByKeys → Type 0
HasEqual it = MakesEqual (joining it.join.now) (joining it.join.now).condition it.x it.y

-- its keys are those of these tables in the columns
pub record AreKeysOf (it : ByKeys) (s t : Rows) : Type 0 where
  pub first : it.first.now.rows ≡ keys_by (One it.x) s
  pub second : it.second.now.rows ≡ keys_by (One it.y) t

-- the column of the half's table
abbrev pub column_of : Half → ByKeys → ℕ
column_of First it = it.x
column_of Second it = it.y

-- all rows that have the key are among these
abbrev pub HasKeyed : Rows → List Value → List ℕ → Type 0
HasKeyed keys key ids = (b : ℕ) → row_of keys b ≡ Some key → has_id ids b ≡ true
