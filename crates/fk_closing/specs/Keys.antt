-- The keys of S and T.
use Rattle.std.specs.Prelude.{◌≡◌, ℕ, not, [], Bool}
use Rattle.row_store.specs.Rows.{Rows}
use Rattle.op_law.specs.Tables.{Tables}
use Rattle.op_law.specs.Local.{rows_only}
use Rattle.op_tables.specs.SideTables.{first_table, second_table}
use Rattle.foreign_keys.specs.KeyParts.{FkParts}
use Rattle.op_fk_decompose.specs.Columns.{column_parts}
use Rattle.op_fk_decompose.specs.Decompose.{alone}
use Rattle.table_keys.specs.Keys.{keys_by}
use Rattle.table_keys.specs.declared.columns.KeyColumns.TheVariants.{All as AllColumns, One}
use Rattle.fk_closing.specs.declared.keys.Among.{Among}
use Rattle.fk_closing.specs.declared.keys.Among.TheVariants.{All, Shared}

-- the foreign keys of S, each a row of one value, and the rows of T
pub record KeyRows : Type 0 where
  pub keys : Rows
  pub rows : Rows

-- they are those of these tables, where the foreign key stands at this place of S
pub record AreFkKeys (place : ℕ) (st : Tables) (k : KeyRows) : Type 0 where
  pub keys : k.keys ≡ keys_by (One place) (first_table st)
  pub rows : k.rows ≡ keys_by AllColumns (second_table st)

-- a key as a row of S that has no other column
abbrev pub key_parts : FkParts
key_parts = column_parts [] [] 0

-- a row of T that S lacks, and to which no row of S refers
abbrev pub alone_among : KeyRows → ℕ → Bool
alone_among k q = alone key_parts k.keys k.rows q

-- the rows of T that aren't alone
abbrev pub shared_among : KeyRows → Rows
shared_among k = rows_only (λ q. not (alone_among k q)) k.rows

-- those among which one is sought
abbrev pub keys_among : Among → KeyRows → Rows
keys_among All k = k.rows
keys_among Shared k = shared_among k
