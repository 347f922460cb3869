-- With which identifiers a write of R begins, through JOIN ON a condition.
use Rattle.std.specs.Prelude.{◌≡◌, ℕ, true, List, Option, Some}
use Rattle.std.specs.Option.{option_map}
use Rattle.par_base.specs.declared.value.Value.{Value}
use Rattle.row_store.specs.declared.change.Change.{Change}
use Rattle.row_store.specs.Rows.{Rows}
use Rattle.id_memory.specs.Pairs.{Pairs, pair_of}
use Rattle.op_law.specs.Identifiers.{has_id}
use Rattle.row_parts.specs.Places.{pick as part}
use Rattle.row_parts.specs.RowCells.{Cell}
use Rattle.row_changes.specs.Changed.{TableChanges}
use Rattle.row_changes.specs.Touched.{touched}
use Rattle.table_keys.specs.Keys.{keys_by}
use Rattle.table_keys.specs.declared.columns.KeyColumns.TheVariants.{All}
use Rattle.pair_rows.specs.Given.{least, or_id, own}
use Rattle.pair_rows.specs.Shown.{Joining}
use Rattle.op_cond_join.specs.Joinings.{joining}
use Rattle.id_closing.specs.Found.{AreAmong}
use Rattle.id_closing.specs.Told.{AllOf, changes_at}
use Rattle.cond_closing.specs.declared.assigned.ByValues.{ByValues}

-- its keys are the rows of these tables
pub record AreRowKeys (it : ByValues) (s t : Rows) : Type 0 where
  pub first : it.first.now.rows ≡ keys_by All s
  pub second : it.second.now.rows ≡ keys_by All t

-- the row that is found for the part of a new row: the old half, where the old row has the same part, or else the least row with it
abbrev pub found_of : List ℕ → Cell → Option ℕ → Rows → List Value → Option ℕ
found_of places old half rows row = or_id (own places old half row) (least rows (part places row))

-- both rows that are found for a change with this new row, and the entry that has both, are among these
pub record FindsBoth (j : Joining) (m : Pairs) (s t : Rows) (ids : List ℕ) (c : Change) (row : List Value) : Type 0 where
  pub first : (a : ℕ) → found_of j.first c.old (option_map (λ pair. pair.0) (pair_of m c.id)) s row ≡ Some a → has_id ids a ≡ true
  pub second : (b : ℕ) → found_of j.second c.old (option_map (λ pair. pair.1) (pair_of m c.id)) t row ≡ Some b → has_id ids b ≡ true
  pub pair : (a b entry : ℕ) → found_of j.first c.old (option_map (λ pair. pair.0) (pair_of m c.id)) s row ≡ Some a
      → found_of j.second c.old (option_map (λ pair. pair.1) (pair_of m c.id)) t row ≡ Some b → pair_of m entry ≡ Some (a, b) → has_id ids entry ≡ true

-- whatever tables have these rows
abbrev pub FindsAssigned : ByValues → List ℕ → Change → Type 0
FindsAssigned it ids c = (s t : Rows) (row : List Value) → AreRowKeys it s t → c.new ≡ Some row → FindsBoth (joining it.join.now) it.memory.now.entries s t ids c row

-- all that the changes name, and what is found for their new rows
pub record BeginsAssigned (it : ByValues) (near : TableChanges) (begin : List ℕ) : Type 0 where
  pub named : AreAmong (touched near) begin
  pub found : AllOf (FindsAssigned it begin) (changes_at near 0)
