-- Keys of changed tables are changed keys.
use Rattle.std.specs.Prelude.{nat_lt, option_map}
use Rattle.std.proofs.Common.{◌≡◌, ℕ, ◌+◌, ◌==◌, List, [], ◌∷◌, Bool, true, false, if◌then◌else◌, Option, Some, None, refl, ap, sym, ◌∙◌}
use Rattle.par_base.specs.declared.value.Value.{Value}
use Rattle.row_store.specs.declared.change.Change.{Change}
use Rattle.row_store.specs.Rows.{Rows, RiseFrom, row_of}
use Rattle.row_store.specs.Changes.{AreOld, IsAbove}
use Rattle.op_rows.specs.Cells.{with_row}
use Rattle.row_changes.specs.Changed.{changed, put_row}
use Rattle.table_keys.specs.declared.columns.KeyColumns.{KeyColumns}
use Rattle.table_keys.specs.declared.columns.KeyColumns.TheVariants.{All}
use Rattle.table_keys.specs.Keys.{key_by, keys_by, keyed_changes}

module _ (c : KeyColumns) where
  -- what an identifier has among the keys is the key of its row
  row_by : (b : Bool) (r : ℕ × List Value) (cell other : Option (List Value)) → other ≡ option_map (key_by c) cell
      → (if b then Some (key_by c r.1) else other) ≡ option_map (key_by c) (if b then Some r.1 else cell)
  row_by true r cell other e = refl
  row_by false r cell other e = e

  pub key_row : (rows : Rows) (id : ℕ) → row_of (keys_by c rows) id ≡ option_map (key_by c) (row_of rows id)
  key_row [] id = refl
  key_row (r ∷ rs) id = row_by (r.0 == id) r (row_of rs id) (row_of (keys_by c rs) id) (key_row rs id)

  -- keys rise as the rows
  pub keys_rise : (n : ℕ) (rows : Rows) → RiseFrom n rows → RiseFrom n (keys_by c rows)
  keys_rise n [] rise = tt
  keys_rise n (r ∷ rs) rise = (rise.0, keys_rise (r.0 + 1) rs rise.1)

  -- the old keys are the table's
  pub keys_old : (rows : Rows) (cs : List Change) → AreOld rows cs → AreOld (keys_by c rows) (keyed_changes c cs)
  keys_old rows [] old = tt
  keys_old rows (d ∷ ds) old = (ap (option_map (key_by c)) old.0 ∙ sym (key_row rows d.id), keys_old rows ds old.1)

  keys_with : (id : ℕ) (new : Option (List Value)) (rows : Rows) → keys_by c (with_row id new rows) ≡ with_row id (option_map (key_by c) new) (keys_by c rows)
  keys_with id None rows = refl
  keys_with id (Some row) rows = refl

  keys_under : (t u : Bool) (r : ℕ × List Value) (less same more : Rows) (less_keys same_keys more_keys : Rows) → keys_by c less ≡ less_keys → keys_by c same ≡ same_keys → keys_by c more ≡ more_keys
      → keys_by c (if t then r ∷ less else if u then same else more) ≡ (if t then (r.0, key_by c r.1) ∷ less_keys else if u then same_keys else more_keys)
  keys_under true u r less same more lk sk mk a b d = ap (λ (ks : Rows). (r.0, key_by c r.1) ∷ ks) a
  keys_under false true r less same more lk sk mk a b d = b
  keys_under false false r less same more lk sk mk a b d = d

  pub keys_put : (id : ℕ) (new : Option (List Value)) (rows : Rows) → keys_by c (put_row id new rows) ≡ put_row id (option_map (key_by c) new) (keys_by c rows)
  keys_put id new [] = keys_with id new []
  keys_put id new (r ∷ rs) =
      keys_under (nat_lt r.0 id) (r.0 == id) r (put_row id new rs) (with_row id new rs) (with_row id new (r ∷ rs)) _ _ _ (keys_put id new rs) (keys_with id new rs) (keys_with id new (r ∷ rs))

  -- THE KEYS OF A CHANGED TABLE ARE THE CHANGED KEYS
  pub keys_changed : (rows : Rows) (cs : List Change) → keys_by c (changed rows cs) ≡ changed (keys_by c rows) (keyed_changes c cs)
  keys_changed rows [] = refl
  keys_changed rows (d ∷ ds) = keys_put d.id d.new (changed rows ds) ∙ ap (put_row d.id (option_map (key_by c) d.new)) (keys_changed rows ds)

  pub keyed_above : (cs : List Change) (id : ℕ) → IsAbove cs id → IsAbove (keyed_changes c cs) id
  keyed_above [] id above = tt
  keyed_above (d ∷ []) id above = above
  keyed_above (d ∷ e ∷ es) id above = keyed_above (e ∷ es) id above

-- the keys in all columns are the rows
pub keys_all : (rows : Rows) → keys_by All rows ≡ rows
keys_all [] = refl
keys_all (r ∷ rs) = ap (λ (ks : Rows). r ∷ ks) (keys_all rs)
