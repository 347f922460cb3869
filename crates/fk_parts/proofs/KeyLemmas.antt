-- What the keys of S show of S.
use Rattle.std.specs.Prelude.{option_map}
use Rattle.std.proofs.Common.{◌≡◌, ℕ, List, [], ◌∷◌, Bool, false, Some, None, ap, sym, ◌∙◌}
use Rattle.par_base.specs.declared.value.Value.{Value}
use Rattle.row_store.specs.Rows.{Rows, row_of}
use Rattle.op_law.specs.Tables.{Tables}
use Rattle.op_tables.specs.SideTables.{first_table}
use Rattle.row_parts.specs.RowCells.{by_option}
use Rattle.row_parts.specs.RowEdits.{value_at}
use Rattle.table_keys.specs.Keys.{key_by}
use Rattle.table_keys.specs.declared.columns.KeyColumns.TheVariants.{One}
use Rattle.table_keys.proofs.KeyLaws.{key_row}
use Rattle.fk_closing.specs.Keys.{AreFkKeys, KeyRows}
use Rattle.fk_closing.specs.Looking.{goal_at, HasGoal}
use Rattle.fk_closing.specs.Brought.{Witnessed}

-- a row of S, from its key
pub record KeyedRow (place : ℕ) (s : Rows) (p : ℕ) (w : List Value) : Type 0 where
  pub row : List Value
  pub at : row_of s p ≡ Some row
  pub key : w ≡ value_at place row ∷ []

module _ (place : ℕ) (st : Tables) (k : KeyRows) (are : AreFkKeys place st k) where
  key_at : (p : ℕ) → row_of k.keys p ≡ option_map (key_by (One place)) (row_of (first_table st) p)
  key_at p = ap (λ (rows : Rows). row_of rows p) are.keys ∙ key_row (One place) (first_table st) p

  -- the key of a row of S
  key_of_row : (p : ℕ) (v : List Value) → row_of (first_table st) p ≡ Some v → row_of k.keys p ≡ Some (value_at place v ∷ [])
  key_of_row p v at = key_at p ∙ ap (option_map (key_by (One place))) at

  -- and the other way round
  row_of_key : (p : ℕ) (w : List Value) → row_of k.keys p ≡ Some w → KeyedRow place (first_table st) p w
  row_of_key p w at =
      by_option (row_of (first_table st) p)
      (λ none. let bad : None ≡ Some w = sym (key_at p ∙ ap (option_map (key_by (One place))) none) ∙ at in absurd (cc))
      (λ v is.
      let some : Some w ≡ Some (value_at place v ∷ []) = sym at ∙ key_at p ∙ ap (option_map (key_by (One place))) is in
      record { row = v; at = is; key = cc })

  -- to what a row of S refers
  pub goals_of_keys : (ids : List ℕ) (q : ℕ) → ((w : List Value) → row_of k.keys q ≡ Some w → HasGoal 0 ids w) → (v : List Value) → row_of (first_table st) q ≡ Some v → HasGoal place ids v
  goals_of_keys ids q has v at g goal = has (value_at place v ∷ []) (key_of_row q v at) g goal

  -- a witness
  pub witness_of_keys : (changed : ℕ → Bool) (q : ℕ) (ids : List ℕ) → Witnessed 0 changed k.keys q ids → Witnessed place changed (first_table st) q ids
  witness_of_keys changed q ids w =
      let f = row_of_key w.id w.refers.row w.refers.at in
      record { id = w.id; refers = record { row = f.row; at = f.at; goal = sym (ap (goal_at 0) f.key) ∙ w.refers.goal }; stays = w.stays; among = w.among }

  pub witness_over : (changed : ℕ → Bool) (q : ℕ) (ids : List ℕ)
      → ((p : ℕ) (w : List Value) → changed p ≡ false → row_of k.keys p ≡ Some w → goal_at 0 w ≡ Some q → Witnessed 0 changed k.keys q ids)
      → (p : ℕ) (v : List Value) → changed p ≡ false → row_of (first_table st) p ≡ Some v → goal_at place v ≡ Some q → Witnessed place changed (first_table st) q ids
  witness_over changed q ids has p v still at goal = witness_of_keys changed q ids (has p (value_at place v ∷ []) still (key_of_row p v at) goal)
