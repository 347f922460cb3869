-- What the keys of S and T show of S and T.
use Rattle.std.specs.Prelude.{option_map}
use Rattle.std.proofs.Common.{◌≡◌, ℕ, List, [], ◌∷◌, Bool, false, not, ◌&&◌, Some, None, refl, ap, sym, ◌∙◌, subst}
use Rattle.par_base.specs.declared.value.Value.{Value}
use Rattle.row_store.specs.Rows.{Rows, RiseFrom, row_of}
use Rattle.op_law.specs.Tables.{Tables}
use Rattle.op_law.specs.Local.{rows_only}
use Rattle.op_tables.specs.SideTables.{first_table, second_table}
use Rattle.row_parts.specs.RowCells.{Cell, by_option, is_there}
use Rattle.row_parts.specs.RowEdits.{value_at}
use Rattle.foreign_keys.specs.KeyParts.{FkParts}
use Rattle.foreign_keys.specs.References.{referred}
use Rattle.op_fk_decompose.specs.Decompose.{alone, least_in}
use Rattle.op_fk_join.specs.Join.{first_with}
use Rattle.key_index.specs.Found.{IsLeastFrom}
use Rattle.table_keys.specs.Keys.{key_by, keys_by}
use Rattle.table_keys.specs.declared.columns.KeyColumns.TheVariants.{One}
use Rattle.table_keys.proofs.KeyLaws.{key_row, keys_all}
use Rattle.fk_closing.specs.Keys.{alone_among, key_parts, AreFkKeys, KeyRows, shared_among}
use Rattle.fk_closing.specs.Looking.{goal_at, HasGoal, HasRefs}
use Rattle.fk_closing.specs.Brought.{Witnessed}
use Rattle.fk_closing.proofs.LookLemmas.{first_is, least_is}

-- who is referred to is told by the keys
referred_keys : (k : FkParts) (place : ℕ) (s : Rows) (q : ℕ) → ((v : List Value) → k.key v ≡ value_at place v) → referred key_parts (keys_by (One place) s) q ≡ referred k s q
referred_keys k place [] q key = refl
referred_keys k place (r ∷ rs) q key = rw (key r.1, referred_keys k place rs q key) refl

-- a key is there where its row is
there_keys : (place : ℕ) (c : Cell) → is_there (option_map (key_by (One place)) c) ≡ is_there c
there_keys place None = refl
there_keys place (Some v) = refl

-- a row of S, from its key
pub record KeyedRow (place : ℕ) (s : Rows) (p : ℕ) (w : List Value) : Type 0 where
  pub row : List Value
  pub at : row_of s p ≡ Some row
  pub key : w ≡ value_at place row ∷ []

module _ (place : ℕ) (st : Tables) (k : KeyRows) (are : AreFkKeys place st k) where
  key_at : (p : ℕ) → row_of k.keys p ≡ option_map (key_by (One place)) (row_of (first_table st) p)
  key_at p = ap (λ (rows : Rows). row_of rows p) are.keys ∙ key_row (One place) (first_table st) p

  -- the key of a row of S
  key_of_row : (p : ℕ) (v : List Value) → row_of (first_table st) p ≡ Some v → row_of k.keys p ≡ Some (value_at place v ∷ [])
  key_of_row p v at = key_at p ∙ ap (option_map (key_by (One place))) at

  -- and the other way round
  row_of_key : (p : ℕ) (w : List Value) → row_of k.keys p ≡ Some w → KeyedRow place (first_table st) p w
  row_of_key p w at =
      by_option (row_of (first_table st) p)
      (λ none. let bad : None ≡ Some w = sym (key_at p ∙ ap (option_map (key_by (One place))) none) ∙ at in absurd (cc))
      (λ v is.
      let some : Some w ≡ Some (value_at place v ∷ []) = sym at ∙ key_at p ∙ ap (option_map (key_by (One place))) is in
      record { row = v; at = is; key = cc })

  -- to what a row of S refers
  pub goals_of_keys : (ids : List ℕ) (q : ℕ) → ((w : List Value) → row_of k.keys q ≡ Some w → HasGoal 0 ids w) → (v : List Value) → row_of (first_table st) q ≡ Some v → HasGoal place ids v
  goals_of_keys ids q has v at g goal = has (value_at place v ∷ []) (key_of_row q v at) g goal

  -- the rows of S that refer to q
  pub refs_of_keys : (more : List ℕ) (q : ℕ) → HasRefs 0 k.keys more q → HasRefs place (first_table st) more q
  refs_of_keys more q has p v at goal = has p (value_at place v ∷ []) (key_of_row p v at) goal

  -- a witness
  pub witness_of_keys : (changed : ℕ → Bool) (q : ℕ) (ids : List ℕ) → Witnessed 0 changed k.keys q ids → Witnessed place changed (first_table st) q ids
  witness_of_keys changed q ids w =
      let f = row_of_key w.id w.refers.row w.refers.at in
      record { id = w.id; refers = record { row = f.row; at = f.at; goal = sym (ap (goal_at 0) f.key) ∙ w.refers.goal }; stays = w.stays; among = w.among }

  pub witness_over : (changed : ℕ → Bool) (q : ℕ) (ids : List ℕ)
      → ((p : ℕ) (w : List Value) → changed p ≡ false → row_of k.keys p ≡ Some w → goal_at 0 w ≡ Some q → Witnessed 0 changed k.keys q ids)
      → (p : ℕ) (v : List Value) → changed p ≡ false → row_of (first_table st) p ≡ Some v → goal_at place v ≡ Some q → Witnessed place changed (first_table st) q ids
  witness_over changed q ids has p v still at goal = witness_of_keys changed q ids (has p (value_at place v ∷ []) still (key_of_row p v at) goal)

  -- the rows of T
  pub rows_are : k.rows ≡ second_table st
  rows_are = are.rows ∙ keys_all (second_table st)

  -- who is alone
  alone_keys : (parts : FkParts) → ((v : List Value) → parts.key v ≡ value_at place v) → (q : ℕ) → alone parts (first_table st) (second_table st) q ≡ alone_among k q
  alone_keys parts key q =
      let s = first_table st in
      let t = second_table st in
      let there : is_there (row_of k.keys q) ≡ is_there (row_of s q) = ap is_there (key_at q) ∙ there_keys place (row_of s q) in
      let refs : referred key_parts k.keys q ≡ referred parts s q = ap (λ (rows : Rows). referred key_parts rows q) are.keys ∙ referred_keys parts place s q key in
      ap (λ (b : Bool). is_there (row_of t q) && (not b && not (referred parts s q))) (sym there)
      ∙ ap (λ (b : Bool). is_there (row_of t q) && (not (is_there (row_of k.keys q)) && not b)) (sym refs)
      ∙ ap (λ (rows : Rows). is_there (row_of rows q) && (not (is_there (row_of k.keys q)) && not (referred key_parts k.keys q))) (sym rows_are)

  -- THE LEAST ROW THAT MAY BE SHARED is the least one of those that aren't alone
  pub shared_is : (parts : FkParts) → ((v : List Value) → parts.key v ≡ value_at place v) → (b : List Value) (g : ℕ) → RiseFrom 0 (second_table st)
      → least_in parts (first_table st) (second_table st) (second_table st) b ≡ Some g → IsLeastFrom (shared_among k) b 0 (Some g)
  shared_is parts key b g rise e =
      subst (λ (rows : Rows). IsLeastFrom (rows_only (λ q. not (alone_among k q)) rows) b 0 (Some g)) (sym rows_are)
      (least_is (λ q. not (alone_among k q)) (λ q. not (alone parts (first_table st) (second_table st) q)) (λ q. ap not (alone_keys parts key q)) (second_table st) b g rise e)

  -- THE LEAST ROW OF ALL
  pub row_is : (b : List Value) (g : ℕ) → RiseFrom 0 (second_table st) → first_with (second_table st) b ≡ Some g → IsLeastFrom k.rows b 0 (Some g)
  row_is b g rise e = subst (λ (rows : Rows). IsLeastFrom rows b 0 (Some g)) (sym rows_are) (first_is (second_table st) b g rise e)
