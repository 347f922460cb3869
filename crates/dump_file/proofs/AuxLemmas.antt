-- The auxiliary tables of related pairs may stand where the pairs' own tables may.
use Rattle.std.proofs.Common.{ℕ, zero, suc, ◌-◌, List, [], ◌∷◌, Bool, true, false, filter, cond, Option, Some, None}
use Rattle.par_base.specs.declared.value.Value.{Value}
use Rattle.expr_lang.specs.Terms.{Term}
use Rattle.row_store.specs.Rows.{Rows, row_of}
use Rattle.op_law.specs.Tables.{Tables}
use Rattle.op_law.specs.Sound.{RowsSound, TablesSound, ValueSound, ValuesSound}
use Rattle.op_law.specs.Identifiers.{ids_in}
use Rattle.op_law.specs.Meaning.{Meaning, PairState, flip}
use Rattle.op_rows.specs.Cells.{CellSound, Cells, CellsSound, first_cell, table_from}
use Rattle.op_rows.specs.RowMeaning.{RowMeaning, flip_row, rowwise}
use Rattle.op_rows.specs.inner.CellLemmas.{below_ids, nth_sound}
use Rattle.op_rows.specs.inner.Tabulated.{all_below_from, cells_below}
use Rattle.row_parts.specs.Places.{pick}
use Rattle.row_parts.specs.RowCells.{Cell, in_cell, kept_if, map_cell}
use Rattle.row_parts.specs.RowEdits.{value_at}
use Rattle.op_tables.specs.SideTables.{first_table, other_tables, second_table}
use Rattle.op_column.specs.AddColumn.{add_column, column_alone}
use Rattle.op_column.specs.AddTracked.{add_tracked}
use Rattle.op_column.specs.inner.AddTrackedLaws.{deviating_sound}
use Rattle.op_column.specs.CreateTable.{create_table}
use Rattle.op_column.specs.DropTable.{drop_table}
use Rattle.op_column.specs.Rename.{rename}
use Rattle.op_split_merge.specs.Split.{split}
use Rattle.op_split_merge.specs.Twins.{rest_of}
use Rattle.op_key_join.specs.DecomposePk.{decompose_pk, row_of_neither}
use Rattle.op_key_join.specs.DecomposeSingle.{decompose_single}
use Rattle.op_key_join.specs.JoinPk.{join_pk}
use Rattle.op_key_join.specs.OtherPlaces.{others}
use Rattle.foreign_keys.specs.KeyParts.{FkParts}
use Rattle.foreign_keys.specs.References.{dangles, goal_of}
use Rattle.op_fk_decompose.specs.Columns.{column_parts, decompose_columns}
use Rattle.op_fk_decompose.specs.Decompose.{dangling, dangling_at, kept_at, kept_rows, ref_at, refs}
use Rattle.op_fk_join.specs.Columns.{join_columns, side_parts}
use Rattle.op_fk_join.specs.Join.{join_refs, key_here, unjoined, unjoined_here, unreferred, unreferred_here}
use Rattle.op_any.specs.Operators.{Built, CreateTable, DropTable, Rename, AddColumn, AddTracked, DropColumn, Split, Merge, DecomposeSingle, DecomposePk, OuterJoinPk, JoinPk, DecomposeFk, OuterJoinFk, JoinFk, JoinOn, DecomposeOn, OuterJoinOn, joining_by, meaning_of, outer_by}
use Rattle.op_cond_join.specs.JoinOn.{join_on}
use Rattle.outer_law.specs.OuterOn.{outer_on}
use Rattle.pair_rows.specs.Sides.{table_at}
use Rattle.pair_rows.specs.Shown.{Joining}

-- where both sides may stand, so may what is kept beside the source
abbrev pub AuxSound : Meaning → Type 0
AuxSound m = (n : ℕ) (p : PairState) → TablesSound n p.source → TablesSound n p.target → TablesSound n (m.aux_at_source p)

-- ---- operators that treat each identifier by itself

-- the same of what one identifier has
abbrev RowSound : RowMeaning → Type 0
RowSound r = (n : ℕ) (s t : Cells) → CellsSound n s → CellsSound n t → CellsSound n (r.aux_at_source s t)

rowwise_sound : (r : RowMeaning) → RowSound r → AuxSound (rowwise r)
rowwise_sound r sound n p source target =
    all_below_from n r.source_aux _ _ (below_ids n p.source _ source (below_ids n p.target [] target tt))
    (λ id. sound n _ _ (cells_below n p.source id source) (cells_below n p.target id target))

-- a value of a row
value_sound : (n place : ℕ) (row : List Value) → ValuesSound n row → ValueSound n (value_at place row)
value_sound n place [] sound = tt
value_sound n zero (v ∷ vs) sound = sound.0
value_sound n (suc place) (v ∷ vs) sound = value_sound n place vs sound.1

-- some values of a row
pick_sound : (n : ℕ) (places : List ℕ) (row : List Value) → ValuesSound n row → ValuesSound n (pick places row)
pick_sound n [] row sound = tt
pick_sound n (place ∷ places) row sound = (value_sound n place row sound, pick_sound n places row sound)

kept_sound : (n : ℕ) (b : Bool) (c : Cell) → CellSound n c → CellSound n (kept_if b c)
kept_sound n true c sound = sound
kept_sound n false c sound = tt

create_first : RowSound create_table
create_first n s t source target = tt

create_second : RowSound (flip_row create_table)
create_second n s t source target = tt

drop_first : (width : ℕ) → RowSound (drop_table width)
drop_first width n s t source target = tt

drop_second : (width : ℕ) → RowSound (flip_row (drop_table width))
drop_second width n s t source target = target

rename_first : RowSound rename
rename_first n s t source target = tt

rename_second : RowSound (flip_row rename)
rename_second n s t source target = tt

first_sound : (n : ℕ) (cs : Cells) → CellsSound n cs → CellSound n (first_cell cs)
first_sound n [] sound = tt
first_sound n (c ∷ cs) sound = sound.0

column_sound : (n place : ℕ) (c : Option (List Value)) → CellSound n c → CellSound n (column_alone place c)
column_sound n place None sound = tt
column_sound n place (Some row) sound = (value_sound n place row sound, tt)

add_first : (place : ℕ) (e : Term ℕ) → RowSound (add_column place e)
add_first place e n s t source target = (column_sound n place (first_cell t) (first_sound n t target), tt)

add_second : (place : ℕ) (e : Term ℕ) → RowSound (flip_row (add_column place e))
add_second place e n s t source target = tt

tracked_first : (e : Term ℕ) → RowSound (add_tracked e)
tracked_first e n s t source target = (deviating_sound n e (first_cell s) (first_cell t) (first_sound n t target), tt)

tracked_second : (e : Term ℕ) → RowSound (flip_row (add_tracked e))
tracked_second e n s t source target = tt

-- SPLIT keeps identifiers without values, and rows of its targets
split_first : (width : ℕ) (first : Term ℕ) (second : Option (Term ℕ)) → RowSound (split width first second)
split_first width first None n s t source target = (kept_sound n _ (Some []) tt, (kept_sound n _ (Some []) tt, tt))
split_first width first (Some q) n s t source target =
    (kept_sound n _ (Some []) tt, (kept_sound n _ (Some []) tt, (kept_sound n _ (Some []) tt, (kept_sound n _ (Some []) tt, (kept_sound n _ _ (nth_sound n 1 t target), tt)))))

twin_rest : (n : ℕ) (c r s : Cell) → CellSound n c → CellSound n (rest_of c r s)
twin_rest n c (Some r) s sound = tt
twin_rest n c None (Some s) sound = tt
twin_rest n c None None sound = sound

split_second : (width : ℕ) (first : Term ℕ) (second : Option (Term ℕ)) → RowSound (flip_row (split width first second))
split_second width first second n s t source target = (twin_rest n _ _ _ (nth_sound n 0 t target), tt)

single_first : (columns : List ℕ) (width : ℕ) → RowSound (decompose_single columns width)
single_first columns width n s t source target = tt

picked_sound : (n : ℕ) (places : List ℕ) (c : Cell) → CellSound n c → CellSound n (map_cell (pick places) c)
picked_sound n places None sound = tt
picked_sound n places (Some row) sound = pick_sound n places row sound

single_second : (columns : List ℕ) (width : ℕ) → RowSound (flip_row (decompose_single columns width))
single_second columns width n s t source target = (picked_sound n (others columns width) _ (nth_sound n 0 t target), tt)

pk_first : (first second : List ℕ) → RowSound (decompose_pk first second)
pk_first first second n s t source target = (kept_sound n _ _ (nth_sound n 0 t target), (kept_sound n _ _ (nth_sound n 1 t target), tt))

neither_sound : (n : ℕ) (c x y : Cell) → CellSound n c → CellSound n (row_of_neither c x y)
neither_sound n c None None sound = sound
neither_sound n c (Some x) y sound = tt
neither_sound n c None (Some y) sound = tt

pk_second : (first second : List ℕ) → RowSound (flip_row (decompose_pk first second))
pk_second first second n s t source target = (neither_sound n _ _ _ (nth_sound n 0 t target), tt)

join_first : (first second : ℕ) → RowSound (join_pk first second)
join_first first second n s t source target = tt

join_second : (first second : ℕ) → RowSound (flip_row (join_pk first second))
join_second first second n s t source target = (kept_sound n _ _ (nth_sound n 0 t target), (kept_sound n _ _ (nth_sound n 1 t target), tt))

-- ---- operators on a foreign key

-- what a table has at an identifier
row_sound : (n : ℕ) (rows : Rows) (id : ℕ) → RowsSound n rows → CellSound n (row_of rows id)
row_sound n rows id sound = (cells_below n (rows ∷ []) id (sound, tt)).0

-- a table made from what it is to have at the identifiers of another
made_sound : (n : ℕ) (rows : Rows) (f : ℕ → Cell) → RowsSound n rows → ((id : ℕ) → CellSound n (f id)) → RowsSound n (table_from (ids_in rows []) f)
made_sound n rows f sound each = (all_below_from n 1 (ids_in rows []) (λ id. f id ∷ []) (below_ids n (rows ∷ []) [] (sound, tt) tt) (λ id. (each id, tt))).0

table_sound : (n : ℕ) (ts : Tables) → TablesSound n ts → RowsSound n (first_table ts)
table_sound n [] sound = tt
table_sound n (t ∷ ts) sound = sound.0

others_sound : (n : ℕ) (ts : Tables) → TablesSound n ts → TablesSound n (other_tables ts)
others_sound n [] sound = tt
others_sound n (t ∷ ts) sound = sound.1

module _ (k : FkParts) (sound_key : (n : ℕ) (v : List Value) → ValuesSound n v → ValueSound n (k.key v)) (n : ℕ) where
  key_sound : (c : Cell) → CellSound n c → CellSound n (map_cell (λ v. k.key v ∷ []) c)
  key_sound None sound = tt
  key_sound (Some v) sound = (sound_key n v sound, tt)

  noted_sound : (b : Bool) → CellSound n (kept_if b (Some []))
  noted_sound true = tt
  noted_sound false = tt

  dangling_sound : (t : Rows) (c : Cell) → CellSound n (in_cell c (λ v. kept_if (dangles t (goal_of (k.key v))) (Some [])))
  dangling_sound t None = tt
  dangling_sound t (Some v) = noted_sound (dangles t (goal_of (k.key v)))

  refs_sound : (s : Rows) → RowsSound n s → RowsSound n (refs k s)
  refs_sound s sound = made_sound n s (ref_at k s) sound (λ id. key_sound (row_of s id) (row_sound n s id sound))

  dangle_sound : (s t : Rows) → RowsSound n s → RowsSound n (dangling k s t)
  dangle_sound s t sound = made_sound n s (dangling_at k s t) sound (λ id. dangling_sound t (row_of s id))

  rest_sound : (s t : Rows) → RowsSound n t → RowsSound n (kept_rows k s t)
  rest_sound s t sound = made_sound n t (kept_at k s t) sound (λ id. kept_sound n _ (row_of t id) (row_sound n t id sound))

  unreferred_sound : (s t : Rows) → RowsSound n t → RowsSound n (unreferred k s t)
  unreferred_sound s t sound = made_sound n t (unreferred_here k s t) sound (λ id. kept_sound n _ (row_of t id) (row_sound n t id sound))

unjoined_sound : (n : ℕ) (s r : Rows) → RowsSound n s → RowsSound n (unjoined s r)
unjoined_sound n s r sound = made_sound n s (unjoined_here s r) sound (λ id. kept_sound n _ (row_of s id) (row_sound n s id sound))

join_key_sound : (k : FkParts) (sound_key : (n : ℕ) (v : List Value) → ValuesSound n v → ValueSound n (k.key v)) (n : ℕ) (c d : Cell) → CellSound n d → CellSound n (in_cell c (λ row. map_cell (λ v. k.key v ∷ []) d))
join_key_sound k sound_key n None d sound = tt
join_key_sound k sound_key n (Some row) d sound = key_sound k sound_key n d sound

join_refs_sound : (k : FkParts) (sound_key : (n : ℕ) (v : List Value) → ValuesSound n v → ValueSound n (k.key v)) (n : ℕ) (s r : Rows) → RowsSound n s → RowsSound n r → RowsSound n (join_refs k s r)
join_refs_sound k sound_key n s r sound other =
    made_sound n r (key_here k s r) other (λ id. join_key_sound k sound_key n (row_of r id) (row_of s id) (row_sound n s id sound))

fk_first : (first second : List ℕ) (place : ℕ) → AuxSound (decompose_columns first second place)
fk_first first second place n p source target =
    let k = column_parts first second place in
    let key : (m : ℕ) (v : List Value) → ValuesSound m v → ValueSound m (k.key v) = λ m v sound. value_sound m place v sound in
    let s = table_sound n p.target target in
    let t = table_sound n (other_tables p.target) (others_sound n p.target target) in
    (refs_sound k key n (first_table p.target) s, (dangle_sound k key n (first_table p.target) (second_table p.target) s, (rest_sound k key n (first_table p.target) (second_table p.target) t, tt)))

fk_second : (first second : List ℕ) (place : ℕ) → AuxSound (flip (decompose_columns first second place))
fk_second first second place n p source target = tt

join_fk_first : (first second place : ℕ) → AuxSound (join_columns first second place)
join_fk_first first second place n p source target = tt

join_fk_second : (first second place : ℕ) → AuxSound (flip (join_columns first second place))
join_fk_second first second place n p source target =
    let k = side_parts (first - 1) second place in
    let key : (m : ℕ) (v : List Value) → ValuesSound m v → ValueSound m (k.key v) = λ m v sound. value_sound m place v sound in
    let r = table_sound n p.source source in
    let s = table_sound n p.target target in
    let t = table_sound n (other_tables p.target) (others_sound n p.target target) in (
      join_refs_sound k key n (first_table p.target) (first_table p.source) s r,
      (unjoined_sound n (first_table p.target) (first_table p.source) s, (unreferred_sound k key n (first_table p.target) (second_table p.target) t, tt)),
    )

-- ---- operators on a condition

filter_sound : (n : ℕ) (test : ℕ × List Value → Bool) (rows : Rows) → RowsSound n rows → RowsSound n (filter test rows)
filter_sound n test [] sound = tt
filter_sound n test (r ∷ rs) sound =
    elim (test r) as (λ b. RowsSound n (cond b (r ∷ filter test rs) (filter test rs))) [
      | true ↦ (sound.0, filter_sound n test rs sound.1)
      | false ↦ filter_sound n test rs sound.1
    ]

at_sound : (n at : ℕ) (ts : Tables) → TablesSound n ts → RowsSound n (table_at at ts)
at_sound n at [] sound = tt
at_sound n zero (t ∷ ts) sound = sound.0
at_sound n (suc at) (t ∷ ts) sound = at_sound n at ts sound.1

on_first : (j : Joining) → AuxSound (join_on j)
on_first j n p source target = tt

on_second : (j : Joining) → AuxSound (flip (join_on j))
on_second j n p source target = (filter_sound n _ _ (at_sound n 0 p.target target), (filter_sound n _ _ (at_sound n 1 p.target target), tt))

outer_first : (j : Joining) → AuxSound (outer_on j)
outer_first j n p source target = tt

outer_second : (j : Joining) → AuxSound (flip (outer_on j))
outer_second j n p source target = tt

-- ---- all operators, both ways

pub aux_sound : (o : Built) → AuxSound (meaning_of o) × AuxSound (flip (meaning_of o))
aux_sound CreateTable = (rowwise_sound create_table create_first, rowwise_sound (flip_row create_table) create_second)
aux_sound (DropTable width) = (rowwise_sound (drop_table width) (drop_first width), rowwise_sound (flip_row (drop_table width)) (drop_second width))
aux_sound Rename = (rowwise_sound rename rename_first, rowwise_sound (flip_row rename) rename_second)
aux_sound (AddColumn place e) = (rowwise_sound (add_column place e) (add_first place e), rowwise_sound (flip_row (add_column place e)) (add_second place e))
aux_sound (AddTracked e) = (rowwise_sound (add_tracked e) (tracked_first e), rowwise_sound (flip_row (add_tracked e)) (tracked_second e))
aux_sound (DropColumn place e) = (rowwise_sound (flip_row (add_column place e)) (add_second place e), rowwise_sound (add_column place e) (add_first place e))
aux_sound (Split width first second) =
    (rowwise_sound (split width first second) (split_first width first second), rowwise_sound (flip_row (split width first second)) (split_second width first second))
aux_sound (Merge width first second) =
    (rowwise_sound (flip_row (split width first second)) (split_second width first second), rowwise_sound (split width first second) (split_first width first second))
aux_sound (DecomposeSingle columns width) =
    (rowwise_sound (decompose_single columns width) (single_first columns width), rowwise_sound (flip_row (decompose_single columns width)) (single_second columns width))
aux_sound (DecomposePk first second) = (rowwise_sound (decompose_pk first second) (pk_first first second), rowwise_sound (flip_row (decompose_pk first second)) (pk_second first second))
aux_sound (OuterJoinPk first second) = (rowwise_sound (flip_row (decompose_pk first second)) (pk_second first second), rowwise_sound (decompose_pk first second) (pk_first first second))
aux_sound (JoinPk first second) = (rowwise_sound (join_pk first second) (join_first first second), rowwise_sound (flip_row (join_pk first second)) (join_second first second))
aux_sound (DecomposeFk first second place) = (fk_first first second place, fk_second first second place)
aux_sound (OuterJoinFk first second place) = (fk_second first second place, fk_first first second place)
aux_sound (JoinFk first second place) = (join_fk_first first second place, join_fk_second first second place)
aux_sound (JoinOn first second c) = (on_first (joining_by first second c), on_second (joining_by first second c))
aux_sound (DecomposeOn first second c) = (on_second (joining_by first second c), on_first (joining_by first second c))
aux_sound (OuterJoinOn first second c) = (outer_first (outer_by first second c), outer_second (outer_by first second c))
