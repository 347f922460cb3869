-- A property of what stands at an identifier, by how that is made.
use Rattle.std.proofs.Common.{◌≡◌, List, Bool, true, false, Some, None, IsSome, refl}
use Rattle.par_base.specs.declared.value.Value.{Value}
use Rattle.row_parts.specs.RowCells.{Cell, or_else, kept_if, map_cell, in_cell}

-- what holds of nothing and of each row that may be there holds of what is there
pub cell_has : (P : Cell → Type 0) (c : Cell) → P None → ((v : List Value) → c ≡ Some v → P (Some v)) → P c
cell_has P None none h = none
cell_has P (Some v) none h = h v refl

-- so it does of what is kept under a test
pub kept_has : (P : Cell → Type 0) (u : Bool) (c : Cell) → P None → P c → P (kept_if u c)
kept_has P true c none h = h
kept_has P false c none h = none

-- of one or else another
pub or_has : (P : Cell → Type 0) (c e : Cell) → P c → P e → P (or_else c e)
or_has P None e h g = g
or_has P (Some v) e h g = h

-- of what is made of a row
pub map_has : (P : Cell → Type 0) (f : List Value → List Value) (c : Cell) → P None → ((v : List Value) → c ≡ Some v → P (Some (f v))) → P (map_cell f c)
map_has P f None none h = none
map_has P f (Some v) none h = h v refl

-- and of what is found for a row
pub in_has : (P : Cell → Type 0) (c : Cell) (f : List Value → Cell) → P None → ((row : List Value) → c ≡ Some row → P (f row)) → P (in_cell c f)
in_has P None f none h = none
in_has P (Some row) f none h = h row refl

-- some row is a row
pub is_some : {X : Type 0} (c : Cell) → IsSome c → ((row : List Value) → c ≡ Some row → X) → X
is_some None h f = absurd (cc)
is_some (Some row) h f = f row refl
