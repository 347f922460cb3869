-- An operator that is crossed by changes, at one identifier. Pairs are seen from the side from which it is crossed.
use Rattle.std.specs.Prelude.{◌≡◌, ℕ, Bool, true, false}
use Rattle.op_law.specs.Tables.{AllRise}
use Rattle.op_law.specs.Meaning.{PairState}
use Rattle.op_rows.specs.declared.near_side.NearSide.{NearSide}
use Rattle.op_rows.specs.declared.near_side.NearSide.TheVariants.{Source, Target}
use Rattle.op_rows.specs.Cells.{Cells, cells_at}
use Rattle.op_rows.specs.RowMeaning.{RowMeaning}
use Rattle.op_rows.specs.RowCalls.{MayRows, SomeRows}
use Rattle.row_changes.specs.Changed.{TableChanges, AreChangesOf, changed_tables}
use Rattle.cell_changes.specs.declared.mapping.FarCells.{FarCells}

-- the side from which the operator is crossed
abbrev pub near_side : Bool → NearSide
near_side false = Source
near_side true = Target

-- the new far rows of an identifier, from what the changes make of the near side
abbrev pub far_cells : RowMeaning → TableChanges → PairState → ℕ → Cells
far_cells r near p id = r.forward (cells_at (changed_tables p.source near) id) (cells_at p.source id) (cells_at p.target id)

-- what mapping by cells supposes: the changes are those of the near side, and what they make of it may be mapped at each identifier
pub record MayCross (r : RowMeaning) (near : TableChanges) (p : PairState) : Type 0 where
  pub fit : AreChangesOf p.source near
  pub rise : AllRise p.source
  pub rows : (id : ℕ) → MayRows r (cells_at (changed_tables p.source near) id) (cells_at p.source id) (cells_at p.target id)

-- the far rows of an identifier, the old ones and the new ones
abbrev pub MapsCells : RowMeaning → TableChanges → PairState → ℕ → FarCells → Type 0
MapsCells r near p id far = (far.old ≡ cells_at p.target id) × (far.new ≡ far_cells r near p id)

-- the auxiliary rows of an identifier, from what the changes make of both sides
abbrev pub aux_cells : RowMeaning → TableChanges → TableChanges → PairState → ℕ → Cells
aux_cells r near far p id = r.aux_at_source (cells_at (changed_tables p.source near) id) (cells_at (changed_tables p.target far) id)

-- what auxiliary rows by cells suppose: the changes are those of both sides, and what they make of them is related at each identifier
pub record MayKeep (r : RowMeaning) (near far : TableChanges) (p : PairState) : Type 0 where
  pub near_fit : AreChangesOf p.source near
  pub near_rise : AllRise p.source
  pub far_fit : AreChangesOf p.target far
  pub far_rise : AllRise p.target
  pub rows : (id : ℕ) → SomeRows r (cells_at (changed_tables p.source near) id) (cells_at (changed_tables p.target far) id)
