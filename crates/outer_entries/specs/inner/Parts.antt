-- The parts of a row, and what the calls that place one row answer.
use Rattle.std.specs.Prelude.{◌≡◌, ℕ, List, Option}
use Rattle.par_base.specs.declared.value.Value.{Value}
use Rattle.row_store.specs.Rows.{Rows}
use Rattle.row_parts.specs.Places.{pick as part}
use Rattle.row_parts.specs.RowCells.{Cell}
use Rattle.pair_rows.specs.declared.unchanged.OldTarget.{OldTarget}
use Rattle.pair_rows.specs.Given.{Got, least, or_id}
use Rattle.outer_law.specs.Placed.{own_half, Part, Parts, parts_of, Placing, Placed, place_changed, place_row}
use Rattle.outer_entries.specs.declared.half_rows.HalfRows.{HalfRows}
use Rattle.outer_entries.specs.declared.parts.Part.{Part as HeldPart}
use Rattle.outer_entries.specs.declared.parts.Parts.{Parts as HeldParts}
use Rattle.outer_entries.specs.declared.outer.Outer.{Outer}
use Rattle.outer_entries.specs.declared.placing.Placing.{Placing as State}
use Rattle.outer_entries.specs.Showings.{joining_of}
use Rattle.outer_entries.specs.Placings.{placing_of, AreReady, IsReady}

-- the parts of a row, as the definitions see them
abbrev pub part_in : HeldPart → Part
part_in it = record { own = it.own; values = it.values }

abbrev pub parts_in : HeldParts → Parts
parts_in it = record { first = part_in it.first; second = part_in it.second }

-- a part of a row of the new target, from the old row and the old half
abbrev pub part_from : List ℕ → Cell → Option ℕ → List Value → Part
part_from places old id row = record { own = own_half places old id row; values = part places row }

-- the parts of a row of the new target
abbrev pub parts_at : Outer → OldTarget → ℕ × List Value → Parts
parts_at join old x = parts_of (joining_of join) old.rows.now.rows old.memory.now.entries x

-- the own row, or else the least shared one with the values of the part
abbrev pub shared_choice : HeldPart → Rows → Option ℕ
shared_choice it shared = or_id it.own (least shared it.values)

-- the identifier and the rows are those that were found or drawn
pub record IsGot (to : Got) (shared : Rows) (id : ℕ) (rows : HalfRows) : Type 0 where
  pub number : id ≡ to.id
  pub all : rows.all.rows ≡ to.rows
  pub may_share : rows.shared.table.rows ≡ shared
  pub ready : AreReady rows to.next

-- the entry and what is there after it
pub record IsGiven (to : Placed) (pair : ℕ × ℕ) (it : State) : Type 0 where
  pub both : pair ≡ (to.first, to.second)
  pub after : placing_of it to.after.next ≡ to.after
  pub ready : IsReady it to.after.next

-- the entry of a row that isn't as it was
abbrev pub changed_in : Outer → OldTarget → Placing → ℕ × List Value → Placed
changed_in join old d x = place_changed old.memory.now.entries (parts_at join old x) d x.0

-- the entry of a row
abbrev pub row_in : Outer → OldTarget → Placing → ℕ × List Value → Placed
row_in join old d x = place_row (joining_of join) old.rows.now.rows old.memory.now.entries d x
