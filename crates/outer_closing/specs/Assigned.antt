-- With which identifiers a write of R begins, through OUTER JOIN ON a condition.
use Rattle.std.specs.Prelude.{◌≡◌, ℕ, true, List, [], ◌∷◌, Option, Some}
use Rattle.std.specs.Option.{option_map}
use Rattle.par_base.specs.declared.value.Value.{Value}
use Rattle.row_store.specs.declared.change.Change.{Change}
use Rattle.row_store.specs.Rows.{Rows}
use Rattle.id_memory.specs.Pairs.{Pairs, pair_of}
use Rattle.op_law.specs.Identifiers.{has_id}
use Rattle.row_parts.specs.Places.{pick as part}
use Rattle.row_changes.specs.Changed.{TableChanges}
use Rattle.row_changes.specs.Touched.{touched}
use Rattle.pair_rows.specs.declared.half.Half.{Half}
use Rattle.pair_rows.specs.declared.half.Half.TheVariants.{First, Second}
use Rattle.pair_rows.specs.Given.{least, or_id}
use Rattle.pair_rows.specs.Shown.{Joining}
use Rattle.op_cond_join.specs.Joinings.{joining}
use Rattle.outer_law.specs.Placed.{own_half}
use Rattle.id_closing.specs.Found.{AreAmong}
use Rattle.id_closing.specs.Told.{AllOf, changes_at}
use Rattle.cond_closing.specs.Assigned.{AreRowKeys}
use Rattle.cond_closing.specs.Steady.{BringsStill, changed_entries}
use Rattle.cond_closing.specs.declared.assigned.ByValues.{ByValues}
use Rattle.outer_closing.specs.Shared.{shared_rows}

-- the places of the half's columns
abbrev pub places_at : Half → Joining → List ℕ
places_at First j = j.first
places_at Second j = j.second

-- the half of a pair that is meant
abbrev pub half_at : Half → Option (ℕ × ℕ) → Option ℕ
half_at First pair = option_map (λ both. both.0) pair
half_at Second pair = option_map (λ both. both.1) pair

-- the old half that a change keeps: it was there, and the old row has the same part
abbrev pub kept_half : Half → Joining → Pairs → Change → List Value → Option ℕ
kept_half half j m c row = own_half (places_at half j) c.old (half_at half (pair_of m c.id)) row

-- the row that is found for a part: the half that is kept, or else the least row that may be shared, with these values
abbrev pub found_row : Half → Pairs → List ℕ → Rows → Option ℕ → List Value → Option ℕ
found_row half m replaced rows kept values = or_id kept (least (shared_rows half m replaced rows) values)

abbrev pub found_half : Half → Joining → Pairs → List ℕ → Rows → Change → List Value → Option ℕ
found_half half j m replaced rows c row = found_row half m replaced rows (kept_half half j m c row) (part (places_at half j) row)

-- of one half: what is found is among these, and where a further entry has the half that is kept, one of these does
pub record FindsHalf (half : Half) (j : Joining) (m : Pairs) (replaced : List ℕ) (rows : Rows) (ids : List ℕ) (c : Change) (row : List Value) : Type 0 where
  pub found : (a : ℕ) → found_half half j m replaced rows c row ≡ Some a → has_id ids a ≡ true
  pub other : (a : ℕ) → kept_half half j m c row ≡ Some a → BringsStill half (changed_entries m (c.id ∷ [])) ids a

-- of a change with this new row: of both halves, and the entry that has both rows that are found
pub record FindsPlaced (j : Joining) (m : Pairs) (replaced : List ℕ) (s t : Rows) (ids : List ℕ) (c : Change) (row : List Value) : Type 0 where
  pub first : FindsHalf First j m replaced s ids c row
  pub second : FindsHalf Second j m replaced t ids c row
  pub pair : (a b entry : ℕ) → found_half First j m replaced s c row ≡ Some a → found_half Second j m replaced t c row ≡ Some b → pair_of m entry ≡ Some (a, b) → has_id ids entry ≡ true

-- whatever tables have these rows
abbrev pub FindsChanged : ByValues → List ℕ → List ℕ → Change → Type 0
FindsChanged it replaced ids c = (s t : Rows) (row : List Value) → AreRowKeys it s t → c.new ≡ Some row → FindsPlaced (joining it.join.now) it.memory.now.entries replaced s t ids c row

-- all that the changes name, and what is found for their new rows
pub record BeginsPlaced (it : ByValues) (replaced : List ℕ) (near : TableChanges) (begin : List ℕ) : Type 0 where
  pub named : AreAmong (touched near) begin
  pub found : AllOf (FindsChanged it replaced begin) (changes_at near 0)
