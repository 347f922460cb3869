-- With which identifiers a write of S and T begins, through JOIN ON a condition.
use Rattle.std.specs.Prelude.{◌≡◌, ℕ, true, false, List}
use Rattle.row_store.specs.Rows.{Rows}
use Rattle.id_memory.specs.Pairs.{Pairs}
use Rattle.op_law.specs.Identifiers.{has_id}
use Rattle.row_changes.specs.Changed.{TableChanges}
use Rattle.row_changes.specs.Touched.{touched}
use Rattle.pair_rows.specs.declared.half.Half.{Half}
use Rattle.pair_rows.specs.declared.half.Half.TheVariants.{First, Second}
use Rattle.pair_rows.specs.Shown.{Joining}
use Rattle.id_closing.specs.Found.{AreAmong}
use Rattle.id_closing.specs.Told.{AllOf, OfNew, changes_at, is_changed}
use Rattle.cond_closing.specs.Entries.{HasEntries}
use Rattle.cond_closing.specs.Matching.{FindsMatches, FindsMatchesAt}

-- each identifier of a list is so
abbrev pub EachOf : List ℕ → (ℕ → Type 0) → Type 0
EachOf ids P = (q : ℕ) → has_id ids q ≡ true → P q

-- the half's table, by its number
abbrev pub number_of : Half → ℕ
number_of First = 0
number_of Second = 1

-- all rows of the other table that match a new row of the half's table, or one that stays of an identifier that is changed elsewhere
pub record BeginsAt (j : Joining) (knows : Rows → Rows → Type 0) (half : Half) (near : TableChanges) (begin : List ℕ) : Type 0 where
  pub news : AllOf (OfNew (FindsMatches j knows half begin)) (changes_at near (number_of half))
  pub others : (q : ℕ) → has_id (touched near) q ≡ true → is_changed (changes_at near (number_of half)) q ≡ false → FindsMatchesAt j knows half begin q

-- all that the changes name, the entries of these, and what matches new rows
pub record BeginsShown (j : Joining) (knows : Rows → Rows → Type 0) (m : Pairs) (near : TableChanges) (begin : List ℕ) : Type 0 where
  pub named : AreAmong (touched near) begin
  pub first_entries : EachOf (touched near) (HasEntries First m begin)
  pub second_entries : EachOf (touched near) (HasEntries Second m begin)
  pub first : BeginsAt j knows First near begin
  pub second : BeginsAt j knows Second near begin
