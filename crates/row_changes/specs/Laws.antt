-- Laws of changes.
use Rattle.std.specs.Prelude.{◌≡◌, ℕ, Bool, not, List}
use Rattle.row_store.specs.declared.change.Change.{Change}
use Rattle.row_store.specs.Rows.{Rows, RiseFrom}
use Rattle.row_store.specs.Changes.{IsChanged}
use Rattle.op_law.specs.Tables.{Tables, AllRise}
use Rattle.op_law.specs.Local.{rows_only, only}
use Rattle.row_changes.specs.Changed.{TableChanges, changed}
use Rattle.row_changes.specs.Differences.{IsDifference, AreDifferences}

-- the table after changes is the one that they make
abbrev pub ChangedIsChanged : Type 0
ChangedIsChanged = (before : Rows) (changes : List Change) → RiseFrom 0 before → IsChanged before changes (changed before changes)

-- where two tables are the same at all identifiers that fail a test, their difference is that of what passes it
abbrev pub PartsDiffer : Type 0
PartsDiffer = (P : ℕ → Bool) (before now : Rows) (changes : List Change) → RiseFrom 0 before → RiseFrom 0 now
    → rows_only (λ id. not (P id)) before ≡ rows_only (λ id. not (P id)) now
    → IsDifference (rows_only P before) (rows_only P now) changes → IsDifference before now changes

-- likewise of two sides
abbrev pub SidePartsDiffer : Type 0
SidePartsDiffer = (P : ℕ → Bool) (before now : Tables) (changes : TableChanges) → AllRise before → AllRise now
    → only (λ id. not (P id)) before ≡ only (λ id. not (P id)) now
    → AreDifferences (only P before) (only P now) changes → AreDifferences before now changes
