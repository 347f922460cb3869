-- What contracts say of changed keys.
use Rattle.std.specs.Prelude.{◌≡◌, List, map, Option}
use Rattle.par_base.specs.declared.value.Value.{Value}
use Rattle.row_store.specs.declared.change.Change.{Change}
use Rattle.row_store.specs.Rows.{Rows, RiseFrom}
use Rattle.row_store.specs.Changes.{AreOld, IsChanged}

-- the new keys, and the old ones
abbrev pub news : List Change → List (Option (List Value))
news changes = map (λ c. c.new) changes

abbrev pub olds : List Change → List (Option (List Value))
olds changes = map (λ c. c.old) changes

-- `now` is what changes that fit make of `before`
pub record WasChanged (before : Rows) (changes : List Change) (now : Rows) : Type 0 where
  pub rises : RiseFrom 0 before
  pub fit : AreOld before changes
  pub changed : IsChanged before changes now

-- the keys are those that some changed keys came to
abbrev pub IsUndoable : Rows → List Change → Type 0
IsUndoable now changes = (before : Rows) × WasChanged before changes now

-- whatever keys were changed, they are there again
abbrev pub Restores : Rows → List Change → Rows → Type 0
Restores now changes rows = (before : Rows) → WasChanged before changes now → rows ≡ before
