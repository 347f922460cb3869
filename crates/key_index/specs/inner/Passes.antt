-- A pass over changed keys, either way.
use Rattle.std.specs.Prelude.{◌≡◌, ℕ, List, map}
use Rattle.row_store.specs.declared.change.Change.{Change}
use Rattle.row_store.specs.Rows.{Rows, row_of}
use Rattle.row_store.specs.Changes.{after}
use Rattle.key_index.specs.declared.exchange.Way.{Way}
use Rattle.key_index.specs.declared.exchange.Way.TheVariants.{Forth, Back}

-- the change as it is told, or the way back
abbrev pub told : Way → Change → Change
told Forth c = c
told Back c = record c { old = c.new; new = c.old }

abbrev pub all_told : Way → List Change → List Change
all_told way changes = map (told way) changes

-- each identifier has what it has after the changes
abbrev pub IsPassed : List Change → Rows → Rows → Type 0
IsPassed changes before now = (id : ℕ) → row_of now id ≡ after changes id (row_of before id)
