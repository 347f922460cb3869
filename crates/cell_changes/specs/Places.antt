-- Where the change of an identifier stands among changes.
use Rattle.std.specs.Prelude.{◌≡◌, ℕ, ◌==◌, List, [], ◌∷◌, if◌then◌else◌, slice_get, Option, Some, None}
use Rattle.row_store.specs.declared.change.Change.{Change}

-- the first change of the identifier, where there is one
abbrev pub change_of : List Change → ℕ → Option Change
change_of [] id = None
change_of (c ∷ cs) id = if c.id == id then Some c else change_of cs id

-- a change, where it is one of the identifier
abbrev pub only_of : ℕ → Option Change → Option Change
only_of id None = None
only_of id (Some c) = if c.id == id then Some c else None

-- if there is one of the identifier, it stands at the place
abbrev pub IsPlaceOf : List Change → ℕ → ℕ → Type 0
IsPlaceOf changes id at = change_of changes id ≡ only_of id (slice_get changes at)
