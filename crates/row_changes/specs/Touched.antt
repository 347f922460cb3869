-- The identifiers that changes name.
use Rattle.std.specs.Prelude.{◌≡◌, ℕ, List, [], ◌∷◌, drop, Bool, true}
use Rattle.row_store.specs.declared.change.Change.{Change}
use Rattle.op_law.specs.Identifiers.{put_id}
use Rattle.row_changes.specs.Changed.{TableChanges}

-- those of a table's changes, beside these
abbrev pub touched_in : List Change → List ℕ → List ℕ
touched_in [] ids = ids
touched_in (c ∷ cs) ids = put_id c.id (touched_in cs ids)

-- those of the changes to a side, beside these
abbrev pub touched_over : TableChanges → List ℕ → List ℕ
touched_over [] ids = ids
touched_over (c ∷ cs) ids = touched_over cs (touched_in c ids)

-- those of the changes to a side, ascending, each once
abbrev pub touched : TableChanges → List ℕ
touched changes = touched_over changes []

-- the identifiers from a place in each of two ascending lists on
abbrev pub touched_left : List ℕ → ℕ → List Change → ℕ → List ℕ
touched_left ids in_ids rows in_rows = touched_in (drop in_rows rows) (drop in_ids ids)

-- every change is of an identifier that passes the test
abbrev pub AllPass : (ℕ → Bool) → List Change → Type 0
AllPass P [] = Unit {0}
AllPass P (c ∷ cs) = (P c.id ≡ true) × AllPass P cs

-- every change to each of the tables is
abbrev pub EachPass : (ℕ → Bool) → TableChanges → Type 0
EachPass P [] = Unit {0}
EachPass P (c ∷ cs) = AllPass P c × EachPass P cs
