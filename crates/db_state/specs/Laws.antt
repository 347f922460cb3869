-- The law of databases.
use Rattle.std.specs.Prelude.{◌≡◌}
use Rattle.op_law.specs.Meaning.{Meaning}
use Rattle.storage_law.specs.Canonical.{SameStored}
use Rattle.db_state.specs.Fields.{IsDatabase, database_for, storage_in}
use Rattle.db_state.specs.declared.parts.Parts.{Parts}

-- databases of one state with one layout store the same: so where state and layout are again what they were, every stored table, auxiliary table and memory is
abbrev pub StoredOnce : {O : Type 0} → (O → Meaning) → Type 0
StoredOnce {O} meaning = (p q : Parts O) → IsDatabase meaning p → IsDatabase meaning q → database_for meaning p ≡ database_for meaning q → p.layout.operators ≡ q.layout.operators → SameStored (storage_in p) (storage_in q)

-- every database of the same state with the same layout stores the same
abbrev pub IsRestored : {O : Type 0} → (O → Meaning) → Parts O → Type 0
IsRestored {O} meaning new = (old : Parts O) → IsDatabase meaning old → database_for meaning old ≡ database_for meaning new → old.layout.operators ≡ new.layout.operators → SameStored (storage_in old) (storage_in new)
