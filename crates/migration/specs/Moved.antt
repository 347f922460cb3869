-- What a move makes of the fields of a database.
use Rattle.std.specs.Prelude.{◌≡◌, ℕ}
use Rattle.op_law.specs.Meaning.{Meaning}
use Rattle.version_model.specs.Kept.{latest_of, renewed, value_of, numbers_in}
use Rattle.db_state.specs.Fields.{IsDatabase, database_for}
use Rattle.db_state.specs.declared.parts.Parts.{Parts}
use Rattle.migration.specs.declared.moved.Moved.{Moved}

-- the fields with what was prepared: the old tables in their places, and the new auxiliary tables over the old ones
pub record Adopts {O : Type 0} (old : Parts O) (moved : Moved) (new : Parts O) : Type 0 where
  pub graph : new.graph ≡ old.graph
  pub layout : new.layout ≡ moved.layout
  pub numbers : numbers_in new.stored ≡ numbers_in moved.stored
  pub tables : (n : ℕ) → value_of new.stored n ≡ renewed (value_of moved.stored n) (latest_of old.stored n)
  pub operators : numbers_in new.aux ≡ numbers_in old.aux
  pub auxes : (n : ℕ) → value_of new.aux n ≡ renewed (value_of old.aux n) (latest_of moved.auxes n)
  pub memories : new.memories ≡ old.memories
  pub ids : new.ids ≡ old.ids

-- a database that adopts what was prepared stands for the same state
abbrev pub Leads : {O : Type 0} → (O → Meaning) → Parts O → Moved → Type 0
Leads {O} meaning old moved = (new : Parts O) → Adopts old moved new → IsDatabase meaning new × (database_for meaning new ≡ database_for meaning old)
