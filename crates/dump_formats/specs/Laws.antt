-- A dump is of one database, with one layout, one goal and one count of each table.
use Rattle.std.specs.Prelude.{◌≡◌}
use Rattle.serde_json.specs.Data.{Data}
use Rattle.op_any.specs.Operators.{any_meaning}
use Rattle.db_state.specs.Fields.{database_for}
use Rattle.dump_formats.specs.Stands.{StandsFor}
use Rattle.dump_formats.specs.declared.loaded.Loaded.{Loaded}

-- both are one database of the model, with one layout, and the same is kept beside it
pub record AreOneRun (l m : Loaded) : Type 0 where
  pub model : database_for any_meaning l.database ≡ database_for any_meaning m.database
  pub layout : l.database.layout.operators ≡ m.database.layout.operators
  pub counts : l.counts ≡ m.counts
  pub pending : l.pending ≡ m.pending

-- A DUMP IS OF ONE RUN, but for the greatest identifier that may be drawn, and for room
abbrev pub DumpsAreOfOneRun : Type 0
DumpsAreOfOneRun = (d : Data) (l m : Loaded) → StandsFor d l → StandsFor d m → l.database.ids.limit ≡ m.database.ids.limit → AreOneRun l m
