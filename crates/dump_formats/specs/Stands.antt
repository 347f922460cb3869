-- For what a dump stands.
use Rattle.std.specs.Prelude.{◌≡◌, ◌⊎◌, ℕ, true, codes, List, [], Some, Result, Ok, Err, ⊤, IsUtf8}
use Rattle.par_base.specs.declared.fault.Fault.{Fault}
use Rattle.par_base.specs.declared.fault.Fault.TheVariants.{Refused, Memory}
use Rattle.serde_json.specs.Data.{Data}
use Rattle.serde_json.specs.Find.{get}
use Rattle.serde_json.specs.Read.{read}
use Rattle.layout_planner.specs.Counts.{AreCounts, counts_told}
use Rattle.migration.specs.Pending.{IsPending}
use Rattle.dump_graph.specs.declared.refused.DumpRefused.{DumpRefused}
use Rattle.dump_file.specs.Stands.{Stands}
use Rattle.dump_formats.specs.Formats.{counts_json, first_of, goal_json, goal_told, is_second}
use Rattle.dump_formats.specs.declared.loaded.Loaded.{Loaded}

-- a dump of the first format stands for a database of which nothing was accessed, and nothing is pending
pub record StandsFirst (d : Data) (l : Loaded) : Type 0 where
  pub database : Stands d l.database
  pub counts : l.counts ≡ []
  pub pending : l.pending ≡ []

-- one of the second tells each table version once, ascending, with its accesses, and null or the valid layout to which leads what is pending
pub record StandsSecond (d : Data) (l : Loaded) : Type 0 where
  pub format : is_second d ≡ true
  pub database : Stands (first_of d) l.database
  pub counts : get (codes "counts") d ≡ Some (counts_json (counts_told l.database.graph.edges l.counts))
  pub goal : get (codes "goal") d ≡ Some (goal_json (goal_told l.database.graph.edges l.database.layout.operators l.pending))
  pub counted : AreCounts l.database.graph.edges l.counts
  pub leads : IsPending l.database.graph.edges l.database.layout.operators l.pending

-- A DUMP STANDS FOR A DATABASE, and for what is kept beside it
abbrev pub StandsFor : Data → Loaded → Type 0
StandsFor d l = StandsFirst d l ⊎ StandsSecond d l

-- the bytes are some spelling of this JSON
abbrev pub Spells : List ℕ → Data → Type 0
Spells bytes d = IsUtf8 bytes × (read bytes ≡ Some d)

-- the bytes are a dump of it
abbrev pub IsDumpOf : List ℕ → Loaded → Type 0
IsDumpOf bytes l = (d : Data) × Spells bytes d × StandsFor d l

-- what loading answers: that for which the dump stands, with the limit that was given, or a refusal exactly where the bytes are no dump
abbrev pub Loads : List ℕ → ℕ → Result Loaded (Fault DumpRefused) → Type 0
Loads bytes limit (Ok l) = IsDumpOf bytes l × (l.database.ids.limit ≡ limit)
Loads bytes limit (Err (Refused r)) = (l : Loaded) → IsDumpOf bytes l → ⊥
Loads bytes limit (Err (Memory memory)) = ⊤
