-- What the calls that read a dump ensure.
use Rattle.std.specs.Prelude.{◌≡◌, ◌⊎◌, ℕ, ◌==◌, ◌<◌, ◌≤◌, ◌^◌, Bool, true, false, not, codes, List, map, Option, Some, None, option_and_then, if◌then◌else◌, Result, Ok, Err, ⊤}
use Rattle.par_base.specs.declared.fault.Fault.{Fault}
use Rattle.par_base.specs.declared.fault.Fault.TheVariants.{Refused, Memory}
use Rattle.serde_json.specs.Data.{Data, Items}
use Rattle.serde_json.specs.Find.{as_array, get}
use Rattle.serde_json.specs.View.{items_of, view}
use Rattle.version_graph.specs.Sets.{Each}
use Rattle.version_graph.specs.declared.parts.Placed.{Placed}
use Rattle.layout_planner.specs.Counts.{AreCounts, counts_told, tables_counted}
use Rattle.layout_planner.specs.declared.planning.TableCount.{TableCount}
use Rattle.migration.specs.Pending.{IsPending}
use Rattle.op_any.specs.Operators.{AnyView}
use Rattle.db_state.specs.declared.parts.Parts.{Parts}
use Rattle.dump_values.specs.Dumps.{dump_of, dump_seen}
use Rattle.dump_values.specs.Members.{number_json}
use Rattle.dump_values.specs.Pairs.{two_of}
use Rattle.dump_values.specs.declared.dumps.DumpLines.{DumpLines}
use Rattle.dump_graph.specs.declared.refused.DumpRefused.{DumpRefused}
use Rattle.dump_formats.specs.Formats.{count_json, counts_json, first_of, goal_json, goal_told, is_second}
use Rattle.dump_formats.specs.Stands.{IsDumpOf, Spells, StandsFor}
use Rattle.dump_formats.specs.declared.loaded.Loaded.{Loaded}
use Rattle.dump_formats.specs.declared.loading.ReadDump.{ReadDump}
use Rattle.dump_formats.specs.declared.loading.ReadDump.TheVariants.{First, Second}
use Rattle.dump_formats.specs.declared.parts.Members.{Members}

-- a test tells whether P holds
abbrev pub Tells : Bool → Type 0 → Type 0
Tells b P = (b ≡ true → P) × (P → b ≡ true)

-- ---- counts

-- the count of a table that JSON spells
abbrev pub count_at : ℕ → Data → Option ℕ
count_at t d = option_and_then (λ (p : ℕ × ℕ). if p.0 == t then Some p.1 else None) (option_and_then two_of (as_array d))

-- whether a table was accessed
abbrev pub is_accessed : TableCount → Bool
is_accessed c = not (c.count == 0)

-- the counts of these tables that the items spell, or none where they spell no such
abbrev pub ReadsCounts : List ℕ → Items → Option (List TableCount) → Type 0
ReadsCounts ts ds (Some told) = (tables_counted told ≡ ts) × (ds ≡ items_of (map count_json told))
ReadsCounts ts ds None = (told : List TableCount) → tables_counted told ≡ ts → ds ≡ items_of (map count_json told) → ⊥

-- the counts beside a graph that JSON spells, or none where it spells no such
abbrev pub FindsCounts : {O : Type 0} → List (Placed O) → Data → Option (List TableCount) → Type 0
FindsCounts es d (Some counts) = AreCounts es counts × (d ≡ counts_json (counts_told es counts))
FindsCounts es d None = (counts : List TableCount) → AreCounts es counts → d ≡ counts_json (counts_told es counts) → ⊥

-- ---- goals

-- the numbers of 32 bits that the items spell, or none where they spell no such
abbrev pub ReadsNumbers : Items → Option (List ℕ) → Type 0
ReadsNumbers ds (Some ns) = ds ≡ items_of (map number_json ns)
ReadsNumbers ds None = (ns : List ℕ) → Each (λ n. n < 2 ^ 32) ns → ds ≡ items_of (map number_json ns) → ⊥

-- the operators that are pending on the way to a goal, or none where nothing pending leads there
abbrev pub LeadsTo : {O : Type 0} → List (Placed O) → List ℕ → List ℕ → Option (List ℕ) → Type 0
LeadsTo es layout goal (Some pending) = IsPending es layout pending × (goal_told es layout pending ≡ Some goal)
LeadsTo es layout goal None = (pending : List ℕ) → IsPending es layout pending → goal_told es layout pending ≡ Some goal → ⊥

-- those on the way to the goal that JSON spells
abbrev pub FindsPending : {O : Type 0} → List (Placed O) → List ℕ → Data → Option (List ℕ) → Type 0
FindsPending es layout d (Some pending) = IsPending es layout pending × (d ≡ goal_json (goal_told es layout pending))
FindsPending es layout d None = (pending : List ℕ) → IsPending es layout pending → d ≡ goal_json (goal_told es layout pending) → ⊥

-- ---- both

-- counts and pending operators are kept beside a database, and these members spell them
pub record AreBeside (p : Parts AnyView) (counts_told_by goal_told_by : Data) (counts : List TableCount) (pending : List ℕ) : Type 0 where
  pub counted : AreCounts p.graph.edges counts
  pub counts_are : counts_told_by ≡ counts_json (counts_told p.graph.edges counts)
  pub leads : IsPending p.graph.edges p.layout.operators pending
  pub goal_is : goal_told_by ≡ goal_json (goal_told p.graph.edges p.layout.operators pending)

-- what is kept beside a database and these members spell, or nothing where they spell no such
abbrev pub FindsBeside : Parts AnyView → Data → Data → Option (List TableCount × List ℕ) → Type 0
FindsBeside p c g (Some found) = AreBeside p c g found.0 found.1
FindsBeside p c g None = (counts : List TableCount) (pending : List ℕ) → AreBeside p c g counts pending → ⊥

-- ---- the whole

-- the next identifier of what was read is one
abbrev pub IsInRange : DumpLines → Type 0
IsInRange lines = (1 ≤ lines.kept.next) × (lines.kept.next ≤ 2 ^ 63)

-- the parts of a dump of the second format
pub record AreParts (d : Data) (s : Members) : Type 0 where
  pub first : dump_of (first_of d) ≡ Some (dump_seen s.first)
  pub counts : get (codes "counts") d ≡ Some (view s.counts)
  pub goal : get (codes "goal") d ≡ Some (view s.goal)

-- they are read, or one of them is missing
abbrev pub FindsParts : Data → Option Members → Type 0
FindsParts d (Some s) = AreParts d s × IsInRange s.first
FindsParts d None = (get (codes "counts") d ≡ None) ⊎ ((get (codes "goal") d ≡ None) ⊎ (dump_of (first_of d) ≡ None))

-- this was read of the JSON
abbrev pub IsReadOf : Data → ReadDump → Type 0
IsReadOf d (First lines) = (is_second d ≡ false) × (dump_of d ≡ Some (dump_seen lines))
IsReadOf d (Second s) = (is_second d ≡ true) × AreParts d s

abbrev pub FitsDump : ReadDump → Type 0
FitsDump (First lines) = IsInRange lines
FitsDump (Second s) = IsInRange s.first

-- a dump of either format, or none where the JSON stands for nothing
abbrev pub FindsDump : Data → Option ReadDump → Type 0
FindsDump d (Some r) = IsReadOf d r × FitsDump r
FindsDump d None = (l : Loaded) → StandsFor d l → ⊥

-- what the bytes tell, or a refusal where they are no dump
abbrev pub ReadsDump : List ℕ → Result ReadDump (Fault DumpRefused) → Type 0
ReadsDump bytes (Ok r) = (d : Data) × Spells bytes d × IsReadOf d r × FitsDump r
ReadsDump bytes (Err (Refused r)) = (l : Loaded) → IsDumpOf bytes l → ⊥
ReadsDump bytes (Err (Memory memory)) = ⊤

-- that for which JSON stands, with this limit, or a refusal where there is nothing
abbrev pub LoadsJson : Data → ℕ → Result Loaded (Fault DumpRefused) → Type 0
LoadsJson d limit (Ok l) = StandsFor d l × (l.database.ids.limit ≡ limit)
LoadsJson d limit (Err (Refused r)) = (l : Loaded) → StandsFor d l → ⊥
LoadsJson d limit (Err (Memory memory)) = ⊤

-- the same of what was read, whatever JSON it was read of
unfoldable pub LoadsRead : ReadDump → ℕ → Result Loaded (Fault DumpRefused) → Type 0
LoadsRead r limit loaded = (d : Data) → IsReadOf d r → LoadsJson d limit loaded
