-- The state of a database without layout, and what may stand in it.
use Rattle.std.specs.Prelude.{◌≡◌, ℕ, List, [], length}
use Rattle.std.specs.Option.{option_map_or}
use Rattle.row_store.specs.Rows.{Rows, RiseFrom}
use Rattle.id_memory.specs.Pairs.{Pairs}
use Rattle.version_graph.specs.Tables.{table_numbers}
use Rattle.version_graph.specs.Edges.{numbers, made, heading_of}
use Rattle.version_graph.specs.Sets.{In}
use Rattle.version_graph.specs.declared.parts.Placed.{Placed}
use Rattle.version_graph.specs.declared.parts.Heading.{Heading as TableHeading}
use Rattle.op_law.specs.Tables.{Heading, RowsWide}
use Rattle.op_law.specs.Sound.{RowsSound, PairsSound}

-- the rows of each table version and the memory of each operator, by their numbers, and the next identifier; a number that doesn't live has none
pub record State : Type 0 where
  pub tables : ℕ → Rows
  pub memory : ℕ → Pairs
  pub next : ℕ

-- the state without rows
abbrev pub empty_at : ℕ → State
empty_at next = record { tables = λ t. []; memory = λ n. []; next = next }

-- a table's heading, as operators see it
abbrev pub as_seen : TableHeading → Heading
as_seen h = record { name = h.name; columns = h.columns }

-- the heading of each table of a graph
abbrev pub headings : {O : Type 0} → List (Placed O) → ℕ → Heading
headings es t = option_map_or as_seen (heading_of es t) (record { name = []; columns = [] })

-- each table rises and has one value for each column, and nothing is at or above the next identifier
pub record IsWell (heading : ℕ → Heading) (s : State) : Type 0 where
  pub tables : (t : ℕ) → RiseFrom 0 (s.tables t) × RowsWide (length (heading t).columns) (s.tables t)
  pub rows : (t : ℕ) → RowsSound s.next (s.tables t)
  pub memories : (n : ℕ) → PairsSound s.next (s.memory n)

-- what doesn't live has no rows and no memory
pub record LivesAlone {O : Type 0} (es : List (Placed O)) (s : State) : Type 0 where
  pub tables : (t : ℕ) → (In t (table_numbers (made es)) → ⊥) → s.tables t ≡ []
  pub memories : (n : ℕ) → (In n (numbers es) → ⊥) → s.memory n ≡ []
