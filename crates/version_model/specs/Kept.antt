-- A database, and values that are kept under the numbers of tables and operators.
use Rattle.std.specs.Prelude.{ℕ, ◌≤◌, ◌==◌, List, [], length, map, Option, Some, None, option_map}
use Rattle.std.specs.List.{find}
use mathlib.Core.List.{reverse}
use Rattle.std.specs.Option.{option_map_or}
use Rattle.row_store.specs.Rows.{Rows}
use Rattle.row_store.specs.States.{TableState}
use Rattle.id_memory.specs.Pairs.{Pairs}
use Rattle.id_memory.specs.States.{MemoryState}
use Rattle.op_law.specs.Calls.{tables_of}
use Rattle.op_law.specs.Tables.{Tables}
use Rattle.op_law.specs.declared.side.Aux.{Aux}
use Rattle.version_graph.specs.Edges.{Drawn}
use Rattle.version_graph.specs.Forest.{Link}
use Rattle.version_model.specs.States.{State}
use Rattle.version_model.specs.declared.numbered.Numbered.{Numbered}

-- a graph with its state, and the greatest identifier that may be drawn
pub record Database (O : Type 0) : Type 0 where
  pub graph : Drawn O
  pub state : State
  pub limit : ℕ

-- the value under a number
abbrev pub value_of : {T : Type 0} → List (Numbered T) → ℕ → Option T
value_of {T} items n = option_map (λ (i : Numbered T). i.value) (find (λ (i : Numbered T). n == i.number) items)

-- the last value that came under a number
abbrev pub latest_of : {T : Type 0} → List (Numbered T) → ℕ → Option T
latest_of items n = value_of (reverse items) n

-- the numbers under which values stand
abbrev pub numbers_in : {T : Type 0} → List (Numbered T) → List ℕ
numbers_in {T} items = map (λ (i : Numbered T). i.number) items

-- the rows of a table: none where it isn't kept
abbrev pub rows_at : List (Numbered TableState) → ℕ → Rows
rows_at tables t = option_map_or (λ (table : TableState). table.rows) (value_of tables t) []

-- the entries of a memory: none where it isn't kept
abbrev pub pairs_at : List (Numbered MemoryState) → ℕ → Pairs
pairs_at memories n = option_map_or (λ (memory : MemoryState). memory.entries) (value_of memories n) []

-- the auxiliary tables of an operator: none where none are kept
abbrev pub auxes_at : List (Numbered Aux) → ℕ → Tables
auxes_at auxes n = option_map_or tables_of (value_of auxes n) []

-- a value with a newer one over it, where both are there; nothing is put where there is none
abbrev pub renewed : {T : Type 0} → Option T → Option T → Option T
renewed None newer = None
renewed (Some x) None = Some x
renewed (Some x) (Some y) = Some y

-- ---- what a write has made so far, over what is kept

abbrev pub newer_rows : Option TableState → Rows → Rows
newer_rows (Some table) rows = table.rows
newer_rows None rows = rows

abbrev pub newer_pairs : Option MemoryState → Pairs → Pairs
newer_pairs (Some memory) pairs = memory.entries
newer_pairs None pairs = pairs

-- the rows of each table: those that were made last, else those that are kept
abbrev pub rows_now : List (Numbered TableState) → List (Numbered TableState) → ℕ → Rows
rows_now tables made t = newer_rows (latest_of made t) (rows_at tables t)

-- the entries of each memory, likewise
abbrev pub pairs_now : List (Numbered MemoryState) → List (Numbered MemoryState) → ℕ → Pairs
pairs_now memories made n = newer_pairs (latest_of made n) (pairs_at memories n)

-- an operator has at most two tables on either side
abbrev pub HasSides : {O : Type 0} → Link O → Type 0
HasSides e = (length e.sources ≤ 2) × (length e.targets ≤ 2)
