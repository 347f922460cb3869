-- A whole dump: an object with these ten members.
use Rattle.std.specs.Prelude.{ℕ, Bool, codes, List, Option, None, is_some, option_map, option_and_then, if◌then◌else◌, map}
use Rattle.id_memory.specs.Pairs.{Pairs}
use Rattle.row_store.specs.Rows.{Rows}
use Rattle.serde_json.specs.Data.{Data, object, member, no_members}
use Rattle.dump_values.specs.Lines.{aux_json, aux_of, memory_json, memory_of, operator_json, operator_of, stored_json, stored_of, version_json, version_of}
use Rattle.json_members.specs.Members.{both, list_at, list_json, member_of, next_of, number_json, number_of, numbers_json, numbers_of, of_size, small_of, within}
use Rattle.dump_values.specs.declared.lines.OperatorLine.{OperatorLine}
use Rattle.dump_values.specs.declared.lines.VersionLine.{VersionLine}
use Rattle.row_store.specs.States.{TableState}
use Rattle.id_memory.specs.States.{MemoryState}
use Rattle.dump_values.specs.declared.dumps.DumpLines.{DumpLines}
use Rattle.dump_values.specs.declared.dumps.GraphLines.{GraphLines}
use Rattle.dump_values.specs.declared.dumps.KeptLines.{KeptLines}
use Rattle.dump_values.specs.declared.dumps.WrittenLines.{WrittenLines}
use Rattle.serde_json.specs.View.{view}

-- what a database stores, without room
pub record Kept : Type 0 where
  pub layout : List ℕ
  pub stored : List (ℕ × Rows)
  pub auxes : List (ℕ × List Rows)
  pub memories : List (ℕ × Pairs)
  pub next : ℕ

-- what a dump tells
pub record Dump : Type 0 where
  pub graph : GraphLines
  pub kept : Kept

-- the tables that stand under numbers
abbrev pub stored_seen : List (ℕ × TableState) → List (ℕ × Rows)
stored_seen lines = map (λ (l : ℕ × TableState). (l.0, l.1.rows)) lines

-- the tables of operators
abbrev pub auxes_seen : List (ℕ × List TableState) → List (ℕ × List Rows)
auxes_seen lines = map (λ (l : ℕ × List TableState). (l.0, map (λ (t : TableState). t.rows) l.1)) lines

-- the memories of operators
abbrev pub memories_seen : List (ℕ × MemoryState) → List (ℕ × Pairs)
memories_seen lines = map (λ (l : ℕ × MemoryState). (l.0, l.1.entries)) lines

abbrev pub kept_seen : KeptLines → Kept
kept_seen k = record { layout = k.layout; stored = stored_seen k.stored; auxes = auxes_seen k.auxes; memories = memories_seen k.memories; next = k.next }

abbrev pub dump_seen : DumpLines → Dump
dump_seen d = record { graph = d.graph; kept = kept_seen d.kept }

-- the one format there is
abbrev pub format : ℕ
format = 1

-- the members stand in the order of their keys
abbrev pub dump_json : Dump → Data
dump_json d = object
    (member (codes "aux") (list_json aux_json d.kept.auxes)
    (member (codes "format") (number_json format)
    (member (codes "last_operator") (number_json d.graph.last_operator)
    (member (codes "last_table") (number_json d.graph.last_table)
    (member (codes "layout") (numbers_json d.kept.layout)
    (member (codes "memories") (list_json memory_json d.kept.memories)
    (member (codes "next") (number_json d.kept.next)
    (member (codes "operators") (list_json operator_json d.graph.operators)
    (member (codes "stored") (list_json stored_json d.kept.stored)
    (member (codes "versions") (list_json version_json d.graph.versions)
    no_members))))))))))

-- the same of lists that were written before
abbrev pub written : WrittenLines → Data
written l = object
    (member (codes "aux") (view l.auxes)
    (member (codes "format") (number_json format)
    (member (codes "last_operator") (number_json l.last_operator)
    (member (codes "last_table") (number_json l.last_table)
    (member (codes "layout") (view l.layout)
    (member (codes "memories") (view l.memories)
    (member (codes "next") (number_json l.next)
    (member (codes "operators") (view l.operators)
    (member (codes "stored") (view l.stored)
    (member (codes "versions") (view l.versions)
    no_members))))))))))

-- what the graph is made of
abbrev pub graph_of : Data → Option GraphLines
graph_of d = option_map (λ (f : (List OperatorLine × List VersionLine) × (ℕ × ℕ)). record { operators = f.0.0; versions = f.0.1; last_operator = f.1.0; last_table = f.1.1 })
    (both (both (list_at operator_of (codes "operators") d) (list_at version_of (codes "versions") d))
    (both (member_of small_of (codes "last_operator") d) (member_of small_of (codes "last_table") d)))

-- the lists of tables and memories
abbrev pub lists_of : Data → Option (List (ℕ × Rows) × (List (ℕ × List Rows) × List (ℕ × Pairs)))
lists_of d = both (list_at stored_of (codes "stored") d) (both (list_at aux_of (codes "aux") d) (list_at memory_of (codes "memories") d))

-- what is stored
abbrev pub kept_of : Data → Option Kept
kept_of d = option_map (λ (f : (List ℕ × ℕ) × (List (ℕ × Rows) × (List (ℕ × List Rows) × List (ℕ × Pairs)))). record { layout = f.0.0; stored = f.1.0; auxes = f.1.1.0; memories = f.1.1.1; next = f.0.1 })
    (both (both (member_of numbers_of (codes "layout") d) (member_of next_of (codes "next") d)) (lists_of d))

-- whether the format is this one
abbrev pub has_format : Data → Bool
has_format d = is_some (member_of (λ f. option_and_then (within format format) (number_of f)) (codes "format") d)

-- THE DUMP THAT JSON SPELLS: an object with these ten members and no other
abbrev pub dump_of : Data → Option Dump
dump_of d = if has_format d then of_size 10 d (option_map (λ (f : GraphLines × Kept). record { graph = f.0; kept = f.1 }) (both (graph_of d) (kept_of d))) else None
