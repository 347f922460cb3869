-- The entries of a dump: objects with known members.
use Rattle.std.specs.Prelude.{ℕ, codes, List, Option, option_map}
use Rattle.id_memory.specs.Pairs.{Pairs}
use Rattle.row_store.specs.Rows.{Rows}
use Rattle.serde_json.specs.Data.{Data, object, string, member, no_members}
use Rattle.serde_json.specs.Find.{as_str}
use Rattle.json_members.specs.Members.{both, member_of, number_json, numbers_json, numbers_of, of_size, small_of}
use Rattle.dump_values.specs.Pairs.{pairs_json, pairs_of}
use Rattle.dump_values.specs.Tables.{table_json, table_of, tables_json, tables_of}
use Rattle.dump_values.specs.declared.lines.OperatorLine.{OperatorLine}
use Rattle.dump_values.specs.declared.lines.VersionLine.{VersionLine}

-- a stored table under its number
abbrev pub stored_json : ℕ × Rows → Data
stored_json line = object (member (codes "rows") (table_json line.1) (member (codes "table") (number_json line.0) no_members))

abbrev pub stored_of : Data → Option (ℕ × Rows)
stored_of d = of_size 2 d (both (member_of small_of (codes "table") d) (member_of table_of (codes "rows") d))

-- the auxiliary tables of an operator
abbrev pub aux_json : ℕ × List Rows → Data
aux_json line = object (member (codes "operator") (number_json line.0) (member (codes "tables") (tables_json line.1) no_members))

abbrev pub aux_of : Data → Option (ℕ × List Rows)
aux_of d = of_size 2 d (both (member_of small_of (codes "operator") d) (member_of tables_of (codes "tables") d))

-- the memory of an operator
abbrev pub memory_json : ℕ × Pairs → Data
memory_json line = object (member (codes "operator") (number_json line.0) (member (codes "pairs") (pairs_json line.1) no_members))

abbrev pub memory_of : Data → Option (ℕ × Pairs)
memory_of d = of_size 2 d (both (member_of small_of (codes "operator") d) (member_of pairs_of (codes "pairs") d))

-- a version: its name, and its working set
abbrev pub version_json : VersionLine → Data
version_json line = object (member (codes "name") (string line.name) (member (codes "set") (number_json line.set) no_members))

abbrev pub version_of : Data → Option VersionLine
version_of d = of_size 2 d (option_map (λ (f : List ℕ × ℕ). record { name = f.0; set = f.1 }) (both (member_of as_str (codes "name") d) (member_of small_of (codes "set") d)))

-- an operator: its number, the working set that it starts from, the numbers of its targets, and its text
abbrev pub operator_json : OperatorLine → Data
operator_json line = object (member (codes "number") (number_json line.number) (member (codes "parent") (number_json line.parent) (member (codes "targets") (numbers_json line.targets) (member (codes "text") (string line.text) no_members))))

abbrev pub operator_of : Data → Option OperatorLine
operator_of d = of_size 4 d (option_map (λ (f : (ℕ × ℕ) × (List ℕ × List ℕ)). record { number = f.0.0; parent = f.0.1; targets = f.1.0; text = f.1.1 }) (both (both (member_of small_of (codes "number") d) (member_of small_of (codes "parent") d)) (both (member_of numbers_of (codes "targets") d) (member_of as_str (codes "text") d))))
