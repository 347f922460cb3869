-- The JSON of a dump nests less deep than may be read.
use Rattle.std.specs.Prelude.{◌≤◌, max}
use Rattle.std.proofs.Common.{ℕ, ◌+◌, List, [], ◌∷◌, map, arith}
use Rattle.std.proofs.Math.Nat.{max-le}
use Rattle.par_base.specs.declared.value.Value.{Value}
use Rattle.par_base.specs.declared.value.Value.TheVariants.{Null, Int, Text, Reference}
use Rattle.id_memory.specs.Pairs.{Pairs}
use Rattle.row_store.specs.Rows.{Rows}
use Rattle.serde_json.specs.Data.{Data, depth, items_depth}
use Rattle.serde_json.specs.Read.{max_depth}
use Rattle.serde_json.specs.View.{items_of}
use Rattle.dump_values.specs.Dumps.{Dump, dump_json}
use Rattle.dump_values.specs.Lines.{aux_json, memory_json, operator_json, stored_json, version_json}
use Rattle.dump_values.specs.Members.{list_json, number_json, numbers_json}
use Rattle.dump_values.specs.Pairs.{pairs_json, triple_json}
use Rattle.dump_values.specs.Tables.{table_json, tables_json}
use Rattle.dump_values.specs.Values.{row_json, value_json}
use Rattle.dump_values.specs.declared.lines.OperatorLine.{OperatorLine}
use Rattle.dump_values.specs.declared.lines.VersionLine.{VersionLine}

items_within : {A : Type 0} (write : A → Data) (k : ℕ) → ((x : A) → depth (write x) ≤ k) → (xs : List A) → items_depth (items_of (map write xs)) ≤ k
items_within write k within [] = omega arith
items_within write k within (x ∷ xs) = max-le (within x) (items_within write k within xs)

-- a list nests one deeper than its items
list_within : {A : Type 0} (write : A → Data) (k : ℕ) → ((x : A) → depth (write x) ≤ k) → (xs : List A) → depth (list_json write xs) ≤ k + 1
list_within write k within xs = let items = items_within write k within xs in omega (arith, items)

value_within : (v : Value) → depth (value_json v) ≤ 1
value_within Null = omega arith
value_within (Int z) = omega arith
value_within (Text text) = omega arith
value_within (Reference id) = omega arith

row_within : (row : ℕ × List Value) → depth (row_json row) ≤ 2
row_within row =
    let items : max 0 (items_depth (items_of (map value_json row.1))) ≤ 1 = max-le (omega arith) (items_within value_json 1 value_within row.1) in
    omega (arith, items)

table_within : (rows : Rows) → depth (table_json rows) ≤ 3
table_within rows = list_within row_json 2 row_within rows

tables_within : (ts : List Rows) → depth (tables_json ts) ≤ 4
tables_within ts = list_within table_json 3 table_within ts

numbers_within : (ns : List ℕ) → depth (numbers_json ns) ≤ 1
numbers_within ns = list_within number_json 0 (λ n. omega arith) ns

pairs_within : (es : Pairs) → depth (pairs_json es) ≤ 2
pairs_within es = list_within triple_json 1 (λ e. omega arith) es

stored_within : (line : ℕ × Rows) → depth (stored_json line) ≤ 4
stored_within line = let rows = table_within line.1 in omega (arith, rows)

aux_within : (line : ℕ × List Rows) → depth (aux_json line) ≤ 5
aux_within line = let tables = tables_within line.1 in omega (arith, tables)

memory_within : (line : ℕ × Pairs) → depth (memory_json line) ≤ 3
memory_within line = let pairs = pairs_within line.1 in omega (arith, pairs)

operator_within : (line : OperatorLine) → depth (operator_json line) ≤ 2
operator_within line = let targets = numbers_within line.targets in omega (arith, targets)

version_within : (line : VersionLine) → depth (version_json line) ≤ 1
version_within line = omega arith

-- a dump nests 7 deep
pub dump_within : (d : Dump) → depth (dump_json d) ≤ max_depth
dump_within d =
    let auxes = list_within aux_json 5 aux_within d.kept.auxes in
    let layout = numbers_within d.kept.layout in
    let memories = list_within memory_json 3 memory_within d.kept.memories in
    let operators = list_within operator_json 2 operator_within d.graph.operators in
    let stored = list_within stored_json 4 stored_within d.kept.stored in
    let versions = list_within version_json 1 version_within d.graph.versions in
    omega (arith, auxes, layout, memories, operators, stored, versions)
