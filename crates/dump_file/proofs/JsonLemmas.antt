-- The JSON of a dump has no float.
use Rattle.std.specs.Prelude.{pos, negsuc}
use Rattle.std.proofs.Common.{◌≡◌, ℕ, List, [], ◌∷◌, false, map, refl}
use Rattle.std.proofs.lemmas.Bool.{or_from}
use Rattle.par_base.specs.declared.value.Value.{Value}
use Rattle.par_base.specs.declared.value.Value.TheVariants.{Null, Int, Text, Reference}
use Rattle.id_memory.specs.Pairs.{Pairs}
use Rattle.row_store.specs.Rows.{Rows}
use Rattle.serde_json.specs.Data.{Data}
use Rattle.serde_json.specs.View.{items_of}
use Rattle.serde_json.specs.Written.{has_float, items_have_float}
use Rattle.dump_values.specs.Dumps.{Dump, dump_json}
use Rattle.dump_values.specs.Lines.{aux_json, memory_json, operator_json, stored_json, version_json}
use Rattle.dump_values.specs.Members.{list_json, number_json, numbers_json}
use Rattle.dump_values.specs.Pairs.{pairs_json, triple_json}
use Rattle.dump_values.specs.Tables.{table_json, tables_json}
use Rattle.dump_values.specs.Values.{row_json, value_json}
use Rattle.dump_values.specs.declared.lines.OperatorLine.{OperatorLine}

items_whole : {A : Type 0} (write : A → Data) → ((x : A) → has_float (write x) ≡ false) → (xs : List A) → items_have_float (items_of (map write xs)) ≡ false
items_whole write whole [] = refl
items_whole write whole (x ∷ xs) = or_from (has_float (write x)) (items_have_float (items_of (map write xs))) (whole x) (items_whole write whole xs)

list_whole : {A : Type 0} (write : A → Data) → ((x : A) → has_float (write x) ≡ false) → (xs : List A) → has_float (list_json write xs) ≡ false
list_whole write whole xs = items_whole write whole xs

value_whole : (v : Value) → has_float (value_json v) ≡ false
value_whole Null = refl
value_whole (Int (pos n)) = refl
value_whole (Int (negsuc n)) = refl
value_whole (Text text) = refl
value_whole (Reference id) = refl

row_whole : (row : ℕ × List Value) → has_float (row_json row) ≡ false
row_whole row = items_whole value_json value_whole row.1

table_whole : (rows : Rows) → has_float (table_json rows) ≡ false
table_whole rows = list_whole row_json row_whole rows

numbers_whole : (ns : List ℕ) → has_float (numbers_json ns) ≡ false
numbers_whole ns = list_whole number_json (λ n. refl) ns

pairs_whole : (es : Pairs) → has_float (pairs_json es) ≡ false
pairs_whole es = list_whole triple_json (λ e. refl) es

stored_whole : (line : ℕ × Rows) → has_float (stored_json line) ≡ false
stored_whole line = or_from (has_float (table_json line.1)) false (table_whole line.1) refl

aux_whole : (line : ℕ × List Rows) → has_float (aux_json line) ≡ false
aux_whole line = or_from (has_float (tables_json line.1)) false (list_whole table_json table_whole line.1) refl

memory_whole : (line : ℕ × Pairs) → has_float (memory_json line) ≡ false
memory_whole line = or_from (has_float (pairs_json line.1)) false (pairs_whole line.1) refl

operator_whole : (line : OperatorLine) → has_float (operator_json line) ≡ false
operator_whole line = or_from (has_float (numbers_json line.targets)) false (numbers_whole line.targets) refl

pub dump_whole : (d : Dump) → has_float (dump_json d) ≡ false
dump_whole d =
    let auxes = list_whole aux_json aux_whole d.kept.auxes in
    let layout = numbers_whole d.kept.layout in
    let memories = list_whole memory_json memory_whole d.kept.memories in
    let operators = list_whole operator_json operator_whole d.graph.operators in
    let stored = list_whole stored_json stored_whole d.kept.stored in
    let versions = list_whole version_json (λ v. refl) d.graph.versions in
    or_from _ _ auxes (or_from _ _ layout (or_from _ _ memories (or_from _ _ operators (or_from _ _ stored (or_from _ _ versions refl)))))
