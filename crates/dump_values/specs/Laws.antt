-- What is written is read back.
use Rattle.std.specs.Prelude.{◌≡◌, ℕ, ◌^◌, ◌<◌, ◌≤◌, ℤ, pos, negsuc, List, [], ◌∷◌, Some}
use Rattle.par_base.specs.declared.value.Value.{Value}
use Rattle.par_base.specs.declared.value.Value.TheVariants.{Null, Int, Text, Reference}
use Rattle.id_memory.specs.Pairs.{IsOneToOne, Pairs, RiseFrom as PairsRise}
use Rattle.row_store.specs.Rows.{RiseFrom, Rows}
use Rattle.dump_values.specs.Dumps.{Dump, dump_json, dump_of}
use Rattle.dump_values.specs.Lines.{aux_json, aux_of, memory_json, memory_of, operator_json, operator_of, stored_json, stored_of, version_json, version_of}
use Rattle.json_members.specs.Members.{numbers_json, numbers_of}
use Rattle.dump_values.specs.Pairs.{pairs_json, pairs_of}
use Rattle.dump_values.specs.Tables.{table_json, table_of}
use Rattle.dump_values.specs.Values.{row_json, row_of, value_json, value_of}
use Rattle.dump_values.specs.declared.lines.OperatorLine.{OperatorLine}
use Rattle.dump_values.specs.declared.lines.VersionLine.{VersionLine}

-- ---- what fits

-- each of the list fits
abbrev pub AllFit : {A : Type 0} → (A → Type 0) → List A → Type 0
AllFit Fits [] = Unit {0}
AllFit Fits (x ∷ xs) = Fits x × AllFit Fits xs

-- an identifier
abbrev pub IdFits : ℕ → Type 0
IdFits id = (1 ≤ id) × (id < 2 ^ 63)

-- a number of 32 bits
abbrev pub NumberFits : ℕ → Type 0
NumberFits n = n < 2 ^ 32

-- an integer of 64 bits
abbrev pub IntFits : ℤ → Type 0
IntFits (pos n) = n < 2 ^ 63
IntFits (negsuc n) = n < 2 ^ 63

abbrev pub ValueFits : Value → Type 0
ValueFits Null = Unit {0}
ValueFits (Int z) = IntFits z
ValueFits (Text text) = Unit {0}
ValueFits (Reference id) = IdFits id

abbrev pub RowFits : ℕ × List Value → Type 0
RowFits r = IdFits r.0 × AllFit ValueFits r.1

abbrev pub TableFits : Rows → Type 0
TableFits rows = RiseFrom 0 rows × AllFit RowFits rows

-- a memory: identifiers rise, and each pair stands once
pub record PairsFit (es : Pairs) : Type 0 where
  pub rise : PairsRise 0 es
  pub one : IsOneToOne es
  pub ids : AllFit (λ (e : ℕ × ℕ × ℕ). IdFits e.0) es

abbrev pub StoredFits : ℕ × Rows → Type 0
StoredFits line = NumberFits line.0 × TableFits line.1

abbrev pub AuxFits : ℕ × List Rows → Type 0
AuxFits line = NumberFits line.0 × AllFit TableFits line.1

abbrev pub MemoryFits : ℕ × Pairs → Type 0
MemoryFits line = NumberFits line.0 × PairsFit line.1

abbrev pub VersionFits : VersionLine → Type 0
VersionFits line = NumberFits line.set

pub record OperatorFits (line : OperatorLine) : Type 0 where
  pub number : NumberFits line.number
  pub parent : NumberFits line.parent
  pub targets : AllFit NumberFits line.targets

pub record DumpFits (d : Dump) : Type 0 where
  pub operators : AllFit OperatorFits d.graph.operators
  pub versions : AllFit VersionFits d.graph.versions
  pub last_operator : NumberFits d.graph.last_operator
  pub last_table : NumberFits d.graph.last_table
  pub layout : AllFit NumberFits d.kept.layout
  pub stored : AllFit StoredFits d.kept.stored
  pub auxes : AllFit AuxFits d.kept.auxes
  pub memories : AllFit MemoryFits d.kept.memories
  pub from_one : 1 ≤ d.kept.next
  pub at_most : d.kept.next ≤ 2 ^ 63

-- ---- the laws

abbrev pub ValuesReadBack : Type 0
ValuesReadBack = (v : Value) → ValueFits v → value_of (value_json v) ≡ Some v

abbrev pub RowsReadBack : Type 0
RowsReadBack = (row : ℕ × List Value) → RowFits row → row_of (row_json row) ≡ Some row

abbrev pub TablesReadBack : Type 0
TablesReadBack = (rows : Rows) → TableFits rows → table_of (table_json rows) ≡ Some rows

abbrev pub PairsReadBack : Type 0
PairsReadBack = (es : Pairs) → PairsFit es → pairs_of (pairs_json es) ≡ Some es

abbrev pub NumbersReadBack : Type 0
NumbersReadBack = (ns : List ℕ) → AllFit NumberFits ns → numbers_of (numbers_json ns) ≡ Some ns

abbrev pub StoredReadBack : Type 0
StoredReadBack = (line : ℕ × Rows) → StoredFits line → stored_of (stored_json line) ≡ Some line

abbrev pub AuxesReadBack : Type 0
AuxesReadBack = (line : ℕ × List Rows) → AuxFits line → aux_of (aux_json line) ≡ Some line

abbrev pub MemoriesReadBack : Type 0
MemoriesReadBack = (line : ℕ × Pairs) → MemoryFits line → memory_of (memory_json line) ≡ Some line

abbrev pub VersionsReadBack : Type 0
VersionsReadBack = (line : VersionLine) → VersionFits line → version_of (version_json line) ≡ Some line

abbrev pub OperatorsReadBack : Type 0
OperatorsReadBack = (line : OperatorLine) → OperatorFits line → operator_of (operator_json line) ≡ Some line

-- WHAT IS DUMPED IS READ BACK
abbrev pub DumpsReadBack : Type 0
DumpsReadBack = (d : Dump) → DumpFits d → dump_of (dump_json d) ≡ Some d
