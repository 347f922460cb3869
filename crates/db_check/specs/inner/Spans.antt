-- Spans of identifiers, and the part of the fields that a span holds.
use Rattle.std.specs.Prelude.{◌≡◌, ◌&&◌, ℕ, Bool, true, nat_le, nat_lt, List, map, Option, Some, None, Result, Ok, Err, ⊤}
use Rattle.par_base.specs.declared.fault.Fault.{Fault}
use Rattle.par_base.specs.declared.fault.Fault.TheVariants.{Refused, Memory}
use Rattle.row_store.specs.Rows.{Rows}
use Rattle.row_store.specs.States.{TableState}
use Rattle.version_graph.specs.Sets.{In}
use Rattle.version_graph.specs.Forest.{Link, forest}
use Rattle.op_law.specs.Calls.{tables_of}
use Rattle.op_law.specs.Local.{only, rows_only}
use Rattle.op_law.specs.Meaning.{Meaning}
use Rattle.op_law.specs.Tables.{AllRise, Tables}
use Rattle.op_law.specs.declared.side.Aux.{Aux}
use Rattle.version_model.specs.declared.numbered.Numbered.{Numbered}
use Rattle.db_state.specs.Fields.{IsDatabase}
use Rattle.db_state.specs.declared.parts.Parts.{Parts}
use Rattle.db_check.specs.declared.checking.NotValid.{NotValid}
use Rattle.db_check.specs.declared.spans.Span.{Span}

-- an identifier is below the end, where there is one
abbrev pub is_under : Option ℕ → ℕ → Bool
is_under None id = true
is_under (Some high) id = nat_lt id high

-- the span holds an identifier
abbrev pub in_span : Span → ℕ → Bool
in_span span id = nat_le span.low id && is_under span.high id

-- the number of a stored table with its rows, and with those of the identifiers that pass a test
abbrev pub line_of : Numbered TableState → ℕ × Rows
line_of item = (item.number, item.value.rows)

abbrev pub line_in : (ℕ → Bool) → Numbered TableState → ℕ × Rows
line_in test item = (item.number, rows_only test item.value.rows)

-- the number of an operator with its auxiliary tables, likewise
abbrev pub aux_line_of : Numbered Aux → ℕ × Tables
aux_line_of item = (item.number, tables_of item.value)

abbrev pub aux_line_in : (ℕ → Bool) → Numbered Aux → ℕ × Tables
aux_line_in test item = (item.number, only test (tables_of item.value))

-- these are the stored and the auxiliary tables, with the rows of the identifiers that pass alone
pub record IsPart {O : Type 0} (test : ℕ → Bool) (p : Parts O) (tables : List (Numbered TableState)) (auxes : List (Numbered Aux)) : Type 0 where
  pub stored : map line_of tables ≡ map (line_in test) p.stored
  pub aux : map aux_line_of auxes ≡ map (aux_line_in test) p.aux

-- the fields with these in place of their own
abbrev pub with_tables : {O : Type 0} → Parts O → List (Numbered TableState) → List (Numbered Aux) → Parts O
with_tables p tables auxes = record { graph = p.graph; layout = p.layout; stored = tables; aux = auxes; memories = p.memories; ids = p.ids }

-- the part of the identifiers that pass is a database
pub record IsGood {O : Type 0} (meaning : O → Meaning) (p : Parts O) (test : ℕ → Bool) : Type 0 where
  pub tables : List (Numbered TableState)
  pub auxes : List (Numbered Aux)
  pub part : IsPart test p tables auxes
  pub database : IsDatabase meaning (with_tables p tables auxes)

-- an identifier is among some whose part is one
pub record IsGoodAt {O : Type 0} (meaning : O → Meaning) (p : Parts O) (id : ℕ) : Type 0 where
  pub test : ℕ → Bool
  pub among : test id ≡ true
  pub good : IsGood meaning p test

-- the auxiliary tables of each operator rise
abbrev pub AuxesRise : List (Numbered Aux) → Type 0
AuxesRise auxes = (item : Numbered Aux) → In item auxes → AllRise (tables_of item.value)

-- every live operator treats each identifier by itself
abbrev pub AreLocal : {O : Type 0} → (O → Meaning) → Parts O → Type 0
AreLocal {O} meaning p = (e : Link O) → In e (forest p.graph.edges) → (meaning e.operator).is_local ≡ true

-- the answer of the passes over the part of a span
abbrev pub AdmitsSpan : {O : Type 0} → (O → Meaning) → Parts O → Span → Result (Unit {0}) (Fault NotValid) → Type 0
AdmitsSpan meaning p span (Ok done) = IsGood meaning p (in_span span) × AuxesRise p.aux
AdmitsSpan meaning p span (Err (Refused r)) = IsDatabase meaning p → ⊥
AdmitsSpan meaning p span (Err (Memory memory)) = ⊤
