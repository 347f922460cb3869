-- What may stand in tables and memories while n is the next identifier.
use Rattle.std.specs.Prelude.{ℕ, ◌<◌, ◌≤◌, ◌⊎◌, List, [], ◌∷◌, length, IsSome, IsUtf8, FitsSigned}
use Rattle.std.specs.Int.{w64}
use Rattle.par_base.specs.declared.value.Value.{Value}
use Rattle.par_base.specs.declared.value.Value.TheVariants.{Null, Int, Text, Reference}
use Rattle.expr_lang.specs.Operations.{text_limit}
use Rattle.row_store.specs.Rows.{Rows, row_of}
use Rattle.id_memory.specs.Pairs.{Pairs}
use Rattle.op_law.specs.Tables.{Tables}

-- an identifier that may have been drawn: at least 1, and below n
abbrev pub IsBelow : ℕ → ℕ → Type 0
IsBelow n id = (1 ≤ id) × (id < n)

-- an integer has 64 bits, a text is UTF-8 and not too long, and a reference is below n
abbrev pub ValueSound : ℕ → Value → Type 0
ValueSound n Null = Unit {0}
ValueSound n (Int number) = FitsSigned w64 number
ValueSound n (Text text) = (length text ≤ text_limit) × IsUtf8 text
ValueSound n (Reference id) = IsBelow n id

abbrev pub ValuesSound : ℕ → List Value → Type 0
ValuesSound n [] = Unit {0}
ValuesSound n (v ∷ vs) = ValueSound n v × ValuesSound n vs

-- every identifier and every reference is below n, and no text is too long
abbrev pub RowsSound : ℕ → Rows → Type 0
RowsSound n [] = Unit {0}
RowsSound n (r ∷ rs) = (IsBelow n r.0 × ValuesSound n r.1) × RowsSound n rs

abbrev pub TablesSound : ℕ → Tables → Type 0
TablesSound n [] = Unit {0}
TablesSound n (t ∷ ts) = RowsSound n t × TablesSound n ts

-- every identifier of a memory is at least 1 and below n, and both halves of its pair are below n
abbrev pub PairsSound : ℕ → Pairs → Type 0
PairsSound n [] = Unit {0}
PairsSound n (e ∷ es) = (IsBelow n e.0 × (e.1 < n) × (e.2 < n)) × PairsSound n es

-- some of the tables has a row of the identifier
abbrev pub HasRow : ℕ → Tables → Type 0
HasRow id [] = ⊥
HasRow id (t ∷ ts) = IsSome (row_of t id) ⊎ HasRow id ts
