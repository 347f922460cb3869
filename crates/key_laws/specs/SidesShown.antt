-- What R shows of S and T, while both sides belong together.
use Rattle.std.specs.Prelude.{◌≡◌, ℕ, ◌⊎◌, List, ◌++◌, Some, None, length}
use Rattle.std.specs.List.{remove}
use Rattle.par_base.specs.declared.value.Value.{Value}
use Rattle.par_base.specs.declared.value.Value.TheVariants.{Reference}
use Rattle.row_store.specs.Rows.{Rows, row_of}
use Rattle.id_memory.specs.Pairs.{pair_of}
use Rattle.op_law.specs.Tables.{Heading}
use Rattle.op_law.specs.Meaning.{PairState}
use Rattle.op_law.specs.Premises.{IsPair}
use Rattle.row_parts.specs.Places.{row_of_both, nulls}
use Rattle.row_parts.specs.RowEdits.{value_at}
use Rattle.op_tables.specs.SideTables.{first_table, second_table}
use Rattle.op_fk_decompose.specs.Columns.{decompose_columns}
use Rattle.op_fk_join.specs.Columns.{join_columns}
use Rattle.pair_rows.specs.Shown.{Joining}
use Rattle.pair_rows.specs.Sides.{table_at}
use Rattle.op_cond_join.specs.JoinOn.{join_on}
use Rattle.key_laws.specs.Referring.{Refers}

-- the row v refers to the row u of T, which stands at q
abbrev pub LeadsTo : ℕ → Rows → List Value → ℕ → List Value → Type 0
LeadsTo place t v q u = (value_at place v ≡ Reference q) × (row_of t q ≡ Some u)

-- DECOMPOSE on a foreign key: R has each row of S, with the row to which it refers, or with nulls where it refers to none
abbrev pub ReferringRowIsShown : Type 0
ReferringRowIsShown =
    (first second : List ℕ) (place : ℕ) (hs ht : List Heading) (sides : PairState)
    → IsPair (decompose_columns first second place) hs ht sides
    → (id : ℕ) (v : List Value) → row_of (first_table sides.target) id ≡ Some v
    → ((q : ℕ) (u : List Value) → LeadsTo place (second_table sides.target) v q u → row_of (first_table sides.source) id ≡ Some (row_of_both first second (remove v place) u))
    × (((q : ℕ) (u : List Value) → LeadsTo place (second_table sides.target) v q u → ⊥) → row_of (first_table sides.source) id ≡ Some (row_of_both first second (remove v place) (nulls (length second))))

-- and each row of T that is alone, with nulls before it, and nothing else
abbrev pub AloneRowIsShown : Type 0
AloneRowIsShown =
    (first second : List ℕ) (place : ℕ) (hs ht : List Heading) (sides : PairState)
    → IsPair (decompose_columns first second place) hs ht sides
    → (id : ℕ) → row_of (first_table sides.target) id ≡ None
    → ((u : List Value) → row_of (second_table sides.target) id ≡ Some u → (Refers place (first_table sides.target) id → ⊥) → row_of (first_table sides.source) id ≡ Some (row_of_both first second (nulls (length first)) u))
    × ((row_of (second_table sides.target) id ≡ None) ⊎ Refers place (first_table sides.target) id → row_of (first_table sides.source) id ≡ None)

-- JOIN on a foreign key: R has each row of S that refers to one of T, with that row, and nothing else
abbrev pub JoinedRowIsShown : Type 0
JoinedRowIsShown =
    (first second place : ℕ) (hs ht : List Heading) (sides : PairState)
    → IsPair (join_columns first second place) hs ht sides
    → (id : ℕ)
    → ((v u : List Value) (q : ℕ) → row_of (first_table sides.source) id ≡ Some v → LeadsTo place (second_table sides.source) v q u → row_of (first_table sides.target) id ≡ Some (remove v place ++ u))
    × (((v u : List Value) (q : ℕ) → row_of (first_table sides.source) id ≡ Some v → LeadsTo place (second_table sides.source) v q u → ⊥) → row_of (first_table sides.target) id ≡ None)

-- the rows of a pair are there, and their joined row stands under the identifier of the pair
pub record ShowsPair (j : Joining) (s t r : Rows) (id a b : ℕ) : Type 0 where
  pub first : List Value
  pub second : List Value
  pub at : row_of s a ≡ Some first
  pub other : row_of t b ≡ Some second
  pub shown : row_of r id ≡ Some (row_of_both j.first j.second first second)

-- JOIN on a condition: R has the joined row of each pair of the memory, and nothing else
abbrev pub PairIsShown : Type 0
PairIsShown =
    (j : Joining) (hs ht : List Heading) (sides : PairState)
    → IsPair (join_on j) hs ht sides
    → (id : ℕ)
    → ((a b : ℕ) → pair_of sides.memory id ≡ Some (a, b) → ShowsPair j (table_at 0 sides.source) (table_at 1 sides.source) (table_at 0 sides.target) id a b)
    × (pair_of sides.memory id ≡ None → row_of (table_at 0 sides.target) id ≡ None)
