-- Which pairs of rows the rows of a table get that joins S and T on a condition, after a write of that table.
use Rattle.std.specs.Prelude.{◌≡◌, ◌≢◌, ℕ, List, Some, None}
use Rattle.par_base.specs.declared.value.Value.{Value}
use Rattle.row_store.specs.Rows.{Rows, row_of}
use Rattle.id_memory.specs.Pairs.{Pairs, pair_of}
use Rattle.op_law.specs.Tables.{Tables, Heading}
use Rattle.op_law.specs.Meaning.{PairState, Mapped, flip, exchanged}
use Rattle.op_law.specs.Premises.{MayMap}
use Rattle.row_parts.specs.Places.{pick}
use Rattle.pair_rows.specs.Shown.{Joining}
use Rattle.pair_rows.specs.Sides.{table_at}
use Rattle.op_cond_join.specs.JoinOn.{join_on}

-- a row of S stands in some pair
abbrev pub HasFirst : Pairs → ℕ → Type 0
HasFirst m a = (p : ℕ) × (b : ℕ) × (pair_of m p ≡ Some (a, b))

-- and one of T
abbrev pub HasSecond : Pairs → ℕ → Type 0
HasSecond m b = (p : ℕ) × (a : ℕ) × (pair_of m p ≡ Some (a, b))

-- a new joined table, over sound old tables that belong together; n is the next identifier
pub record JoinedWritten (j : Joining) : Type 0 where
  pub hs : List Heading
  pub ht : List Heading
  pub near : Tables
  pub old : PairState
  pub n : ℕ
  pub may : MayMap (flip (join_on j)) ht hs near (exchanged old) n

-- the joined table, its sources and its pairs, before the write and after it
module _ {j : Joining} where
  -- the old joined table
  abbrev pub joined_before : JoinedWritten j → Rows
  joined_before w = table_at 0 w.old.target

  -- the new one
  abbrev pub joined_after : JoinedWritten j → Rows
  joined_after w = table_at 0 w.near

  -- old S
  abbrev pub first_before : JoinedWritten j → Rows
  first_before w = table_at 0 w.old.source

  -- old T
  abbrev pub second_before : JoinedWritten j → Rows
  second_before w = table_at 1 w.old.source

  -- what the operator makes of them
  abbrev pub made : JoinedWritten j → Mapped
  made w = (join_on j).backward w.near w.old w.n

  -- new S
  abbrev pub first_after : JoinedWritten j → Rows
  first_after w = table_at 0 (made w).far

  -- new T
  abbrev pub second_after : JoinedWritten j → Rows
  second_after w = table_at 1 (made w).far

  -- the old pairs
  abbrev pub given_before : JoinedWritten j → Pairs
  given_before w = w.old.memory

  -- the new ones
  abbrev pub given_after : JoinedWritten j → Pairs
  given_after w = (made w).memory

  -- the new table has this row at p, which the old one lacked or had with another T part
  abbrev pub HasNewSecond : JoinedWritten j → ℕ → List Value → Type 0
  HasNewSecond w p row = (row_of (joined_after w) p ≡ Some row) × ((was : List Value) → row_of (joined_before w) p ≡ Some was → pick j.second was ≢ pick j.second row)

-- a row that stays as it was keeps its pair
abbrev pub UnchangedRowKeepsPair : Type 0
UnchangedRowKeepsPair =
    (j : Joining) (w : JoinedWritten j) (p : ℕ)
    → row_of (joined_after w) p ≡ row_of (joined_before w) p → pair_of (given_after w) p ≡ pair_of (given_before w) p

-- a row of S or T in no pair stays as it was
abbrev pub RowInNoPairStays : Type 0
RowInNoPairStays =
    (j : Joining) (w : JoinedWritten j) (id : ℕ) (row : List Value)
    → ((HasFirst (given_before w) id → ⊥) → row_of (first_before w) id ≡ Some row → row_of (first_after w) id ≡ Some row)
    × ((HasSecond (given_before w) id → ⊥) → row_of (second_before w) id ≡ Some row → row_of (second_after w) id ≡ Some row)

-- so does one that stands in a pair: a row of S or T is taken or made, and never changed
abbrev pub RowInAPairIsAsItWas : Type 0
RowInAPairIsAsItWas =
    (j : Joining) (w : JoinedWritten j) (id : ℕ) (row : List Value)
    → (HasFirst (given_after w) id → row_of (first_before w) id ≡ Some row → row_of (first_after w) id ≡ Some row)
    × (HasSecond (given_after w) id → row_of (second_before w) id ≡ Some row → row_of (second_after w) id ≡ Some row)

-- and a row goes with its last pair
abbrev pub RowGoesWithItsLastPair : Type 0
RowGoesWithItsLastPair =
    (j : Joining) (w : JoinedWritten j) (id : ℕ)
    → (HasFirst (given_before w) id → (HasFirst (given_after w) id → ⊥) → row_of (first_after w) id ≡ None)
    × (HasSecond (given_before w) id → (HasSecond (given_after w) id → ⊥) → row_of (second_after w) id ≡ None)

-- equal parts share one row: rows that get the same T part are in pairs with the same row of T
abbrev pub EqualPartsShareARow : Type 0
EqualPartsShareARow =
    (j : Joining) (w : JoinedWritten j) (p q a b c d : ℕ) (x y : List Value)
    → HasNewSecond w p x → HasNewSecond w q y → pick j.second x ≡ pick j.second y
    → pair_of (given_after w) p ≡ Some (a, b) → pair_of (given_after w) q ≡ Some (c, d) → b ≡ d
