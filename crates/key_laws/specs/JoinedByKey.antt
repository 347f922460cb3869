-- What a write of R makes of S and T, where R joins them on a foreign key.
use Rattle.std.specs.Prelude.{◌≡◌, ◌≢◌, ℕ, ◌-◌, ◌≤◌, List, Some, None, IsSome, take, drop}
use Rattle.std.specs.List.{insert}
use Rattle.par_base.specs.declared.value.Value.{Value}
use Rattle.par_base.specs.declared.value.Value.TheVariants.{Reference}
use Rattle.row_store.specs.Rows.{Rows, row_of}
use Rattle.op_law.specs.Tables.{Tables, Heading}
use Rattle.op_law.specs.Meaning.{PairState, Mapped, flip, exchanged}
use Rattle.op_law.specs.Premises.{MayMap}
use Rattle.row_parts.specs.RowEdits.{value_at}
use Rattle.op_tables.specs.SideTables.{first_table, second_table}
use Rattle.op_fk_join.specs.Columns.{join_columns}

-- a new R, over sound old tables that belong together; S has so many columns, T so many, and n is the next identifier
pub record Rewritten (first second place : ℕ) : Type 0 where
  pub hs : List Heading
  pub ht : List Heading
  pub near : Tables
  pub old : PairState
  pub n : ℕ
  pub may : MayMap (flip (join_columns first second place)) ht hs near (exchanged old) n

-- the tables before the write, and after it
module _ {first second place : ℕ} where
  -- old R
  abbrev pub old_r : Rewritten first second place → Rows
  old_r w = first_table w.old.target

  -- old S
  abbrev pub old_s : Rewritten first second place → Rows
  old_s w = first_table w.old.source

  -- old T
  abbrev pub old_t : Rewritten first second place → Rows
  old_t w = second_table w.old.source

  -- new R
  abbrev pub new_r : Rewritten first second place → Rows
  new_r w = first_table w.near

  -- what the operator makes of them
  abbrev pub made : Rewritten first second place → Mapped
  made w = (join_columns first second place).backward w.near w.old w.n

  -- new S
  abbrev pub new_s : Rewritten first second place → Rows
  new_s w = first_table (made w).far

  -- new T
  abbrev pub new_t : Rewritten first second place → Rows
  new_t w = second_table (made w).far

  -- the part of a row of R that is of S: its columns without the foreign key
  abbrev pub s_part : Rewritten first second place → List Value → List Value
  s_part w row = take (first - 1) row

  -- and those of T
  abbrev pub t_part : Rewritten first second place → List Value → List Value
  t_part w row = drop (first - 1) row

  -- new R has this row at p, which old R lacked or had with another T part
  abbrev pub RefersAnew : Rewritten first second place → ℕ → List Value → Type 0
  RefersAnew w p row = (row_of (new_r w) p ≡ Some row) × ((was : List Value) → row_of (old_r w) p ≡ Some was → t_part w was ≢ t_part w row)

  -- new S has p with the S part of the row and this foreign key
  abbrev pub IsKeyed : Rewritten first second place → ℕ → List Value → Value → Type 0
  IsKeyed w p row key = row_of (new_s w) p ≡ Some (insert (s_part w row) place key)

-- a row of R that keeps its T part keeps its reference, whatever becomes of its S part
abbrev pub SamePartKeepsReference : Type 0
SamePartKeepsReference =
    (first second place : ℕ) (w : Rewritten first second place) (p : ℕ) (x was v : List Value)
    → row_of (new_r w) p ≡ Some x → row_of (old_r w) p ≡ Some was → t_part w x ≡ t_part w was
    → row_of (old_s w) p ≡ Some v → IsKeyed w p x (value_at place v)

-- rows of R that get the same T part have the same foreign key
abbrev pub EqualPartsReferAlike : Type 0
EqualPartsReferAlike =
    (first second place : ℕ) (w : Rewritten first second place) (p q : ℕ) (x y : List Value)
    → RefersAnew w p x → RefersAnew w q y → t_part w x ≡ t_part w y
    → (key : Value) × IsKeyed w p x key × IsKeyed w q y key

-- a value that old T has is found: the reference is to the least row with it
abbrev pub LeastRowIsFound : Type 0
LeastRowIsFound =
    (first second place : ℕ) (w : Rewritten first second place) (p q : ℕ) (x : List Value)
    → RefersAnew w p x → row_of (old_t w) q ≡ Some (t_part w x)
    → (k : ℕ) × (k ≤ q) × (row_of (old_t w) k ≡ Some (t_part w x)) × IsKeyed w p x (Reference k)

-- and draws nothing: where old T has each new T part, no identifier is drawn
abbrev pub OldValuesDrawNothing : Type 0
OldValuesDrawNothing =
    (first second place : ℕ) (w : Rewritten first second place)
    → ((p : ℕ) (x : List Value) → RefersAnew w p x → (q : ℕ) × (row_of (old_t w) q ≡ Some (t_part w x)))
    → (made w).next ≡ w.n

-- a row of S that R neither had nor has stays as it was, and so does each row of T
abbrev pub OtherRowsStay : Type 0
OtherRowsStay =
    (first second place : ℕ) (w : Rewritten first second place)
    → ((p : ℕ) → row_of (old_r w) p ≡ None → row_of (new_r w) p ≡ None → row_of (new_s w) p ≡ row_of (old_s w) p)
    × ((q : ℕ) (value : List Value) → row_of (old_t w) q ≡ Some value → row_of (new_t w) q ≡ Some value)

-- a row that R had and has no more goes from S
abbrev pub DeletedRowGoes : Type 0
DeletedRowGoes =
    (first second place : ℕ) (w : Rewritten first second place) (p : ℕ)
    → IsSome (row_of (old_r w) p) → row_of (new_r w) p ≡ None → row_of (new_s w) p ≡ None
