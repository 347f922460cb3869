-- What a write of R makes of S and T, where R is decomposed into them on a foreign key.
use Rattle.std.specs.Prelude.{◌≡◌, ◌≢◌, ℕ, ◌≤◌, ◌⊎◌, List, Some, None, IsSome, length}
use Rattle.std.specs.List.{insert}
use Rattle.par_base.specs.declared.value.Value.{Value}
use Rattle.par_base.specs.declared.value.Value.TheVariants.{Null, Reference}
use Rattle.row_store.specs.Rows.{Rows, row_of}
use Rattle.op_law.specs.Tables.{Tables, Heading}
use Rattle.op_law.specs.Meaning.{PairState, Mapped}
use Rattle.op_law.specs.Premises.{MayMap}
use Rattle.row_parts.specs.Places.{pick, nulls}
use Rattle.row_parts.specs.RowEdits.{value_at}
use Rattle.op_tables.specs.SideTables.{first_table, second_table}
use Rattle.op_fk_decompose.specs.Columns.{decompose_columns}
use Rattle.key_laws.specs.Referring.{IsUsed, IsAlone}

-- a new R, over sound old tables that belong together; n is the next identifier
pub record Written (first second : List ℕ) (place : ℕ) : Type 0 where
  pub hs : List Heading
  pub ht : List Heading
  pub near : Tables
  pub old : PairState
  pub n : ℕ
  pub may : MayMap (decompose_columns first second place) hs ht near old n

-- the tables before the write, and after it
module _ {first second : List ℕ} {place : ℕ} where
  -- old R
  abbrev pub old_r : Written first second place → Rows
  old_r w = first_table w.old.source

  -- old S
  abbrev pub old_s : Written first second place → Rows
  old_s w = first_table w.old.target

  -- old T
  abbrev pub old_t : Written first second place → Rows
  old_t w = second_table w.old.target

  -- new R
  abbrev pub new_r : Written first second place → Rows
  new_r w = first_table w.near

  -- what the operator makes of them
  abbrev pub made : Written first second place → Mapped
  made w = (decompose_columns first second place).forward w.near w.old w.n

  -- new S
  abbrev pub new_s : Written first second place → Rows
  new_s w = first_table (made w).far

  -- new T
  abbrev pub new_t : Written first second place → Rows
  new_t w = second_table (made w).far

  -- old S had p, and old R showed another T part there
  pub record HadAnotherPart (w : Written first second place) (p : ℕ) (row : List Value) : Type 0 where
    pub was : List Value
    pub shown : row_of (old_r w) p ≡ Some was
    pub kept : IsSome (row_of (old_s w) p)
    pub other : pick second was ≢ pick second row

  -- new R has this row at p, which old R lacked or showed with another T part
  abbrev pub HasNewPart : Written first second place → ℕ → List Value → Type 0
  HasNewPart w p row = (row_of (new_r w) p ≡ Some row) × ((row_of (old_r w) p ≡ None) ⊎ HadAnotherPart w p row)

  -- new S has p with the S part of the row and this foreign key
  abbrev pub HasKey : Written first second place → ℕ → List Value → Value → Type 0
  HasKey w p row key = row_of (new_s w) p ≡ Some (insert (pick first row) place key)

  -- old T has this value at q, in a row that isn't alone
  abbrev pub StandsAt : Written first second place → List Value → ℕ → Type 0
  StandsAt w value q = (row_of (old_t w) q ≡ Some value) × IsUsed place (old_s w) q

-- a row of R that stays as it was keeps its row of S, and so its reference
abbrev pub UnchangedKeepsReference : Type 0
UnchangedKeepsReference =
    (first second : List ℕ) (place : ℕ) (w : Written first second place) (p : ℕ)
    → row_of (new_r w) p ≡ row_of (old_r w) p → row_of (new_s w) p ≡ row_of (old_s w) p

-- so does one whose T part stays as it was, whatever becomes of its S part
abbrev pub SamePartKeepsKey : Type 0
SamePartKeepsKey =
    (first second : List ℕ) (place : ℕ) (w : Written first second place) (p : ℕ) (x was v : List Value)
    → row_of (new_r w) p ≡ Some x → row_of (old_r w) p ≡ Some was → pick second x ≡ pick second was
    → row_of (old_s w) p ≡ Some v → HasKey w p x (value_at place v)

-- equal parts share one row: rows of R that get the same T part have the same foreign key
abbrev pub EqualPartsShare : Type 0
EqualPartsShare =
    (first second : List ℕ) (place : ℕ) (w : Written first second place) (p q : ℕ) (x y : List Value)
    → HasNewPart w p x → HasNewPart w q y → pick second x ≡ pick second y
    → (key : Value) × HasKey w p x key × HasKey w q y key

-- a null part has no row: the foreign key is null
abbrev pub NullPartRefersToNone : Type 0
NullPartRefersToNone =
    (first second : List ℕ) (place : ℕ) (w : Written first second place) (p : ℕ) (x : List Value)
    → HasNewPart w p x → pick second x ≡ nulls (length second) → HasKey w p x Null

-- a value that a row which isn't alone has is found: the reference is to the least such row
abbrev pub KnownValueIsFound : Type 0
KnownValueIsFound =
    (first second : List ℕ) (place : ℕ) (w : Written first second place) (p q : ℕ) (x : List Value)
    → HasNewPart w p x → pick second x ≢ nulls (length second) → StandsAt w (pick second x) q
    → (k : ℕ) × (k ≤ q) × StandsAt w (pick second x) k × HasKey w p x (Reference k)

-- and draws nothing: where each new T part is null or stands in such a row, no identifier is drawn
abbrev pub KnownValueDrawsNothing : Type 0
KnownValueDrawsNothing =
    (first second : List ℕ) (place : ℕ) (w : Written first second place)
    → ((p : ℕ) (x : List Value) → HasNewPart w p x → (pick second x ≡ nulls (length second)) ⊎ ((q : ℕ) × StandsAt w (pick second x) q))
    → (made w).next ≡ w.n

-- an alone row that gets an S part is its own row of T: S refers to it under its identifier
abbrev pub AloneRefersToItself : Type 0
AloneRefersToItself =
    (first second : List ℕ) (place : ℕ) (w : Written first second place) (p : ℕ) (x : List Value)
    → IsAlone place (old_s w) (old_t w) p → row_of (new_r w) p ≡ Some x → pick first x ≢ nulls (length first)
    → HasKey w p x (Reference p) × (row_of (new_t w) p ≡ Some (pick second x))

-- and one that gets none stays alone, with its new T part
abbrev pub AloneStaysAlone : Type 0
AloneStaysAlone =
    (first second : List ℕ) (place : ℕ) (w : Written first second place) (p : ℕ) (x : List Value)
    → IsAlone place (old_s w) (old_t w) p → row_of (new_r w) p ≡ Some x → pick first x ≡ nulls (length first)
    → (row_of (new_s w) p ≡ None) × (row_of (new_t w) p ≡ Some (pick second x))

-- a row of T that isn't alone stays as it was while S has its identifier or refers to it, and else goes
abbrev pub RowGoesWithItsLastReference : Type 0
RowGoesWithItsLastReference =
    (first second : List ℕ) (place : ℕ) (w : Written first second place) (q : ℕ) (value : List Value)
    → StandsAt w value q
    → (IsUsed place (new_s w) q → row_of (new_t w) q ≡ Some value)
    × ((IsUsed place (new_s w) q → ⊥) → row_of (new_t w) q ≡ None)
