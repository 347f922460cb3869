-- Identifiers that are closed in the S and T of an operator on a foreign key, and over changes of these.
use Rattle.std.specs.Prelude.{◌≡◌, ℕ, Bool, true, List, Some}
use Rattle.par_base.specs.declared.value.Value.{Value}
use Rattle.row_store.specs.Rows.{Rows, row_of}
use Rattle.op_law.specs.Identifiers.{has_id}
use Rattle.op_law.specs.Tables.{Tables}
use Rattle.op_tables.specs.SideTables.{first_table, second_table}
use Rattle.row_changes.specs.Changed.{TableChanges, changed_tables}
use Rattle.row_changes.specs.Touched.{EachPass}
use Rattle.foreign_keys.specs.KeyParts.{FkParts}
use Rattle.fk_footprints.specs.Closed.{BringsGoals, BringsWitness, SeesNoChange}

-- CLOSED: a row of S that passes brings the row of T to which it refers, and a row of T to which others refer brings one of these
pub record IsClosed (k : FkParts) (P : ℕ → Bool) (s t : Rows) : Type 0 where
  pub goals : BringsGoals k P s t
  pub witness : BringsWitness k P s t s s

-- of S and T the rows of these identifiers pass, and no others
pub record PassListed (P : ℕ → Bool) (ids : List ℕ) (st : Tables) : Type 0 where
  pub all : (q : ℕ) → has_id ids q ≡ true → P q ≡ true
  pub first : (q : ℕ) (v : List Value) → row_of (first_table st) q ≡ Some v → P q ≡ true → has_id ids q ≡ true
  pub second : (q : ℕ) (u : List Value) → row_of (second_table st) q ≡ Some u → P q ≡ true → has_id ids q ≡ true

-- closed over changes of S and T: all that changes, the rows of S that refer to it, what these refer to, before and after, and a row that stays for each row of T to which others refer
pub record IsClosedOver (k : FkParts) (P : ℕ → Bool) (near : TableChanges) (st : Tables) : Type 0 where
  pub touches : EachPass P near
  pub old_goals : BringsGoals k P (first_table st) (second_table st)
  pub new_goals : BringsGoals k P (first_table (changed_tables st near)) (second_table (changed_tables st near))
  pub others : SeesNoChange k P (first_table st) (second_table st) (second_table (changed_tables st near))
  pub witness : BringsWitness k P (first_table st) (second_table st) (first_table st) (first_table (changed_tables st near))
