-- Whether a source belongs to a target, auxiliary tables and a memory.
use Rattle.std.specs.Prelude.{◌≡◌, [], ◌∷◌, length, Option, Some, None}
use Rattle.row_store.specs.Rows.{Rows, RiseFrom}
use Rattle.id_memory.specs.Pairs.{Pairs}
use Rattle.op_law.specs.Tables.{Tables, RowsWide}
use Rattle.pair_rows.specs.Shown.{Joining, AreThere, joined}
use Rattle.pair_rows.specs.Halves.{first_of, second_of}
use Rattle.pair_rows.specs.Kept.{alone, side_read}
use Rattle.op_cond_join.specs.declared.join.JoinOn.{JoinOn}
use Rattle.op_cond_join.specs.declared.reading.KeptTarget.{KeptTarget}
use Rattle.op_cond_join.specs.Joinings.{joining}

-- the rows of s and t are as wide as their columns, the pairs are ones of rows that are there, the target has the joined rows, and the auxiliary tables have the rows in no pair
pub record IsSource (j : Joining) (r : Rows) (m : Pairs) (first second s t : Rows) : Type 0 where
  pub first_wide : RowsWide (length j.first) s
  pub second_wide : RowsWide (length j.second) t
  pub there : AreThere s t m
  pub rows : joined j s t m ≡ r
  pub first_alone : alone first_of m s ≡ first
  pub second_alone : alone second_of m t ≡ second

-- the tables of the source that are read
abbrev pub first_read : JoinOn → KeptTarget → Rows
first_read join it = side_read first_of join.first it.rows.now.rows it.memory.now.entries it.first_alone.now.rows

abbrev pub second_read : JoinOn → KeptTarget → Rows
second_read join it = side_read second_of join.second it.rows.now.rows it.memory.now.entries it.second_alone.now.rows

-- whether s and t belong to a target
abbrev pub IsSourceOf : JoinOn → KeptTarget → (s t : Rows) → Type 0
IsSourceOf join it s t = IsSource (joining join) it.rows.now.rows it.memory.now.entries it.first_alone.now.rows it.second_alone.now.rows s t

-- they are answered exactly where they belong to it
abbrev pub AnswersSource : (j : Joining) (r : Rows) (m : Pairs) (first second s t : Rows) → Option Tables → Type 0
AnswersSource j r m first second s t None = IsSource j r m first second s t → ⊥
AnswersSource j r m first second s t (Some far) = (far ≡ s ∷ t ∷ []) × RiseFrom 0 s × RiseFrom 0 t × IsSource j r m first second s t

-- the same of a target with what is kept beside it
abbrev pub AnswersFor : JoinOn → KeptTarget → (s t : Rows) → Option Tables → Type 0
AnswersFor join it s t source = AnswersSource (joining join) it.rows.now.rows it.memory.now.entries it.first_alone.now.rows it.second_alone.now.rows s t source
