-- Which pairs of rows a table shows that joins S and T on a condition, after a write of S and T.
use Rattle.std.specs.Prelude.{◌≡◌, ℕ, List, true, Some, IsSome}
use Rattle.par_base.specs.declared.value.Value.{Value}
use Rattle.expr_lang.specs.Val.{holds_at}
use Rattle.row_store.specs.Rows.{Rows, row_of}
use Rattle.id_memory.specs.Pairs.{Pairs, pair_of}
use Rattle.op_law.specs.Tables.{Tables, Heading}
use Rattle.op_law.specs.Meaning.{PairState}
use Rattle.op_law.specs.Premises.{MayMap}
use Rattle.row_parts.specs.Places.{row_of_both}
use Rattle.pair_rows.specs.Shown.{Joining}
use Rattle.pair_rows.specs.Sides.{table_at}
use Rattle.op_cond_join.specs.JoinOn.{join_on}

-- both rows are there, and the condition holds of the row of both
pub record Matches (j : Joining) (s t : Rows) (a b : ℕ) : Type 0 where
  pub first : List Value
  pub second : List Value
  pub at : row_of s a ≡ Some first
  pub other : row_of t b ≡ Some second
  pub holds : holds_at j.condition (row_of_both j.first j.second first second) ≡ true

-- a memory has the pair, under some identifier
abbrev pub HasPair : Pairs → ℕ → ℕ → Type 0
HasPair m a b = (p : ℕ) × (pair_of m p ≡ Some (a, b))

-- new S and T, over sound old tables that belong together; n is the next identifier
pub record SourcesWritten (j : Joining) : Type 0 where
  pub hs : List Heading
  pub ht : List Heading
  pub near : Tables
  pub old : PairState
  pub n : ℕ
  pub may : MayMap (join_on j) hs ht near old n

-- the sources and the pairs of the joined rows, before the write and after it
module _ {j : Joining} where
  -- old S
  abbrev pub s_before : SourcesWritten j → Rows
  s_before w = table_at 0 w.old.source

  -- old T
  abbrev pub t_before : SourcesWritten j → Rows
  t_before w = table_at 1 w.old.source

  -- new S
  abbrev pub s_after : SourcesWritten j → Rows
  s_after w = table_at 0 w.near

  -- new T
  abbrev pub t_after : SourcesWritten j → Rows
  t_after w = table_at 1 w.near

  -- the old pairs
  abbrev pub pairs_before : SourcesWritten j → Pairs
  pairs_before w = w.old.memory

  -- the new ones
  abbrev pub pairs_after : SourcesWritten j → Pairs
  pairs_after w = ((join_on j).forward w.near w.old w.n).memory

-- a pair whose rows both stay as they were keeps its identifier
abbrev pub UnchangedRowsKeepTheirPair : Type 0
UnchangedRowsKeepTheirPair =
    (j : Joining) (w : SourcesWritten j) (p a b : ℕ)
    → pair_of (pairs_before w) p ≡ Some (a, b)
    → row_of (s_after w) a ≡ row_of (s_before w) a → row_of (t_after w) b ≡ row_of (t_before w) b
    → pair_of (pairs_after w) p ≡ Some (a, b)

-- a deleted pair stays away while it matches: one that matched and wasn't shown isn't shown after the write
abbrev pub DeletedPairStaysAway : Type 0
DeletedPairStaysAway =
    (j : Joining) (w : SourcesWritten j) (a b : ℕ)
    → Matches j (s_before w) (t_before w) a b → (HasPair (pairs_before w) a b → ⊥)
    → HasPair (pairs_after w) a b → ⊥

-- every other pair that matches is shown
abbrev pub MatchIsShown : Type 0
MatchIsShown =
    (j : Joining) (w : SourcesWritten j) (a b : ℕ)
    → Matches j (s_after w) (t_after w) a b → (Matches j (s_before w) (t_before w) a b → HasPair (pairs_before w) a b)
    → HasPair (pairs_after w) a b

-- a pair that matched and matches no more goes
abbrev pub UnmatchedPairGoes : Type 0
UnmatchedPairGoes =
    (j : Joining) (w : SourcesWritten j) (a b : ℕ)
    → Matches j (s_before w) (t_before w) a b → (Matches j (s_after w) (t_after w) a b → ⊥)
    → HasPair (pairs_after w) a b → ⊥

-- a pair that was put there though it doesn't match stays while both its rows are there
abbrev pub PutPairStays : Type 0
PutPairStays =
    (j : Joining) (w : SourcesWritten j) (p a b : ℕ)
    → pair_of (pairs_before w) p ≡ Some (a, b) → (Matches j (s_before w) (t_before w) a b → ⊥)
    → IsSome (row_of (s_after w) a) → IsSome (row_of (t_after w) b)
    → pair_of (pairs_after w) p ≡ Some (a, b)
