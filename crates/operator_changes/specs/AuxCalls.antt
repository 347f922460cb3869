-- What changing auxiliary tables supposes and answers.
use Rattle.std.specs.Prelude.{ℕ, ◌+◌, ◌*◌, ◌≤◌, List, length}
use Rattle.op_law.specs.Tables.{Heading}
use Rattle.op_law.specs.Meaning.{Meaning, PairState}
use Rattle.op_law.specs.Premises.{IsPair}
use Rattle.row_changes.specs.Changed.{TableChanges, AreChangesOf, changed_tables}
use Rattle.row_changes.specs.Touched.{touched, touched_over}

-- the pair with these changes of its sides
abbrev pub changed_pair : PairState → TableChanges → TableChanges → PairState
changed_pair p near far = record { source = changed_tables p.source near; target = changed_tables p.target far; memory = p.memory }

-- both pairs are related, and each old row is that of the old one
pub record MayChangePair (m : Meaning) (near far : TableChanges) (p : PairState) : Type 0 where
  pub hs : List Heading
  pub ht : List Heading
  pub old : IsPair m hs ht p
  pub new : IsPair m hs ht (changed_pair p near far)
  pub near_fit : AreChangesOf p.source near
  pub far_fit : AreChangesOf p.target far

-- the identifiers that the changes of both sides name
abbrev pub touched_both : TableChanges → TableChanges → List ℕ
touched_both near far = touched_over far (touched near)

-- at most eight steps for each of these identifiers
abbrev pub AuxWithin : TableChanges → TableChanges → ℕ → ℕ → Type 0
AuxWithin near far old new = new ≤ old + 8 * length (touched_both near far)
