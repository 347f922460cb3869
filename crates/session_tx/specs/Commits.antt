-- What a commit gives.
use Rattle.std.specs.Prelude.{◌≡◌, ◌+◌, ◌==◌, ◌&&◌, ◌≤◌, ℕ, zero, suc, ⊤, not, nat_lt, List, [], ◌∷◌, ◌++◌, length, map, if◌then◌else◌, Option, Some, None, Result, Ok, Err}
use Rattle.par_base.specs.declared.fault.Fault.{Fault}
use Rattle.par_base.specs.declared.fault.Fault.TheVariants.{Refused, Memory as OutOfMemory}
use Rattle.par_base.specs.declared.refusal.Refusal.{Refusal}
use Rattle.session_tx.specs.declared.commit_fault.CommitFault.{CommitFault}
use Rattle.session_tx.specs.declared.commit_fault.CommitFault.TheVariants.{HistorySpent, Stale, Write}
use Rattle.session_tx.specs.Meaning.{Meaning, Ran, Standing}
use Rattle.session_tx.specs.Calls.{after_run, last_number, taken_back, IsSettled}
use Rattle.session_tx.specs.Transactions.{TransactionState}

-- ---- WHAT WAS READ

-- the first read, from this place on, of which what its mark names has changed since
abbrev pub first_stale : {M : Type 0} → (M → ℕ) → ℕ → List (M × ℕ) → Option CommitFault
first_stale last index [] = None
first_stale last index (r ∷ rs) = if nat_lt r.1 (last r.0) then Some (Stale index r.1 (last r.0)) else first_stale last (index + 1) rs

-- why the reads alone refuse the commit
abbrev pub read_fault : {S M : Type 0} → Standing S M → List (M × ℕ) → Option CommitFault
read_fault s reads = if not (length reads == 0) && s.history == last_number then Some HistorySpent else first_stale s.last 0 reads

-- ---- WHAT IS WRITTEN

-- these runs, and then what is left
abbrev pub with_runs : {S M D : Type 0} → List (Ran S M D) → Result (List (Ran S M D)) Refusal → Result (List (Ran S M D)) Refusal
with_runs runs (Ok more) = Ok (runs ++ more)
with_runs runs (Err refusal) = Err refusal

-- what a write gives, and then what is left gives in the state after it
abbrev pub running : {S M D : Type 0} → Result (Ran S M D) Refusal → (S → Result (List (Ran S M D)) Refusal) → Result (List (Ran S M D)) Refusal
running (Ok ran) others = with_runs (ran ∷ []) (others ran.next)
running (Err refusal) others = Err refusal

-- THE WRITES RUN IN ORDER from a state, or the refusal of the first that is refused
abbrev pub runs_of : {S W M D : Type 0} → Meaning S W M D → S → List W → Result (List (Ran S M D)) Refusal
runs_of m state [] = Ok []
runs_of m state (write ∷ writes) = running (m state write) (λ next. runs_of m next writes)

-- the standing after some runs, none of which is settled
abbrev pub after_runs : {S M D : Type 0} → Standing S M → List (Ran S M D) → Standing S M
after_runs s [] = s
after_runs s (ran ∷ runs) = after_runs (after_run s ran) runs

-- the results of runs
abbrev pub results : {S M D : Type 0} → List (Ran S M D) → List D
results {S} {M} {D} runs = map (λ (ran : Ran S M D). ran.done) runs

-- ---- THE COMMIT

-- the runs of a write's commit, unless one is refused
abbrev pub written : {S M D : Type 0} → Result (List (Ran S M D)) Refusal → Result (List (Ran S M D)) CommitFault
written (Ok runs) = Ok runs
written (Err refusal) = Err (Write refusal)

-- what is written, unless the reads refuse it
abbrev pub unless : {S M D : Type 0} → Option CommitFault → Result (List (Ran S M D)) Refusal → Result (List (Ran S M D)) CommitFault
unless (Some fault) runs = Err fault
unless None runs = written runs

-- A COMMIT: the runs of the writes, or the refusal: first for a spent history, then for the first stale read, then for the first refused write
abbrev pub commit : {S W M D : Type 0} → Meaning S W M D → Standing S M → TransactionState W M → Result (List (Ran S M D)) CommitFault
commit m s t = unless (read_fault s t.reads) (runs_of m s.state t.writes)

-- the error of a write, as that of its commit
abbrev pub of_write : Fault Refusal → Fault CommitFault
of_write (Refused refusal) = Refused (Write refusal)
of_write (OutOfMemory memory) = OutOfMemory memory

-- the writes were run, and are settled
pub record WasCommitted {S W M D : Type 0} (m : Meaning S W M D) (t : TransactionState W M) (old new : Standing S M) (dones : List D) : Type 0 where
  pub runs : List (Ran S M D)
  pub commits : commit m old t ≡ Ok runs
  pub gives : dones ≡ results runs
  pub settled : IsSettled (after_runs old runs) new

-- the answer of a commit from a standing, which leads to another one: it is refused exactly where the commit is, and after an error all is as before
abbrev pub LeadsCommit : {S W M D : Type 0} → (Standing S M → Type 0) → Meaning S W M D → TransactionState W M → Standing S M → Result (List D) (Fault CommitFault) → Type 0
LeadsCommit {S} {W} {M} {D} Stands m t old (Ok dones) = (new : Standing S M) × (WasCommitted m t old new dones × Stands new)
LeadsCommit Stands m t old (Err (Refused fault)) = (commit m old t ≡ Err fault) × Stands old
LeadsCommit Stands m t old (Err (OutOfMemory memory)) = Stands old

-- ---- A COMMIT THAT IS STILL TO BE SETTLED

-- the writes were run, and aren't settled
pub record WasRunAll {S W M D : Type 0} (m : Meaning S W M D) (t : TransactionState W M) (old new : Standing S M) (dones : List D) : Type 0 where
  pub runs : List (Ran S M D)
  pub commits : commit m old t ≡ Ok runs
  pub gives : dones ≡ results runs
  pub leaves : new ≡ after_runs old runs

-- the answer of such a commit from a standing, which leads to another one: it is refused exactly where the commit is, and after an error all is as before
abbrev pub LeadsRuns : {S W M D : Type 0} → (Standing S M → Type 0) → Meaning S W M D → TransactionState W M → Standing S M → Result (List D) (Fault CommitFault) → Type 0
LeadsRuns {S} {W} {M} {D} Stands m t old (Ok dones) = (new : Standing S M) × (WasRunAll m t old new dones × Stands new)
LeadsRuns Stands m t old (Err (Refused fault)) = (commit m old t ≡ Err fault) × Stands old
LeadsRuns Stands m t old (Err (OutOfMemory memory)) = Stands old

-- ---- WHAT INNER CALLS DO

-- the newest runs taken back, so many
abbrev pub taken_back_times : {S M : Type 0} → ℕ → Standing S M → Standing S M
taken_back_times zero s = s
taken_back_times (suc n) s = taken_back (taken_back_times n s)

-- one write was run, and its result stands behind the others
pub record RanOne {S W M D : Type 0} (m : Meaning S W M D) (write : W) (old new : Standing S M) (before after : List D) : Type 0 where
  pub ran : Ran S M D
  pub meant : m old.state write ≡ Ok ran
  pub gives : after ≡ before ++ ran.done ∷ []
  pub leaves : new ≡ after_run old ran

abbrev pub RunsOne : {S W M D : Type 0} → (Standing S M → Type 0) → Meaning S W M D → W → Standing S M → List D → List D → Result ⊤ (Fault Refusal) → Type 0
RunsOne {S} {W} {M} {D} Stands m write old before after (Ok _) = (new : Standing S M) × (RanOne m write old new before after × Stands new)
RunsOne Stands m write old before after (Err (Refused refusal)) = (m old.state write ≡ Err refusal) × (Stands old × (after ≡ before))
RunsOne Stands m write old before after (Err (OutOfMemory memory)) = Stands old × (after ≡ before)

-- the first writes were run: with their runs, all writes give what is left of them gives
pub record RanSome {S W M D : Type 0} (m : Meaning S W M D) (writes left : List W) (old new : Standing S M) (dones : List D) : Type 0 where
  pub runs : List (Ran S M D)
  pub total : runs_of m old.state writes ≡ with_runs runs (runs_of m new.state left)
  pub gives : dones ≡ results runs
  pub leaves : new ≡ after_runs old runs

-- some writes were run, and then one was refused
pub record Stopped {S W M D : Type 0} (m : Meaning S W M D) (writes : List W) (old new : Standing S M) (dones : List D) (refusal : Refusal) : Type 0 where
  pub total : runs_of m old.state writes ≡ Err refusal
  pub runs : List (Ran S M D)
  pub gives : dones ≡ results runs
  pub leaves : new ≡ after_runs old runs

-- some writes were run, and then memory ran out
pub record Starved {S M D : Type 0} (old new : Standing S M) (dones : List D) : Type 0 where
  pub runs : List (Ran S M D)
  pub gives : dones ≡ results runs
  pub leaves : new ≡ after_runs old runs

abbrev pub RunsAll : {S W M D : Type 0} → (Standing S M → Type 0) → Meaning S W M D → List W → Standing S M → List D → Result ⊤ (Fault Refusal) → Type 0
RunsAll {S} {W} {M} {D} Stands m writes old dones (Ok _) = (new : Standing S M) × (RanSome m writes [] old new dones × Stands new)
RunsAll {S} {W} {M} {D} Stands m writes old dones (Err (Refused refusal)) = (new : Standing S M) × (Stopped m writes old new dones refusal × Stands new)
RunsAll {S} {W} {M} {D} Stands m writes old dones (Err (OutOfMemory memory)) = (new : Standing S M) × (Starved old new dones × Stands new)

-- from each standing at the start the first writes were run, and here is where they led
abbrev pub RanFrom : {S W M D : Type 0} → (Standing S M → Type 0) → (Standing S M → Type 0) → Meaning S W M D → List W → List W → List D → Type 0
RanFrom {S} {W} {M} {D} Began Stands m writes left dones = (s : Standing S M) → Began s → (new : Standing S M) × (RanSome m writes left s new dones × Stands new)

-- from each standing at the start that has enough runs, so many were taken back
abbrev pub TakenFrom : {S M : Type 0} → (Standing S M → Type 0) → (Standing S M → Type 0) → ℕ → ℕ → Type 0
TakenFrom {S} {M} Began Stands enough count = (s : Standing S M) → Began s → enough ≤ length s.unsettled → Stands (taken_back_times count s)

-- in each standing the first stale read is one of what is left
abbrev pub ReadFrom : {S M : Type 0} → (Standing S M → Type 0) → List (M × ℕ) → List (M × ℕ) → ℕ → Type 0
ReadFrom {S} {M} Stands reads left index = (s : Standing S M) → Stands s → first_stale s.last 0 reads ≡ first_stale s.last index left
