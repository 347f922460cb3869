-- What a commit gives, from what its parts gave.
use Rattle.std.proofs.Common.{◌≡◌, ◌≤◌, [], ℕ, List, length, Result, Ok, Err, Option, None, ap, sym, ◌∙◌, subst, append-nil, arith}
use Rattle.par_base.specs.declared.refusal.Refusal.{Refusal}
use Rattle.par_base.specs.declared.fault.Fault.{Fault}
use Rattle.par_base.specs.declared.fault.Fault.TheVariants.{Refused, Memory as OutOfMemory}
use Rattle.session_tx.specs.declared.commit_fault.CommitFault.{CommitFault}
use Rattle.session_tx.specs.declared.commit_fault.CommitFault.TheVariants.{Write}
use Rattle.session_tx.specs.Meaning.{Meaning, Ran, Standing}
use Rattle.session_tx.specs.Calls.{HasRuns, IsSettled, LeadsSettled}
use Rattle.session_tx.specs.Transactions.{TransactionState}
use Rattle.session_tx.specs.Commits.{commit, of_write, read_fault, runs_of, taken_back_times, unless, written, LeadsCommit, LeadsRuns, RanSome, RunsAll, Starved, WasRunAll}
use Rattle.session_tx.proofs.RunLemmas.{back_after, results_length, unsettled_after}

module _ {S M D : Type 0} where
  -- there are as many runs to take back as results
  pub many_left : (old mid : Standing S M) (dones : List D) → Starved old mid dones → length dones ≤ length mid.unsettled
  many_left old mid dones some =
      let a = unsettled_after old some.runs in
      let b = ap (λ (ds : List D). length ds) some.gives ∙ results_length some.runs in
      let c = ap (λ (s : Standing S M). length s.unsettled) some.leaves in
      omega (arith, a, b, c)

  -- they lead back to the start
  pub led_back : (old mid : Standing S M) (dones : List D) → Starved old mid dones → taken_back_times (length dones) mid ≡ old
  led_back old mid dones some =
      ap (λ (n : ℕ). taken_back_times n mid) (ap (λ (ds : List D). length ds) some.gives ∙ results_length some.runs)
      ∙ ap (λ (s : Standing S M). taken_back_times (length some.runs) s) some.leaves
      ∙ back_after old some.runs

module _ {S W M D : Type 0} where
  -- a write refuses it
  pub write_refuses : (m : Meaning S W M D) (s : Standing S M) (t : TransactionState W M) (refusal : Refusal) → read_fault s t.reads ≡ None → runs_of m s.state t.writes ≡ Err refusal → commit m s t ≡ Err (Write refusal)
  write_refuses m s t refusal h k = ap (λ (f : Option CommitFault). unless f (runs_of m s.state t.writes)) h ∙ ap (λ (r : Result (List (Ran S M D)) Refusal). written r) k

  pub was_run_all : (m : Meaning S W M D) (t : TransactionState W M) (old new : Standing S M) (dones : List D) → read_fault old t.reads ≡ None → RanSome m t.writes [] old new dones → WasRunAll m t old new dones
  was_run_all m t old new dones h some = record {
    runs = some.runs;
    commits = ap (λ (f : Option CommitFault). unless f (runs_of m old.state t.writes)) h ∙ ap (λ (r : Result (List (Ran S M D)) Refusal). written r) (some.total ∙ ap (λ (rs : List (Ran S M D)). Ok rs) (append-nil some.runs));
    gives = some.gives;
    leaves = some.leaves;
  }

  -- whatever stopped the writes, what was run leads to a standing from which it can be taken back
  pub runs_left : (Stands : Standing S M → Type 0) (m : Meaning S W M D) (writes : List W) (old : Standing S M) (dones : List D) (fault : Fault Refusal) → RunsAll Stands m writes old dones (Err fault) → (mid : Standing S M) × (Starved old mid dones × Stands mid)
  runs_left Stands m writes old dones (Refused refusal) h = (h.0, (record { runs = h.1.0.runs; gives = h.1.0.gives; leaves = h.1.0.leaves }, h.1.1))
  runs_left Stands m writes old dones (OutOfMemory memory) h = h

  pub many_taken : (Stands : Standing S M → Type 0) (m : Meaning S W M D) (writes : List W) (old : Standing S M) (dones : List D) (fault : Fault Refusal) (count : ℕ) → count ≡ length dones → RunsAll Stands m writes old dones (Err fault) → HasRuns Stands count
  many_taken Stands m writes old dones fault count n h =
      let left = runs_left Stands m writes old dones fault h in
      (left.0, (left.1.1, subst (λ (k : ℕ). k ≤ length left.0.unsettled) (sym n) (many_left old left.0 dones left.1.0)))

  -- once it is taken back, the commit has given the error
  module _ (Left Stands : Standing S M → Type 0) (m : Meaning S W M D) (t : TransactionState W M) (old : Standing S M) (dones : List D) (count : ℕ) (n : count ≡ length dones) (taken : (s : Standing S M) → Left s → count ≤ length s.unsettled → Stands (taken_back_times count s)) where
    stands_again : (mid : Standing S M) → Starved old mid dones → Left mid → Stands old
    stands_again mid some here =
        subst Stands (ap (λ (k : ℕ). taken_back_times k mid) n ∙ led_back old mid dones some)
        (taken mid here (subst (λ (k : ℕ). k ≤ length mid.unsettled) (sym n) (many_left old mid dones some)))

    not_run : (fault : Fault Refusal) → read_fault old t.reads ≡ None → RunsAll Left m t.writes old dones (Err fault) → LeadsRuns Stands m t old (Err (of_write fault))
    not_run (Refused refusal) h runs =
        let left = runs_left Left m t.writes old dones (Refused refusal) runs in
        (write_refuses m old t refusal h runs.1.0.total, stands_again left.0 left.1.0 left.1.1)
    not_run (OutOfMemory memory) h runs = stands_again runs.0 runs.1.0 runs.1.1

    pub answered : (reads : List (M × ℕ)) (writes : List W) (fault : Fault Refusal) (answer : Fault CommitFault) → reads ≡ t.reads → writes ≡ t.writes → answer ≡ of_write fault → None ≡ read_fault old reads → RunsAll Left m writes old dones (Err fault) → LeadsRuns Stands m t old (Err answer)
    answered reads writes fault answer seen kept is free runs =
        subst (λ (a : Fault CommitFault). LeadsRuns Stands m t old (Err a)) (sym is)
        (not_run fault (ap (λ (rs : List (M × ℕ)). read_fault old rs) (sym seen) ∙ sym free) (subst (λ (ws : List W). RunsAll Left m ws old dones (Err fault)) kept runs))

  -- the writes were run
  pub is_run : (Stands : Standing S M → Type 0) (m : Meaning S W M D) (t : TransactionState W M) (old : Standing S M) (dones : List D) (reads : List (M × ℕ)) (writes : List W) → reads ≡ t.reads → writes ≡ t.writes → None ≡ read_fault old reads
      → (new : Standing S M) × (RanSome m writes [] old new dones × Stands new) → LeadsRuns Stands m t old (Ok dones)
  is_run Stands m t old dones reads writes seen kept free ran =
      (ran.0, (was_run_all m t old ran.0 dones (ap (λ (rs : List (M × ℕ)). read_fault old rs) (sym seen) ∙ sym free) (subst (λ (ws : List W). RanSome m ws [] old ran.0 dones) kept ran.1.0), ran.1.1))

  -- and are settled
  pub is_committed : (Left Stands : Standing S M → Type 0) (m : Meaning S W M D) (t : TransactionState W M) (old : Standing S M) (dones : List D) → LeadsRuns Left m t old (Ok dones) → ((s : Standing S M) → Left s → LeadsSettled Stands s) → LeadsCommit Stands m t old (Ok dones)
  is_committed Left Stands m t old dones ran settles =
      let settled = settles ran.0 ran.1.1 in (
        settled.0,
        (record { runs = ran.1.0.runs; commits = ran.1.0.commits; gives = ran.1.0.gives; settled = subst (λ (s : Standing S M). IsSettled s settled.0) ran.1.0.leaves settled.1.0 }, settled.1.1),
      )

  -- an error of running is that of the commit
  pub same_error : (Stands : Standing S M → Type 0) (m : Meaning S W M D) (t : TransactionState W M) (old : Standing S M) (fault : Fault CommitFault) → LeadsRuns {D = D} Stands m t old (Err fault) → LeadsCommit {D = D} Stands m t old (Err fault)
  same_error Stands m t old (Refused fault) h = h
  same_error Stands m t old (OutOfMemory memory) h = h
