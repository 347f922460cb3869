-- The runs of a commit that isn't settled are taken back.
use Rattle.std.proofs.Common.{◌≡◌, ◌+◌, ◌≤◌, ℕ, List, length, ap, sym, ◌∙◌}
use Rattle.session_tx.specs.Meaning.{Meaning, Standing}
use Rattle.session_tx.specs.Transactions.{TransactionState}
use Rattle.session_tx.specs.Commits.{taken_back_times, WasRunAll}
use Rattle.session_tx.proofs.CommitLemmas.{led_back}
use Rattle.session_tx.proofs.RunLemmas.{counted, results_length}

module _ {S W M D : Type 0} (m : Meaning S W M D) (t : TransactionState W M) (old new : Standing S M) (dones : List D) (ran : WasRunAll m t old new dones) where
  -- each of these, and those of before
  pub runs_counted : length new.unsettled ≡ length dones + length old.unsettled
  runs_counted =
      ap (λ (s : Standing S M). length s.unsettled) ran.leaves
      ∙ counted old ran.runs
      ∙ ap (λ (n : ℕ). n + length old.unsettled) (sym (ap (λ (ds : List D). length ds) ran.gives ∙ results_length ran.runs))

  -- and what was there before is there again
  pub runs_back : taken_back_times (length dones) new ≡ old
  runs_back = led_back old new dones (record { runs = ran.runs; gives = ran.gives; leaves = ran.leaves })
