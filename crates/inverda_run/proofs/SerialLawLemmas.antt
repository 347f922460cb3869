-- Committed transactions of a run answer as one after the other.
use Rattle.std.specs.Prelude.{Option, Some, None}
use Rattle.std.proofs.Common.{◌≡◌, ℕ, List, [], ◌∷◌, refl, sym, subst, ◌∙◌}
use Rattle.statements.specs.Views.{StatementView}
use Rattle.watch_laws.specs.Beside.{OthersAreAnswered, StandsBeside}
use Rattle.generated_run.specs.Standing.{Standing}
use Rattle.generated_run.specs.Act.{act}
use Rattle.generated_run.specs.Output.{next_state, state_after}
use Rattle.transaction_laws.specs.Laws.{DatabasesAreOrderly, EmptyIsOrderly, TransactionsAreSerial}
use Rattle.transaction_laws.specs.Serial.{OneAfterTheOther, end_of}
use Rattle.inverda_run.specs.ScriptLaws.{RunsAreSerial}
use Rattle.inverda_run.specs.Starts.{StartsBy, Told}
use Rattle.inverda_run.proofs.LoadedLemmas.{loaded_counted, loaded_leads}
use Rattle.inverda_run.proofs.ScriptLawLemmas.{stands_database}

-- where a script ends
ends_there : (s : Standing) (xs : List StatementView) → end_of s xs ≡ state_after s xs
unfolding end_of state_after
ends_there s [] = refl
ends_there s (x ∷ xs) = ends_there (next_state s (act s x)) xs

module _ (serial : TransactionsAreSerial) (empty : EmptyIsOrderly) (loaded : DatabasesAreOrderly) (stands : StandsBeside) (answered : OthersAreAnswered) where
  start_serial : (told : Told) (load : Option (List ℕ)) (max_id : ℕ) (from : Standing) → StartsBy told load max_id from → (xs : List StatementView) → OneAfterTheOther from xs
  start_serial told None max_id from is xs = subst (λ (s : Standing). OneAfterTheOther s xs) (sym is) (serial _ xs (empty max_id))
  start_serial told (Some name) max_id from is xs =
      let kept = is.kept in
      let stands = is.dump.2 in
      subst (λ (s : Standing). OneAfterTheOther s xs) (sym is.state)
      (serial _ xs (loaded kept.database kept.counts kept.pending (stands_database stands) (loaded_counted is.dump.0 kept stands) (loaded_leads is.dump.0 kept stands)))

  pub runs_serial : RunsAreSerial
  runs_serial words told waiting asked from starts xs =
      (start_serial told asked.load asked.max_id from.transactions starts.start xs, ends_there from.transactions xs ∙ sym (stands from xs), answered from xs)
