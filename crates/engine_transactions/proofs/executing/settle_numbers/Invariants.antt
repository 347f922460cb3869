use Rattle.std.proofs.Common.{◌≡◌, if◌then◌else◌, ℕ, take}
use Rattle.version_model.specs.Kept.{numbers_in}
use Rattle.engine_transactions.specs.Executing.{is_changed_by, HaveNumbers}
use Rattle.tx_history.specs.History.{number_in}
use Rattle.engine_transactions.proofs.executing.settle_numbers.Given as goal

abbrev pub invariant-loop-undo : goal.invariant-loop-undo
invariant-loop-undo l = record {
  rows : HaveNumbers (numbers_in l.fn.numbers.changed) l.undos → (t : ℕ) → number_in l.changed.items t ≡ (if is_changed_by (take l.undo-index l.undos) t then l.last else number_in l.fn.numbers.changed t);
  numbers : numbers_in l.changed.items ≡ numbers_in l.fn.numbers.changed;
}
