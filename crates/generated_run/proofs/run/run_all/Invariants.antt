use Rattle.std.proofs.Common.{◌-◌, suc, length}
use Rattle.script_run.specs.TransactionsKept.{kept_in}
use Rattle.script_run.specs.TransactionsCalls.{standing_of}
use Rattle.script_generator.specs.Generated.{generated_script}
use Rattle.script_run.specs.Kept.{Keeps}
use Rattle.generated_run.proofs.RunLemmas.{SoFar}
use Rattle.generated_run.proofs.run.run_all.Given as goal

abbrev pub invariant-loop-statement : goal.invariant-loop-statement
invariant-loop-statement g l = record {
  so_far : SoFar (standing_of l.fn.transactions) (standing_of l.transactions) (generated_script l.n) l.tally;
  keeps : Keeps (kept_in l.fn.transactions) (kept_in l.transactions);
}

abbrev pub decreases-loop-statement : goal.decreases-loop-statement
decreases-loop-statement g l = suc (length (generated_script l.n)) - l.tally.statements
