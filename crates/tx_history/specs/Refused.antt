-- Why a commit is refused.
use Rattle.std.specs.Prelude.{ℕ, ◌++◌, List, [], codes, slice_get}
use Rattle.std.specs.Option.{option_map_or}
use Rattle.par_base.specs.declared.refusal.Refusal.{Refusal}
use Rattle.par_base.specs.declared.refusal.Refusal.TheVariants.{HistorySpent, Stale}
use Rattle.session_tx.specs.declared.commit_fault.CommitFault.{CommitFault}
use Rattle.session_tx.specs.declared.commit_fault.CommitFault.TheVariants as fault
use Rattle.tx_history.specs.declared.table_read.TableRead.{TableRead}

-- the table of a read, as it is told: `tasky.task`
abbrev pub told_read : TableRead → List ℕ
told_read read = read.version ++ codes "." ++ read.name

-- why a commit is refused, where these were the reads
abbrev pub refusal_of : List (TableRead × ℕ) → CommitFault → Refusal
refusal_of reads fault.HistorySpent = HistorySpent
refusal_of reads (fault.Stale index read changed) = Stale (option_map_or (λ (r : TableRead × ℕ). told_read r.0) (slice_get reads index) []) read changed
refusal_of reads (fault.Write refusal) = refusal
