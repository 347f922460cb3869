-- Behind a commit nothing is unsettled.
use Rattle.std.specs.Prelude.{Result, Ok, Err, List, []}
use Rattle.std.proofs.Common.{◌≡◌}
use Rattle.par_base.specs.declared.fault.Fault.{Fault}
use Rattle.par_base.specs.declared.fault.Fault.TheVariants.{Refused, Memory}
use Rattle.session_tx.specs.Calls.{IsIdle}
use Rattle.session_tx.specs.Commits.{LeadsCommit}
use Rattle.session_tx.specs.Meaning.{Meaning, Standing}
use Rattle.session_tx.specs.Transactions.{TransactionState}
use Rattle.session_tx.specs.declared.commit_fault.CommitFault.{CommitFault}

pub still_idle : {S W M D : Type 0} (Stands : Standing S M → Type 0) (m : Meaning S W M D) (t : TransactionState W M) (old : Standing S M) (result : Result (List D) (Fault CommitFault))
    → old.unsettled ≡ [] → LeadsCommit Stands m t old result → IsIdle Stands
still_idle Stands m t old (Ok dones) none leads = (leads.0, (leads.1.1, leads.1.0.settled.unsettled))
still_idle Stands m t old (Err (Refused fault)) none leads = (old, (leads.1, none))
still_idle Stands m t old (Err (Memory memory)) none leads = (old, (leads, none))
