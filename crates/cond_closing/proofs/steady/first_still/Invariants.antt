use Rattle.std.proofs.Common.{◌≡◌, ◌-◌, ◌^◌, ◌<◌, ◌≤◌, false}
use Rattle.pair_rows.specs.Halves.{pick_of}
use Rattle.table_keys.specs.States.{behind}
use Rattle.cond_closing.specs.Entries.{IsEntry, other_of}
use Rattle.cond_closing.specs.Steady.{stays}
use Rattle.cond_closing.proofs.EntryLemmas.{Triple}
use Rattle.cond_closing.proofs.steady.first_still.Given as goal

abbrev pub invariant-loop-entry : goal.invariant-loop-entry
invariant-loop-entry l = record {
  low : behind l.fn.after ≤ behind l.last;
  passed : (d : Triple) → IsEntry l.it.entries d → pick_of l.half d ≡ l.id → behind l.fn.after ≤ other_of l.half d → other_of l.half d < behind l.last → stays l.it d ≡ false;
}

abbrev pub decreases-loop-entry : goal.decreases-loop-entry
decreases-loop-entry l = 2 ^ 64 - behind l.last
