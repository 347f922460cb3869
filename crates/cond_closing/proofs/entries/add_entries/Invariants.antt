use Rattle.std.proofs.Common.{◌≡◌, ◌-◌, ◌^◌, ◌<◌, true}
use Rattle.op_law.specs.Identifiers.{has_id}
use Rattle.pair_rows.specs.Halves.{pick_of}
use Rattle.table_keys.specs.States.{behind}
use Rattle.id_closing.specs.Found.{AreAmong}
use Rattle.cond_closing.specs.Entries.{IsEntry, other_of}
use Rattle.cond_closing.proofs.EntryLemmas.{Triple}
use Rattle.cond_closing.proofs.entries.add_entries.Given as goal

abbrev pub invariant-loop-entry : goal.invariant-loop-entry
invariant-loop-entry l = record {
  entries : (d : Triple) → IsEntry l.memory.entries d → pick_of l.half d ≡ l.id → other_of l.half d < behind l.after → has_id l.ids d.0 ≡ true;
  stay : AreAmong l.fn.ids l.ids;
}

abbrev pub decreases-loop-entry : goal.decreases-loop-entry
decreases-loop-entry l = 2 ^ 64 - behind l.after
