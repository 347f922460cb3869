use Rattle.std.proofs.Common.{◌≡◌, ℕ, ◌-◌, ◌^◌, ◌<◌, List, Some, true}
use Rattle.par_base.specs.declared.value.Value.{Value}
use Rattle.row_store.specs.Rows.{row_of}
use Rattle.op_law.specs.Identifiers.{has_id}
use Rattle.table_keys.specs.States.{behind}
use Rattle.id_closing.specs.Found.{AreAmong}
use Rattle.fk_closing.specs.Looking.{goal_at}
use Rattle.fk_closing.proofs.looking.add_refs.Given as goal

abbrev pub invariant-loop-next : goal.invariant-loop-next
invariant-loop-next l = record {
  refs : (p : ℕ) (v : List Value) → p < behind l.after → row_of l.keys.keys p ≡ Some v → goal_at 0 v ≡ Some l.id → has_id l.ids p ≡ true;
  stay : AreAmong l.fn.ids l.ids;
}

abbrev pub decreases-loop-next : goal.decreases-loop-next
decreases-loop-next l = 2 ^ 64 - behind l.after
