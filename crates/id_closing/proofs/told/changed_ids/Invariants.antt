use Rattle.std.proofs.Common.{◌≡◌, ℕ, take}
use Rattle.op_law.specs.Identifiers.{has_id}
use Rattle.id_closing.specs.Told.{is_changed}
use Rattle.id_closing.proofs.told.changed_ids.Given as goal

abbrev pub invariant-loop-change : goal.invariant-loop-change
invariant-loop-change l = (q : ℕ) → has_id l.ids q ≡ is_changed (take l.change-index l.changes) q
