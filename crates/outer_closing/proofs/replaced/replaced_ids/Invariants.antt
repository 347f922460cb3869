use Rattle.std.proofs.Common.{◌≡◌, ℕ, take}
use Rattle.op_law.specs.Identifiers.{has_id}
use Rattle.outer_closing.specs.Shared.{is_replaced}
use Rattle.outer_closing.proofs.replaced.replaced_ids.Given as goal

abbrev pub invariant-loop-change : goal.invariant-loop-change
invariant-loop-change l = (q : ℕ) → has_id l.ids q ≡ is_replaced (take l.change-index l.changes) q
