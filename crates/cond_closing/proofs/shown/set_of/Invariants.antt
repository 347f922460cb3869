use Rattle.std.proofs.Common.{◌≡◌, ℕ, take}
use Rattle.op_law.specs.Identifiers.{has_id}
use Rattle.cond_closing.proofs.shown.set_of.Given as goal

abbrev pub invariant-loop-id : goal.invariant-loop-id
invariant-loop-id l = (q : ℕ) → has_id l.made q ≡ has_id (take l.id-index l.ids) q
