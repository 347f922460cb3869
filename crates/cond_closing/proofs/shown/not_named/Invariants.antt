use Rattle.std.proofs.Common.{◌≡◌, take, false, true}
use Rattle.op_law.specs.Identifiers.{has_id}
use Rattle.id_closing.specs.Told.{is_changed}
use Rattle.cond_closing.specs.Shown.{EachOf}
use Rattle.cond_closing.proofs.shown.not_named.Given as goal

abbrev pub invariant-loop-id : goal.invariant-loop-id
invariant-loop-id l = EachOf (take l.id-index l.ids) (λ q. is_changed l.changes q ≡ false → has_id l.made q ≡ true)
