use Rattle.std.proofs.Common.{◌≡◌, map, take}
use Rattle.row_store.specs.declared.change.Change.{Change}
use Rattle.write_plans.proofs.planning.named_ids.Given as goal

abbrev pub invariant-loop-change : goal.invariant-loop-change
invariant-loop-change l = l.ids ≡ map (λ (change : Change). change.id) (take l.change-index l.changes)
