use Rattle.std.proofs.Common.{◌≡◌, take}
use Rattle.version_model.specs.Kept.{pairs_at}
use Rattle.db_state.specs.Parts.{entries_of}
use Rattle.write_plans.specs.Calls.{beside, told_pairs}
use Rattle.write_plans.proofs.copies.copy_memories.Given as goal

abbrev pub invariant-loop-number : goal.invariant-loop-number
invariant-loop-number l = told_pairs l.copies ≡ beside (entries_of l.sight (pairs_at l.kept)) (take l.number-index l.numbers)
