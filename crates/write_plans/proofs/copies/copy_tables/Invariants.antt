use Rattle.std.proofs.Common.{◌≡◌, take}
use Rattle.version_model.specs.Kept.{rows_now}
use Rattle.db_state.specs.Parts.{seen_of}
use Rattle.write_plans.specs.Calls.{beside, told_rows}
use Rattle.write_plans.proofs.copies.copy_tables.Given as goal

abbrev pub invariant-loop-number : goal.invariant-loop-number
invariant-loop-number l = told_rows l.copies ≡ beside (seen_of l.sight (rows_now l.kept l.made)) (take l.number-index l.numbers)
