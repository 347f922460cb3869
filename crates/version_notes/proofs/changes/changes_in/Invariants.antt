use Rattle.std.specs.Prelude.{filter_map}
use Rattle.std.proofs.Common.{◌≡◌, take}
use Rattle.version_notes.specs.Runs.{changed_table}
use Rattle.version_notes.proofs.changes.changes_in.Given as goal

abbrev pub invariant-loop-number : goal.invariant-loop-number
invariant-loop-number g l = l.tables ≡ filter_map (changed_table l.graph.edges l.undo) (take l.number-index l.numbers)
