use Rattle.std.proofs.Common.{◌≡◌, take}
use Rattle.version_notes.specs.Notes.{notes_by}
use Rattle.version_notes.specs.Runs.{run_note, versions_of}
use Rattle.version_notes.proofs.runs.notes_of.Given as goal

abbrev pub invariant-loop-at : goal.invariant-loop-at
invariant-loop-at g l = l.notes ≡ notes_by (run_note l.graph l.undo) (take l.at (versions_of l.watches.live))
