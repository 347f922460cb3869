-- The note of one more watch's version.
use Rattle.version_notes.specs.Runs.{run_note}
use Rattle.version_notes.proofs.ListLemmas.{next_version}
use Rattle.version_notes.proofs.runs.notes_of.Goals as goal

pub loop-at-preserved : goal.loop-at-preserved
loop-at-preserved g c =
    next_version (run_note c.args.graph.now c.args.undo.now) c.args.watches.now.live c.loop-at.at c.version_at.result.now c.loop-at.notes c.push_note.new.notes c.version_at.ensures c.loop-at.invariant c.in_ok-push_note.ensures
