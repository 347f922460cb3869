use Rattle.std.proofs.Common.{◌≡◌, take, drop}
use Rattle.change_feed.specs.Feeds.{events_prepared}
use Rattle.version_notes.specs.Runs.{MayHearAlong, runs_notes}
use Rattle.version_notes.proofs.runs.prepare_runs.Given as goal

abbrev pub invariant-loop-undo : goal.invariant-loop-undo
invariant-loop-undo g l = record {
  ready : l.watches ≡ events_prepared (runs_notes l.graph l.fn.watches.live (take l.undo-index l.runs)) l.fn.watches;
  may : MayHearAlong (runs_notes l.graph l.fn.watches.live (drop l.undo-index l.runs)) l.watches;
}
