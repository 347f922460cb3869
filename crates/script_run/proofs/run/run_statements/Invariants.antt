use Rattle.std.proofs.Common.{◌≡◌, ◌≤◌, true}
use Rattle.engine_feeds.specs.Kept.{kept_in}
use Rattle.engine_feeds.specs.Calls.{standing_of}
use Rattle.script_run.specs.Kept.{Keeps}
use Rattle.script_run.specs.Calls.{RanSoFar, room_in}
use Rattle.script_run.proofs.run.run_statements.Given as goal

abbrev pub invariant-loop-last : goal.invariant-loop-last
invariant-loop-last g l = record {
  so_far : RanSoFar (standing_of l.fn.stream.watched) (g.S.Source.left l.fn.script) (g.S.Source.left l.script) (g.S.Source.faults l.fn.script) (g.S.Source.faults l.script) (g.K.Sink.held l.fn.out) (g.K.Sink.held l.out) l.stream;
  going : l.stream.going ≡ true;
  keeps : Keeps (kept_in l.fn.stream.watched) (kept_in l.stream.watched);
  stays : g.K.Sink.faults l.out ≡ g.K.Sink.faults l.fn.out;
  later : g.S.Source.faults l.fn.script ≤ g.S.Source.faults l.script;
}

abbrev pub decreases-loop-last : goal.decreases-loop-last
decreases-loop-last g l = room_in l.stream
