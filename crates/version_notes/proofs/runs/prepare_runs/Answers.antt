-- The watches of one run more.
use Rattle.std.proofs.Common.{ap, ◌∙◌, take}
use Rattle.change_feed.specs.Watches.{all_cleared}
use Rattle.version_notes.proofs.RunLaws.{cleared_prepared, next_may, next_ready, rest_may}
use Rattle.version_notes.specs.Runs.{runs_notes}
use Rattle.version_notes.proofs.runs.prepare_runs.Goals as goal

pub prepare_run-requires : goal.prepare_run-requires
prepare_run-requires g c =
    next_may c.args.graph.now c.args.watches.now c.loop-undo.watches c.args.runs.now c.loop-undo.undo-index c.undo-item.result c.undo-item.is c.loop-undo-test.true c.loop-undo.invariant.ready c.loop-undo.invariant.may

pub returns-in-Err-clause-err : goal.returns-in-Err-clause-err
returns-in-Err-clause-err g c =
    c.clear_all.ensures ∙ ap all_cleared (c.in-Err.ensures.err ∙ c.loop-undo.invariant.ready)
    ∙ cleared_prepared (runs_notes c.args.graph.now c.args.watches.now.live (take c.loop-undo.undo-index c.args.runs.now)) c.args.watches.now

pub loop-undo-preserved : goal.loop-undo-preserved
loop-undo-preserved g c = record {
  ready = next_ready c.args.graph.now c.args.watches.now c.loop-undo.watches c.prepare_run.new.watches c.args.runs.now c.loop-undo.undo-index c.undo-item.result c.undo-item.is c.loop-undo-test.true c.loop-undo.invariant.ready c.in_default.ensures.ok;
  may = rest_may c.args.graph.now c.args.watches.now c.loop-undo.watches c.prepare_run.new.watches c.args.runs.now c.loop-undo.undo-index c.undo-item.result c.undo-item.is c.loop-undo-test.true c.loop-undo.invariant.ready c.loop-undo.invariant.may c.in_default.ensures.ok;
}
