use Rattle.std.proofs.Common.{subst, sym}
use Rattle.engine_feeds.specs.Calls.{standing_of}
use Rattle.script_run.specs.Calls.{Ends}
use Rattle.script_run.proofs.EndLaws.{cut_front, ends_line}
use Rattle.script_run.proofs.source.run_source.Goals as goal

pub returns-in-Stops-clause-ends : goal.returns-in-Stops-clause-ends
returns-in-Stops-clause-ends g c =
    subst (Ends (standing_of c.args.stream.now.watched) (standing_of c.run_script.new.stream.watched) (g.S.Source.left c.args.script.now) (g.S.Source.left c.run_script.new.script) (g.S.Source.faults c.args.script.now) (g.S.Source.faults c.run_script.new.script) (g.K.Sink.held c.args.out.now) (g.K.Sink.held c.put_last.new.out) (g.K.Sink.faults c.args.out.now) (g.K.Sink.faults c.put_last.new.out)) (sym c.end.ensures)
    (ends_line (standing_of c.args.stream.now.watched) (standing_of c.run_script.new.stream.watched) (g.S.Source.left c.args.script.now) (g.S.Source.left c.run_script.new.script) (g.S.Source.faults c.args.script.now) (g.S.Source.faults c.run_script.new.script) (g.K.Sink.held c.args.out.now) (g.K.Sink.held c.run_script.new.out) (g.K.Sink.held c.put_last.new.out)
    (g.K.Sink.faults c.args.out.now) (g.K.Sink.faults c.run_script.new.out) (g.K.Sink.faults c.put_last.new.out) c.in-Stops.last c.put_last.result c.in-Stops.ensures.runs c.in-Stops.ensures.stays c.put_last.ensures.puts)

pub returns-in-Memory-clause-ends : goal.returns-in-Memory-clause-ends
returns-in-Memory-clause-ends g c =
    let x = c.in-Memory.ensures.runs in
    cut_front (standing_of c.args.stream.now.watched) (standing_of c.run_script.new.stream.watched) (g.S.Source.left c.args.script.now) (g.S.Source.left c.run_script.new.script) (g.S.Source.faults c.args.script.now) (g.S.Source.faults c.run_script.new.script) (g.K.Sink.held c.args.out.now) (g.K.Sink.held c.run_script.new.out) x.0 x.1

pub returns-in-Unwritten-clause-ends : goal.returns-in-Unwritten-clause-ends
returns-in-Unwritten-clause-ends g c =
    let x = c.in-Unwritten.ensures.runs in
    (x.0, cut_front (standing_of c.args.stream.now.watched) (standing_of c.run_script.new.stream.watched) (g.S.Source.left c.args.script.now) (g.S.Source.left c.run_script.new.script) (g.S.Source.faults c.args.script.now) (g.S.Source.faults c.run_script.new.script) (g.K.Sink.held c.args.out.now) (g.K.Sink.held c.run_script.new.out) x.1 x.2)
