use Rattle.std.proofs.Common.{◌∙◌, arith, refl, subst}
use Rattle.outside.specs.Causes.{Rose}
use Rattle.engine_feeds.specs.Calls.{standing_of}
use Rattle.script_run.proofs.ReadLemmas.{reads_none, reads_stream}
use Rattle.script_run.proofs.RunLemmas.{ran_none}
use Rattle.script_run.proofs.run.run_statements.Goals as goal

pub loop-last-init : goal.loop-last-init
loop-last-init g c =
    let from = standing_of c.args.stream.now.watched in
    let left = g.S.Source.left c.args.script.now in
    let read = g.S.Source.faults c.args.script.now in
    record {
      so_far = ran_none from left read c.args.stream.now (g.K.Sink.held c.args.out.now) (reads_none from left read c.args.stream.now c.requires.new c.requires.awaits.unended);
      going = c.requires.awaits.going;
      keeps = record { limit = refl; spelled = λ is. is };
      stays = refl;
      later = omega arith;
    }

pub take_turn-requires-clause-stream : goal.take_turn-requires-clause-stream
take_turn-requires-clause-stream g c =
    let r = c.loop-last.invariant.so_far in
    reads_stream (standing_of c.args.stream.now.watched) (g.S.Source.left c.args.script.now) (g.S.Source.faults c.args.script.now) (g.S.Source.left c.loop-last.script) (g.S.Source.faults c.loop-last.script) r.statements c.loop-last.stream r.reads

pub loop-last-preserved : goal.loop-last-preserved
loop-last-preserved g c =
    let t = c.in-Goes.ensures.turns (standing_of c.args.stream.now.watched) (g.S.Source.left c.args.script.now) (g.S.Source.faults c.args.script.now) (g.K.Sink.held c.args.out.now) c.loop-last.invariant.so_far in
    record {
      so_far = t.0;
      going = t.2;
      keeps = record {
        limit = c.in-Goes.ensures.keeps.limit ∙ c.loop-last.invariant.keeps.limit;
        spelled = λ is. c.in-Goes.ensures.keeps.spelled (c.loop-last.invariant.keeps.spelled is);
      };
      stays = c.in-Goes.ensures.stays ∙ c.loop-last.invariant.stays;
      later = let before = c.loop-last.invariant.later in let now = c.in-Goes.ensures.later_read in omega (arith, before, now);
    }

pub loop-last-smaller : goal.loop-last-smaller
loop-last-smaller g c =
    (c.in-Goes.ensures.turns (standing_of c.args.stream.now.watched) (g.S.Source.left c.args.script.now) (g.S.Source.faults c.args.script.now) (g.K.Sink.held c.args.out.now) c.loop-last.invariant.so_far).1

pub returns-in-Stops-clause-runs : goal.returns-in-Stops-clause-runs
returns-in-Stops-clause-runs g c = c.in-Stops.ensures.turns (standing_of c.args.stream.now.watched) (g.S.Source.left c.args.script.now) (g.S.Source.faults c.args.script.now) (g.K.Sink.held c.args.out.now) c.loop-last.invariant.so_far

pub returns-in-Memory-clause-runs : goal.returns-in-Memory-clause-runs
returns-in-Memory-clause-runs g c = c.in-Memory.ensures.turns (standing_of c.args.stream.now.watched) (g.S.Source.left c.args.script.now) (g.S.Source.faults c.args.script.now) (g.K.Sink.held c.args.out.now) c.loop-last.invariant.so_far

pub returns-in-Unwritten-clause-runs : goal.returns-in-Unwritten-clause-runs
returns-in-Unwritten-clause-runs g c =
    let x = c.in-Unwritten.ensures.turns (standing_of c.args.stream.now.watched) (g.S.Source.left c.args.script.now) (g.S.Source.faults c.args.script.now) (g.K.Sink.held c.args.out.now) c.loop-last.invariant.so_far in
    (subst (λ n. Rose n (g.K.Sink.faults c.take_turn.new.out)) c.loop-last.invariant.stays x.0, x.1, x.2)
