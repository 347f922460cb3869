use Rattle.std.proofs.Common.{◌∙◌, ap, subst, sym}
use Rattle.engine_feeds.specs.Calls.{standing_of}
use Rattle.script_run.specs.declared.stream.Stream.{Stream}
use Rattle.script_run.specs.declared.turn.Last.{Last}
use Rattle.script_run.specs.Calls.{Reached}
use Rattle.script_run.proofs.ReadLemmas.{reaches_end, reaches_stop, reads_first, stop_stands, waits_more}
use Rattle.script_run.proofs.RunLemmas.{ran_memory, ran_stops, turn_piece, turn_reply}
use Rattle.script_run.proofs.turn.take_turn.Goals as goal

pub take_piece-requires-clause-stream : goal.take_piece-requires-clause-stream
take_piece-requires-clause-stream g c =
    let s = c.requires.stream in
    let m = (rw c.in-Ok-More.field-0-is at c.in-Ok-More.ensures.gives) s.0 s.1 s.2 s.3 in (s.0, s.1, s.2, m.0)

pub take_piece-requires-clause-awaits : goal.take_piece-requires-clause-awaits
take_piece-requires-clause-awaits g c =
    let s = c.requires.stream in
    ((rw c.in-Ok-More.field-0-is at c.in-Ok-More.ensures.gives) s.0 s.1 s.2 s.3).1.2

pub returns-in-Ok-Reply-clause-turns : goal.returns-in-Ok-Reply-clause-turns
returns-in-Ok-Reply-clause-turns g c = λ from left was held r.
    turn_reply from left was (g.S.Source.left c.args.script.now) (g.S.Source.faults c.args.script.now) c.args.stream.now c.next.new.self held (g.K.Sink.held c.args.out.now) r (ap (λ (x : Stream _). x.ended) c.next.ensures.same) c.in-Ok-Reply.text _
    ((rw c.in-Ok-Reply.field-0-is at c.in-Ok-Reply.ensures.gives) from r.reads.bytes r.statements r.reads.stands) (rw c.in-Ok-Reply.field-0-is at c.in-Ok-Reply.ensures.open) (g.K.Sink.held c.put_reply.new.out) (g.K.Sink.faults c.args.out.now) (g.K.Sink.faults c.put_reply.new.out) c.put_reply.result c.put_reply.ensures.puts

pub returns-in-Ok-More-clause-turns : goal.returns-in-Ok-More-clause-turns
returns-in-Ok-More-clause-turns g c = λ from left was held r.
    let gives = (rw c.in-Ok-More.field-0-is at c.in-Ok-More.ensures.gives) from r.reads.bytes r.statements r.reads.stands in
    let waits = waits_more from left was (g.S.Source.left c.args.script.now) (g.S.Source.faults c.args.script.now) r.statements c.args.stream.now c.next.new.self r.reads (ap (λ (x : Stream _). x.ended) c.next.ensures.same) gives in
    let feeds = c.take_piece.ensures.feeds from left was r.statements waits in
    turn_piece from left was (g.S.Source.left c.args.script.now) (g.S.Source.faults c.args.script.now) c.args.stream.now c.take_piece.new.stream held (g.K.Sink.held c.args.out.now) r
    (g.S.Source.left c.take_piece.new.source) (g.S.Source.faults c.take_piece.new.source) (g.K.Sink.faults c.args.out.now) (g.K.Sink.faults c.args.out.now) c.take_piece.result
    (ap standing_of c.take_piece.ensures.watched ∙ ap (λ (x : Stream _). standing_of x.watched) gives.1.0) (rw gives.1.0 at feeds)

pub returns-in-Ok-End-clause-turns : goal.returns-in-Ok-End-clause-turns
returns-in-Ok-End-clause-turns g c = λ from left was held r.
    let gives = (rw c.in-Ok-End.field-0-is at c.in-Ok-End.ensures.gives) from r.reads.bytes r.statements r.reads.stands in
    ran_stops from left was (g.S.Source.left c.args.script.now) (g.S.Source.faults c.args.script.now) c.args.stream.now c.next.new.self held (g.K.Sink.held c.args.out.now) r
    (g.S.Source.left c.args.script.now) (g.S.Source.faults c.args.script.now) _
    (reaches_end from left was (g.S.Source.left c.args.script.now) (g.S.Source.faults c.args.script.now) r.statements c.args.stream.now c.next.new.self r.reads (ap (λ (x : Stream _). x.ended) c.next.ensures.same) gives)
    (gives.0.standing ∙ sym r.reads.stands.standing)

pub returns-in-Ok-Stop-clause-turns : goal.returns-in-Ok-Stop-clause-turns
returns-in-Ok-Stop-clause-turns g c = λ from left was held r.
    let left' = g.S.Source.left c.args.script.now in
    let is = g.S.Source.faults c.args.script.now in
    let gives = (rw c.in-Ok-Stop.field-0-is at c.in-Ok-Stop.ensures.gives) from r.reads.bytes r.statements r.reads.stands in
    let same = ap (λ (x : Stream _). x.ended) c.next.ensures.same in
    ran_stops from left was left' is c.args.stream.now c.next.new.self held (g.K.Sink.held c.args.out.now) r left' is c.last_of.result
    (subst (λ (l : Last). Reached left left' was is r.statements l) (sym c.last_of.ensures) (reaches_stop from left was left' is r.statements c.args.stream.now c.next.new.self r.reads same c.in-Ok-Stop.stop gives))
    ((stop_stands from left was left' is r.statements c.args.stream.now c.next.new.self r.reads same c.in-Ok-Stop.stop gives).standing ∙ sym r.reads.stands.standing)

pub returns-in-Err-clause-turns : goal.returns-in-Err-clause-turns
returns-in-Err-clause-turns g c = λ from left was held r. (
  r.reads.taken.same,
  ran_memory from left was (g.S.Source.left c.args.script.now) (g.S.Source.faults c.args.script.now) c.args.stream.now c.next.new.self held (g.K.Sink.held c.args.out.now) r
      (reads_first from left was (g.S.Source.left c.args.script.now) (g.S.Source.faults c.args.script.now) r.statements c.args.stream.now r.reads),
)
