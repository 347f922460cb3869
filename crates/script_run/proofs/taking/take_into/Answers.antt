use Rattle.std.proofs.Common.{ℕ, ◌≤◌, ◌+◌, ◌∙◌, ap, arith, length, subst, take}
use Rattle.std.proofs.lemmas.List.{length-take-le}
use Rattle.std.specs.Io.KnownBytes.{Consumes}
use Rattle.script_stream.specs.Holding.{limit}
use Rattle.script_run.specs.declared.stream.Stream.{Stream}
use Rattle.script_run.proofs.ReadLemmas.{less_ended, less_fed, reaches_too_many, reaches_unread, reads_ended, reads_fed, reads_first}
use Rattle.script_run.proofs.StreamLemmas.{its_input}
use Rattle.script_run.proofs.taking.take_into.Goals as goal

pub fed-fed-requires : goal.fed-fed-requires
fed-fed-requires g c = let s = c.requires.stream in its_input s.0 s.1 s.2 c.args.stream.now s.3

pub returns-in-Ok-eq0-clause-feeds : goal.returns-in-Ok-eq0-clause-feeds
returns-in-Ok-eq0-clause-feeds g c = λ from left was sts w.
    let t = c.in-Ok-eq0.ensures in
    let told = c.end.ensures.same in
    let going = c.requires.awaits.unended in (
      reads_ended from left was (g.S.Source.left c.args.source.now) (g.S.Source.left c.take.new.self) (g.S.Source.faults c.args.source.now) (g.S.Source.faults c.take.new.self) sts c.args.stream.now c.end.new.self w going t.cause.stays
          (subst (λ (n : ℕ). Consumes (g.S.Source.left c.args.source.now) (g.S.Source.left c.take.new.self) (take n c.take.new.buf)) c.in-Ok-eq0.field-0-test t.bytes.0)
          (t.bytes.1 c.in-Ok-eq0.field-0-test (omega (arith, t.bound.1, c.requires.some))) told,
      less_ended from left was (g.S.Source.left c.args.source.now) (g.S.Source.left c.take.new.self) (g.S.Source.faults c.args.source.now) (g.S.Source.faults c.take.new.self) sts c.args.stream.now c.end.new.self w going t.cause.stays told,
      ap (λ (x : Stream _). x.going) told ∙ c.requires.awaits.going,
    )

pub returns-in-Ok-clause-feeds : goal.returns-in-Ok-clause-feeds
returns-in-Ok-clause-feeds g c = λ from left was sts w.
    let t = c.in-Ok.ensures in
    reaches_too_many from left was (g.S.Source.left c.args.source.now) (g.S.Source.left c.take.new.self) (g.S.Source.faults c.args.source.now) (g.S.Source.faults c.take.new.self) sts c.args.stream.now
    (take c.in-Ok.field-0 c.take.new.buf) w t.bytes.0 t.cause.stays
    (omega (arith, length-take-le c.in-Ok.field-0 c.take.new.buf t.bound.0, t.bound.0, t.bound.1, c.in-Ok.field-0-test, c.requires.last (omega (arith, c.fed-fed.ensures, c.if-fed-ge-LIMIT.true))))
    (omega (arith, c.fed-fed.ensures, c.if-fed-ge-LIMIT.true))

pub returns-in-Ok-feed-clause-feeds : goal.returns-in-Ok-feed-clause-feeds
returns-in-Ok-feed-clause-feeds g c = λ from left was sts w.
    let t = c.in-Ok.ensures in
    let going = c.requires.awaits.unended in
    let piece = take c.in-Ok.field-0 c.take.new.buf in
    let size = length-take-le c.in-Ok.field-0 c.take.new.buf t.bound.0 in
    let ended = ap (λ (x : Stream _). x.ended) c.feed.ensures.same in
    let room : c.args.stream.now.input.before + length c.args.stream.now.input.bytes.items + length piece ≤ limit =
    omega (arith, size, t.bound.0, t.bound.1, c.requires.within (omega (arith, c.fed-fed.ensures, c.if-fed-ge-LIMIT.false))) in
    let stands = c.in-Ok-feed.ensures.stands from w.reads.bytes sts w.reads.stands in (
      reads_fed from left was (g.S.Source.left c.args.source.now) (g.S.Source.left c.take.new.self) (g.S.Source.faults c.args.source.now) (g.S.Source.faults c.take.new.self) sts c.args.stream.now c.feed.new.self w going t.cause.stays
          piece t.bytes.0 (omega (arith, size, t.bound.0, t.bound.1, c.requires.piece)) room ended stands,
      less_fed from left was (g.S.Source.left c.args.source.now) (g.S.Source.left c.take.new.self) (g.S.Source.faults c.args.source.now) (g.S.Source.faults c.take.new.self) sts c.args.stream.now c.feed.new.self w going t.cause.stays
          piece (omega (arith, size, c.in-Ok.field-0-test, c.requires.some)) room stands c.feed.ensures.on ended,
      ap (λ (x : Stream _). x.going) c.feed.ensures.same ∙ c.requires.awaits.going,
    )

pub returns-in-Err-feed-clause-feeds : goal.returns-in-Err-feed-clause-feeds
returns-in-Err-feed-clause-feeds g c = λ from left was sts w.
    (c.in-Ok.ensures.cause.stays ∙ w.reads.taken.same, reads_first from left was (g.S.Source.left c.args.source.now) (g.S.Source.faults c.args.source.now) sts c.args.stream.now w.reads)

pub returns-in-Err-clause-feeds : goal.returns-in-Err-clause-feeds
returns-in-Err-clause-feeds g c = λ from left was sts w.
    let t = c.in-Err.ensures in
    reaches_unread from left was (g.S.Source.left c.args.source.now) (g.S.Source.left c.take.new.self) (g.S.Source.faults c.args.source.now) (g.S.Source.faults c.take.new.self) sts c.args.stream.now w t.bytes t.cause.failed
