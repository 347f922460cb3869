use Rattle.std.proofs.Common.{◌≡◌, ◌+◌, ◌-◌, arith, length}
use Rattle.std.specs.Prelude.{min}
use Rattle.script_stream.specs.Holding.{limit}
use Rattle.script_run.proofs.StreamLemmas.{its_input, stands_fed}
use Rattle.script_run.proofs.stream.Stream.feed.Goals as goal

pub fed-requires : goal.fed-requires
fed-requires g c = let s = c.requires.stream in its_input s.0 s.1 s.2 c.args.self.now s.3

pub feed-requires-clause-input : goal.feed-requires-clause-input
feed-requires-clause-input g c = let s = c.requires.stream in its_input s.0 s.1 s.2 c.args.self.now s.3

pub returns-clause-stands : goal.returns-clause-stands
returns-clause-stands g c = λ from fed answered h.
    let counts : c.min-count.result ≡ min (limit - (c.args.self.now.input.before + length c.args.self.now.input.bytes.items)) (length c.args.piece.now) =
    omega (arith, c.min-count.ensures, c.saturating_sub.ensures, c.fed.ensures) in
    stands_fed from fed answered c.args.self.now h c.requires.awaits.within c.args.piece.now c.min-count.result counts c.feed.new.self c.requires.awaits.wants c.in_ok-feed.ensures.ok
