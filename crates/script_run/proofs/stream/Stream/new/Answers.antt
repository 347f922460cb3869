use Rattle.std.proofs.Common.{false, refl, true}
use Rattle.script_run.specs.declared.stream.Stream.{Stream}
use Rattle.script_run.proofs.StreamLemmas.{stands_new}
use Rattle.script_run.proofs.stream.Stream.new.Goals as goal

pub returns-clause-stands : goal.returns-clause-stands
returns-clause-stands g c =
    let s : Stream _ = record { watched = c.args.watched; input = c.new.result; passed = false; ended = false; going = true } in
    stands_new s c.new.ensures.holds c.new.ensures.going refl

pub returns-clause-awaits : goal.returns-clause-awaits
returns-clause-awaits g c = record { wants = c.new.ensures.wants; within = refl; unended = refl; going = refl }
