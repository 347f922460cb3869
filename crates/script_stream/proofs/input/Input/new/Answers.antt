use Rattle.std.proofs.Common.{refl}
use Rattle.script_stream.proofs.FeedLemmas.{holds_none}
use Rattle.script_stream.proofs.input.Input.new.Goals as goal

pub returns-clause-holds : goal.returns-clause-holds
returns-clause-holds c = holds_none _ c.new.ensures.items c.new-2.ensures.items refl refl refl refl refl refl
