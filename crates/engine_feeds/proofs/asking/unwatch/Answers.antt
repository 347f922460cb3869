-- What the watch leaves is told, or there is none.
use Rattle.engine_feeds.proofs.AskLemmas.{unwatch_done, unwatch_unknown}
use Rattle.engine_feeds.proofs.asking.unwatch.Goals as goal

pub returns-in-Some : goal.returns-in-Some
returns-in-Some g c = λ kept is. unwatch_done kept c.args.watches.now c.unwatch.new.self c.args.number c.in-Some.field-0 c.in-Some.ensures.value c.unwatch.ensures.rest is

pub returns-in-None : goal.returns-in-None
returns-in-None g c = λ kept is. unwatch_unknown kept c.args.watches.now c.unwatch.new.self c.args.number c.in-None.ensures.value c.unwatch.ensures.rest is
