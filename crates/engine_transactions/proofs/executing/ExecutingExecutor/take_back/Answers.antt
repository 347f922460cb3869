-- The state before the newest run is there again.
use Rattle.std.proofs.Common.{refl}
use Rattle.engine_transactions.specs.declared.executing.Executing.{Executing}
use Rattle.engine_transactions.proofs.ExecutingLemmas.{shows_back}
use Rattle.engine_transactions.proofs.executing.ExecutingExecutor.take_back.Goals as goal

pub returns-in-Some : goal.returns-in-Some
returns-in-Some c = λ s h some.
    let old = c.args.self.now in
    let new : Executing = record { sessions = c.take_back.new.self; numbers = old.numbers; unsettled = c.pop.new.self } in
    shows_back c.writes_stay_undoable.ensures old new c.in-Some.undo c.take_back.ensures.restores c.take_back.ensures.capacity c.take_back.ensures.beside refl s c.in-Some.ensures.items h some
