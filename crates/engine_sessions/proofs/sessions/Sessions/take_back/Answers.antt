-- What sessions keep stays beside it.
use Rattle.std.proofs.Common.{ℕ, List, ap}
use Rattle.engine_moves.specs.EngineCoreKept.{state_of}
use Rattle.engine_sessions.specs.Standing.{standing_of}
use Rattle.engine_sessions.proofs.sessions.Sessions.take_back.Goals as goal

pub returns-clause-beside : goal.returns-clause-beside
returns-clause-beside c = ap (λ (l : List ℕ). record (standing_of c.args.self.now) { laid = state_of c.take_back.new.self.database; pending = l }) c.take_back.ensures.pending
