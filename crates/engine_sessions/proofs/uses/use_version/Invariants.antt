use Rattle.std.proofs.Common.{◌≡◌, ◌==◌, not, filter, take}
use Rattle.engine_sessions.proofs.uses.use_version.Given as goal

abbrev pub invariant-loop-used : goal.invariant-loop-used
invariant-loop-used l = l.made ≡ filter (λ u. not (u.session == l.session)) (take l.used-index l.uses)
