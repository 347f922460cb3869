-- Beginnings: no transaction is open, and nothing has happened.
use Rattle.std.specs.Prelude.{ℕ, List}
use Rattle.engine_sessions.specs.Laid.{Laid}
use Rattle.layout_planner.specs.declared.planning.TableCount.{TableCount}
use Rattle.engine_sessions.specs.Standing.{DifferInSessions as SessionsDiffer, begun_again as sessions_again, begun_with as sessions_with, empty_standing as empty_sessions}
use Rattle.engine_transactions.specs.Standing.{Standing, begun}

-- over a database beside which this was counted and is pending
abbrev pub begun_with : Laid → List TableCount → List ℕ → Standing
begun_with laid counts pending = begun (sessions_with laid counts pending)

-- without a version, with the greatest identifier that may be drawn
abbrev pub empty_standing : ℕ → Standing
empty_standing limit = begun (empty_sessions limit)

-- over what stands
abbrev pub begun_again : Standing → Standing
begun_again s = begun (sessions_again s.sessions)

-- two standings are one but for sessions, history and transactions: over the same data in the same layout, with the same pending and the same counts
abbrev pub DifferInSessions : Standing → Standing → Type 0
DifferInSessions s t = SessionsDiffer s.sessions t.sessions
