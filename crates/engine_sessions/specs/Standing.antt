-- Where the statements of a script stand: the data with their layout, and what is kept beside them.
use Rattle.std.specs.Prelude.{◌≡◌, ◌==◌, ℕ, not, List, [], ◌∷◌, ◌++◌, filter, Option}
use Rattle.std.specs.Option.{option_map}
use Rattle.std.specs.List.{find}
use Rattle.op_any.specs.Operators.{AnyView}
use Rattle.db_state.specs.declared.parts.Parts.{Parts}
use Rattle.engine_moves.specs.Laid.{Laid}
use Rattle.engine_moves.specs.EngineCoreKept.{empty_state, state_of}
use Rattle.engine_moves.specs.Moving.{Moving}
use Rattle.layout_planner.specs.declared.planning.TableCount.{TableCount}
use Rattle.engine_sessions.specs.declared.uses.VersionInUse.{VersionInUse}
use Rattle.engine_sessions.specs.declared.sessions.Sessions.{Sessions}

pub record Standing : Type 0 where
  -- the data with their layout
  pub laid : Laid
  -- the operators whose data are still to go to their other side, where a move in steps is pending
  pub pending : List ℕ
  -- how often each table version was accessed, of those that were
  pub counts : List TableCount
  -- the version in use of each session that has one
  pub uses : List VersionInUse
  -- the session in which the next statement is given
  pub session : ℕ

-- the database that a value keeps, with its layout
abbrev pub kept_in : Sessions → Parts AnyView
kept_in s = s.mover.database

abbrev pub standing_of : Sessions → Standing
standing_of s = record { laid = state_of s.mover.database; pending = s.mover.pending; counts = s.counts; uses = s.uses; session = s.session }

-- the data with their layout, and what is pending
abbrev pub moving_in : Standing → Moving
moving_in s = record { laid = s.laid; pending = s.pending }

-- the beginning over a database beside which this was counted and is pending: session 0 is at hand, which has no version in use
abbrev pub begun_with : Laid → List TableCount → List ℕ → Standing
begun_with laid counts pending = record { laid = laid; pending = pending; counts = counts; uses = []; session = 0 }

-- where nothing is pending and nothing was accessed
abbrev pub begun : Laid → Standing
begun laid = begun_with laid [] []

-- the beginning without a version, with the greatest identifier that may be drawn
abbrev pub empty_standing : ℕ → Standing
empty_standing limit = begun (empty_state limit)

-- the beginning over what stands
abbrev pub begun_again : Standing → Standing
begun_again s = begun_with s.laid s.counts s.pending

-- two standings are one but for sessions: over the same data in the same layout, with the same pending and the same counts
pub record DifferInSessions (s t : Standing) : Type 0 where
  pub laid : s.laid ≡ t.laid
  pub pending : s.pending ≡ t.pending
  pub counts : s.counts ≡ t.counts

-- ---- versions in use

-- the version that a session has in use
abbrev pub used_by : List VersionInUse → ℕ → Option (List ℕ)
used_by uses session = option_map (λ (u : VersionInUse). u.version) (find (λ (u : VersionInUse). u.session == session) uses)

-- the session uses this version from now on; the others use theirs
abbrev pub with_use : List VersionInUse → ℕ → List ℕ → List VersionInUse
with_use uses session version = filter (λ (u : VersionInUse). not (u.session == session)) uses ++ record { session = session; version = version } ∷ []
