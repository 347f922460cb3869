-- Statements that don't depend on what stood in use before them.
use Rattle.std.specs.Prelude.{◌≡◌, ◌⊎◌, ℕ, List, [], ◌∷◌, Option, Some, None, IsSome, ⊤}
use Rattle.statements.specs.Views.{StatementView, Insert, Import, Update, Delete, Select, Use, Session, Begin, Commit, Rollback}
use Rattle.version_graph.specs.Edges.{set_named}
use Rattle.version_graph.specs.Sets.{In}
use Rattle.engine_sessions.specs.Laid.{Laid}
use Rattle.engine_sessions.specs.Act.{act}
use Rattle.engine_sessions.specs.Standing.{DifferInSessions, Standing, begun_again}
use Rattle.session_laws.specs.Beside.{next_state, replies, state_after}

-- what statements have said so far of sessions
pub record Said : Type 0 where
  -- the session at hand; None before the first SESSION
  pub session : Option ℕ
  -- those with an answered USE
  pub using : List (Option ℕ)

-- before the first statement
abbrev pub nothing_said : Said
nothing_said = record { session = None; using = [] }

-- the session at hand uses a version, where that lives
abbrev pub said_use : Said → Option ℕ → Said
said_use said (Some set) = record said { using = said.session ∷ said.using }
said_use said None = said

-- after one statement more
abbrev pub said_after : Laid → Said → StatementView → Said
said_after l said (Use name) = said_use said (set_named l.database.graph.versions name)
said_after l said (Session number) = record said { session = Some number }
said_after l said _ = said

-- the version is named, or the session has said USE
abbrev pub IsKnown : Said → Option (List ℕ) → Type 0
IsKnown said version = IsSome version ⊎ In said.session said.using

-- the version of its table is known, where the statement is on one; and it is none of a transaction
abbrev pub IsSaid : Said → StatementView → Type 0
IsSaid said (Insert name rows) = IsKnown said name.version
IsSaid said (Import name text) = IsKnown said name.version
IsSaid said (Update name assignments filter) = IsKnown said name.version
IsSaid said (Delete name filter) = IsKnown said name.version
IsSaid said (Select name items filter csv) = IsKnown said name.version
IsSaid said Begin = ⊥
IsSaid said Commit = ⊥
IsSaid said Rollback = ⊥
IsSaid said _ = ⊤

-- so it is with each statement, behind those before it
unfoldable pub AreSaid : Standing → Said → List StatementView → Type 0
AreSaid s said [] = ⊤
AreSaid s said (statement ∷ statements) =
    IsSaid said statement × AreSaid (next_state s (act s statement)) (said_after s.laid said statement) statements

-- from any standing they are answered as from the beginning over it, and leave the same but for sessions
abbrev pub SaidNeedNoSession : Type 0
SaidNeedNoSession = (s : Standing) (statements : List StatementView) → AreSaid (begun_again s) nothing_said statements
    → (replies (begun_again s) statements ≡ replies s statements) × DifferInSessions (state_after (begun_again s) statements) (state_after s statements)
