-- Laws of sessions.
use Rattle.std.specs.Prelude.{◌≡◌, ℕ, List, Some, Ok, Err, IsSome, ⊤}
use Rattle.par_base.specs.Checked.{Checked}
use Rattle.statements.specs.Views.{StatementView, Insert, Import, Update, Delete, Select, Step, Advise}
use Rattle.engine_sessions.specs.declared.answer.Answer.{Answer}
use Rattle.engine_sessions.specs.declared.uses.VersionInUse.{VersionInUse}
use Rattle.layout_planner.specs.Counts.{AreCounts}
use Rattle.engine_sessions.specs.Standing.{DifferInSessions, Standing, used_by, with_use}
use Rattle.engine_sessions.specs.Act.{act}

-- a USE sets the version in use of its own session, and no other
pub record UsesAreOwn : Type 0 where
  pub own : (uses : List VersionInUse) (session : ℕ) (version : List ℕ) → used_by (with_use uses session version) session ≡ Some version
  pub others : (uses : List VersionInUse) (session other : ℕ) (version : List ℕ) → (other ≡ session → ⊥) → used_by (with_use uses session version) other ≡ used_by uses other

-- a statement that names the version of its table, where it is on one, asks for no advice and is no STEP
abbrev pub IsFull : StatementView → Type 0
IsFull (Insert name rows) = IsSome name.version
IsFull (Import name text) = IsSome name.version
IsFull (Update name assignments filter) = IsSome name.version
IsFull (Delete name filter) = IsSome name.version
IsFull (Select name items filter csv) = IsSome name.version
IsFull Step = ⊥
IsFull (Advise name) = ⊥
IsFull _ = ⊤

-- the same answer with the same data behind it, or the same refusal
abbrev pub SameBehind : Checked (Answer × Standing) → Checked (Answer × Standing) → Type 0
SameBehind (Ok a) (Ok b) = (a.0 ≡ b.0) × (a.1.laid ≡ b.1.laid)
SameBehind (Err r) (Err q) = r ≡ q
SameBehind (Ok a) (Err r) = ⊥
SameBehind (Err r) (Ok a) = ⊥

-- such a statement is answered by the data alone, whatever is in use, is pending and was counted
abbrev pub NeedTheDataAlone : Type 0
NeedTheDataAlone = (s t : Standing) (statement : StatementView) → s.laid ≡ t.laid → IsFull statement → SameBehind (act s statement) (act t statement)

-- ---- what sessions change

-- a statement that names the version of its table, where it is on one
abbrev pub IsNamed : StatementView → Type 0
IsNamed (Insert name rows) = IsSome name.version
IsNamed (Import name text) = IsSome name.version
IsNamed (Update name assignments filter) = IsSome name.version
IsNamed (Delete name filter) = IsSome name.version
IsNamed (Select name items filter csv) = IsSome name.version
IsNamed _ = ⊤

-- the same answer with the same behind it but for sessions, or the same refusal
abbrev pub SameButSessions : Checked (Answer × Standing) → Checked (Answer × Standing) → Type 0
SameButSessions (Ok a) (Ok b) = (a.0 ≡ b.0) × DifferInSessions a.1 b.1
SameButSessions (Err r) (Err q) = r ≡ q
SameButSessions (Ok a) (Err r) = ⊥
SameButSessions (Err r) (Ok a) = ⊥

-- such a statement is answered the same, and leaves the same, whatever is in use and whichever session is at hand
abbrev pub NeedNoSession : Type 0
NeedNoSession = (s t : Standing) (statement : StatementView) → DifferInSessions s t → IsNamed statement → SameButSessions (act s statement) (act t statement)

-- ---- what counts are

-- what is counted are accesses of tables that live, each once and ascending
abbrev pub HasCounts : Standing → Type 0
HasCounts s = AreCounts s.laid.database.graph.edges s.counts

-- so it stays with each answered statement
abbrev pub CountsStay : Type 0
CountsStay = (s : Standing) (statement : StatementView) (answer : Answer × Standing) → HasCounts s → act s statement ≡ Ok answer → HasCounts answer.1
