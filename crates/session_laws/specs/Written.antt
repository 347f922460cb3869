-- Each version is an ordinary database for the writes of a script.
use Rattle.std.specs.Prelude.{◌≡◌, ℕ, List, Option, Some, None, Ok, ⊤}
use Rattle.expr_lang.specs.Operations.{text_limit}
use Rattle.statements.specs.Views.{StatementView, Insert, Import, Update, Delete}
use Rattle.statements.specs.Texts.{TextsWithin}
use Rattle.statements.specs.declared.statement.TableName.{TableName}
use Rattle.version_graph.specs.Sets.{In}
use Rattle.version_graph.specs.Tables.{TableVersion}
use Rattle.version_graph.specs.Edges.{set_named, working}
use Rattle.csv_io.specs.Tables.{csv_rows}
use Rattle.engine_sessions.specs.EngineStatementsLaws.{DeletesChosen, InsertsRows, UpdatesChosen}
use Rattle.engine_sessions.specs.Statements.{Planned}
use Rattle.engine_state.specs.AnyDatabase.{AnyDatabase}
use Rattle.engine_state.specs.declared.reply.Reply.{Reply}
use Rattle.engine_sessions.specs.EngineCoreUndo.{acted_write}
use Rattle.engine_sessions.specs.Act.{act}
use Rattle.engine_sessions.specs.Standing.{Standing, used_by}
use Rattle.engine_sessions.specs.declared.answer.Answer.{Answer}
use Rattle.engine_sessions.specs.declared.answer.Answer.TheVariants.{Plain}
use Rattle.session_laws.specs.Kept.{IsKept}

-- a statement means the version that it names, or else the one in use
abbrev pub Means : Option (List ℕ) → Option (List ℕ) → List ℕ → Type 0
Means used (Some named) version = version ≡ named
Means used None version = used ≡ Some version

-- the table of this name in this version is written: its rows are then what P says, and no other table of the version, and no version, has changed
pub record WritesTable (d : AnyDatabase) (version table : List ℕ) (P : Planned → Type 0) (reply : Reply) (next : AnyDatabase) : Type 0 where
  pub written : Planned
  pub set : set_named d.graph.versions version ≡ Some written.found.set
  pub held : In written.found.table (working d.graph.edges written.found.set)
  pub is_table : written.found.table.heading.name ≡ table
  pub made : P written
  pub rows : next.state.tables written.found.table.number ≡ written.rows
  pub others : (t : TableVersion) → In t (working d.graph.edges written.found.set) → (t.number ≡ written.found.table.number → ⊥)
      → next.state.tables t.number ≡ d.state.tables t.number
  pub versions : next.graph ≡ d.graph
  pub replies : reply ≡ written.reply

-- an answered write of the table of this name: that of the version that is named or in use
pub record Writes (s : Standing) (name : TableName) (P : Planned → Type 0) (answer : Answer) (next : Standing) : Type 0 where
  pub version : List ℕ
  pub is_version : Means (used_by s.uses s.session) name.version version
  pub reply : Reply
  pub answers : answer ≡ Plain reply
  pub table : WritesTable s.laid.database version name.table P reply next.laid.database

-- by identifier: an INSERT leaves each row that stood there and puts the new ones, an UPDATE sets the rows that meet its condition, and a
-- DELETE takes those that meet its condition
abbrev pub IsWrite : Standing → StatementView → Answer × Standing → Type 0
IsWrite s (Insert name rows) answer = Writes s name (InsertsRows s.laid.database rows) answer.0 answer.1
IsWrite s (Import name text) answer = Writes s name (InsertsRows s.laid.database (csv_rows text)) answer.0 answer.1
IsWrite s (Update name assignments filter) answer = Writes s name (UpdatesChosen s.laid.database assignments filter) answer.0 answer.1
IsWrite s (Delete name filter) answer = Writes s name (DeletesChosen s.laid.database filter) answer.0 answer.1
IsWrite s _ answer = ⊤

-- the same of a write in full, which names its version, and of the data alone
pub record WritesInFull (d : AnyDatabase) (name : TableName) (P : Planned → Type 0) (r : Reply × AnyDatabase) : Type 0 where
  pub version : List ℕ
  pub is_version : name.version ≡ Some version
  pub table : WritesTable d version name.table P r.0 r.1

abbrev pub IsWriteInFull : AnyDatabase → StatementView → Reply × AnyDatabase → Type 0
IsWriteInFull d (Insert name rows) r = WritesInFull d name (InsertsRows d rows) r
IsWriteInFull d (Update name assignments filter) r = WritesInFull d name (UpdatesChosen d assignments filter) r
IsWriteInFull d (Delete name filter) r = WritesInFull d name (DeletesChosen d filter) r
IsWriteInFull d _ r = ⊥

-- so is each answered write in full, and it leaves a sound state
pub record WritesWell (d : AnyDatabase) (statement : StatementView) (r : Reply × AnyDatabase) : Type 0 where
  pub is : IsWriteInFull d statement r
  pub kept : IsKept r.1

abbrev pub WritesInFullAreOrdinary : Type 0
WritesInFullAreOrdinary = (d : AnyDatabase) (statement : StatementView) (r : Reply × AnyDatabase) → TextsWithin text_limit statement → IsKept d
    → acted_write d statement ≡ Ok r → WritesWell d statement r

-- SO IS EACH ANSWERED WRITE, in every session
abbrev pub WritesAreOrdinary : Type 0
WritesAreOrdinary = (s : Standing) (statement : StatementView) (answer : Answer × Standing) → TextsWithin text_limit statement → IsKept s.laid.database
    → act s statement ≡ Ok answer → IsWrite s statement answer
