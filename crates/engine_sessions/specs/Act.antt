-- One event in a session: the answer or refusal of a statement, and what stands behind it.
use Rattle.std.specs.Prelude.{ℕ, Bool, true, List, Option, Result, Ok, Err}
use Rattle.std.specs.Option.{option_map_or}
use Rattle.par_base.specs.declared.fault.Fault.{Fault}
use Rattle.par_base.specs.declared.refusal.Refusal.{Refusal}
use Rattle.par_base.specs.Checked.{Checked, Gives, ◌then◌}
use Rattle.version_graph.specs.Edges.{set_named}
use Rattle.par_base.specs.declared.refusal.Refusal.TheVariants.{NotBuilt}
use Rattle.statements.specs.Views.{StatementView, Advise, Select, Session, Use}
use Rattle.engine_state.specs.SharedChecks.{known_version}
use Rattle.engine_state.specs.declared.reply.Reply.{Reply}
use Rattle.engine_state.specs.declared.reply.Reply.TheVariants.{Done, Rows}
use Rattle.engine_moves.specs.Statements.{acted_select}
use Rattle.engine_moves.specs.EngineCoreUndo.{acted_write}
use Rattle.engine_moves.specs.Act.{act as act_in_full}
use Rattle.engine_moves.specs.Moving.{Moving}
use Rattle.layout_planner.specs.Best.{best}
use Rattle.layout_planner.specs.Costs.{costs}
use Rattle.layout_planner.specs.declared.planning.VersionCost.{VersionCost}
use Rattle.engine_sessions.specs.declared.answer.Answer.{Answer}
use Rattle.engine_sessions.specs.declared.answer.Answer.TheVariants.{Plain, Csv, Advice}
use Rattle.engine_sessions.specs.Standing.{Standing, moving_in, used_by, with_use}
use Rattle.engine_sessions.specs.InFull.{in_full, wants_csv}
use Rattle.engine_sessions.specs.Accesses.{accessed, is_move, kept_behind, raised_by}

-- the rows of a reply as CSV, where they are asked for so
abbrev pub answer_of : Bool → Reply → Answer
answer_of true (Rows header rows) = Csv header rows
answer_of _ reply = Plain reply

-- the session at hand uses the version, which must live, by its name
abbrev pub used : Standing → List ℕ → Checked (Answer × Standing)
used s name = known_version name (set_named s.laid.database.graph.versions name) then λ set. Ok (Plain Done, record s { uses = with_use s.uses s.session name })

-- the name of the version of least cost; the version itself where none has a cost
abbrev pub best_name : List ℕ → List VersionCost → List ℕ
best_name version costs = option_map_or (λ (c : VersionCost). c.version) (best costs) version

-- what the layout of each version of the tree costs, and the best
abbrev pub advice_on : Standing → List ℕ → Answer
advice_on s name = let all = costs s.laid.database.graph s.counts name in Advice all (best_name name all)

-- advice changes nothing
abbrev pub advised : Standing → List ℕ → Checked (Answer × Standing)
advised s name = known_version name (set_named s.laid.database.graph.versions name) then λ set. Ok (advice_on s name, s)

-- what stands behind a statement in full, be it a move or not, that accesses this table
abbrev pub behind : Standing → Bool → Option ℕ → Moving → Standing
behind s move table next = record s { laid = next.laid; pending = next.pending; counts = kept_behind move next.laid.database.graph.edges (raised_by s.counts table) }

-- a statement in full, and its access is counted
abbrev pub counted : Standing → Bool → StatementView → Checked (Answer × Standing)
counted s csv statement =
    act_in_full (moving_in s) statement then λ answer.
    Ok (answer_of csv answer.0, behind s (is_move statement) (accessed s.laid.database statement) answer.1)

-- a SELECT in full, but that no access is counted; no other statement is one
abbrev pub read_in : Standing → Bool → StatementView → Checked Answer
read_in s csv (Select name items filter plain) = acted_select s.laid.database name items filter then λ answer. Ok (answer_of csv answer.0)
read_in s csv _ = Err NotBuilt

-- a write in full, as it is carried out, but that no access is counted
abbrev pub written_in : Standing → StatementView → Checked (Reply × Standing)
written_in s statement = acted_write s.laid.database statement then λ answer. Ok (answer.0, record s { laid = record s.laid { database = answer.1 } })

-- one event: USE, SESSION and ADVISE by what is kept beside the data, and every other statement as it says in full
abbrev pub act : Standing → StatementView → Checked (Answer × Standing)
act s (Use name) = used s name
act s (Session number) = Ok (Plain Done, record s { session = number })
act s (Advise name) = advised s name
act s statement = counted s (wants_csv statement) (in_full (used_by s.uses s.session) statement)

-- a call answers and leaves that, or the refusal, unless memory ran out
abbrev pub Answers : Checked (Answer × Standing) → Result Answer (Fault Refusal) → Standing → Type 0
Answers model result next = Gives (λ answer. (answer, next)) result model
