-- What an accepted write means.
use Rattle.std.proofs.Common.{◌≡◌, ℕ, List, [], ◌++◌, length, Option, Some, None, Ok, Err, refl, sym, ap, subst, ◌∙◌}
use Rattle.par_base.specs.Checked.{Checked, ◌then◌}
use Rattle.par_base.specs.declared.refusal.Refusal.{Refusal}
use Rattle.statements.specs.Views.{StatementView, Tree, AssignmentView, CreateVersion, DropVersion, Insert, Import, Update, Delete, Select, Materialize, Step, ShowLayout, Use, Session, Advise, Watch, Unwatch, Begin, Commit, Rollback}
use Rattle.statements.specs.declared.statement.TableName.{TableName}
use Rattle.par_base.specs.declared.value.Value.{Value}
use Rattle.version_graph.specs.Sets.{Each, In}
use Rattle.version_graph.specs.Tables.{TableVersion, table_named, table_numbers}
use Rattle.version_graph.specs.Edges.{AreEdges, made, working}
use Rattle.version_graph.specs.Forest.{Crossing, forest, walk}
use Rattle.version_graph.proofs.SetLaws.{each_more, in_map}
use Rattle.version_graph.proofs.TableLaws.{working_made}
use Rattle.version_graph.proofs.TakenLaws.{found_passes}
use Rattle.op_any.specs.Operators.{AnyView, any_meaning}
use Rattle.version_model.specs.Writes.{written}
use Rattle.version_model.proofs.CrossingLaws.{IsWithin, walk_within}
use Rattle.version_model.proofs.PutLaws.{put_else}
use Rattle.version_model.proofs.RunLaws.{run_table}
use Rattle.session_tx.specs.Meaning.{Ran}
use Rattle.engine_state.specs.AnyDatabase.{AnyDatabase}
use Rattle.engine_state.specs.SharedChecks.{enough_ids}
use Rattle.engine_state.specs.declared.reply.Reply.{Reply}
use Rattle.engine_state.specs.declared.reply.WriteReply.{WriteReply}
use Rattle.engine_sessions.specs.Found.{Found, condition_list, found, known_condition, known_references, known_table, set_of, unknown_in_rows}
use Rattle.op_checks.specs.NameChecks.{known_id, repeated, unrepeated}
use Rattle.engine_sessions.specs.Statements.{set_columns, set_values, Planned, columns_of, known_sets, planned_delete, planned_insert, planned_update, right_counts, state_with, wrote}
use Rattle.engine_sessions.proofs.ChainLaws.{both_give, ok_is}
use Rattle.engine_sessions.specs.EngineCoreAct.{planned_write}
use Rattle.engine_sessions.specs.EngineCoreUndo.{acted_write}
use Rattle.engine_sessions.specs.Act.{written_in}
use Rattle.engine_sessions.specs.Standing.{Standing as SessionsStanding}
use Rattle.engine_transactions.specs.Changed.{has_changed}
use Rattle.engine_transactions.specs.Meaning.{means, write_reply}
use Rattle.tx_history.specs.declared.table_read.TableRead.{TableRead}
use Rattle.engine_transactions.proofs.ExecutingLemmas.{made_of}

-- sessions over other data
abbrev pub over_data : SessionsStanding → AnyDatabase → SessionsStanding
over_data s d = record s { laid = record s.laid { database = d } }

-- an accepted write makes of its table what its plan says
pub record Meant (s : SessionsStanding) (x : StatementView) (ran : Ran SessionsStanding TableRead WriteReply) : Type 0 where
  pub planned : Planned
  pub plans : planned_write s.laid.database x ≡ Ok planned
  pub acts : acted_write s.laid.database x ≡ Ok (planned.reply, state_with s.laid.database planned)
  pub next : ran.next ≡ over_data s (state_with s.laid.database planned)
  pub told : write_reply planned.reply ≡ Ok ran.done
  pub changes : (read : TableRead) → ran.changes read ≡ has_changed s.laid.database ran.next.laid.database read.table

pub is_meant : (s : SessionsStanding) (x : StatementView) (ran : Ran SessionsStanding TableRead WriteReply) → means s x ≡ Ok ran → Meant s x ran
is_meant s x ran h =
    let d = s.laid.database in
    let a = both_give (written_in s x) (λ answer. write_reply answer.0 then λ reply. Ok (made_of s answer reply)) ran h in
    let b = both_give (write_reply a.0.0) (λ reply. Ok (made_of s a.0 reply)) ran a.2 in
    let is : made_of s a.0 b.0 ≡ ran = ok_is (made_of s a.0 b.0) ran b.2 in
    let w = both_give (acted_write d x) (λ answer. Ok (answer.0, over_data s answer.1)) a.0 a.1 in
    let stood : (w.0.0, over_data s w.0.1) ≡ a.0 = ok_is (w.0.0, over_data s w.0.1) a.0 w.2 in
    let p = both_give (planned_write d x) (λ q. wrote d q) w.0 w.1 in
    let e = both_give (enough_ids d (state_with d p.0).state.next) (λ _. Ok (p.0.reply, state_with d p.0)) w.0 p.2 in
    let made : (p.0.reply, state_with d p.0) ≡ w.0 = ok_is (p.0.reply, state_with d p.0) w.0 e.2 in
    record {
      planned = p.0;
      plans = p.1;
      acts = w.1 ∙ ap (λ (y : Reply × AnyDatabase). Ok y) (sym made);
      next =
          ap (λ (r : Ran SessionsStanding TableRead WriteReply). r.next) (sym is)
          ∙ ap (λ (y : Reply × SessionsStanding). y.1) (sym stood)
          ∙ ap (λ (y : Reply × AnyDatabase). over_data s y.1) (sym made);
      told =
          ap (λ (y : Reply × AnyDatabase). write_reply y.0) made
          ∙ ap (λ (y : Reply × SessionsStanding). write_reply y.0) stood
          ∙ b.1
          ∙ ap (λ (r : Ran SessionsStanding TableRead WriteReply). Ok r.done) is;
      changes = λ read.
          ap (λ (r : Ran SessionsStanding TableRead WriteReply). r.changes read) (sym is)
          ∙ ap (λ (r : Ran SessionsStanding TableRead WriteReply). has_changed d r.next.laid.database read.table) is;
    }

-- ---- only tables of the graph change

-- the table that was found is one of the graph
found_made : (s : AnyDatabase) (name : TableName) (f : Found) → found s name ≡ Ok f → In f.table.number (table_numbers (made s.graph.edges))
found_made s name f h =
    let a = both_give (set_of s name.version) (λ set. known_table name.table (table_named (working s.graph.edges set) name.table) then λ t. Ok (record { set = set; table = t })) f h in
    let b = both_give (known_table name.table (table_named (working s.graph.edges a.0) name.table)) (λ t. Ok (record { set = a.0; table = t })) f a.2 in
    let is : record { set = a.0; table = b.0 } ≡ f = ok_is (record { set = a.0; table = b.0 }) f b.2 in
    let there : In b.0 (made s.graph.edges) = known (working s.graph.edges a.0) (table_named (working s.graph.edges a.0) name.table) b.0 refl b.1 (working_made s.graph.edges a.0) in
    subst (λ (g : Found). In g.table.number (table_numbers (made s.graph.edges))) is (in_map (λ (t : TableVersion). t.number) b.0 (made s.graph.edges) there)
  where
    known : (set : List TableVersion) (o : Option TableVersion) (t : TableVersion) → table_named set name.table ≡ o → known_table name.table o ≡ Ok t → ((v : TableVersion) → In v set → In v (made s.graph.edges)) → In t (made s.graph.edges)
    known set (Some u) t is ok within = within t (subst (λ (v : TableVersion). In v set) (ok_is u t ok) (found_passes _ set u is).0)
    known set None t is ok within = absurd (cc)

-- a plan is for a table of the graph, and its reply is one to a write
pub record PlanFits (s : AnyDatabase) (p : Planned) : Type 0 where
  pub made : In p.found.table.number (table_numbers (made s.graph.edges))
  pub done : WriteReply
  pub replies : write_reply p.reply ≡ Ok done

inserts : (s : AnyDatabase) (name : TableName) (rows : List (List Value)) (p : Planned) → planned_insert s name rows ≡ Ok p → PlanFits s p
inserts s name rows p h =
    let a = both_give (found s name) _ p h in
    let b = both_give (right_counts (length (columns_of a.0)) rows) _ p a.2 in
    let c = both_give (known_id s.state.next (unknown_in_rows s.state.next rows)) _ p b.2 in
    subst (λ (q : Planned). PlanFits s q) (ok_is _ p c.2) (record { made = found_made s name a.0 a.1; done = _; replies = refl })

updates : (s : AnyDatabase) (name : TableName) (assignments : List AssignmentView) (filter : Option Tree) (p : Planned) → planned_update s name assignments filter ≡ Ok p → PlanFits s p
updates s name assignments filter p h =
    let a = both_give (found s name) _ p h in
    let b = both_give (known_sets (columns_of a.0) assignments) _ p a.2 in
    let c = both_give (known_condition (columns_of a.0) filter) _ p b.2 in
    let d = both_give (unrepeated (repeated [] (set_columns assignments))) _ p c.2 in
    let e = both_give (known_references s.state.next (set_values assignments ++ condition_list filter)) _ p d.2 in
    subst (λ (q : Planned). PlanFits s q) (ok_is _ p e.2) (record { made = found_made s name a.0 a.1; done = _; replies = refl })

deletes : (s : AnyDatabase) (name : TableName) (filter : Option Tree) (p : Planned) → planned_delete s name filter ≡ Ok p → PlanFits s p
deletes s name filter p h =
    let a = both_give (found s name) _ p h in
    let b = both_give (known_condition (columns_of a.0) filter) _ p a.2 in
    let c = both_give (known_references s.state.next (condition_list filter)) _ p b.2 in
    subst (λ (q : Planned). PlanFits s q) (ok_is _ p c.2) (record { made = found_made s name a.0 a.1; done = _; replies = refl })

planned_fits : (s : AnyDatabase) (x : StatementView) (p : Planned) → planned_write s x ≡ Ok p → PlanFits s p
planned_fits s (Insert name rows) p h = inserts s name rows p h
planned_fits s (Update name assignments filter) p h = updates s name assignments filter p h
planned_fits s (Delete name filter) p h = deletes s name filter p h
planned_fits s (CreateVersion name from operators) p h = absurd (cc)
planned_fits s (DropVersion name) p h = absurd (cc)
planned_fits s (Import name text) p h = absurd (cc)
planned_fits s (Select name items filter csv) p h = absurd (cc)
planned_fits s (Materialize named in_steps) p h = absurd (cc)
planned_fits s Step p h = absurd (cc)
planned_fits s ShowLayout p h = absurd (cc)
planned_fits s (Use name) p h = absurd (cc)
planned_fits s (Session number) p h = absurd (cc)
planned_fits s (Advise name) p h = absurd (cc)
planned_fits s (Watch name) p h = absurd (cc)
planned_fits s (Unwatch number) p h = absurd (cc)
planned_fits s Begin p h = absurd (cc)
planned_fits s Commit p h = absurd (cc)
planned_fits s Rollback p h = absurd (cc)

-- a table that isn't in the graph stays
pub stays_outside : (s : SessionsStanding) (x : StatementView) (ran : Ran SessionsStanding TableRead WriteReply) → AreEdges s.laid.database.graph.edges → Meant s x ran → (t : ℕ) → (In t (table_numbers (made s.laid.database.graph.edges)) → ⊥)
    → ran.next.laid.database.state.tables t ≡ s.laid.database.state.tables t
stays_outside s x ran edges m t out =
    let d = s.laid.database in
    let es = d.graph.edges in
    let p = m.planned in
    let path = walk (forest es) p.found.set in
    let start = written d.state p.found.table.number p.rows p.next in
    let apart : Each (λ (q : Crossing AnyView). In t q.far → ⊥) path = each_more (IsWithin es) (λ (q : Crossing AnyView). In t q.far → ⊥) (λ q w i. out (w.far t i)) path (walk_within es edges p.found.set) in
    ap (λ (n : SessionsStanding). n.laid.database.state.tables t) m.next
    ∙ run_table any_meaning d.state path start t apart
    ∙ put_else d.state.tables p.found.table.number p.rows t (λ e. out (subst (λ (n : ℕ). In n (table_numbers (made es))) (sym e) (planned_fits d x p m.plans).made))

-- the graph and the greatest identifier stay
pub graph_stays : (s : SessionsStanding) (x : StatementView) (ran : Ran SessionsStanding TableRead WriteReply) → Meant s x ran → ran.next.laid.database.graph ≡ s.laid.database.graph
graph_stays s x ran m = ap (λ (n : SessionsStanding). n.laid.database.graph) m.next

pub limit_stays : (s : SessionsStanding) (x : StatementView) (ran : Ran SessionsStanding TableRead WriteReply) → Meant s x ran → ran.next.laid.database.limit ≡ s.laid.database.limit
limit_stays s x ran m = ap (λ (n : SessionsStanding). n.laid.database.limit) m.next

-- ---- a refused write

abbrev made_then : SessionsStanding → Checked (Reply × AnyDatabase) → Checked (Ran SessionsStanding TableRead WriteReply)
made_then s m = (m then λ answer. Ok (answer.0, over_data s answer.1)) then λ answer. write_reply answer.0 then λ reply. Ok (made_of s answer reply)

abbrev checked_ok : {A : Type 0} → A → Checked A
checked_ok x = Ok x

refused_if : (s : SessionsStanding) (x : StatementView) (r : Refusal) (m : Checked (Reply × AnyDatabase)) → acted_write s.laid.database x ≡ m → made_then s m ≡ Err r → m ≡ Err r
refused_if s x r (Err q) is h = cc
refused_if s x r (Ok answer) is h =
    let d = s.laid.database in
    let p = both_give (planned_write d x) (λ q. wrote d q) answer is in
    let e = both_give (enough_ids d (state_with d p.0).state.next) (λ _. Ok (p.0.reply, state_with d p.0)) answer p.2 in
    let fits = planned_fits d x p.0 p.1 in
    let told : write_reply answer.0 ≡ Ok fits.done = ap (λ (y : Reply × AnyDatabase). write_reply y.0) (sym (ok_is (p.0.reply, state_with d p.0) answer e.2)) ∙ fits.replies in
    let done : made_then s (Ok answer) ≡ Ok (made_of s (answer.0, over_data s answer.1) fits.done) = ap (λ (w : Checked WriteReply). w then λ reply. Ok (made_of s (answer.0, over_data s answer.1) reply)) told in
    absurd (no_both (sym done ∙ h))
  where
    no_both : {A : Type 0} {a : A} {q : Refusal} → checked_ok a ≡ Err q → ⊥
    no_both h = cc

-- it is refused before it changes anything
pub means_refused : (s : SessionsStanding) (x : StatementView) (r : Refusal) → means s x ≡ Err r → acted_write s.laid.database x ≡ Err r
means_refused s x r h = refused_if s x r (acted_write s.laid.database x) refl h
