-- Each answered write of a script is that of an ordinary database.
use Rattle.std.specs.Prelude.{Option, Some, None, Ok}
use Rattle.std.proofs.Common.{◌≡◌, ℕ, List, false, refl, sym, ap, subst, ◌∙◌}
use Rattle.par_base.specs.Checked.{◌then◌}
use Rattle.par_base.specs.declared.value.Value.{Value}
use Rattle.expr_lang.specs.Operations.{text_limit}
use Rattle.statements.specs.Views.{AssignmentView, Tree, StatementView, CreateVersion, DropVersion, Insert, Import, Update, Delete, Select, Materialize, Step, ShowLayout, Use, Session, Advise, Watch, Unwatch, Begin, Commit, Rollback}
use Rattle.statements.specs.Texts.{TextsWithin}
use Rattle.statements.specs.declared.statement.TableName.{TableName}
use Rattle.version_graph.specs.Tables.{TableVersion}
use Rattle.version_graph.specs.Edges.{working}
use Rattle.version_graph.proofs.SetLaws.{in_map}
use Rattle.csv_io.specs.Tables.{csv_rows}
use Rattle.op_law.proofs.SoundLaws.{below_sound}
use Rattle.op_any.specs.Operators.{any_laws, any_meaning}
use Rattle.version_model.proofs.WriteLaws.{write_is_ordinary}
use Rattle.engine_state.specs.AnyDatabase.{AnyDatabase}
use Rattle.engine_state.specs.SharedChecks.{enough_ids}
use Rattle.engine_state.specs.declared.reply.Reply.{Reply}
use Rattle.engine_sessions.specs.EngineStatementsLaws.{DeletesByIdentifier, DeletesChosen, InsertsByIdentifier, InsertsRows, UpdatesByIdentifier, UpdatesChosen}
use Rattle.engine_sessions.specs.Statements.{Planned, state_with, wrote}
use Rattle.engine_sessions.proofs.ChainLaws.{both_give, ok_is}
use Rattle.engine_sessions.specs.Laid.{Laid}
use Rattle.engine_sessions.specs.EngineMovesAct.{act as act_in_full, at_once, is_materialize, pending_behind}
use Rattle.engine_sessions.specs.Moving.{Moving}
use Rattle.engine_sessions.specs.EngineCoreAct.{act as act_at_once, acted, acted_data, is_built, planned_write, with_data}
use Rattle.engine_sessions.specs.EngineCoreUndo.{acted_write}
use Rattle.engine_sessions.proofs.EngineCoreTextLaws.{assignments_fit, rows_fit}
use Rattle.engine_sessions.specs.Act.{act, answer_of, counted}
use Rattle.engine_sessions.specs.InFull.{name_in_full, version_of}
use Rattle.engine_sessions.specs.Standing.{Standing, moving_in, used_by}
use Rattle.engine_sessions.specs.declared.answer.Answer.{Answer}
use Rattle.engine_sessions.specs.declared.answer.Answer.TheVariants.{Plain}
use Rattle.session_laws.specs.Kept.{IsKept}
use Rattle.session_laws.specs.Written.{IsWrite, IsWriteInFull, Means, Writes, WritesAreOrdinary, WritesInFull, WritesInFullAreOrdinary, WritesTable, WritesWell}
use Rattle.engine_sessions.proofs.TextLaws.{import_texts}
use Rattle.session_laws.proofs.KeptLemmas.{built_first, kept_with}
use Rattle.session_laws.proofs.PlanLemmas.{Takes, delete_taken, insert_taken, update_taken}

-- what an answered write in full has planned, and what it leaves and answers
record Wrote (d : AnyDatabase) (x : StatementView) (r : Reply × AnyDatabase) : Type 0 where
  pub plan : Planned
  pub is : planned_write d x ≡ Ok plan
  pub leaves : r.1 ≡ state_with d plan
  pub reply : r.0 ≡ plan.reply

wrote_of : (d : AnyDatabase) (x : StatementView) (r : Reply × AnyDatabase) → acted_write d x ≡ Ok r → Wrote d x r
wrote_of d x r h =
    let e = both_give (planned_write d x) (λ p. wrote d p) r h in
    let f = both_give (enough_ids d (state_with d e.0).state.next) (λ u. Ok (e.0.reply, state_with d e.0)) r e.2 in
    let planned : (e.0.reply, state_with d e.0) ≡ r = ok_is (e.0.reply, state_with d e.0) r f.2 in
    record {
      plan = e.0;
      is = e.1;
      leaves = sym (ap (λ (a : Reply × AnyDatabase). a.1) planned);
      reply = sym (ap (λ (a : Reply × AnyDatabase). a.0) planned);
    }

-- what an answered write in a session was in full
record Counted (s : Standing) (x : StatementView) (answer : Answer × Standing) : Type 0 where
  pub full : Reply × AnyDatabase
  pub is : acted_write s.laid.database x ≡ Ok full
  pub leaves : answer.1.laid.database ≡ full.1
  pub answers : answer.0 ≡ Plain full.0

counted_of : (s : Standing) (x : StatementView) (answer : Answer × Standing) → act_in_full (moving_in s) x ≡ at_once (moving_in s) x → acted s.laid x ≡ (acted_data s.laid.database x then λ a. Ok (with_data s.laid a))
    → acted_data s.laid.database x ≡ acted_write s.laid.database x → counted s false x ≡ Ok answer → Counted s x answer
counted_of s x answer once beside writes h =
    let d = s.laid.database in
    let m = both_give (act_in_full (moving_in s) x) _ answer h in
    let a = both_give (act_at_once s.laid x) (λ r. Ok (r.0, record { laid = r.1; pending = pending_behind (is_materialize x) r.1 s.pending })) m.0 (sym once ∙ m.1) in
    let b = built_first (is_built x) (acted s.laid x) a.0 a.1 in
    let c = both_give (acted_data d x) (λ r. Ok (with_data s.laid r)) a.0 (sym beside ∙ b.1) in
    let laid : with_data s.laid c.0 ≡ a.0 = ok_is (with_data s.laid c.0) a.0 c.2 in
    let moving = ok_is _ m.0 a.2 in
    let whole = ok_is _ answer m.2 in
    record {
      full = c.0;
      is = sym writes ∙ c.1;
      leaves = sym (ap (λ (r : Reply × Laid). r.1.database) laid ∙ ap (λ (r : Reply × Moving). r.1.laid.database) moving ∙ ap (λ (r : Answer × Standing). r.1.laid.database) whole);
      answers = sym (ap (λ (r : Reply × Laid). answer_of false r.0) laid ∙ ap (λ (r : Reply × Moving). answer_of false r.0) moving ∙ ap (λ (r : Answer × Standing). r.0) whole);
    }

-- what a name in full says of the version
means : (used named : Option (List ℕ)) (version : List ℕ) → version_of used named ≡ Some version → Means used named version
means used (Some name) version is = let same : name ≡ version = cc in sym same
means used None version is = is

-- the table that is written has its rows, and no other of its version has changed
table_of : (d : AnyDatabase) (name : TableName) (x : StatementView) (P : Planned → Type 0) (r : Reply × AnyDatabase) → IsKept d → (w : Wrote d x r)
    → (takes : Takes d name w.plan) → P w.plan → WritesTable d takes.found.version name.table P r.0 r.1
table_of d name x P r kept w takes made =
    let p = w.plan in
    let ordinary = write_is_ordinary any_meaning d.graph.edges d.state kept.sound p.found.set p.found.table.number p.rows p.next takes.may any_laws kept.edges in
    record {
      written = p;
      set = takes.found.set;
      held = takes.found.held;
      is_table = takes.found.is_table;
      made = made;
      rows = ap (λ (n : AnyDatabase). n.state.tables p.found.table.number) w.leaves ∙ ordinary.table;
      others = λ t i differs. ap (λ (n : AnyDatabase). n.state.tables t.number) w.leaves ∙ ordinary.others t.number (in_map (λ (v : TableVersion). v.number) t (working d.graph.edges p.found.set) i) differs;
      versions = ap (λ (n : AnyDatabase). n.graph) w.leaves;
      replies = w.reply;
    }

-- a write in full, and what it leaves
in_full_of : (d : AnyDatabase) (name : TableName) (x : StatementView) (P : Planned → Type 0) (r : Reply × AnyDatabase) → IsKept d → (w : Wrote d x r)
    → Takes d name w.plan → P w.plan → WritesInFull d name P r × IsKept r.1
in_full_of d name x P r kept w takes made = (
  record { version = takes.found.version; is_version = takes.found.is_version; table = table_of d name x P r kept w takes made },
  subst IsKept (sym w.leaves) (kept_with d w.plan kept takes.may),
)

module _ (inserts : InsertsByIdentifier) (updates : UpdatesByIdentifier) (deletes : DeletesByIdentifier) where
  inserted_in : (d : AnyDatabase) (name : TableName) (rows : List (List Value)) (r : Reply × AnyDatabase) → IsKept d → TextsWithin text_limit (Insert name rows) → acted_write d (Insert name rows) ≡ Ok r
      → WritesInFull d name (InsertsRows d rows) r × IsKept r.1
  inserted_in d name rows r kept texts h =
      let w = wrote_of d (Insert name rows) r h in
      in_full_of d name (Insert name rows) (InsertsRows d rows) r kept w (insert_taken d kept name rows w.plan (rows_fit rows texts) w.is)
      (inserts d name rows w.plan w.is (below_sound d.state.next (d.state.tables w.plan.found.table.number) (kept.sound.well.rows w.plan.found.table.number)))

  updated_in : (d : AnyDatabase) (name : TableName) (assignments : List AssignmentView) (filter : Option Tree) (r : Reply × AnyDatabase) → IsKept d → TextsWithin text_limit (Update name assignments filter)
      → acted_write d (Update name assignments filter) ≡ Ok r → WritesInFull d name (UpdatesChosen d assignments filter) r × IsKept r.1
  updated_in d name assignments filter r kept texts h =
      let w = wrote_of d (Update name assignments filter) r h in
      in_full_of d name (Update name assignments filter) (UpdatesChosen d assignments filter) r kept w (update_taken d kept name assignments filter w.plan (assignments_fit assignments texts.0) w.is)
      (updates d name assignments filter w.plan w.is)

  deleted_in : (d : AnyDatabase) (name : TableName) (filter : Option Tree) (r : Reply × AnyDatabase) → IsKept d → acted_write d (Delete name filter) ≡ Ok r
      → WritesInFull d name (DeletesChosen d filter) r × IsKept r.1
  deleted_in d name filter r kept h =
      let w = wrote_of d (Delete name filter) r h in
      in_full_of d name (Delete name filter) (DeletesChosen d filter) r kept w (delete_taken d kept name filter w.plan w.is)
      (deletes d name filter w.plan w.is (kept.sound.well.tables w.plan.found.table.number).0)

  well : (d : AnyDatabase) (x : StatementView) (r : Reply × AnyDatabase) → IsWriteInFull d x r × IsKept r.1 → WritesWell d x r
  well d x r both = record { is = both.0; kept = both.1 }

  pub writes_in_full : WritesInFullAreOrdinary
  writes_in_full d (Insert name rows) r texts kept h = well d (Insert name rows) r (inserted_in d name rows r kept texts h)
  writes_in_full d (Update name assignments filter) r texts kept h = well d (Update name assignments filter) r (updated_in d name assignments filter r kept texts h)
  writes_in_full d (Delete name filter) r texts kept h = well d (Delete name filter) r (deleted_in d name filter r kept h)
  writes_in_full d (CreateVersion name from operators) r texts kept h = absurd (let no : ⊥ = cc in no)
  writes_in_full d (DropVersion name) r texts kept h = absurd (let no : ⊥ = cc in no)
  writes_in_full d (Import name text) r texts kept h = absurd (let no : ⊥ = cc in no)
  writes_in_full d (Select name items filter csv) r texts kept h = absurd (let no : ⊥ = cc in no)
  writes_in_full d (Materialize named in_steps) r texts kept h = absurd (let no : ⊥ = cc in no)
  writes_in_full d Step r texts kept h = absurd (let no : ⊥ = cc in no)
  writes_in_full d ShowLayout r texts kept h = absurd (let no : ⊥ = cc in no)
  writes_in_full d (Use name) r texts kept h = absurd (let no : ⊥ = cc in no)
  writes_in_full d (Session number) r texts kept h = absurd (let no : ⊥ = cc in no)
  writes_in_full d (Advise name) r texts kept h = absurd (let no : ⊥ = cc in no)
  writes_in_full d (Watch name) r texts kept h = absurd (let no : ⊥ = cc in no)
  writes_in_full d (Unwatch number) r texts kept h = absurd (let no : ⊥ = cc in no)
  writes_in_full d Begin r texts kept h = absurd (let no : ⊥ = cc in no)
  writes_in_full d Commit r texts kept h = absurd (let no : ⊥ = cc in no)
  writes_in_full d Rollback r texts kept h = absurd (let no : ⊥ = cc in no)

  module _ (s : Standing) (kept : IsKept s.laid.database) where
    abbrev full : TableName → TableName
    full name = name_in_full (used_by s.uses s.session) name

    -- the same in a session
    in_session : (name : TableName) (x : StatementView) (P : Planned → Type 0) (answer : Answer × Standing) (c : Counted s x answer) → WritesInFull s.laid.database (full name) P c.full → Writes s name P answer.0 answer.1
    in_session name x P answer c w = record {
      version = w.version;
      is_version = means (used_by s.uses s.session) name.version w.version w.is_version;
      reply = c.full.0;
      answers = c.answers;
      table = subst (λ (n : AnyDatabase). WritesTable s.laid.database w.version name.table P c.full.0 n) (sym c.leaves) w.table;
    }

    inserted_by : (name : TableName) (rows : List (List Value)) (answer : Answer × Standing) → TextsWithin text_limit (Insert name rows) → counted s false (Insert (full name) rows) ≡ Ok answer
        → Writes s name (InsertsRows s.laid.database rows) answer.0 answer.1
    inserted_by name rows answer texts h =
        let c = counted_of s (Insert (full name) rows) answer refl refl refl h in
        in_session name (Insert (full name) rows) (InsertsRows s.laid.database rows) answer c (inserted_in s.laid.database (full name) rows c.full kept texts c.is).0

    updated_by : (name : TableName) (assignments : List AssignmentView) (filter : Option Tree) (answer : Answer × Standing) → TextsWithin text_limit (Update name assignments filter) → counted s false (Update (full name) assignments filter) ≡ Ok answer
        → Writes s name (UpdatesChosen s.laid.database assignments filter) answer.0 answer.1
    updated_by name assignments filter answer texts h =
        let c = counted_of s (Update (full name) assignments filter) answer refl refl refl h in
        in_session name (Update (full name) assignments filter) (UpdatesChosen s.laid.database assignments filter) answer c (updated_in s.laid.database (full name) assignments filter c.full kept texts c.is).0

    deleted_by : (name : TableName) (filter : Option Tree) (answer : Answer × Standing) → counted s false (Delete (full name) filter) ≡ Ok answer → Writes s name (DeletesChosen s.laid.database filter) answer.0 answer.1
    deleted_by name filter answer h =
        let c = counted_of s (Delete (full name) filter) answer refl refl refl h in
        in_session name (Delete (full name) filter) (DeletesChosen s.laid.database filter) answer c (deleted_in s.laid.database (full name) filter c.full kept c.is).0

    written : (x : StatementView) (answer : Answer × Standing) → TextsWithin text_limit x → act s x ≡ Ok answer → IsWrite s x answer
    written (Insert name rows) answer texts h = inserted_by name rows answer texts h
    written (Import name text) answer texts h = inserted_by name (csv_rows text) answer (import_texts text texts) h
    written (Update name assignments filter) answer texts h = updated_by name assignments filter answer texts h
    written (Delete name filter) answer texts h = deleted_by name filter answer h
    written (CreateVersion name from operators) answer texts h = tt
    written (DropVersion name) answer texts h = tt
    written (Select name items filter csv) answer texts h = tt
    written (Materialize named in_steps) answer texts h = tt
    written Step answer texts h = tt
    written ShowLayout answer texts h = tt
    written (Use name) answer texts h = tt
    written (Session number) answer texts h = tt
    written (Advise name) answer texts h = tt
    written (Watch name) answer texts h = tt
    written (Unwatch number) answer texts h = tt
    written Begin answer texts h = tt
    written Commit answer texts h = tt
    written Rollback answer texts h = tt

pub writes_ordinary : InsertsByIdentifier → UpdatesByIdentifier → DeletesByIdentifier → WritesAreOrdinary
writes_ordinary inserts updates deletes s x answer texts kept h = written inserts updates deletes s kept x answer texts h
