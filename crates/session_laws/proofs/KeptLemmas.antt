-- Each statement leaves a state as a database may have it.
use Rattle.std.specs.Prelude.{◌==◌, not, Option, Some, None, Ok, Err, if◌then◌else◌}
use Rattle.std.proofs.Common.{◌≡◌, ◌≤◌, ◌<◌, ◌+◌, ℕ, List, [], ◌∷◌, length, Bool, true, false, inl, inr, refl, sym, ap, subst, ◌∙◌, arith}
use Rattle.std.proofs.lemmas.List.{map-append}
use Rattle.std.specs.Str.{bytes_eq}
use Rattle.par_base.specs.declared.limits.Target.{Target}
use Rattle.par_base.specs.declared.refusal.Refusal.TheVariants.{NotBuilt}
use Rattle.par_base.specs.Checked.{Checked, ◌then◌}
use Rattle.expr_lang.specs.Operations.{text_limit}
use Rattle.statements.specs.Views.{OpView, StatementView, CreateVersion, DropVersion, Insert, Import, Update, Delete, Select, Materialize, Step, ShowLayout, Use, Session, Advise, Watch, Unwatch, Begin, Commit, Rollback}
use Rattle.statements.specs.Texts.{TextsWithin}
use Rattle.version_graph.specs.Sets.{Each, In}
use Rattle.version_graph.specs.Tables.{headings_of, table_numbers}
use Rattle.version_graph.specs.Edges.{made, numbers, set_named, version_sets, working}
use Rattle.version_graph.specs.Evolve.{grown}
use Rattle.version_graph.specs.Dropped.{other_versions, staying}
use Rattle.version_graph.specs.declared.parts.Edge.{Edge}
use Rattle.version_graph.proofs.GrowLaws.{grown_last, grown_stays}
use Rattle.version_graph.proofs.NodeLaws.{set_listed}
use Rattle.version_graph.proofs.SetLaws.{each_append, each_at, each_more, each_of, in_map, origin}
use Rattle.version_graph.proofs.StayLaws.{edges_stay, fewer_numbers, fewer_tables, in_others, number_stays}
use Rattle.engine_sessions.proofs.TextLaws.{import_texts}
use Rattle.layout_rules.specs.Closed.{closing}
use Rattle.op_any.specs.Operators.{AnyView, any_laws, any_meaning}
use Rattle.op_any.specs.Texts.{TextsFit}
use Rattle.version_model.specs.Writes.{MayWrite}
use Rattle.version_model.specs.Databases.{dropped_database}
use Rattle.version_model.proofs.WriteLaws.{write_is_ordinary}
use Rattle.version_model.proofs.EvolveLaws.{MayGrow, empty_sound, evolution_keeps}
use Rattle.version_model.proofs.DropLaws.{drop_keeps}
use Rattle.engine_state.specs.AnyDatabase.{AnyDatabase}
use Rattle.engine_state.specs.SharedChecks.{enough_ids, known_version}
use Rattle.engine_state.specs.declared.reply.Reply.{Reply}
use Rattle.engine_state.specs.declared.reply.Reply.TheVariants.{Done, Layout, Moved}
use Rattle.engine_sessions.specs.Found.{condition_list, found, known_condition, known_references}
use Rattle.engine_sessions.specs.Statements.{Planned, columns_of, listed_places, planned_delete, planned_insert, planned_update, state_with, wrote}
use Rattle.engine_sessions.specs.Evolve.{counts_of, created, dropped_version, edges_on, start_at, state_after as version_after, unused}
use Rattle.engine_sessions.proofs.ChainLaws.{both_give, ok_is}
use Rattle.engine_sessions.proofs.KeptTextLaws.{dropped_is}
use Rattle.engine_sessions.specs.Laid.{Laid, materialized, moved_count}
use Rattle.engine_sessions.specs.Shown.{shown_operators, shown_tables}
use Rattle.engine_sessions.specs.EngineCoreAct.{act as act_at_once, acted, acted_data, is_built, with_data}
use Rattle.engine_sessions.specs.EngineMovesAct.{act as act_in_full, at_once, is_materialize, pending_behind}
use Rattle.engine_sessions.specs.Moving.{Moving}
use Rattle.engine_sessions.proofs.ActLaws.{kind_of, started_stays, stepped_stays}
use Rattle.engine_sessions.proofs.EngineCoreTextLaws.{assignments_fit, operators_fit, rows_fit}
use Rattle.engine_sessions.specs.Act.{advice_on}
use Rattle.engine_sessions.specs.Accesses.{accessed, is_move}
use Rattle.engine_sessions.specs.InFull.{in_full}
use Rattle.engine_sessions.specs.Standing.{Standing, moving_in, used_by, with_use}
use Rattle.engine_sessions.specs.declared.answer.Answer.{Answer}
use Rattle.engine_sessions.specs.declared.answer.Answer.TheVariants.{Plain}
use Rattle.session_laws.specs.Beside.{next_state}
use Rattle.session_laws.specs.Kept.{DatabasesAreKept, EmptyIsKept, IsKept, StatementsKeep}
use Rattle.session_laws.proofs.FoundLemmas.{version_is}
use Rattle.session_laws.proofs.GrownLemmas.{Grows, MayAdd, grows, some_grow}
use Rattle.session_laws.proofs.PlanLemmas.{delete_taken, insert_taken, update_taken}
use Rattle.session_laws.proofs.SaidLemmas.{answered}

-- ---- the data

-- after a write
pub kept_with : (d : AnyDatabase) (p : Planned) → IsKept d → MayWrite d.graph.edges d.state p.found.set p.found.table.number p.rows p.next → IsKept (state_with d p)
kept_with d p kept may = record {
  edges = kept.edges;
  operators = kept.operators;
  tables = kept.tables;
  named = kept.named;
  sound = (write_is_ordinary any_meaning d.graph.edges d.state kept.sound p.found.set p.found.table.number p.rows p.next may any_laws kept.edges).sound;
}

-- the working set from which a new version starts
start_live : (d : AnyDatabase) → IsKept d → (from : Option (List ℕ)) (set : ℕ) → start_at d.graph.versions from ≡ Ok set → In set (0 ∷ numbers d.graph.edges)
start_live d kept None set e = inl (sym (ok_is 0 set e))
start_live d kept (Some name) set e =
    inr (each_at (λ n. In n (numbers d.graph.edges)) (version_sets d.graph.versions) set (set_listed d.graph.versions name set (version_is name (set_named d.graph.versions name) set e)) kept.named)

-- with these operators and a name for the last one's tables
kept_grown : (d : AnyDatabase) (name : List ℕ) (set : ℕ) (edges : List (Edge AnyView)) → IsKept d → 0 < length edges → Grows d.graph.edges set d.graph.last_operator d.graph.last_table d.state.next edges → IsKept (version_after d name set edges)
kept_grown d name set edges kept some g =
    let all = grown d.graph.edges set d.graph.last_operator d.graph.last_table edges in
    let grow : MayGrow any_meaning d.graph.edges set d.graph.last_operator d.graph.last_table edges d.state d.state.next =
    record { all = g.all; sound = kept.sound; built = g.built; drawn = omega arith } in
    record {
      edges = g.all;
      operators = g.operators;
      tables = g.tables;
      named = subst (λ (l : List ℕ). Each (λ n. In n (numbers all)) l) (sym (map-append (λ (v : List ℕ × ℕ). v.1) d.graph.versions ((name, d.graph.last_operator + length edges) ∷ [])))
          (each_append (λ n. In n (numbers all)) (version_sets d.graph.versions) ((d.graph.last_operator + length edges) ∷ [])
          (each_more (λ n. In n (numbers d.graph.edges)) (λ n. In n (numbers all)) (λ n i. grown_stays d.graph.edges set d.graph.last_operator d.graph.last_table edges n i) (version_sets d.graph.versions) kept.named)
          (grown_last d.graph.edges set d.graph.last_operator d.graph.last_table edges some, tt));
      sound = (evolution_keeps any_meaning any_laws d.graph.edges set d.graph.last_operator d.graph.last_table edges d.state d.state.next grow).sound;
    }

kept_created : (d : AnyDatabase) (name : List ℕ) (from : Option (List ℕ)) (texts : List OpView) (new : AnyDatabase) → IsKept d → 0 < length texts → Each TextsFit texts → created d name from texts ≡ Ok new → IsKept new
kept_created d name from texts new kept some fit h =
    let a = both_give (start_at d.graph.versions from) _ new h in
    let b = both_give (unused name (set_named d.graph.versions name)) _ new a.2 in
    let c = both_give (edges_on (headings_of (working d.graph.edges a.0)) (counts_of d.graph) d.state.next texts) _ new b.2 in
    let e = both_give (enough_ids d (version_after d name a.0 c.0).state.next) _ new c.2 in
    let may : MayAdd d.graph.edges a.0 d.graph.last_operator d.graph.last_table = record { edges = kept.edges; live = start_live d kept from a.0 a.1; operators = kept.operators; tables = kept.tables } in
    let g = grows d.graph.edges a.0 d.graph.last_operator d.graph.last_table d.state.next (counts_of d.graph) texts c.0 c.1 may fit in
    let more = some_grow (headings_of (working d.graph.edges a.0)) (counts_of d.graph) d.state.next texts c.0 some c.1 in
    subst IsKept (ok_is (version_after d name a.0 c.0) new e.2) (kept_grown d name a.0 c.0 kept more g)

-- without a version
kept_dropped : (d : AnyDatabase) (name : List ℕ) → IsKept d → IsKept (dropped_database d name)
kept_dropped d name kept =
    let g = d.graph in
    let left = other_versions g.versions name in
    let sets = version_sets left in
    let set = λ (v : List ℕ × ℕ). v.1 in
    record {
      edges = edges_stay g.edges sets kept.edges;
      operators = each_of (λ n. n ≤ g.last_operator) (numbers (staying sets g.edges)) (λ n i. each_at (λ k. k ≤ g.last_operator) (numbers g.edges) n (fewer_numbers g.edges sets n i) kept.operators);
      tables = each_of (λ t. t ≤ g.last_table) (table_numbers (made (staying sets g.edges))) (λ t i. each_at (λ k. k ≤ g.last_table) (table_numbers (made g.edges)) t (fewer_tables g.edges sets t i) kept.tables);
      named = each_of (λ n. In n (numbers (staying sets g.edges))) sets (λ n i.
          let o = origin set n left i in
          let old : In n (version_sets g.versions) = subst (λ (k : ℕ). In k (version_sets g.versions)) (sym o.2) (in_map set o.0 g.versions (in_others (bytes_eq name) o.0 g.versions o.1)) in
          number_stays g.edges n sets i (each_at (λ k. In k (numbers g.edges)) (version_sets g.versions) n old kept.named));
      sound = (drop_keeps any_meaning g.edges sets d.state kept.edges kept.sound).sound;
    }

-- ---- statements on the data

-- what an answer leaves
abbrev left : Reply × AnyDatabase → AnyDatabase
left answer = answer.1

kept_wrote : (d : AnyDatabase) (p : Planned) (answer : Reply × AnyDatabase) → IsKept d → MayWrite d.graph.edges d.state p.found.set p.found.table.number p.rows p.next → wrote d p ≡ Ok answer → IsKept (left answer)
kept_wrote d p answer kept may h =
    let a = both_give (enough_ids d (state_with d p).state.next) _ answer h in
    subst IsKept (ap left (ok_is (p.reply, state_with d p) answer a.2)) (kept_with d p kept may)

kept_selected : (d : AnyDatabase) (answer : Reply × AnyDatabase) → IsKept d → d ≡ left answer → IsKept (left answer)
kept_selected d answer kept same = subst IsKept same kept

some_built : (operators : List OpView) → not (length operators == 0) ≡ true → 0 < length operators
some_built [] e = absurd (let no : ⊥ = cc in no)
some_built (o ∷ operators) e = omega arith

pub kept_data : (d : AnyDatabase) (x : StatementView) (answer : Reply × AnyDatabase) → TextsWithin text_limit x → is_built x ≡ true → IsKept d → acted_data d x ≡ Ok answer → IsKept (left answer)
kept_data d (CreateVersion name from operators) answer texts built kept h =
    let a = both_give (created d name from operators) _ answer h in
    subst IsKept (ap left (ok_is (Done, a.0) answer a.2)) (kept_created d name from operators a.0 kept (some_built operators built) (operators_fit operators texts) a.1)
kept_data d (DropVersion name) answer texts built kept h =
    let a = both_give (dropped_version d name) _ answer h in
    let same : a.0 ≡ dropped_database d name = dropped_is d name a.0 a.1 in
    subst IsKept (sym same ∙ ap left (ok_is (Done, a.0) answer a.2)) (kept_dropped d name kept)
kept_data d (Insert t rows) answer texts built kept h =
    let a = both_give (planned_insert d t rows) _ answer h in
    kept_wrote d a.0 answer kept (insert_taken d kept t rows a.0 (rows_fit rows texts) a.1).may a.2
kept_data d (Update t assignments filter) answer texts built kept h =
    let a = both_give (planned_update d t assignments filter) _ answer h in
    kept_wrote d a.0 answer kept (update_taken d kept t assignments filter a.0 (assignments_fit assignments texts.0) a.1).may a.2
kept_data d (Delete t filter) answer texts built kept h =
    let a = both_give (planned_delete d t filter) _ answer h in
    kept_wrote d a.0 answer kept (delete_taken d kept t filter a.0 a.1).may a.2
kept_data d (Select t items filter csv) answer texts built kept h =
    let a = both_give (found d t) _ answer h in
    let b = both_give (listed_places (columns_of a.0) items) _ answer a.2 in
    let c = both_give (known_condition (columns_of a.0) filter) _ answer b.2 in
    let e = both_give (known_references d.state.next (condition_list filter)) _ answer c.2 in
    kept_selected d answer kept (ap left (ok_is _ answer e.2))
kept_data d (Import t bytes) answer texts built kept h = absurd (let no : ⊥ = cc in no)
kept_data d (Materialize named in_steps) answer texts built kept h = absurd (let no : ⊥ = cc in no)
kept_data d Step answer texts built kept h = absurd (let no : ⊥ = cc in no)
kept_data d ShowLayout answer texts built kept h = absurd (let no : ⊥ = cc in no)
kept_data d (Use name) answer texts built kept h = absurd (let no : ⊥ = cc in no)
kept_data d (Session number) answer texts built kept h = absurd (let no : ⊥ = cc in no)
kept_data d (Advise name) answer texts built kept h = absurd (let no : ⊥ = cc in no)
kept_data d (Watch name) answer texts built kept h = absurd (let no : ⊥ = cc in no)
kept_data d (Unwatch number) answer texts built kept h = absurd (let no : ⊥ = cc in no)
kept_data d Begin answer texts built kept h = absurd (let no : ⊥ = cc in no)
kept_data d Commit answer texts built kept h = absurd (let no : ⊥ = cc in no)
kept_data d Rollback answer texts built kept h = absurd (let no : ⊥ = cc in no)

-- ---- with the layout beside it

abbrev data_in : Reply × Laid → AnyDatabase
data_in answer = answer.1.database

pub built_first : (b : Bool) (c : Checked (Reply × Laid)) (r : Reply × Laid) → (if b then c else Err NotBuilt) ≡ Ok r → (b ≡ true) × (c ≡ Ok r)
built_first true c r h = (refl, h)
built_first false c r h = absurd (let no : ⊥ = cc in no)

kept_beside : (l : Laid) (x : StatementView) (r : Reply × Laid) → TextsWithin text_limit x → is_built x ≡ true → IsKept l.database → (acted_data l.database x then λ answer. Ok (with_data l answer)) ≡ Ok r → IsKept (data_in r)
kept_beside l x r texts built kept h =
    let a = both_give (acted_data l.database x) (λ answer. Ok (with_data l answer)) r h in
    subst IsKept (ap data_in (ok_is (with_data l a.0) r a.2)) (kept_data l.database x a.0 texts built kept a.1)

kept_moved : (l : Laid) (named : List Target) (r : Reply × Laid) → IsKept l.database → (materialized l named then λ m. Ok (Moved m.0, m.1)) ≡ Ok r → IsKept (data_in r)
kept_moved l named r kept h =
    let a = both_give (materialized l named) (λ m. Ok (Moved m.0, m.1)) r h in
    let b = both_give (closing l.database.graph l.layout named) (λ new. Ok (moved_count l new, record l { layout = new })) a.0 a.1 in
    let same : l.database ≡ a.0.1.database = ap (λ (x : ℕ × Laid). x.1.database) (ok_is (moved_count l b.0, record l { layout = b.0 }) a.0 b.2) in
    subst IsKept (same ∙ ap data_in (ok_is (Moved a.0.0, a.0.1) r a.2)) kept

kept_acted : (l : Laid) (x : StatementView) (r : Reply × Laid) → TextsWithin text_limit x → is_built x ≡ true → IsKept l.database → acted l x ≡ Ok r → IsKept (data_in r)
kept_acted l (Materialize named in_steps) r texts built kept h = kept_moved l named r kept h
kept_acted l ShowLayout r texts built kept h = subst IsKept (ap data_in (ok_is (Layout (shown_tables l) (shown_operators l), l) r h)) kept
kept_acted l (CreateVersion name from operators) r texts built kept h = kept_beside l (CreateVersion name from operators) r texts built kept h
kept_acted l (DropVersion name) r texts built kept h = kept_beside l (DropVersion name) r texts built kept h
kept_acted l (Insert t rows) r texts built kept h = kept_beside l (Insert t rows) r texts built kept h
kept_acted l (Import t bytes) r texts built kept h = kept_beside l (Import t bytes) r texts built kept h
kept_acted l (Update t assignments filter) r texts built kept h = kept_beside l (Update t assignments filter) r texts built kept h
kept_acted l (Delete t filter) r texts built kept h = kept_beside l (Delete t filter) r texts built kept h
kept_acted l (Select t items filter csv) r texts built kept h = kept_beside l (Select t items filter csv) r texts built kept h
kept_acted l Step r texts built kept h = kept_beside l Step r texts built kept h
kept_acted l (Use name) r texts built kept h = kept_beside l (Use name) r texts built kept h
kept_acted l (Session number) r texts built kept h = kept_beside l (Session number) r texts built kept h
kept_acted l (Advise name) r texts built kept h = kept_beside l (Advise name) r texts built kept h
kept_acted l (Watch name) r texts built kept h = kept_beside l (Watch name) r texts built kept h
kept_acted l (Unwatch number) r texts built kept h = kept_beside l (Unwatch number) r texts built kept h
kept_acted l Begin r texts built kept h = kept_beside l Begin r texts built kept h
kept_acted l Commit r texts built kept h = kept_beside l Commit r texts built kept h
kept_acted l Rollback r texts built kept h = kept_beside l Rollback r texts built kept h

-- ---- with a move in steps that may be pending

abbrev moving_data : Reply × Moving → AnyDatabase
moving_data r = r.1.laid.database

kept_once : (s : Moving) (x : StatementView) (r : Reply × Moving) → TextsWithin text_limit x → IsKept s.laid.database → at_once s x ≡ Ok r → IsKept (moving_data r)
kept_once s x r texts kept h =
    let a = both_give (act_at_once s.laid x) (λ answer. Ok (answer.0, record { laid = answer.1; pending = pending_behind (is_materialize x) answer.1 s.pending })) r h in
    let b = built_first (is_built x) (acted s.laid x) a.0 a.1 in
    subst IsKept (ap moving_data (ok_is _ r a.2)) (kept_acted s.laid x a.0 texts b.0 kept b.1)

kept_moving : (s : Moving) (x : StatementView) (r : Reply × Moving) → TextsWithin text_limit x → IsKept s.laid.database → act_in_full s x ≡ Ok r → IsKept (moving_data r)
kept_moving s x r texts kept h = elim (kind_of s x) as (λ _. IsKept (moving_data r)) [
  | inl once ↦ kept_once s x r texts kept (sym once ∙ h)
  | inr moves ↦ elim moves as (λ _. IsKept (moving_data r)) [
    | inl starts ↦ subst IsKept (ap (λ (l : Laid). l.database) (sym (started_stays s starts.0 r (sym starts.1 ∙ h)))) kept
    | inr steps ↦ subst IsKept (sym (stepped_stays s r (sym steps ∙ h))) kept
  ]
]

-- ---- in a session

kept_answered : (s : Standing) (csv move : Bool) (table : Option ℕ) (m : Checked (Reply × Moving)) → IsKept s.laid.database → ((r : Reply × Moving) → m ≡ Ok r → IsKept (moving_data r)) → IsKept (next_state s (answered s csv move table m)).laid.database
kept_answered s csv move table (Ok r) kept more = more r refl
kept_answered s csv move table (Err e) kept more = kept

-- a statement in full
kept_full : (s : Standing) (csv : Bool) (x : StatementView) → TextsWithin text_limit x → IsKept s.laid.database → IsKept (next_state s (answered s csv (is_move x) (accessed s.laid.database x) (act_in_full (moving_in s) x))).laid.database
kept_full s csv x texts kept =
    kept_answered s csv (is_move x) (accessed s.laid.database x) (act_in_full (moving_in s) x) kept (λ r h. kept_moving (moving_in s) x r texts kept h)

kept_used : (s : Standing) (name : List ℕ) (m : Checked ℕ) → IsKept s.laid.database → IsKept (next_state s (m then λ set. Ok (Plain Done, record s { uses = with_use s.uses s.session name }))).laid.database
kept_used s name (Ok set) kept = kept
kept_used s name (Err r) kept = kept

kept_advised : (s : Standing) (answer : Answer) (m : Checked ℕ) → IsKept s.laid.database → IsKept (next_state s (m then λ set. Ok (answer, s))).laid.database
kept_advised s answer (Ok set) kept = kept
kept_advised s answer (Err r) kept = kept

-- EACH STATEMENT LEAVES SUCH A STATE
pub statements_keep : StatementsKeep
statements_keep s (CreateVersion name from operators) texts kept = kept_full s false (CreateVersion name from operators) texts kept
statements_keep s (DropVersion name) texts kept = kept_full s false (DropVersion name) texts kept
statements_keep s (Insert name rows) texts kept = kept_full s false (in_full (used_by s.uses s.session) (Insert name rows)) texts kept
statements_keep s (Import name text) texts kept = kept_full s false (in_full (used_by s.uses s.session) (Import name text)) (import_texts text texts) kept
statements_keep s (Update name assignments filter) texts kept = kept_full s false (in_full (used_by s.uses s.session) (Update name assignments filter)) texts kept
statements_keep s (Delete name filter) texts kept = kept_full s false (in_full (used_by s.uses s.session) (Delete name filter)) texts kept
statements_keep s (Select name items filter csv) texts kept = kept_full s csv (in_full (used_by s.uses s.session) (Select name items filter csv)) texts kept
statements_keep s (Materialize named in_steps) texts kept = kept_full s false (Materialize named in_steps) texts kept
statements_keep s Step texts kept = kept_full s false Step texts kept
statements_keep s ShowLayout texts kept = kept_full s false ShowLayout texts kept
statements_keep s (Use name) texts kept = kept_used s name (known_version name (set_named s.laid.database.graph.versions name)) kept
statements_keep s (Session number) texts kept = kept
statements_keep s (Advise name) texts kept = kept_advised s (advice_on s name) (known_version name (set_named s.laid.database.graph.versions name)) kept
statements_keep s (Watch name) texts kept = kept_full s false (Watch name) texts kept
statements_keep s (Unwatch number) texts kept = kept_full s false (Unwatch number) texts kept
statements_keep s Begin texts kept = kept_full s false Begin texts kept
statements_keep s Commit texts kept = kept_full s false Commit texts kept
statements_keep s Rollback texts kept = kept_full s false Rollback texts kept

pub databases_kept : DatabasesAreKept
databases_kept k is = record { edges = is.graph.edges; operators = is.graph.operators; tables = is.graph.tables; named = is.graph.named; sound = is.sound }

pub empty_kept : EmptyIsKept
empty_kept limit = record { edges = tt; operators = tt; tables = tt; named = tt; sound = empty_sound any_meaning 1 (omega arith) }
