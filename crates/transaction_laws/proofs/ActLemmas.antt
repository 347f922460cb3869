-- What each accepted statement outside a transaction leaves.
use Rattle.std.specs.Prelude.{Option, None, Ok, Err, if◌then◌else◌}
use Rattle.std.proofs.Common.{◌≡◌, ◌≤◌, ℕ, Bool, true, false, List, [], refl, sym, ap, ◌∙◌, subst}
use Rattle.par_base.specs.declared.limits.Target.{Target}
use Rattle.par_base.specs.declared.refusal.Refusal.TheVariants.{NotBuilt}
use Rattle.par_base.specs.Checked.{Checked, ◌then◌}
use Rattle.statements.specs.Views.{OpView, Tree, StatementView, CreateVersion, DropVersion, Insert, Import, Update, Delete, Select, Materialize, Step, ShowLayout, Use, Session, Advise, Watch, Unwatch, Begin, Commit, Rollback}
use Rattle.statements.specs.declared.statement.TableName.{TableName}
use Rattle.version_graph.specs.Edges.{set_named, working}
use Rattle.version_graph.specs.Tables.{headings_of}
use Rattle.layout_planner.specs.declared.planning.TableCount.{TableCount}
use Rattle.session_tx.specs.Calls.{last_number}
use Rattle.engine_state.specs.AnyDatabase.{AnyDatabase}
use Rattle.engine_state.specs.SharedChecks.{enough_ids, known_version}
use Rattle.engine_state.specs.declared.reply.Reply.{Reply}
use Rattle.engine_state.specs.declared.reply.Reply.TheVariants.{Done, Layout, Moved}
use Rattle.engine_transactions.specs.Found.{condition_list, found, known_condition, known_references}
use Rattle.engine_transactions.specs.Statements.{acted_select, columns_of, listed_places, wrote}
use Rattle.engine_transactions.specs.Evolve.{counts_of, created, dropped_version, edges_on, start_at, state_after, unused}
use Rattle.engine_transactions.proofs.ChainLaws.{both_give, ok_is}
use Rattle.engine_transactions.proofs.KeptTextLaws.{dropped_is}
use Rattle.version_model.specs.Databases.{dropped_database}
use Rattle.engine_transactions.specs.EngineCoreAct.{act as act_at_once, acted, acted_data, is_built, planned_write, with_data}
use Rattle.engine_transactions.specs.Laid.{Laid, materialized}
use Rattle.engine_transactions.specs.Shown.{shown_operators, shown_tables}
use Rattle.engine_transactions.specs.EngineMovesAct.{act as act_in_full, at_once, is_materialize, pending_behind}
use Rattle.engine_transactions.specs.Moving.{Moving}
use Rattle.engine_transactions.proofs.ActLaws.{started_stays, stepped_stays}
use Rattle.engine_transactions.specs.Accesses.{accessed, is_move, kept_behind, raised_by}
use Rattle.engine_transactions.specs.EngineSessionsAct.{act as act_beside, advice_on, answer_of, behind, counted}
use Rattle.engine_transactions.specs.InFull.{in_full}
use Rattle.engine_transactions.specs.EngineSessionsStanding.{Standing as SessionsStanding, moving_in, used_by, with_use}
use Rattle.engine_transactions.specs.Answer.{Answer}
use Rattle.engine_transactions.specs.Answer.TheVariants.{Plain}
use Rattle.engine_transactions.specs.Act.{history_behind}
use Rattle.tx_history.specs.History.{History, with_drop, with_version}
use Rattle.engine_transactions.specs.Changed.{has_changed, with_writes}
use Rattle.engine_transactions.specs.Standing.{Standing}
use Rattle.transaction_laws.specs.Orderly.{IsOrderly}
use Rattle.transaction_laws.proofs.LeaveLemmas.{Leaves, drop_leaves, evolution_leaves, same_leave, unchanged_rows, writes_leave}
use Rattle.transaction_laws.proofs.OrderLemmas.{AllCounted, AllLive, IsMoving, IsOrdered, counted_kept, dropped_ordered, evolved_ordered, layout_lives, live_kept, materialized_lives, started_moving, stepped_moving}
use Rattle.transaction_laws.proofs.PlanLemmas.{is_planned, wrote_is}

-- ---- what is orderly

pub moving_of : (s : SessionsStanding) → IsOrderly s → IsMoving (moving_in s)
moving_of s is = record {
  graph = record { operators = is.operators; tables = is.tables; sets = is.sets };
  layout = is.layout;
  pending = is.pending;
}

pub orderly_of : (s : SessionsStanding) → IsMoving (moving_in s) → AllCounted s.laid.database.graph.edges s.counts → IsOrderly s
orderly_of s is counts = record { operators = is.graph.operators; tables = is.graph.tables; sets = is.graph.sets; layout = is.layout; pending = is.pending; counts = counts }

-- ---- on the data

-- the reply doesn't matter
abbrev left : Reply × AnyDatabase → AnyDatabase
left answer = answer.1

-- what a statement on the data leaves, with this history behind it
abbrev Left : AnyDatabase → History → (AnyDatabase → History) → AnyDatabase → Type 0
Left d h now later = IsOrdered later.graph × Leaves d h later (now later)

module _ (d : AnyDatabase) (h : History) (is : IsOrdered d.graph) (within : h.last ≤ last_number) where
  created_left : (name : List ℕ) (from : Option (List ℕ)) (texts : List OpView) (later : AnyDatabase) → created d name from texts ≡ Ok later → Left d h (λ _. with_version h) later
  created_left name from texts later e =
      let a = both_give (start_at d.graph.versions from) _ later e in
      let b = both_give (unused name (set_named d.graph.versions name)) _ later a.2 in
      let c = both_give (edges_on (headings_of (working d.graph.edges a.0)) (counts_of d.graph) d.state.next texts) _ later b.2 in
      let f = both_give (enough_ids d (state_after d name a.0 c.0).state.next) _ later c.2 in
      subst (Left d h (λ _. with_version h)) (ok_is (state_after d name a.0 c.0) later f.2)
      (evolved_ordered d.graph name a.0 c.0 is, evolution_leaves d h name a.0 c.0 within is.sets is.tables)

  version_left : (name : List ℕ) (from : Option (List ℕ)) (texts : List OpView) (answer : Reply × AnyDatabase) → (created d name from texts then λ next. Ok (Done, next)) ≡ Ok answer → Left d h (λ _. with_version h) (left answer)
  version_left name from texts answer e =
      let a = both_give (created d name from texts) _ answer e in
      subst (Left d h (λ _. with_version h)) (ap left (ok_is (Done, a.0) answer a.2)) (created_left name from texts a.0 a.1)

  drop_left : (name : List ℕ) (answer : Reply × AnyDatabase) → (dropped_version d name then λ next. Ok (Done, next)) ≡ Ok answer → Left d h (λ _. with_drop h name) (left answer)
  drop_left name answer e =
      let a = both_give (dropped_version d name) _ answer e in
      let same : a.0 ≡ dropped_database d name = dropped_is d name a.0 a.1 in
      subst (Left d h (λ _. with_drop h name)) (sym same ∙ ap left (ok_is (Done, a.0) answer a.2)) (dropped_ordered d.graph name is, drop_leaves d h name within)

  write_left : (x : StatementView) (answer : Reply × AnyDatabase) → (planned_write d x then λ p. wrote d p) ≡ Ok answer → Left d h (λ later. with_writes h d (has_changed d later)) (left answer)
  write_left x answer e =
      let a = both_give (planned_write d x) (λ p. wrote d p) answer e in
      let w = wrote_is d x a.0 answer (is_planned d x a.0 a.1) a.2 in
      let later = left answer in
      (subst IsOrdered (sym w.graph) is, writes_leave d later h (has_changed d later) within w.graph w.next (λ t off. unchanged_rows d later t off))

  select_left : (name : TableName) (items : Option (List (List ℕ))) (filter : Option Tree) (answer : Reply × AnyDatabase) → acted_select d name items filter ≡ Ok answer → Left d h (λ _. h) (left answer)
  select_left name items filter answer e =
      let a = both_give (found d name) _ answer e in
      let b = both_give (listed_places (columns_of a.0) items) _ answer a.2 in
      let c = both_give (known_condition (columns_of a.0) filter) _ answer b.2 in
      let f = both_give (known_references d.state.next (condition_list filter)) _ answer c.2 in
      subst (Left d h (λ _. h)) (ap left (ok_is _ answer f.2)) (is, same_leave d h within)

-- ---- with the layout, and what is pending

built_first : (b : Bool) (c : Checked (Reply × Laid)) (r : Reply × Laid) → (if b then c else Err NotBuilt) ≡ Ok r → (b ≡ true) × (c ≡ Ok r)
built_first true c r h = (refl, h)
built_first false c r h = absurd (let no : ⊥ = cc in no)

-- what a statement leaves that is carried out in full
abbrev Moves : AnyDatabase → History → (AnyDatabase → History) → Moving → Type 0
Moves d h now m = IsMoving m × Leaves d h m.laid.database (now m.laid.database)

module _ (m : Moving) (h : History) (now : AnyDatabase → History) where
  abbrev moving_with : StatementView → Laid → Moving
  moving_with x laid = record { laid = laid; pending = pending_behind (is_materialize x) laid m.pending }

  -- a statement on the data
  data_moves : (x : StatementView) (r : Reply × Moving) → is_materialize x ≡ false → acted m.laid x ≡ (acted_data m.laid.database x then λ a. Ok (with_data m.laid a))
      → ((answer : Reply × AnyDatabase) → acted_data m.laid.database x ≡ Ok answer → Left m.laid.database h now (left answer)) → at_once m x ≡ Ok r → Moves m.laid.database h now r.1
  data_moves x r off beside leaves e =
      let a = both_give (act_at_once m.laid x) (λ answer. Ok (answer.0, moving_with x answer.1)) r e in
      let b = built_first (is_built x) (acted m.laid x) a.0 a.1 in
      let c = both_give (acted_data m.laid.database x) (λ answer. Ok (with_data m.laid answer)) a.0 (sym beside ∙ b.1) in
      let l = leaves c.0 c.1 in
      let g = c.0.1.graph in
      let whole : Moves m.laid.database h now (moving_with x (with_data m.laid c.0).1) = (
        record {
          graph = l.0;
          layout = layout_lives m.laid.layout m.laid.database.graph g;
          pending = subst (λ (b : Bool). AllLive g.edges (pending_behind b (with_data m.laid c.0).1 m.pending)) (sym off) (live_kept g.edges m.pending);
        },
        l.1,
      ) in
      let first : Reply × Moving = (c.0.0, moving_with x (with_data m.laid c.0).1) in
      let last : Reply × Moving = (a.0.0, moving_with x a.0.1) in
      let one : first ≡ last = ap (λ (q : Reply × Laid). (q.0, moving_with x q.1)) (ok_is (with_data m.laid c.0) a.0 c.2) in
      let two : last ≡ r = ok_is last r a.2 in
      subst (λ (q : Reply × Moving). Moves m.laid.database h now q.1) {x = first} (◌∙◌ {b = last} one two) whole

module _ (m : Moving) (h : History) (is : IsMoving m) (within : h.last ≤ last_number) where
  -- a statement that shows the layout
  shown_moves : (r : Reply × Moving) → at_once m ShowLayout ≡ Ok r → Moves m.laid.database h (λ _. h) r.1
  shown_moves r e =
      let a = both_give (act_at_once m.laid ShowLayout) (λ answer. Ok (answer.0, record { laid = answer.1; pending = pending_behind false answer.1 m.pending })) r e in
      let same : (Layout (shown_tables m.laid) (shown_operators m.laid), m.laid) ≡ a.0 = ok_is (Layout (shown_tables m.laid) (shown_operators m.laid), m.laid) a.0 a.1 in
      let kept : Moves m.laid.database h (λ _. h) (record { laid = m.laid; pending = pending_behind false m.laid m.pending }) =
      (record { graph = is.graph; layout = is.layout; pending = live_kept m.laid.database.graph.edges m.pending }, same_leave m.laid.database h within) in
      subst (λ (q : Reply × Moving). Moves m.laid.database h (λ _. h) q.1) (ap (λ (q : Reply × Laid). (q.0, record { laid = q.1; pending = pending_behind false q.1 m.pending })) same ∙ ok_is _ r a.2) kept

  -- where the data are the same
  same_moves : (other : Moving) → IsMoving other → other.laid.database ≡ m.laid.database → Moves m.laid.database h (λ _. h) other
  same_moves other moving same = (moving, subst (λ (d : AnyDatabase). Leaves m.laid.database h d h) (sym same) (same_leave m.laid.database h within))

  materialize_moves : (named : List Target) (r : Reply × Moving) → at_once m (Materialize named false) ≡ Ok r → Moves m.laid.database h (λ _. h) r.1 × (r.1.laid.database ≡ m.laid.database)
  materialize_moves named r e =
      let a = both_give (act_at_once m.laid (Materialize named false)) (λ answer. Ok (answer.0, record { laid = answer.1; pending = pending_behind true answer.1 m.pending })) r e in
      let b = both_give (materialized m.laid named) (λ x. Ok (Moved x.0, x.1)) a.0 a.1 in
      let lives = materialized_lives m.laid named b.0 b.1 in
      let next : Moving = record { laid = b.0.1; pending = [] } in
      let moving : IsMoving next = record {
        graph = subst (λ (d : AnyDatabase). IsOrdered d.graph) (sym lives.0) is.graph;
        layout = subst (λ (d : AnyDatabase). AllLive d.graph.edges b.0.1.layout) (sym lives.0) lives.1;
        pending = tt;
      } in
      let first : Reply × Moving = (Moved b.0.0, next) in
      let last : Reply × Moving = (a.0.0, record { laid = a.0.1; pending = [] }) in
      let one : first ≡ last = ap (λ (q : Reply × Laid). (q.0, record { laid = q.1; pending = [] })) (ok_is (Moved b.0.0, b.0.1) a.0 b.2) in
      let two : last ≡ r = ok_is last r a.2 in
      subst (λ (q : Reply × Moving). Moves m.laid.database h (λ _. h) q.1 × (q.1.laid.database ≡ m.laid.database)) {x = first} (◌∙◌ {b = last} one two) (same_moves next moving lives.0, lives.0)

  -- a move, at once or in steps
  move_moves : (named : List Target) (in_steps : Bool) (r : Reply × Moving) → act_in_full m (Materialize named in_steps) ≡ Ok r → Moves m.laid.database h (λ _. h) r.1 × (r.1.laid.database ≡ m.laid.database)
  move_moves named true r e =
      let same = ap (λ (l : Laid). l.database) (started_stays m named r e) in
      (same_moves r.1 (started_moving m named r is e) same, same)
  move_moves named false r e = materialize_moves named r e

  step_moves : (r : Reply × Moving) → act_in_full m Step ≡ Ok r → Moves m.laid.database h (λ _. h) r.1 × (r.1.laid.database ≡ m.laid.database)
  step_moves r e = let same = stepped_stays m r e in (same_moves r.1 (stepped_moving m r is e) same, same)

-- ---- in a session

-- what an accepted statement leaves, with this history behind it
abbrev Goes : SessionsStanding → History → (AnyDatabase → History) → SessionsStanding → Type 0
Goes s h now next = IsOrderly next × Leaves s.laid.database h next.laid.database (now next.laid.database)

module _ (s : SessionsStanding) (h : History) (now : AnyDatabase → History) where
  -- a statement in full that is no move
  full_goes : (csv : Bool) (x : StatementView) (answer : Answer × SessionsStanding) → is_move x ≡ false → ((r : Reply × Moving) → act_in_full (moving_in s) x ≡ Ok r → Moves s.laid.database h now r.1) → counted s csv x ≡ Ok answer → Goes s h now answer.1
  full_goes csv x answer off moves e =
      let a = both_give (act_in_full (moving_in s) x) (λ r. Ok (answer_of csv r.0, behind s (is_move x) (accessed s.laid.database x) r.1)) answer e in
      let m = moves a.0 a.1 in
      let es = a.0.1.laid.database.graph.edges in
      let next = behind s (is_move x) (accessed s.laid.database x) a.0.1 in
      let counts : AllCounted es next.counts =
      subst (λ (b : Bool). AllCounted es (kept_behind b es (raised_by s.counts (accessed s.laid.database x)))) (sym off) (counted_kept es (raised_by s.counts (accessed s.laid.database x))) in
      subst (λ (q : Answer × SessionsStanding). Goes s h now q.1) (ok_is (answer_of csv a.0.0, next) answer a.2) (orderly_of next m.0 counts, m.1)

  -- a move
  move_goes : (x : StatementView) (answer : Answer × SessionsStanding) → IsOrderly s → is_move x ≡ true → accessed s.laid.database x ≡ None
      → ((r : Reply × Moving) → act_in_full (moving_in s) x ≡ Ok r → Moves s.laid.database h now r.1 × (r.1.laid.database ≡ s.laid.database)) → counted s false x ≡ Ok answer → Goes s h now answer.1
  move_goes x answer is on none moves e =
      let a = both_give (act_in_full (moving_in s) x) (λ r. Ok (answer_of false r.0, behind s (is_move x) (accessed s.laid.database x) r.1)) answer e in
      let m = moves a.0 a.1 in
      let es = a.0.1.laid.database.graph.edges in
      let next = behind s (is_move x) (accessed s.laid.database x) a.0.1 in
      let kept : s.counts ≡ next.counts = λ i. kept_behind (sym on i) es (raised_by s.counts (sym none i)) in
      let counts : AllCounted es next.counts =
      subst (λ (k : AnyDatabase × List TableCount). AllCounted k.0.graph.edges k.1) (λ i. (sym m.1 i, kept i)) is.counts in
      subst (λ (q : Answer × SessionsStanding). Goes s h now q.1) (ok_is (answer_of false a.0.0, next) answer a.2) (orderly_of next m.0.0 counts, m.0.1)

module _ (s : SessionsStanding) (h : History) (is : IsOrderly s) (within : h.last ≤ last_number) where
  abbrev d : AnyDatabase
  d = s.laid.database

  abbrev m : Moving
  m = moving_in s

  abbrev used : Option (List ℕ)
  used = used_by s.uses s.session

  ordered : IsOrdered d.graph
  ordered = record { operators = is.operators; tables = is.tables; sets = is.sets }

  still : (next : SessionsStanding) → next.laid ≡ s.laid → next.pending ≡ s.pending → next.counts ≡ s.counts → Goes s h (λ _. h) next
  still next laid pending counts =
      let P : Laid × List ℕ × List TableCount → Type 0 = λ k. Goes s h (λ _. h) (record next { laid = k.0; pending = k.1; counts = k.2 }) in
      subst P (λ i. (sym laid i, sym pending i, sym counts i)) (orderly_of (record next { laid = s.laid; pending = s.pending; counts = s.counts }) (moving_of s is) is.counts, same_leave d h within)

  used_goes : (name : List ℕ) (answer : Answer × SessionsStanding) (c : Checked ℕ) → (c then λ set. Ok (Plain Done, record s { uses = with_use s.uses s.session name })) ≡ Ok answer → Goes s h (λ _. h) answer.1
  used_goes name answer (Ok set) e =
      subst (λ (q : Answer × SessionsStanding). Goes s h (λ _. h) q.1) (ok_is (Plain Done, record s { uses = with_use s.uses s.session name }) answer e) (still (record s { uses = with_use s.uses s.session name }) refl refl refl)
  used_goes name answer (Err r) e = absurd (let no : ⊥ = cc in no)

  session_goes : (number : ℕ) (answer : Answer × SessionsStanding) → act_beside s (Session number) ≡ Ok answer → Goes s h (λ _. h) answer.1
  session_goes number answer e =
      subst (λ (q : Answer × SessionsStanding). Goes s h (λ _. h) q.1) (ok_is (Plain Done, record s { session = number }) answer e) (still (record s { session = number }) refl refl refl)

  advised_goes : (told : Answer) (answer : Answer × SessionsStanding) (c : Checked ℕ) → (c then λ set. Ok (told, s)) ≡ Ok answer → Goes s h (λ _. h) answer.1
  advised_goes told answer (Ok set) e = subst (λ (q : Answer × SessionsStanding). Goes s h (λ _. h) q.1) (ok_is (told, s) answer e) (still s refl refl refl)
  advised_goes told answer (Err r) e = absurd (let no : ⊥ = cc in no)

  -- a write in full
  write_goes : (x : StatementView) (answer : Answer × SessionsStanding) → is_move x ≡ false → is_materialize x ≡ false → act_in_full m x ≡ at_once m x → acted s.laid x ≡ (acted_data d x then λ a. Ok (with_data s.laid a))
      → acted_data d x ≡ (planned_write d x then λ p. wrote d p) → counted s false x ≡ Ok answer → Goes s h (λ later. with_writes h d (has_changed d later)) answer.1
  write_goes x answer off none once beside writes e =
      full_goes s h (λ later. with_writes h d (has_changed d later)) false x answer off
      (λ r given. data_moves m h (λ later. with_writes h d (has_changed d later)) x r none beside (λ a acts. write_left d h ordered within x a (sym writes ∙ acts)) (sym once ∙ given)) e

-- WHAT AN ACCEPTED STATEMENT LEAVES
pub statement_goes : (s : Standing) (x : StatementView) (answer : Answer × SessionsStanding) → IsOrderly s.sessions → s.history.last ≤ last_number → act_beside s.sessions x ≡ Ok answer
    → IsOrderly answer.1 × Leaves s.sessions.laid.database s.history answer.1.laid.database (history_behind s x answer.1)
statement_goes s (CreateVersion name from operators) answer is within e =
    full_goes s.sessions s.history (λ _. with_version s.history) false (CreateVersion name from operators) answer refl
    (λ r given. data_moves (moving_in s.sessions) s.history (λ _. with_version s.history) (CreateVersion name from operators) r refl refl
    (λ a acts. version_left s.sessions.laid.database s.history (ordered s.sessions s.history is within) within name from operators a acts) given) e
statement_goes s (DropVersion name) answer is within e =
    full_goes s.sessions s.history (λ _. with_drop s.history name) false (DropVersion name) answer refl
    (λ r given. data_moves (moving_in s.sessions) s.history (λ _. with_drop s.history name) (DropVersion name) r refl refl
    (λ a acts. drop_left s.sessions.laid.database s.history (ordered s.sessions s.history is within) within name a acts) given) e
statement_goes s (Insert name rows) answer is within e = write_goes s.sessions s.history is within (in_full (used_by s.sessions.uses s.sessions.session) (Insert name rows)) answer refl refl refl refl refl e
statement_goes s (Import name text) answer is within e = write_goes s.sessions s.history is within (in_full (used_by s.sessions.uses s.sessions.session) (Import name text)) answer refl refl refl refl refl e
statement_goes s (Update name assignments filter) answer is within e = write_goes s.sessions s.history is within (in_full (used_by s.sessions.uses s.sessions.session) (Update name assignments filter)) answer refl refl refl refl refl e
statement_goes s (Delete name filter) answer is within e = write_goes s.sessions s.history is within (in_full (used_by s.sessions.uses s.sessions.session) (Delete name filter)) answer refl refl refl refl refl e
statement_goes s (Select name items filter csv) answer is within e =
    let x = in_full (used_by s.sessions.uses s.sessions.session) (Select name items filter csv) in
    full_goes s.sessions s.history (λ _. s.history) csv x answer refl
    (λ r given. data_moves (moving_in s.sessions) s.history (λ _. s.history) x r refl refl
    (λ a acts. select_left s.sessions.laid.database s.history (ordered s.sessions s.history is within) within _ items filter a acts) given) e
statement_goes s (Materialize named in_steps) answer is within e =
    move_goes s.sessions s.history (λ _. s.history) (Materialize named in_steps) answer is refl refl (λ r given. move_moves (moving_in s.sessions) s.history (moving_of s.sessions is) within named in_steps r given) e
statement_goes s Step answer is within e =
    move_goes s.sessions s.history (λ _. s.history) Step answer is refl refl (λ r given. step_moves (moving_in s.sessions) s.history (moving_of s.sessions is) within r given) e
statement_goes s ShowLayout answer is within e =
    full_goes s.sessions s.history (λ _. s.history) false ShowLayout answer refl (λ r given. shown_moves (moving_in s.sessions) s.history (moving_of s.sessions is) within r given) e
statement_goes s (Use name) answer is within e = used_goes s.sessions s.history is within name answer (known_version name (set_named s.sessions.laid.database.graph.versions name)) e
statement_goes s (Session number) answer is within e = session_goes s.sessions s.history is within number answer e
statement_goes s (Advise name) answer is within e = advised_goes s.sessions s.history is within (advice_on s.sessions name) answer (known_version name (set_named s.sessions.laid.database.graph.versions name)) e
statement_goes s (Watch name) answer is within e = absurd (let no : ⊥ = cc in no)
statement_goes s (Unwatch number) answer is within e = absurd (let no : ⊥ = cc in no)
statement_goes s Begin answer is within e = absurd (let no : ⊥ = cc in no)
statement_goes s Commit answer is within e = absurd (let no : ⊥ = cc in no)
statement_goes s Rollback answer is within e = absurd (let no : ⊥ = cc in no)
