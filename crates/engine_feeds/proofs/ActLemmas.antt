-- What each accepted statement that writes no rows leaves of a live version.
use Rattle.std.specs.Str.{bytes_eq}
use Rattle.std.specs.Prelude.{Option, Some, None, IsSome, Ok, Err, if◌then◌else◌, not}
use Rattle.std.proofs.Common.{◌≡◌, ◌==◌, ℕ, Bool, true, false, List, length, refl, sym, ap, ◌∙◌, subst}
use Rattle.par_base.specs.declared.limits.Target.{Target}
use Rattle.par_base.specs.declared.refusal.Refusal.TheVariants.{NotBuilt, ReadAfterWrite}
use Rattle.par_base.specs.Checked.{Checked, ◌then◌}
use Rattle.statements.specs.Views.{OpView, Tree, StatementView, CreateVersion, DropVersion, Insert, Import, Update, Delete, Select, Materialize, Step, ShowLayout, Use, Session, Advise, Watch, Unwatch, Begin, Commit, Rollback}
use Rattle.statements.specs.declared.statement.TableName.{TableName}
use Rattle.version_graph.specs.Edges.{IsGraph, set_named, working}
use Rattle.version_graph.specs.Tables.{headings_of}
use Rattle.engine_state.specs.AnyDatabase.{AnyDatabase}
use Rattle.engine_state.specs.SharedChecks.{enough_ids, known_version}
use Rattle.engine_state.specs.declared.reply.Reply.{Reply}
use Rattle.engine_state.specs.declared.reply.Reply.TheVariants.{Done, Layout, Moved}
use Rattle.engine_transactions.specs.Found.{condition_list, found, known_condition, known_references}
use Rattle.engine_transactions.specs.Statements.{acted_select, columns_of, listed_places}
use Rattle.engine_transactions.specs.Evolve.{counts_of, created, dropped_version, edges_on, start_at, state_after, unused}
use Rattle.engine_transactions.proofs.ChainLaws.{both_give, ok_is}
use Rattle.engine_transactions.proofs.KeptTextLaws.{dropped_is}
use Rattle.version_model.specs.Databases.{dropped_database}
use Rattle.layout_rules.specs.Closed.{closing}
use Rattle.engine_transactions.specs.EngineCoreAct.{act as act_at_once, acted, acted_data, is_built, with_data}
use Rattle.engine_transactions.specs.Laid.{Laid, materialized}
use Rattle.engine_transactions.specs.Shown.{shown_operators, shown_tables}
use Rattle.engine_transactions.specs.Laid.{moved_count}
use Rattle.engine_transactions.specs.EngineMovesAct.{act as act_in_full, at_once as moved_at_once, is_materialize, pending_behind}
use Rattle.engine_transactions.specs.Moving.{Moving}
use Rattle.engine_transactions.proofs.ActLaws.{started_stays, stepped_stays}
use Rattle.engine_transactions.specs.Accesses.{accessed, is_move}
use Rattle.engine_transactions.specs.EngineSessionsAct.{act as act_beside, advice_on, answer_of, behind, counted}
use Rattle.engine_transactions.specs.InFull.{in_full, name_in_full}
use Rattle.engine_transactions.specs.EngineSessionsStanding.{Standing as SessionsStanding, moving_in, used_by, with_use}
use Rattle.engine_transactions.specs.Answer.{Answer}
use Rattle.engine_transactions.specs.Answer.TheVariants.{Plain}
use Rattle.engine_transactions.specs.Act.{act, at_hand, at_once, begun_by, history_behind, named_at, noted, read_of, rolled_back, selected_by}
use Rattle.tx_history.specs.Kinds.{kind_in, writes_rows_in}
use Rattle.tx_history.specs.Views.{OpenView, TransactionView}
use Rattle.engine_transactions.specs.Standing.{Standing}
use Rattle.tx_history.specs.declared.table_read.TableRead.{TableRead}
use Rattle.engine_feeds.specs.Plain.{is_plain}
use Rattle.engine_feeds.proofs.StayLemmas.{Stays, dropped_stays, grown_stays, still}

built_first : (b : Bool) (c : Checked (Reply × Laid)) (r : Reply × Laid) → (if b then c else Err NotBuilt) ≡ Ok r → (b ≡ true) × (c ≡ Ok r)
built_first true c r h = (refl, h)
built_first false c r h = absurd (let no : ⊥ = cc in no)

-- ---- what holds of the data behind a statement

module _ (P : AnyDatabase → Type 0) where
  -- on the data
  select_leaves : (d : AnyDatabase) (name : TableName) (items : Option (List (List ℕ))) (filter : Option Tree) (answer : Reply × AnyDatabase) → P d → acted_select d name items filter ≡ Ok answer → P answer.1
  select_leaves d name items filter answer holds e =
      let a = both_give (found d name) _ answer e in
      let b = both_give (listed_places (columns_of a.0) items) _ answer a.2 in
      let c = both_give (known_condition (columns_of a.0) filter) _ answer b.2 in
      let f = both_give (known_references d.state.next (condition_list filter)) _ answer c.2 in
      subst P (ap (λ (q : Reply × AnyDatabase). q.1) (ok_is _ answer f.2)) holds

  create_leaves : (d : AnyDatabase) (name : List ℕ) (from : Option (List ℕ)) (texts : List OpView) (answer : Reply × AnyDatabase) → ((set : ℕ) (edges : _) → P (state_after d name set edges))
      → (created d name from texts then λ next. Ok (Done, next)) ≡ Ok answer → P answer.1
  create_leaves d name from texts answer grown e =
      let z = both_give (created d name from texts) (λ next. Ok (Done, next)) answer e in
      let a = both_give (start_at d.graph.versions from) _ z.0 z.1 in
      let b = both_give (unused name (set_named d.graph.versions name)) _ z.0 a.2 in
      let c = both_give (edges_on (headings_of (working d.graph.edges a.0)) (counts_of d.graph) d.state.next texts) _ z.0 b.2 in
      let f = both_give (enough_ids d (state_after d name a.0 c.0).state.next) _ z.0 c.2 in
      subst P (ok_is (state_after d name a.0 c.0) z.0 f.2 ∙ ap (λ (q : Reply × AnyDatabase). q.1) (ok_is (Done, z.0) answer z.2)) (grown a.0 c.0)

  drop_leaves : (d : AnyDatabase) (name : List ℕ) (answer : Reply × AnyDatabase) → P (dropped_database d name) → (dropped_version d name then λ next. Ok (Done, next)) ≡ Ok answer → P answer.1
  drop_leaves d name answer dropped e =
      let a = both_give (dropped_version d name) (λ next. Ok (Done, next)) answer e in
      subst P (sym (dropped_is d name a.0 a.1) ∙ ap (λ (q : Reply × AnyDatabase). q.1) (ok_is (Done, a.0) answer a.2)) dropped

  -- with the layout
  module _ (m : Moving) where
    abbrev moving_with : StatementView → Laid → Moving
    moving_with x laid = record { laid = laid; pending = pending_behind (is_materialize x) laid m.pending }

    once_leaves : (x : StatementView) (r : Reply × Moving) → ((a : Reply × Laid) → acted m.laid x ≡ Ok a → P a.1.database) → moved_at_once m x ≡ Ok r → P r.1.laid.database
    once_leaves x r leaves e =
        let a = both_give (act_at_once m.laid x) (λ answer. Ok (answer.0, moving_with x answer.1)) r e in
        let b = built_first (is_built x) (acted m.laid x) a.0 a.1 in
        subst (λ (q : Reply × Moving). P q.1.laid.database) (ok_is (a.0.0, moving_with x a.0.1) r a.2) (leaves a.0 b.1)

    data_leaves : (x : StatementView) (r : Reply × Moving) → acted m.laid x ≡ (acted_data m.laid.database x then λ a. Ok (with_data m.laid a)) → ((answer : Reply × AnyDatabase) → acted_data m.laid.database x ≡ Ok answer → P answer.1)
        → moved_at_once m x ≡ Ok r → P r.1.laid.database
    data_leaves x r beside leaves e =
        once_leaves x r (λ a given.
        let c = both_give (acted_data m.laid.database x) (λ answer. Ok (with_data m.laid answer)) a (sym beside ∙ given) in
        subst (λ (q : Reply × Laid). P q.1.database) (ok_is (with_data m.laid c.0) a c.2) (leaves c.0 c.1)) e

    shown_leaves : (r : Reply × Moving) → P m.laid.database → moved_at_once m ShowLayout ≡ Ok r → P r.1.laid.database
    shown_leaves r holds e =
        once_leaves ShowLayout r (λ a given. subst (λ (q : Reply × Laid). P q.1.database) (ok_is (Layout (shown_tables m.laid) (shown_operators m.laid), m.laid) a given) holds) e

    move_leaves : (named : List Target) (in_steps : Bool) (r : Reply × Moving) → P m.laid.database → act_in_full m (Materialize named in_steps) ≡ Ok r → P r.1.laid.database
    move_leaves named true r holds e = subst P (sym (ap (λ (l : Laid). l.database) (started_stays m named r e))) holds
    move_leaves named false r holds e =
        once_leaves (Materialize named false) r (λ a given.
        let b = both_give (materialized m.laid named) (λ x. Ok (Moved x.0, x.1)) a given in
        let c = both_give (closing m.laid.database.graph m.laid.layout named) (λ new. Ok (moved_count m.laid new, record m.laid { layout = new })) b.0 b.1 in
        let moved : m.laid.database ≡ b.0.1.database = ap (λ (q : ℕ × Laid). q.1.database) (ok_is (moved_count m.laid c.0, record m.laid { layout = c.0 }) b.0 c.2) in
        subst P (moved ∙ ap (λ (q : Reply × Laid). q.1.database) (ok_is (Moved b.0.0, b.0.1) a b.2)) holds) e

    step_leaves : (r : Reply × Moving) → P m.laid.database → act_in_full m Step ≡ Ok r → P r.1.laid.database
    step_leaves r holds e = subst P (sym (stepped_stays m r e)) holds

  -- in a session
  module _ (s : SessionsStanding) where
    counted_leaves : (csv : Bool) (x : StatementView) (answer : Answer × SessionsStanding) → ((r : Reply × Moving) → act_in_full (moving_in s) x ≡ Ok r → P r.1.laid.database) → counted s csv x ≡ Ok answer → P answer.1.laid.database
    counted_leaves csv x answer leaves e =
        let a = both_give (act_in_full (moving_in s) x) (λ r. Ok (answer_of csv r.0, behind s (is_move x) (accessed s.laid.database x) r.1)) answer e in
        subst (λ (q : Answer × SessionsStanding). P q.1.laid.database) (ok_is (answer_of csv a.0.0, behind s (is_move x) (accessed s.laid.database x) a.0.1) answer a.2) (leaves a.0 a.1)

    used_leaves : (name : List ℕ) (answer : Answer × SessionsStanding) (c : Checked ℕ) → P s.laid.database → (c then λ set. Ok (Plain Done, record s { uses = with_use s.uses s.session name })) ≡ Ok answer → P answer.1.laid.database
    used_leaves name answer (Ok set) holds e = subst (λ (q : Answer × SessionsStanding). P q.1.laid.database) (ok_is (Plain Done, record s { uses = with_use s.uses s.session name }) answer e) holds
    used_leaves name answer (Err r) holds e = absurd (let no : ⊥ = cc in no)

    advised_leaves : (told : Answer) (answer : Answer × SessionsStanding) (c : Checked ℕ) → P s.laid.database → (c then λ set. Ok (told, s)) ≡ Ok answer → P answer.1.laid.database
    advised_leaves told answer (Ok set) holds e = subst (λ (q : Answer × SessionsStanding). P q.1.laid.database) (ok_is (told, s) answer e) holds
    advised_leaves told answer (Err r) holds e = absurd (let no : ⊥ = cc in no)

  -- beside transactions
  module _ (s : Standing) where
    once_behind : (x : StatementView) (answer : Answer × Standing) → ((a : Answer × SessionsStanding) → act_beside s.sessions x ≡ Ok a → P a.1.laid.database) → at_once s x ≡ Ok answer → P answer.1.sessions.laid.database
    once_behind x answer leaves e =
        let a = both_give (act_beside s.sessions x) (λ a. Ok (a.0, record s { sessions = a.1; history = history_behind s x a.1 })) answer e in
        subst (λ (q : Answer × Standing). P q.1.sessions.laid.database) (ok_is (a.0.0, record s { sessions = a.0.1; history = history_behind s x a.0.1 }) answer a.2) (leaves a.0 a.1)

    begin_leaves : (o : Option OpenView) (answer : Answer × Standing) → P s.sessions.laid.database → begun_by s o ≡ Ok answer → P answer.1.sessions.laid.database
    begin_leaves None answer holds e = subst (λ (q : Answer × Standing). P q.1.sessions.laid.database) (ok_is _ answer e) holds
    begin_leaves (Some o) answer holds e = absurd (let no : ⊥ = cc in no)

    rollback_leaves : (o : Option OpenView) (answer : Answer × Standing) → P s.sessions.laid.database → rolled_back s o ≡ Ok answer → P answer.1.sessions.laid.database
    rollback_leaves None answer holds e = absurd (let no : ⊥ = cc in no)
    rollback_leaves (Some o) answer holds e = subst (λ (q : Answer × Standing). P q.1.sessions.laid.database) (ok_is _ answer e) holds

    noted_same : (t : TransactionView) (read : Option TableRead) → P s.sessions.laid.database → P (noted s t read).sessions.laid.database
    noted_same t None holds = holds
    noted_same t (Some read) holds = holds

    select_behind : (o : Option OpenView) (name : TableName) (csv : Bool) (x : StatementView) (answer : Answer × Standing) → P s.sessions.laid.database → ((a : Answer × SessionsStanding) → act_beside s.sessions x ≡ Ok a → P a.1.laid.database) → selected_by s o name csv x ≡ Ok answer → P answer.1.sessions.laid.database
    select_behind None name csv x answer holds leaves e = once_behind x answer leaves e
    select_behind (Some o) name csv x answer holds leaves e = go (not (length o.transaction.writes == 0)) e
      where
        go : (b : Bool)
            → (if b then Err ReadAfterWrite else act_in_full (moving_in s.sessions) (in_full (used_by s.sessions.uses s.sessions.session) x) then λ a. Ok (answer_of csv a.0, noted s o.transaction (read_of (named_at s name) (found s.sessions.laid.database (named_at s name))))) ≡ Ok answer
            → P answer.1.sessions.laid.database
        go true e = absurd (let no : ⊥ = cc in no)
        go false e =
            let a = both_give (act_in_full (moving_in s.sessions) (in_full (used_by s.sessions.uses s.sessions.session) x)) (λ a. Ok (answer_of csv a.0, noted s o.transaction (read_of (named_at s name) (found s.sessions.laid.database (named_at s name))))) answer e in
            subst (λ (q : Answer × Standing). P q.1.sessions.laid.database) (ok_is _ answer a.2) (noted_same o.transaction (read_of (named_at s name) (found s.sessions.laid.database (named_at s name))) holds)

-- ---- a statement that writes no rows

module _ (s : Standing) (version : List ℕ) (lives : IsSome (set_named s.sessions.laid.database.graph.versions version)) where
  abbrev d : AnyDatabase
  d = s.sessions.laid.database

  abbrev m : Moving
  m = moving_in s.sessions

  abbrev P : AnyDatabase → Type 0
  P later = Stays d later version

  here : P d
  here = still d version lives

  -- one that drops no version
  pub stays_behind : (x : StatementView) (answer : Answer × Standing) → IsGraph d.graph → writes_rows_in (kind_in x) ≡ false → is_plain x ≡ true → act s x ≡ Ok answer → P answer.1.sessions.laid.database
  stays_behind (CreateVersion name from operators) answer graph off plain e =
      once_behind P s (CreateVersion name from operators) answer
      (λ a given. counted_leaves P s.sessions false (CreateVersion name from operators) a
      (λ r moved. data_leaves P m (CreateVersion name from operators) r refl
      (λ b acts. create_leaves P d name from operators b (λ set edges. grown_stays d graph version lives name set edges) acts) moved) given) e
  stays_behind (DropVersion name) answer graph off plain e = absurd (let no : ⊥ = cc in no)
  stays_behind (Insert name rows) answer graph off plain e = absurd (let no : ⊥ = cc in no)
  stays_behind (Import name text) answer graph off plain e = absurd (let no : ⊥ = cc in no)
  stays_behind (Update name assignments filter) answer graph off plain e = absurd (let no : ⊥ = cc in no)
  stays_behind (Delete name filter) answer graph off plain e = absurd (let no : ⊥ = cc in no)
  stays_behind (Select name items filter csv) answer graph off plain e =
      select_behind P s (at_hand s) name csv (Select name items filter csv) answer here
      (λ a given. counted_leaves P s.sessions csv (in_full (used_by s.sessions.uses s.sessions.session) (Select name items filter csv)) a
      (λ r moved. data_leaves P m (in_full (used_by s.sessions.uses s.sessions.session) (Select name items filter csv)) r refl
      (λ b acts. select_leaves P d (name_in_full (used_by s.sessions.uses s.sessions.session) name) items filter b here acts) moved) given) e
  stays_behind (Materialize named in_steps) answer graph off plain e =
      once_behind P s (Materialize named in_steps) answer
      (λ a given. counted_leaves P s.sessions false (Materialize named in_steps) a (λ r moved. move_leaves P m named in_steps r here moved) given) e
  stays_behind Step answer graph off plain e =
      once_behind P s Step answer (λ a given. counted_leaves P s.sessions false Step a (λ r moved. step_leaves P m r here moved) given) e
  stays_behind ShowLayout answer graph off plain e =
      once_behind P s ShowLayout answer (λ a given. counted_leaves P s.sessions false ShowLayout a (λ r moved. shown_leaves P m r here moved) given) e
  stays_behind (Use name) answer graph off plain e =
      once_behind P s (Use name) answer (λ a given. used_leaves P s.sessions name a (known_version name (set_named d.graph.versions name)) here given) e
  stays_behind (Session number) answer graph off plain e =
      once_behind P s (Session number) answer (λ a given. subst (λ (q : Answer × SessionsStanding). P q.1.laid.database) (ok_is (Plain Done, record s.sessions { session = number }) a given) here) e
  stays_behind (Advise name) answer graph off plain e =
      once_behind P s (Advise name) answer (λ a given. advised_leaves P s.sessions (advice_on s.sessions name) a (known_version name (set_named d.graph.versions name)) here given) e
  stays_behind (Watch name) answer graph off plain e = absurd (let no : ⊥ = cc in no)
  stays_behind (Unwatch number) answer graph off plain e = absurd (let no : ⊥ = cc in no)
  stays_behind Begin answer graph off plain e = begin_leaves P s (at_hand s) answer here e
  stays_behind Commit answer graph off plain e = absurd (let no : ⊥ = cc in no)
  stays_behind Rollback answer graph off plain e = rollback_leaves P s (at_hand s) answer here e

  -- a drop of another version
  pub stays_dropped : (name : List ℕ) (answer : Answer × Standing) → bytes_eq name version ≡ false → act s (DropVersion name) ≡ Ok answer → P answer.1.sessions.laid.database
  stays_dropped name answer off e =
      once_behind P s (DropVersion name) answer
      (λ a given. counted_leaves P s.sessions false (DropVersion name) a
      (λ r moved. data_leaves P m (DropVersion name) r refl (λ b acts. drop_leaves P d name b (dropped_stays d version name lives off) acts) moved) given) e
