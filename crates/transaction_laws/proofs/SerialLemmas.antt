-- Transactions of sessions are as if they ran one after the other.
use Rattle.std.specs.Prelude.{Option, Some, None, Ok, Err, Result}
use Rattle.std.proofs.Common.{◌≡◌, ◌≤◌, ◌==◌, ℕ, Bool, true, false, not, length, if◌then◌else◌, List, [], ◌∷◌, refl, sym, ap, ◌∙◌, subst, arith}
use Rattle.std.proofs.lemmas.Bool.{eqb-true}
use Rattle.par_base.specs.declared.refusal.Refusal.TheVariants.{ReadAfterWrite}
use Rattle.par_base.specs.Checked.{Checked, ◌then◌}
use Rattle.statements.specs.Views.{Tree, StatementView, CreateVersion, DropVersion, Insert, Import, Update, Delete, Select, Materialize, Step, ShowLayout, Use, Session, Advise, Watch, Unwatch, Begin, Commit, Rollback}
use Rattle.statements.specs.declared.statement.TableName.{TableName}
use Rattle.session_tx.specs.Calls.{last_number}
use Rattle.session_tx.specs.Commits.{commit}
use Rattle.session_tx.specs.declared.commit_fault.CommitFault.{CommitFault}
use Rattle.engine_state.specs.AnyDatabase.{AnyDatabase}
use Rattle.engine_state.specs.declared.reply.Reply.{Reply}
use Rattle.engine_transactions.specs.Found.{Found, condition_list, found, known_condition, known_references}
use Rattle.engine_transactions.specs.Statements.{acted_select, columns_of, listed_places}
use Rattle.engine_transactions.proofs.ChainLaws.{both_give, ok_is}
use Rattle.engine_transactions.specs.EngineCoreAct.{act as act_at_once, with_data}
use Rattle.engine_transactions.specs.Laid.{Laid}
use Rattle.engine_transactions.specs.EngineMovesAct.{act as act_in_full, at_once as moves_at_once, pending_behind}
use Rattle.engine_transactions.specs.Moving.{Moving}
use Rattle.engine_transactions.specs.EngineSessionsAct.{act as act_beside, answer_of}
use Rattle.engine_transactions.specs.InFull.{in_full}
use Rattle.engine_transactions.specs.EngineSessionsStanding.{Standing as SessionsStanding, moving_in, used_by}
use Rattle.engine_transactions.specs.Answer.{Answer}
use Rattle.engine_transactions.specs.Act.{act, at_hand, begun_by, behind_commit, committed, committed_as, history_behind, kept_by, named_at, noted, read_of, rolled_back, selected_by, with_transaction, written_by}
use Rattle.tx_history.specs.History.{History}
use Rattle.engine_transactions.specs.Meaning.{executing, means}
use Rattle.engine_transactions.specs.Serial.{AreTold, AtOnce, OpenReads, Told, Within, answered, answered_in, behind, end_of, left_by, opens_behind, reads_of, second_of, selected_behind, told_commit, told_for, told_outside, with_told, without_reads}
use Rattle.tx_history.specs.Views.{OpenView, TransactionView, no_transaction, open_of, with_open, with_read, with_write, without_open}
use Rattle.engine_transactions.specs.Standing.{Standing, begun}
use Rattle.tx_history.specs.declared.table_read.TableRead.{TableRead}
use Rattle.transaction_laws.specs.Laws.{TransactionsAreSerial}
use Rattle.transaction_laws.specs.Orderly.{IsOrderly}
use Rattle.transaction_laws.proofs.ActLemmas.{statement_goes}
use Rattle.transaction_laws.proofs.CommitLemmas.{commit_leaves, commit_orderly, commit_told}
use Rattle.transaction_laws.proofs.FoundLemmas.{full, named_by}
use Rattle.transaction_laws.proofs.FreshLemmas.{AreFresh, IsFresh, all_later, one_more_fresh}
use Rattle.transaction_laws.proofs.LeaveLemmas.{Leaves}
use Rattle.transaction_laws.proofs.OpenLemmas.{ended_other, ended_own, open_other, open_own, reads_else, reads_none, reads_other, reads_own}
use Rattle.transaction_laws.proofs.TellLemmas.{Run, tell_append}

-- ---- WHAT IS ALWAYS SO: the SELECTs of each open transaction are fresh

abbrev OpenFresh : AnyDatabase → History → ℕ → List Told → Option OpenView → Type 0
OpenFresh d h session tolds None = Unit {0}
OpenFresh d h session tolds (Some o) = AreFresh d h session tolds o.transaction.reads

record Stands (opens : List OpenReads) (s : Standing) : Type 0 where
  pub orderly : IsOrderly s.sessions
  pub within : s.history.last ≤ last_number
  pub fresh : (session : ℕ) → OpenFresh s.sessions.laid.database s.history session (reads_of opens session) (open_of s.opens session)

open_later : (d later : AnyDatabase) (h now : History) (session : ℕ) (tolds : List Told) (o : Option OpenView) → Leaves d h later now → OpenFresh d h session tolds o → OpenFresh later now session tolds o
open_later d later h now session tolds None leaves fresh = tt
open_later d later h now session tolds (Some o) leaves fresh = all_later d later h now session tolds o.transaction.reads leaves fresh

-- after a step that numbers what it changes
stands_later : (opens : List OpenReads) (s : Standing) (next : SessionsStanding) (now : History) → Stands opens s → IsOrderly next → Leaves s.sessions.laid.database s.history next.laid.database now → Stands opens (record s { sessions = next; history = now })
stands_later opens s next now stands orderly leaves = record {
  orderly = orderly;
  within = leaves.within;
  fresh = λ session. open_later s.sessions.laid.database next.laid.database s.history now session (reads_of opens session) (open_of s.opens session) leaves (stands.fresh session);
}

module _ (d : AnyDatabase) (h : History) where
  -- one session's are others, and the rest are as they were
  fresh_by : (n m : ℕ) (b : Bool) (tolds others : List Told) (o p : Option OpenView) → (n == m) ≡ b → ((n == m) ≡ true → OpenFresh d h m tolds o) → ((n == m) ≡ false → (tolds ≡ others) × (o ≡ p)) → OpenFresh d h m others p → OpenFresh d h m tolds o
  fresh_by n m true tolds others o p is own same fresh = own is
  fresh_by n m false tolds others o p is own same fresh =
      let both = same is in
      subst (λ (k : List Told × Option OpenView). OpenFresh d h m k.0 k.1) (λ i. (sym both.0 i, sym both.1 i)) fresh

  own_fresh : (n m : ℕ) (tolds : ℕ → List Told) (opens : ℕ → Option OpenView) → OpenFresh d h n (tolds n) (opens n) → (n == m) ≡ true → OpenFresh d h m (tolds m) (opens m)
  own_fresh n m tolds opens fresh is = subst (λ (k : ℕ). OpenFresh d h k (tolds k) (opens k)) (eqb-true n m is) fresh

-- the transaction of a session is another one
set_open : (opens later : List OpenReads) (s : Standing) (n : ℕ) (t : TransactionView) → Stands opens s → AreFresh s.sessions.laid.database s.history n (reads_of later n) t.reads → ((m : ℕ) → (n == m) ≡ false → reads_of later m ≡ reads_of opens m)
    → Stands later (record s { opens = with_open s.opens n t })
set_open opens later s n t stands fresh others =
    let d = s.sessions.laid.database in
    let own : OpenFresh d s.history n (reads_of later n) (open_of (with_open s.opens n t) n) = subst (λ (o : Option OpenView). OpenFresh d s.history n (reads_of later n) o) (sym (open_own n t s.opens)) fresh in
    record {
      orderly = stands.orderly;
      within = stands.within;
      fresh = λ m.
          fresh_by d s.history n m (n == m) (reads_of later m) (reads_of opens m) (open_of (with_open s.opens n t) m) (open_of s.opens m) refl
          (own_fresh d s.history n m (λ k. reads_of later k) (λ k. open_of (with_open s.opens n t) k) own) (λ off. (others m off, open_other n t s.opens m off)) (stands.fresh m);
    }

-- the transaction of a session has ended
end_open : (opens : List OpenReads) (s : Standing) (n : ℕ) → Stands opens s → Stands (without_reads opens n) (record s { opens = without_open s.opens n })
end_open opens s n stands =
    let d = s.sessions.laid.database in
    let own : OpenFresh d s.history n (reads_of (without_reads opens n) n) (open_of (without_open s.opens n) n) = subst (λ (o : Option OpenView). OpenFresh d s.history n (reads_of (without_reads opens n) n) o) (sym (ended_own s.opens n)) tt in
    record {
      orderly = stands.orderly;
      within = stands.within;
      fresh = λ m.
          fresh_by d s.history n m (n == m) (reads_of (without_reads opens n) m) (reads_of opens m) (open_of (without_open s.opens n) m) (open_of s.opens m) refl
          (own_fresh d s.history n m (λ k. reads_of (without_reads opens n) k) (λ k. open_of (without_open s.opens n) k) own) (λ off. (reads_else opens n m off, ended_other s.opens n m off)) (stands.fresh m);
    }

-- what stands for the session at hand
own_reads : (opens : List OpenReads) (s : Standing) (o : OpenView) → Stands opens s → at_hand s ≡ Some o → AreFresh s.sessions.laid.database s.history s.sessions.session (reads_of opens s.sessions.session) o.transaction.reads
own_reads opens s o stands is = subst (λ (x : Option OpenView). OpenFresh s.sessions.laid.database s.history s.sessions.session (reads_of opens s.sessions.session) x) is (stands.fresh s.sessions.session)

-- ---- A STEP: what is told for a statement leads where the statement leads

abbrev Leads : List OpenReads → List Told → Standing → Standing → Type 0
Leads opens tolds s next = AreTold tolds s.sessions next.sessions × Stands opens next

-- a statement that acts at once
once_by : (opens : List OpenReads) (s : Standing) (x : StatementView) (m : Checked (Answer × SessionsStanding)) → act_beside s.sessions x ≡ m → Stands opens s
    → ((answer : Answer × Standing) → opens_behind opens s x (Ok answer) ≡ opens)
    → (let r : Checked (Answer × Standing) = m then λ answer. Ok (answer.0, record s { sessions = answer.1; history = history_behind s x answer.1 }) in
    Leads (opens_behind opens s x r) (record { entry = AtOnce x; answer = answered r } ∷ []) s (behind s r))
once_by opens s x (Ok answer) is stands quiet =
    let both = statement_goes s x answer stands.orderly stands.within is in
    let next : Standing = record s { sessions = answer.1; history = history_behind s x answer.1 } in (
      (ap answered_in is, sym (ap (left_by s.sessions (AtOnce x)) is)),
      subst (λ (os : List OpenReads). Stands os next) (sym (quiet (answer.0, next))) (stands_later opens s answer.1 (history_behind s x answer.1) stands both.0 both.1),
    )
once_by opens s x (Err refusal) is stands quiet = ((ap answered_in is, sym (ap (left_by s.sessions (AtOnce x)) is)), stands)

module _ (opens : List OpenReads) (s : Standing) (stands : Stands opens s) where
  abbrev n : ℕ
  n = s.sessions.session

  abbrev d : AnyDatabase
  d = s.sessions.laid.database

  once : (x : StatementView) → ((answer : Answer × Standing) → opens_behind opens s x (Ok answer) ≡ opens)
      → (let r : Checked (Answer × Standing) = act_beside s.sessions x then λ answer. Ok (answer.0, record s { sessions = answer.1; history = history_behind s x answer.1 }) in
      Leads (opens_behind opens s x r) (record { entry = AtOnce x; answer = answered r } ∷ []) s (behind s r))
  once x quiet = once_by opens s x (act_beside s.sessions x) refl stands quiet

  -- BEGIN
  begins : (o : Option OpenView) → Leads (opens_behind opens s Begin (begun_by s o)) [] s (behind s (begun_by s o))
  begins None =
      (refl, set_open opens (without_reads opens n) s n no_transaction stands (subst (λ (l : List Told). AreFresh d s.history n l []) (sym (reads_none opens n)) tt) (λ m off. reads_else opens n m off))
  begins (Some o) = (refl, stands)

  -- ROLLBACK
  rolls_back : (o : Option OpenView) → Leads (opens_behind opens s Rollback (rolled_back s o)) [] s (behind s (rolled_back s o))
  rolls_back None = (refl, stands)
  rolls_back (Some o) = (refl, end_open opens s n stands)

  -- COMMIT
  commits_as : (o : OpenView) → at_hand s ≡ Some o → (c : Result (List Run) CommitFault) → commit means (executing s) o.transaction ≡ c
      → Leads (opens_behind opens s Commit (committed_as s o.transaction c)) (told_commit opens n (Some o) (committed_as s o.transaction c)) s (behind s (committed_as s o.transaction c))
  commits_as o is (Err fault) e = (refl, stands)
  commits_as o is (Ok runs) e =
      let t = o.transaction in
      let fresh = own_reads opens s o stands is in
      let next = behind_commit s t runs in
      let later = stands_later opens s next.sessions next.history stands (commit_orderly s t runs stands.orderly stands.within e) (commit_leaves s t runs stands.orderly stands.within e) in
      (commit_told s t runs stands.orderly stands.within e n (reads_of opens n) fresh, end_open opens (record s { sessions = next.sessions; history = next.history }) n later)

  commits : (o : Option OpenView) → at_hand s ≡ o → Leads (opens_behind opens s Commit (committed s o)) (told_commit opens n o (committed s o)) s (behind s (committed s o))
  commits None is = (refl, stands)
  commits (Some o) is = commits_as o is (commit means (executing s) o.transaction) refl

  -- a write
  keeps_by : (o : OpenView) → at_hand s ≡ Some o → (x y : StatementView) (version : Option (List ℕ)) → ((answer : Answer × Standing) → opens_behind opens s x (Ok answer) ≡ opens)
      → Leads (opens_behind opens s x (kept_by s o.transaction version y)) [] s (behind s (kept_by s o.transaction version y))
  keeps_by o is x y None quiet = (refl, stands)
  keeps_by o is x y (Some version) quiet =
      let t = with_write o.transaction y in
      (refl, subst (λ (os : List OpenReads). Stands os (with_transaction s t)) (sym (quiet _)) (set_open opens opens s n t stands (own_reads opens s o stands is) (λ m off. refl)))

  writes : (o : Option OpenView) → at_hand s ≡ o → (name : TableName) (x : StatementView) → ((answer : Answer × Standing) → opens_behind opens s x (Ok answer) ≡ opens)
      → Leads (opens_behind opens s x (written_by s o name x)) (told_outside o x (written_by s o name x)) s (behind s (written_by s o name x))
  writes None is name x quiet = once x quiet
  writes (Some o) is name x quiet = keeps_by o is x (in_full (used_by s.sessions.uses n) x) (named_at s name).version quiet

-- ---- a SELECT

-- what an accepted one has found and shows
record Selects (d : AnyDatabase) (name : TableName) (items : Option (List (List ℕ))) (filter : Option Tree) (reply : Reply) : Type 0 where
  pub it : Found
  pub is : found d name ≡ Ok it
  pub shows : acted_select d name items filter ≡ Ok (reply, d)

selects_of : (d : AnyDatabase) (name : TableName) (items : Option (List (List ℕ))) (filter : Option Tree) (answer : Reply × AnyDatabase) → acted_select d name items filter ≡ Ok answer → Selects d name items filter answer.0
selects_of d name items filter answer e =
    let a = both_give (found d name) _ answer e in
    let b = both_give (listed_places (columns_of a.0) items) _ answer a.2 in
    let c = both_give (known_condition (columns_of a.0) filter) _ answer b.2 in
    let f = both_give (known_references d.state.next (condition_list filter)) _ answer c.2 in
    let same : d ≡ answer.1 = ap (λ (r : Reply × AnyDatabase). r.1) (ok_is _ answer f.2) in
    record { it = a.0; is = a.1; shows = e ∙ ap (λ (other : AnyDatabase). Ok (answer.0, other)) (sym same) }

selects_in : (m : Moving) (name : TableName) (items : Option (List (List ℕ))) (filter : Option Tree) (r : Reply × Moving) → moves_at_once m (Select name items filter false) ≡ Ok r → Selects m.laid.database name items filter r.0
selects_in m name items filter r e =
    let a = both_give (act_at_once m.laid (Select name items filter false)) (λ answer. Ok (answer.0, record { laid = answer.1; pending = pending_behind false answer.1 m.pending })) r e in
    let b = both_give (acted_select m.laid.database name items filter) (λ answer. Ok (with_data m.laid answer)) a.0 a.1 in
    let same : b.0.0 ≡ r.0 = ap (λ (q : Reply × Laid). q.0) (ok_is (with_data m.laid b.0) a.0 b.2) ∙ ap (λ (q : Reply × Moving). q.0) (ok_is _ r a.2) in
    subst (λ (reply : Reply). Selects m.laid.database name items filter reply) same (selects_of m.laid.database name items filter b.0 b.1)

module _ (opens : List OpenReads) (s : Standing) (stands : Stands opens s) (o : OpenView) (is : at_hand s ≡ Some o) (name : TableName) (items : Option (List (List ℕ))) (filter : Option Tree) (csv : Bool) where
  abbrev t : TransactionView
  t = o.transaction

  abbrev database : AnyDatabase
  database = s.sessions.laid.database

  abbrev session : ℕ
  session = s.sessions.session

  -- as it is noted
  abbrev told : TableName → Answer → Told
  told named answer = record { entry = Within session (Select named items filter csv); answer = Ok answer }

  -- with a version's name written out
  noted_as : (version table : List ℕ) (reply : Reply) → Selects database (full version table) items filter reply
      → Leads (with_told opens session (told (full version table) (answer_of csv reply))) [] s (noted s t (read_of (full version table) (found database (full version table))))
  noted_as version table reply shows =
      let read : TableRead = record { version = version; name = table; table = shows.it.table.number } in
      let reads : read_of (full version table) (found database (full version table)) ≡ Some read = ap (read_of (full version table)) shows.is in
      let line = told (full version table) (answer_of csv reply) in
      let fresh : IsFresh database s.history session line (read, s.history.last) = record {
        table = table;
        items = items;
        filter = filter;
        csv = csv;
        reply = reply;
        entry = refl;
        answer = refl;
        past = omega arith;
        shows = λ below unchanged. record { it = shows.it; is = shows.is; number = refl; selects = shows.shows };
      } in
      let all : AreFresh database s.history session (reads_of (with_told opens session line) session) (with_read t read s.history.last).reads =
      subst (λ (l : List Told). AreFresh database s.history session l (with_read t read s.history.last).reads) (sym (reads_own opens session line))
      (one_more_fresh database s.history session (reads_of opens session) t.reads line (read, s.history.last) (own_reads opens s o stands is) fresh) in
      let next : Leads (with_told opens session line) [] s (noted s t (Some read)) = (refl, set_open opens (with_told opens session line) s session (with_read t read s.history.last) stands all (λ m off. reads_other opens session line m off)) in
      subst (λ (r : Option TableRead). Leads (with_told opens session line) [] s (noted s t r)) (sym reads) next

  noted_in : (named : TableName) (reply : Reply) → Selects database named items filter reply → Leads (with_told opens session (told named (answer_of csv reply))) [] s (noted s t (read_of named (found database named)))
  noted_in named reply shows =
      let by = named_by database named shows.it shows.is in
      let same : full by.version named.table ≡ named = ap (λ (v : Option (List ℕ)). record { version = v; table = named.table }) (sym by.is) in
      subst (λ (k : TableName). Leads (with_told opens session (told k (answer_of csv reply))) [] s (noted s t (read_of k (found database k)))) same
      (noted_as by.version named.table reply (subst (λ (k : TableName). Selects database k items filter reply) (sym same) shows))

  abbrev asked : StatementView
  asked = Select name items filter csv

  abbrev in_question : StatementView
  in_question = Select (named_at s name) items filter false

  abbrev read_then : Checked (Reply × Moving) → Checked (Answer × Standing)
  read_then c = c then λ answer. Ok (answer_of csv answer.0, noted s t (read_of (named_at s name) (found database (named_at s name))))

  reads_by : (c : Checked (Reply × Moving)) → act_in_full (moving_in s.sessions) in_question ≡ c → Leads (opens_behind opens s asked (read_then c)) [] s (behind s (read_then c))
  reads_by (Err refusal) e = (refl, stands)
  reads_by (Ok answer) e =
      let line = told (named_at s name) (answer_of csv answer.0) in
      let noted_now = noted_in (named_at s name) answer.0 (selects_in (moving_in s.sessions) (named_at s name) items filter answer e) in
      let same : with_told opens session line ≡ opens_behind opens s asked (read_then (Ok answer)) = ap (λ (x : Option OpenView). selected_behind opens session x (Select (named_at s name) items filter csv) (answer_of csv answer.0)) (sym is) in
      subst (λ (os : List OpenReads). Leads os [] s (noted s t (read_of (named_at s name) (found database (named_at s name))))) same noted_now

  reads_unless : (b : Bool) → (let r : Checked (Answer × Standing) = if b then Err ReadAfterWrite else read_then (act_in_full (moving_in s.sessions) in_question) in Leads (opens_behind opens s asked r) [] s (behind s r))
  reads_unless true = (refl, stands)
  reads_unless false = reads_by (act_in_full (moving_in s.sessions) in_question) refl

  reads : Leads (opens_behind opens s asked (selected_by s (Some o) name csv asked)) [] s (behind s (selected_by s (Some o) name csv asked))
  reads = reads_unless (not (length t.writes == 0))

module _ (opens : List OpenReads) (s : Standing) (stands : Stands opens s) (name : TableName) (items : Option (List (List ℕ))) (filter : Option Tree) (csv : Bool) where
  selects_by : (o : Option OpenView) → at_hand s ≡ o
      → Leads (opens_behind opens s (Select name items filter csv) (selected_by s o name csv (Select name items filter csv))) (told_outside o (Select name items filter csv) (selected_by s o name csv (Select name items filter csv))) s (behind s (selected_by s o name csv (Select name items filter csv)))
  selects_by None is =
      once opens s stands (Select name items filter csv) (λ answer. ap (λ (x : Option OpenView). selected_behind opens s.sessions.session x (Select (named_at s name) items filter csv) answer.0) is)
  selects_by (Some o) is = reads opens s stands o is name items filter csv

-- ---- each statement

step : (opens : List OpenReads) (s : Standing) (x : StatementView) → Stands opens s → Leads (opens_behind opens s x (act s x)) (told_for opens s x (act s x)) s (behind s (act s x))
step opens s Begin stands = begins opens s stands (at_hand s)
step opens s Rollback stands = rolls_back opens s stands (at_hand s)
step opens s Commit stands = commits opens s stands (at_hand s) refl
step opens s (Select name items filter csv) stands = selects_by opens s stands name items filter csv (at_hand s) refl
step opens s (Insert name rows) stands = writes opens s stands (at_hand s) refl name (Insert name rows) (λ answer. refl)
step opens s (Import name text) stands = writes opens s stands (at_hand s) refl name (Import name text) (λ answer. refl)
step opens s (Update name assignments filter) stands = writes opens s stands (at_hand s) refl name (Update name assignments filter) (λ answer. refl)
step opens s (Delete name filter) stands = writes opens s stands (at_hand s) refl name (Delete name filter) (λ answer. refl)
step opens s (CreateVersion name from operators) stands = once opens s stands (CreateVersion name from operators) (λ answer. refl)
step opens s (DropVersion name) stands = once opens s stands (DropVersion name) (λ answer. refl)
step opens s (Materialize named in_steps) stands = once opens s stands (Materialize named in_steps) (λ answer. refl)
step opens s Step stands = once opens s stands Step (λ answer. refl)
step opens s ShowLayout stands = once opens s stands ShowLayout (λ answer. refl)
step opens s (Use name) stands = once opens s stands (Use name) (λ answer. refl)
step opens s (Session number) stands = once opens s stands (Session number) (λ answer. refl)
step opens s (Advise name) stands = once opens s stands (Advise name) (λ answer. refl)
step opens s (Watch name) stands = once opens s stands (Watch name) (λ answer. refl)
step opens s (Unwatch number) stands = once opens s stands (Unwatch number) (λ answer. refl)

-- ---- a script

serial_from : (script : List StatementView) (opens : List OpenReads) (s : Standing) → Stands opens s → AreTold (second_of opens s script) s.sessions (end_of s script).sessions
unfolding second_of end_of
serial_from [] opens s stands = refl
serial_from (x ∷ script) opens s stands =
    let next = behind s (act s x) in
    let later = opens_behind opens s x (act s x) in
    let one = step opens s x stands in
    tell_append (told_for opens s x (act s x)) (second_of later next script) s.sessions next.sessions (end_of next script).sessions one.0 (serial_from script later next one.1)

-- ONE AFTER THE OTHER
pub transactions_serial : TransactionsAreSerial
transactions_serial sessions script orderly =
    serial_from script [] (begun sessions) (record { orderly = orderly; within = omega arith; fresh = λ session. tt })
