-- The SELECTs of open transactions: each would be answered so again, unless its table has changed since or the history is spent.
use Rattle.std.specs.Prelude.{Option, Some, None, Ok, nat_lt, ◌<◌, ◌&&◌}
use Rattle.std.proofs.Common.{◌≡◌, ◌≤◌, ◌+◌, ◌==◌, ℕ, Bool, true, false, not, cond, map, List, [], ◌∷◌, ◌++◌, length, refl, subst, arith}
use Rattle.std.proofs.lemmas.Bool.{ltb-false}
use Rattle.statements.specs.Views.{Tree, Select}
use Rattle.version_graph.specs.Sets.{Each}
use Rattle.session_tx.specs.Calls.{last_number}
use Rattle.session_tx.specs.Commits.{first_stale, read_fault}
use Rattle.session_tx.specs.Meaning.{Standing as Executed}
use Rattle.session_tx.specs.declared.commit_fault.CommitFault.{CommitFault}
use Rattle.session_tx.specs.declared.commit_fault.CommitFault.TheVariants.{HistorySpent, Stale}
use Rattle.layout_planner.specs.declared.planning.TableCount.{TableCount}
use Rattle.engine_state.specs.AnyDatabase.{AnyDatabase}
use Rattle.engine_state.specs.declared.reply.Reply.{Reply}
use Rattle.engine_transactions.specs.Accesses.{raised}
use Rattle.engine_transactions.specs.EngineSessionsAct.{answer_of}
use Rattle.engine_transactions.specs.EngineSessionsStanding.{Standing as SessionsStanding, moving_in}
use Rattle.engine_transactions.specs.Act.{raised_all}
use Rattle.tx_history.specs.History.{History, last_change}
use Rattle.engine_transactions.specs.Serial.{AreTold, Told, Within}
use Rattle.tx_history.specs.declared.table_read.TableRead.{TableRead}
use Rattle.transaction_laws.proofs.FoundLemmas.{full}
use Rattle.transaction_laws.proofs.LeaveLemmas.{Leaves}
use Rattle.transaction_laws.proofs.OrderLemmas.{AllCounted, IsMoving}
use Rattle.transaction_laws.proofs.SelectLemmas.{select_later}
use Rattle.transaction_laws.proofs.TellLemmas.{Shows, beside, counting, select_told, tell_one}

-- a SELECT of a session with its answer, as it was noted
pub record IsFresh (d : AnyDatabase) (h : History) (session : ℕ) (told : Told) (read : TableRead × ℕ) : Type 0 where
  pub table : List ℕ
  pub items : Option (List (List ℕ))
  pub filter : Option Tree
  pub csv : Bool
  pub reply : Reply
  pub entry : told.entry ≡ Within session (Select (full read.0.version table) items filter csv)
  pub answer : told.answer ≡ Ok (answer_of csv reply)
  pub past : read.1 ≤ h.last
  pub shows : h.last < last_number → last_change h read.0 ≤ read.1 → Shows d read.0 table items filter reply

-- it stays so over each statement that numbers what it changes
pub fresh_later : (d later : AnyDatabase) (h now : History) (session : ℕ) (told : Told) (read : TableRead × ℕ) → Leaves d h later now → IsFresh d h session told read → IsFresh later now session told read
fresh_later d later h now session told read leaves fresh =
    let past = fresh.past in
    let rises = leaves.rises in
    record {
      table = fresh.table;
      items = fresh.items;
      filter = fresh.filter;
      csv = fresh.csv;
      reply = fresh.reply;
      entry = fresh.entry;
      answer = fresh.answer;
      past = omega (arith, past, rises);
      shows = λ below unchanged.
          let old = leaves.since read.0 read.1 past below unchanged in
          let shows = fresh.shows old.0 old.1 in
          let stays = leaves.stays read.0 read.1 fresh.table shows.it shows.is shows.number past below unchanged in
          record {
            it = shows.it;
            is = stays.0;
            number = shows.number;
            selects = select_later d later shows.it fresh.items fresh.filter fresh.reply stays.1 leaves.next (full read.0.version fresh.table) shows.is stays.0 shows.selects;
          };
    }

-- those of a session, beside what its transaction read
abbrev pub AreFresh : AnyDatabase → History → ℕ → List Told → List (TableRead × ℕ) → Type 0
AreFresh d h session [] [] = Unit {0}
AreFresh d h session (told ∷ tolds) (read ∷ reads) = IsFresh d h session told read × AreFresh d h session tolds reads
AreFresh d h session [] (read ∷ reads) = ⊥
AreFresh d h session (told ∷ tolds) [] = ⊥

pub all_later : (d later : AnyDatabase) (h now : History) (session : ℕ) (tolds : List Told) (reads : List (TableRead × ℕ)) → Leaves d h later now → AreFresh d h session tolds reads → AreFresh later now session tolds reads
all_later d later h now session [] [] leaves fresh = tt
all_later d later h now session [] (read ∷ reads) leaves fresh = absurd fresh
all_later d later h now session (told ∷ tolds) [] leaves fresh = absurd fresh
all_later d later h now session (told ∷ tolds) (read ∷ reads) leaves fresh = (fresh_later d later h now session told read leaves fresh.0, all_later d later h now session tolds reads leaves fresh.1)

-- with one more
pub one_more_fresh : (d : AnyDatabase) (h : History) (session : ℕ) (tolds : List Told) (reads : List (TableRead × ℕ)) (told : Told) (read : TableRead × ℕ) → AreFresh d h session tolds reads → IsFresh d h session told read → AreFresh d h session (tolds ++ told ∷ []) (reads ++ read ∷ [])
one_more_fresh d h session [] [] told read fresh one = (one, tt)
one_more_fresh d h session [] (r ∷ reads) told read fresh one = absurd fresh
one_more_fresh d h session (t ∷ tolds) [] told read fresh one = absurd fresh
one_more_fresh d h session (t ∷ tolds) (r ∷ reads) told read fresh one = (fresh.0, one_more_fresh d h session tolds reads told read fresh.1 one)

-- ---- at an accepted COMMIT

-- nothing that was read has changed
abbrev pub AreUnchanged : History → List (TableRead × ℕ) → Type 0
AreUnchanged h reads = Each (λ (read : TableRead × ℕ). last_change h read.0 ≤ read.1) reads

free_of : (b : Bool) (fault : CommitFault) (f : Option CommitFault) → cond b (Some fault) f ≡ None → (b ≡ false) × (f ≡ None)
free_of true fault f e = absurd (let no : ⊥ = cc in no)
free_of false fault f e = (refl, e)

none_stale : (h : History) (index : ℕ) (reads : List (TableRead × ℕ)) → first_stale (last_change h) index reads ≡ None → AreUnchanged h reads
none_stale h index [] e = tt
none_stale h index (read ∷ reads) e =
    let both = free_of (nat_lt read.1 (last_change h read.0)) (Stale index read.1 (last_change h read.0)) (first_stale (last_change h) (index + 1) reads) e in
    let here = ltb-false read.1 (last_change h read.0) both.0 in
    (here, none_stale h (index + 1) reads both.1)

-- the reads that don't refuse it
pub unchanged_reads : (s : Executed SessionsStanding TableRead) (h : History) (reads : List (TableRead × ℕ)) → s.last ≡ last_change h → read_fault s reads ≡ None → AreUnchanged h reads
unchanged_reads s h reads same e =
    let free = free_of (not (length reads == 0) && (s.history == last_number)) HistorySpent (first_stale s.last 0 reads) e in
    none_stale h 0 reads (subst (λ (last : TableRead → ℕ). first_stale last 0 reads ≡ None) same free.1)

some_unspent : {X : Type 0} (x : X) (xs : List X) (n : ℕ) → n ≤ last_number → not (length (x ∷ xs) == 0) && (n == last_number) ≡ false → n < last_number
some_unspent x xs n le e = grind (arith, le, e)

pub unspent : (s : Executed SessionsStanding TableRead) (read : TableRead × ℕ) (reads : List (TableRead × ℕ)) → s.history ≤ last_number → read_fault s (read ∷ reads) ≡ None → s.history < last_number
unspent s read reads le e =
    let free = free_of (not (length (read ∷ reads) == 0) && (s.history == last_number)) HistorySpent (first_stale s.last 0 (read ∷ reads)) e in
    some_unspent read reads s.history le free.0

-- they are answered again, one after the other, and their accesses are counted
module _ (s : SessionsStanding) (is : IsMoving (moving_in s)) (h : History) (session : ℕ) (unspent : h.last < last_number) where
  pub reads_told : (tolds : List Told) (reads : List (TableRead × ℕ)) (counts : List TableCount) → AllCounted s.laid.database.graph.edges counts → AreFresh s.laid.database h session tolds reads → AreUnchanged h reads
      → AllCounted s.laid.database.graph.edges (raised_all counts (map (λ (r : TableRead × ℕ). r.0.table) reads)) × AreTold tolds (counting s counts) (counting s (raised_all counts (map (λ (r : TableRead × ℕ). r.0.table) reads)))
  reads_told [] [] counts each fresh unchanged = (each, refl)
  reads_told [] (read ∷ reads) counts each fresh unchanged = absurd fresh
  reads_told (told ∷ tolds) [] counts each fresh unchanged = absurd fresh
  reads_told (told ∷ tolds) (read ∷ reads) counts each fresh unchanged =
      let f = fresh.0 in
      let shows = f.shows unspent unchanged.0 in
      let here = select_told s is session counts read.0 f.table f.items f.filter f.csv f.reply each shows in
      let more = raised counts read.0.table in
      let rest = reads_told tolds reads more here.0 fresh.1 unchanged.1 in (
        rest.0,
        tell_one told tolds (counting s counts) (counting s more) (counting s (raised_all more (map (λ (r : TableRead × ℕ). r.0.table) reads)))
            (Within session (Select (full read.0.version f.table) f.items f.filter f.csv)) (answer_of f.csv f.reply, beside s more session) f.entry f.answer here.1 refl rest.1,
      )
