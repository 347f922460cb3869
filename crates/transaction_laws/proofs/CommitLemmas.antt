-- What an accepted COMMIT has done: its SELECTs and writes stand for it, and what they leave.
use Rattle.std.specs.Prelude.{None, Ok, filter_map}
use Rattle.std.proofs.Common.{◌≡◌, ◌≤◌, ℕ, false, map, List, [], ◌∷◌, ◌++◌, refl, sym, ◌∙◌, subst, arith}
use Rattle.std.proofs.lemmas.Bool.{or_parts}
use Rattle.statements.specs.Views.{StatementView}
use Rattle.version_graph.specs.Edges.{Drawn}
use Rattle.layout_planner.specs.declared.planning.TableCount.{TableCount}
use Rattle.op_any.specs.Operators.{AnyView}
use Rattle.session_tx.specs.Calls.{last_number}
use Rattle.session_tx.specs.Commits.{commit, read_fault, results, runs_of}
use Rattle.session_tx.specs.Serial.{end_of as runs_end}
use Rattle.session_tx.proofs.FreshLaws.{accepted}
use Rattle.engine_state.specs.AnyDatabase.{AnyDatabase}
use Rattle.engine_transactions.proofs.ChainLaws.{ok_is}
use Rattle.engine_transactions.specs.Accesses.{accessed, raised}
use Rattle.engine_transactions.specs.EngineSessionsStanding.{Standing as SessionsStanding, moving_in}
use Rattle.engine_transactions.specs.Act.{accesses_of, behind_commit, raised_all}
use Rattle.engine_transactions.specs.Meaning.{any_changed, executing, means}
use Rattle.engine_transactions.specs.Serial.{AreTold, Told, told_writes}
use Rattle.engine_transactions.specs.Standing.{Standing}
use Rattle.tx_history.specs.Views.{TransactionView}
use Rattle.tx_history.specs.declared.table_read.TableRead.{TableRead}
use Rattle.transaction_laws.specs.Orderly.{IsOrderly}
use Rattle.transaction_laws.proofs.ActLemmas.{moving_of, orderly_of}
use Rattle.transaction_laws.proofs.FreshLemmas.{AreFresh, reads_told, unchanged_reads, unspent}
use Rattle.transaction_laws.proofs.LeaveLemmas.{Leaves, unchanged_rows, writes_leave}
use Rattle.transaction_laws.proofs.OrderLemmas.{AllCounted, IsMoving, counted_kept}
use Rattle.transaction_laws.proofs.TellLemmas.{Run, counting, has_run, run_graph, run_moving, runs_first, same_counts, tell_append, writes_told}

-- ---- what the runs of writes leave

pub record RunsLeave (s : SessionsStanding) (runs : List Run) : Type 0 where
  pub moving : IsMoving (moving_in (runs_end s runs))
  pub graph : (runs_end s runs).laid.database.graph ≡ s.laid.database.graph
  pub next : s.laid.database.state.next ≤ (runs_end s runs).laid.database.state.next
  pub rows : (t : ℕ) → any_changed s runs t ≡ false → (runs_end s runs).laid.database.state.tables t ≡ s.laid.database.state.tables t

none_leave : (s : SessionsStanding) → IsMoving (moving_in s) → RunsLeave s []
none_leave s is = record { moving = is; graph = refl; next = omega arith; rows = λ t off. refl }

pub runs_leave : (xs : List StatementView) (s : SessionsStanding) (runs : List Run) → IsMoving (moving_in s) → runs_of means s xs ≡ Ok runs → RunsLeave s runs
runs_leave [] s runs is h = subst (RunsLeave s) (ok_is [] runs h) (none_leave s is)
runs_leave (x ∷ xs) s runs is h =
    let f = runs_first s x xs runs h in
    let run = f.run in
    let ran = has_run s x run f.meant in
    let rest = runs_leave xs run.next f.more (run_moving s is x run ran s.session) f.then_on in
    let first : s.laid.database.state.next ≤ run.next.laid.database.state.next = subst (λ (n : SessionsStanding). s.laid.database.state.next ≤ n.laid.database.state.next) (sym ran.leaves) ran.written.next in
    let then_on = rest.next in
    subst (RunsLeave s) (sym f.are) (record {
      moving = rest.moving;
      graph = rest.graph ∙ run_graph s is x run ran s.session;
      next = omega (arith, first, then_on);
      rows = λ t off.
          let both = or_parts _ (any_changed run.next f.more t) off in
          rest.rows t both.1 ∙ unchanged_rows s.laid.database run.next.laid.database t both.0;
    })

-- ---- one access after the other

raised-append : (counts : List TableCount) (ts us : List ℕ) → raised_all counts (ts ++ us) ≡ raised_all (raised_all counts ts) us
raised-append counts [] us = refl
raised-append counts (t ∷ ts) us = raised-append (raised counts t) ts us

-- ---- an accepted COMMIT

module _ (s : Standing) (t : TransactionView) (runs : List Run) (is : IsOrderly s.sessions) (within : s.history.last ≤ last_number) (commits : commit means (executing s) t ≡ Ok runs) where
  abbrev d : AnyDatabase
  d = s.sessions.laid.database

  moving : IsMoving (moving_in s.sessions)
  moving = moving_of s.sessions is

  unrefused : read_fault (executing s) t.reads ≡ None
  unrefused = (accepted (read_fault (executing s) t.reads) (runs_of means s.sessions t.writes) runs commits).0

  ran : runs_of means s.sessions t.writes ≡ Ok runs
  ran = (accepted (read_fault (executing s) t.reads) (runs_of means s.sessions t.writes) runs commits).1

  abbrev read_counts : List (TableRead × ℕ) → List TableCount
  read_counts reads = raised_all s.sessions.counts (map (λ (r : TableRead × ℕ). r.0.table) reads)

  -- its SELECTs
  reads_first : (session : ℕ) (tolds : List Told) (reads : List (TableRead × ℕ)) → read_fault (executing s) reads ≡ None → AreFresh d s.history session tolds reads
      → AllCounted d.graph.edges (read_counts reads) × AreTold tolds s.sessions (counting s.sessions (read_counts reads))
  reads_first session [] [] free fresh = (is.counts, refl)
  reads_first session (told ∷ tolds) [] free fresh = absurd fresh
  reads_first session tolds (read ∷ reads) free fresh =
      reads_told s.sessions moving s.history session (unspent (executing s) read reads within free) tolds (read ∷ reads) s.sessions.counts is.counts fresh (unchanged_reads (executing s) s.history (read ∷ reads) refl free)

  -- all its accesses
  abbrev all_counts : List TableCount
  all_counts = raised_all s.sessions.counts (accesses_of d t)

  -- and then its writes
  told_all : (session : ℕ) (tolds : List Told) → AreFresh d s.history session tolds t.reads
      → AllCounted d.graph.edges all_counts × AreTold (tolds ++ told_writes session t.writes (results runs)) s.sessions (counting (runs_end s.sessions runs) all_counts)
  told_all session tolds fresh =
      let first = reads_first session tolds t.reads unrefused fresh in
      let second = writes_told d session t.writes s.sessions (read_counts t.reads) runs moving refl first.0 ran in
      let same : raised_all (read_counts t.reads) (filter_map (accessed d) t.writes) ≡ all_counts =
      sym (raised-append s.sessions.counts (map (λ (r : TableRead × ℕ). r.0.table) t.reads) (filter_map (accessed d) t.writes)) in
      let whole = tell_append tolds (told_writes session t.writes (results runs)) s.sessions (counting s.sessions (read_counts t.reads)) (counting (runs_end s.sessions runs) (raised_all (read_counts t.reads) (filter_map (accessed d) t.writes))) first.1 second.1 in
      subst (λ (c : List TableCount). AllCounted d.graph.edges c × AreTold (tolds ++ told_writes session t.writes (results runs)) s.sessions (counting (runs_end s.sessions runs) c)) same (second.0, whole)

  -- what they leave
  left : RunsLeave s.sessions runs
  left = runs_leave t.writes s.sessions runs moving ran

  -- ONE AFTER THE OTHER: they are answered as they were, and lead where the COMMIT led
  pub commit_told : (session : ℕ) (tolds : List Told) → AreFresh d s.history session tolds t.reads → AreTold (tolds ++ told_writes session t.writes (results runs)) s.sessions (behind_commit s t runs).sessions
  commit_told session tolds fresh =
      let both = told_all session tolds fresh in
      let es = (runs_end s.sessions runs).laid.database.graph.edges in
      let live : AllCounted es all_counts = subst (λ (g : Drawn AnyView). AllCounted g.edges all_counts) (sym left.graph) both.0 in
      subst (λ (c : List TableCount). AreTold (tolds ++ told_writes session t.writes (results runs)) s.sessions (counting (runs_end s.sessions runs) c)) (sym (same_counts es all_counts live)) both.1

  pub commit_orderly : IsOrderly (behind_commit s t runs).sessions
  commit_orderly =
      let m = left.moving in
      orderly_of (behind_commit s t runs).sessions (record { graph = m.graph; layout = m.layout; pending = m.pending }) (counted_kept (runs_end s.sessions runs).laid.database.graph.edges all_counts)

  pub commit_leaves : Leaves d s.history (behind_commit s t runs).sessions.laid.database (behind_commit s t runs).history
  commit_leaves = writes_leave d (runs_end s.sessions runs).laid.database s.history (any_changed s.sessions runs) within left.graph left.next left.rows
