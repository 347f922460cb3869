-- One after the other: SELECTs and writes in a session, each beside the counts of what was accessed before.
use Rattle.std.specs.Prelude.{Option, Some, Ok, Err, filter_map, is_some, nat_lt, ◌&&◌}
use Rattle.std.specs.List.{cons_option}
use Rattle.std.proofs.Common.{◌≡◌, ◌≤◌, ℕ, Bool, true, false, cond, filter, List, [], ◌∷◌, ◌++◌, refl, sym, ap, ◌∙◌, subst}
use Rattle.std.proofs.lemmas.Bool.{cond-true, le-ltb}
use Rattle.std.proofs.lemmas.List.{append-nil}
use Rattle.par_base.specs.Checked.{Checked, ◌then◌}
use Rattle.statements.specs.Views.{StatementView, Tree, Select}
use Rattle.version_graph.specs.Sets.{Each, In}
use Rattle.version_graph.specs.Edges.{Drawn, is_in, maker_of, numbers}
use Rattle.version_graph.specs.declared.parts.Placed.{Placed}
use Rattle.version_graph.proofs.SetLaws.{each_append, each_at, each_of, is_in_true}
use Rattle.version_graph.proofs.TableLaws.{in_filter}
use Rattle.layout_rules.specs.Changes.{creates_above, is_empty, layout_after}
use Rattle.layout_planner.specs.Costs.{count_of}
use Rattle.layout_planner.specs.Counts.{counts_in, is_living}
use Rattle.layout_planner.specs.declared.planning.TableCount.{TableCount}
use Rattle.migration.specs.Pending.{pending_in}
use Rattle.op_any.specs.Operators.{AnyView}
use Rattle.session_tx.specs.Meaning.{Ran}
use Rattle.session_tx.specs.Commits.{results, running, runs_of, with_runs}
use Rattle.session_tx.specs.Serial.{end_of as runs_end}
use Rattle.engine_state.specs.AnyDatabase.{AnyDatabase}
use Rattle.engine_state.specs.declared.reply.Reply.{Reply}
use Rattle.engine_state.specs.declared.reply.Reply.TheVariants.{Committed, Deleted, Done, Flipped, Inserted, Kept, Layout, Moved, Pending, Rows, Unwatched, Updated, Watching}
use Rattle.engine_state.specs.declared.reply.WriteReply.{WriteReply}
use Rattle.engine_state.specs.declared.reply.WriteReply.TheVariants as write
use Rattle.engine_transactions.specs.Found.{Found, found}
use Rattle.engine_transactions.specs.Statements.{acted_select}
use Rattle.engine_transactions.proofs.ChainLaws.{both_give, ok_is}
use Rattle.engine_transactions.specs.EngineCoreAct.{with_data}
use Rattle.engine_transactions.specs.Laid.{Laid}
use Rattle.engine_transactions.specs.EngineCoreUndo.{acted_write}
use Rattle.engine_transactions.specs.EngineMovesAct.{pending_behind}
use Rattle.engine_transactions.specs.Moving.{Moving}
use Rattle.engine_transactions.specs.Accesses.{accessed, one_more, raised, raised_by, table_found}
use Rattle.engine_transactions.specs.EngineSessionsAct.{act as act_beside, answer_of, behind, written_in}
use Rattle.engine_transactions.specs.EngineSessionsStanding.{Standing as SessionsStanding, moving_in}
use Rattle.engine_transactions.specs.Answer.{Answer}
use Rattle.engine_transactions.specs.Answer.TheVariants.{Plain}
use Rattle.engine_transactions.specs.Act.{raised_all}
use Rattle.engine_transactions.specs.Meaning.{means, write_reply}
use Rattle.engine_transactions.specs.Serial.{AreTold, Entry, Told, Within, answer_to, answered_in, given, left_by, told_writes}
use Rattle.tx_history.specs.declared.table_read.TableRead.{TableRead}
use Rattle.transaction_laws.proofs.FoundLemmas.{found_by, found_made, full, has_maker}
use Rattle.transaction_laws.proofs.OrderLemmas.{AllCounted, AllLive, IsMoving, IsOrdered}
use Rattle.transaction_laws.proofs.PlanLemmas.{IsWritten, in_session, written_is}

-- ---- what lives stays as it is

all_pass : {X : Type 0} (test : X → Bool) (xs : List X) → Each (λ x. test x ≡ true) xs → filter test xs ≡ xs
all_pass test [] each = refl
all_pass {X} test (x ∷ xs) each = cond-true (test x) (x ∷ filter test xs) (filter test xs) each.0 ∙ ap (λ (l : List X). x ∷ l) (all_pass test xs each.1)

live_pass : (es : List (Placed AnyView)) (ns : List ℕ) → AllLive es ns → filter (λ n. is_in n (numbers es)) ns ≡ ns
live_pass es ns live = all_pass (λ n. is_in n (numbers es)) ns (each_of (λ n. is_in n (numbers es) ≡ true) ns (λ n i. is_in_true n (numbers es) (each_at (λ k. In k (numbers es)) ns n i live)))

none_above : (last : ℕ) (es : List (Placed AnyView)) → Each (λ n. n ≤ last) (numbers es) → creates_above last es ≡ []
none_above last [] each = refl
none_above last (e ∷ es) each =
    ap (λ (b : Bool). creates_above last es ++ cond (b && is_empty e.edge.sources) (e.number ∷ []) []) (le-ltb last e.number each.0)
    ∙ append-nil (creates_above last es) ∙ none_above last es each.1

-- the layout behind a statement that leaves the graph
pub same_layout : (g : Drawn AnyView) (layout : List ℕ) → IsOrdered g → AllLive g.edges layout → layout_after layout g g ≡ layout
same_layout g layout is live =
    ap (λ (l : List ℕ). l ++ creates_above g.last_operator g.edges) (live_pass g.edges layout live)
    ∙ ap (λ (l : List ℕ). layout ++ l) (none_above g.last_operator g.edges is.operators) ∙ append-nil layout

-- what is pending behind it
pub same_pending : (es : List (Placed AnyView)) (pending : List ℕ) → AllLive es pending → pending_in es pending ≡ pending
same_pending es pending live = live_pass es pending live

-- counts of tables that live
pub same_counts : (es : List (Placed AnyView)) (counts : List TableCount) → AllCounted es counts → counts_in es counts ≡ counts
same_counts es counts each = all_pass (is_living es) counts each

-- an access of a table that lives
pub raised_counted : (es : List (Placed AnyView)) (counts : List TableCount) (t : ℕ) → is_some (maker_of es t) ≡ true → AllCounted es counts → AllCounted es (raised counts t)
raised_counted es counts t lives each =
    let low : TableCount → Bool = λ c. nat_lt c.table t in
    let high : TableCount → Bool = λ c. nat_lt t c.table in
    let P : TableCount → Type 0 = λ c. is_living es c ≡ true in
    let new : TableCount = record { table = t; count = one_more (count_of counts t) } in
    each_append P (filter low counts) (new ∷ filter high counts) (each_of P (filter low counts) (λ c i. each_at P counts c (in_filter low c counts i) each))
    (lives, each_of P (filter high counts) (λ c i. each_at P counts c (in_filter high c counts i) each))

-- ---- from one standing to the next

-- what is told of two lists, one after the other
pub tell_append : (ts us : List Told) (s mid end : SessionsStanding) → AreTold ts s mid → AreTold us mid end → AreTold (ts ++ us) s end
tell_append [] us s mid end h k = subst (λ (x : SessionsStanding). AreTold us x end) h k
tell_append (t ∷ ts) us s mid end h k = (h.0, tell_append ts us (left_by s t.entry (given s t.entry)) mid end h.1 k)

-- an entry that is answered so, and then others
pub tell_one : (told : Told) (ts : List Told) (s next end : SessionsStanding) (entry : Entry) (answer : Answer × SessionsStanding) → told.entry ≡ entry → told.answer ≡ Ok answer.0 → given s entry ≡ Ok answer → left_by s entry (Ok answer) ≡ next → AreTold ts next end → AreTold (told ∷ ts) s end
tell_one told ts s next end entry answer same says gives leaves rest =
    let first : answered_in (given s told.entry) ≡ told.answer = ap (λ (e : Entry). answered_in (given s e)) same ∙ ap answered_in gives ∙ sym says in
    let behind_it : left_by s told.entry (given s told.entry) ≡ next = ap (λ (e : Entry). left_by s e (given s e)) same ∙ ap (λ (m : Checked (Answer × SessionsStanding)). left_by s entry m) gives ∙ leaves in
    (first, subst (λ (x : SessionsStanding). AreTold ts x end) (sym behind_it) rest)

-- the same in a session of its own
abbrev pub beside : SessionsStanding → List TableCount → ℕ → SessionsStanding
beside s counts session = record s { counts = counts; session = session }

abbrev pub counting : SessionsStanding → List TableCount → SessionsStanding
counting s counts = record s { counts = counts }

-- it is answered so, and leads there
abbrev pub answering : Answer → SessionsStanding → Checked (Answer × SessionsStanding)
answering answer s = Ok (answer, s)

-- its data
abbrev base : SessionsStanding → AnyDatabase
base s = s.laid.database

abbrev edges_in : SessionsStanding → List (Placed AnyView)
edges_in s = s.laid.database.graph.edges

-- ---- a SELECT

-- what a SELECT shows: the table that is found, and the reply
pub record Shows (d : AnyDatabase) (read : TableRead) (table : List ℕ) (items : Option (List (List ℕ))) (filter : Option Tree) (reply : Reply) : Type 0 where
  pub it : Found
  pub is : found d (full read.version table) ≡ Ok it
  pub number : it.table.number ≡ read.table
  pub selects : acted_select d (full read.version table) items filter ≡ Ok (reply, d)

module _ (s : SessionsStanding) (is : IsMoving (moving_in s)) (session : ℕ) where
  -- it is answered so outside a transaction, and its access is counted
  pub select_told : (counts : List TableCount) (read : TableRead) (table : List ℕ) (items : Option (List (List ℕ))) (filter : Option Tree) (csv : Bool) (reply : Reply) → AllCounted (edges_in s) counts → Shows (base s) read table items filter reply
      → AllCounted (edges_in s) (raised counts read.table) × (act_beside (beside s counts session) (Select (full read.version table) items filter csv) ≡ answering (answer_of csv reply) (beside s (raised counts read.table) session))
  select_told counts read table items filter csv reply each shows =
      let d = base s in
      let es = edges_in s in
      let here = beside s counts session in
      let lives : is_some (maker_of es read.table) ≡ true =
      subst (λ (t : ℕ). is_some (maker_of es t) ≡ true) shows.number (has_maker es shows.it.table (found_made d read.version shows.it (found_by d read.version table shows.it shows.is))) in
      let more = raised_counted es counts read.table lives each in
      let reads : table_found (found d (full read.version table)) ≡ Some read.table = ap table_found shows.is ∙ ap (λ (t : ℕ). Some t) shows.number in
      let counted : counts_in es (raised_by counts (table_found (found d (full read.version table)))) ≡ raised counts read.table =
      ap (λ (o : Option ℕ). counts_in es (raised_by counts o)) reads ∙ same_counts es (raised counts read.table) more in
      let layout = same_layout d.graph s.laid.layout is.graph is.layout in
      let pending = same_pending es s.pending is.pending in
      let whole : Checked (Reply × AnyDatabase) → Checked (Answer × SessionsStanding) =
      λ m. ((m then λ a. Ok (with_data here.laid a)) then λ (a : Reply × Laid). Ok (a.0, record { laid = a.1; pending = pending_behind false a.1 here.pending })) then λ (a : Reply × Moving). Ok (answer_of csv a.0, behind here false (table_found (found d (full read.version table))) a.1) in
      let carried : act_beside here (Select (full read.version table) items filter csv) ≡ whole (Ok (reply, d)) = ap whole shows.selects in
      let settled : whole (Ok (reply, d)) ≡ answering (answer_of csv reply) (beside s (raised counts read.table) session) =
      λ i. answering (answer_of csv reply) (record here { laid = record { database = d; layout = layout i }; pending = pending i; counts = counted i }) in
      (more, carried ∙ settled)

-- ---- a write

told_is : (reply : Reply) (done : WriteReply) → write_reply reply ≡ Ok done → answer_to done ≡ Plain reply
told_is (Inserted ids) done e = ap answer_to (sym (ok_is (write.Inserted ids) done e))
told_is (Updated count) done e = ap answer_to (sym (ok_is (write.Updated count) done e))
told_is (Deleted count) done e = ap answer_to (sym (ok_is (write.Deleted count) done e))
told_is Done done e = absurd (let no : ⊥ = cc in no)
told_is (Rows header rows) done e = absurd (let no : ⊥ = cc in no)
told_is (Moved count) done e = absurd (let no : ⊥ = cc in no)
told_is (Layout tables operators) done e = absurd (let no : ⊥ = cc in no)
told_is (Pending count) done e = absurd (let no : ⊥ = cc in no)
told_is (Flipped operator left) done e = absurd (let no : ⊥ = cc in no)
told_is (Watching number) done e = absurd (let no : ⊥ = cc in no)
told_is (Unwatched number told rows) done e = absurd (let no : ⊥ = cc in no)
told_is Kept done e = absurd (let no : ⊥ = cc in no)
told_is (Committed replies) done e = absurd (let no : ⊥ = cc in no)

-- what a run of a write has done
abbrev pub Run : Type 0
Run = Ran SessionsStanding TableRead WriteReply

pub record HasRun (s : SessionsStanding) (x : StatementView) (run : Run) : Type 0 where
  pub reply : Reply
  pub later : AnyDatabase
  pub acted : acted_write s.laid.database x ≡ Ok (reply, later)
  pub told : answer_to run.done ≡ Plain reply
  pub leaves : run.next ≡ record s { laid = record s.laid { database = later } }
  pub written : IsWritten s.laid.database x reply later

-- the table that it accesses
abbrev pub table_of : {s : SessionsStanding} {x : StatementView} {run : Run} → HasRun s x run → ℕ
table_of ran = ran.written.plan.found.table.number

pub has_run : (s : SessionsStanding) (x : StatementView) (run : Run) → means s x ≡ Ok run → HasRun s x run
has_run s x run h =
    let a = both_give (written_in s x) _ run h in
    let b = both_give (acted_write s.laid.database x) _ a.0 a.1 in
    let c = both_give (write_reply a.0.0) _ run a.2 in
    let made = ok_is _ run c.2 in
    let left = ok_is _ a.0 b.2 in
    record {
      reply = b.0.0;
      later = b.0.1;
      acted = b.1;
      told = ap (λ (r : Run). answer_to r.done) (sym made) ∙ told_is a.0.0 c.0 c.1 ∙ ap (λ (r : Reply × SessionsStanding). Plain r.0) (sym left);
      leaves = ap (λ (r : Run). r.next) (sym made) ∙ ap (λ (r : Reply × SessionsStanding). r.1) (sym left);
      written = written_is s.laid.database x b.0 b.1;
    }

module _ (s : SessionsStanding) (is : IsMoving (moving_in s)) (x : StatementView) (run : Run) (ran : HasRun s x run) (session : ℕ) where
  pub write_accesses : (other : AnyDatabase) → other.graph ≡ (base s).graph → accessed other x ≡ Some (table_of ran)
  write_accesses other e = ran.written.planned.accesses other e

  pub write_counted : (counts : List TableCount) → AllCounted (edges_in s) counts → AllCounted (edges_in s) (raised counts (table_of ran))
  write_counted counts each = raised_counted (edges_in s) counts (table_of ran) ran.written.planned.lives each

  -- it is answered so outside a transaction, and its access is counted
  pub write_told : (counts : List TableCount) → AllCounted (edges_in s) counts → act_beside (beside s counts session) x ≡ answering (answer_to run.done) (beside run.next (raised counts (table_of ran)) session)
  write_told counts each =
      let d = base s in
      let t = table_of ran in
      let here = beside s counts session in
      let later = ran.later in
      let carried : act_beside here x ≡ in_session here (accessed d x) (Ok (ran.reply, later)) = ran.written.planned.outside here ∙ ap (λ (m : Checked (Reply × AnyDatabase)). in_session here (accessed d x) m) ran.acted in
      let graph : in_session here (accessed d x) (Ok (ran.reply, later)) ≡ answering (Plain ran.reply) (record here { laid = record { database = later; layout = layout_after s.laid.layout d.graph d.graph }; pending = pending_in d.graph.edges s.pending; counts = counts_in d.graph.edges (raised_by counts (accessed d x)) }) =
      ap (λ (g : Drawn AnyView). answering (Plain ran.reply) (record here { laid = record { database = later; layout = layout_after s.laid.layout d.graph g }; pending = pending_in g.edges s.pending; counts = counts_in g.edges (raised_by counts (accessed d x)) })) ran.written.graph in
      let counted : counts_in d.graph.edges (raised_by counts (accessed d x)) ≡ raised counts t =
      ap (λ (o : Option ℕ). counts_in d.graph.edges (raised_by counts o)) (write_accesses d refl) ∙ same_counts d.graph.edges (raised counts t) (write_counted counts each) in
      let layout = same_layout d.graph s.laid.layout is.graph is.layout in
      let pending = same_pending d.graph.edges s.pending is.pending in
      let settled : answering (Plain ran.reply) (record here { laid = record { database = later; layout = layout_after s.laid.layout d.graph d.graph }; pending = pending_in d.graph.edges s.pending; counts = counts_in d.graph.edges (raised_by counts (accessed d x)) })
      ≡ answering (Plain ran.reply) (record here { laid = record s.laid { database = later }; counts = raised counts t }) =
      λ i. answering (Plain ran.reply) (record here { laid = record { database = later; layout = layout i }; pending = pending i; counts = counted i }) in
      let told : answering (Plain ran.reply) (record here { laid = record s.laid { database = later }; counts = raised counts t }) ≡ answering (answer_to run.done) (beside run.next (raised counts t) session) =
      λ i. answering (sym ran.told i) (beside (sym ran.leaves i) (raised counts t) session) in
      carried ∙ graph ∙ settled ∙ told

  -- behind it the rest is as it was
  pub run_moving : IsMoving (moving_in run.next)
  run_moving =
      subst (λ (n : SessionsStanding). IsMoving (moving_in n)) (sym ran.leaves)
      (record {
        graph = subst IsOrdered (sym ran.written.graph) is.graph;
        layout = subst (λ (g : Drawn AnyView). AllLive g.edges s.laid.layout) (sym ran.written.graph) is.layout;
        pending = subst (λ (g : Drawn AnyView). AllLive g.edges s.pending) (sym ran.written.graph) is.pending;
      })

  pub run_graph : run.next.laid.database.graph ≡ (base s).graph
  run_graph = ap (λ (n : SessionsStanding). n.laid.database.graph) ran.leaves ∙ ran.written.graph

-- ---- writes, one after the other

abbrev runs_in : Checked (List Run) → List Run
runs_in (Ok runs) = runs
runs_in (Err refusal) = []

-- the first write of some was run, and then the others
pub record RunsFirst (s : SessionsStanding) (x : StatementView) (xs : List StatementView) (runs : List Run) : Type 0 where
  pub run : Run
  pub more : List Run
  pub are : runs ≡ run ∷ more
  pub meant : means s x ≡ Ok run
  pub then_on : runs_of means run.next xs ≡ Ok more

with_more : (run : Run) (rest : Checked (List Run)) (runs : List Run) → with_runs (run ∷ []) rest ≡ Ok runs → (more : List Run) × (rest ≡ Ok more) × (runs ≡ run ∷ more)
with_more run (Ok more) runs h = (more, refl, sym (ok_is (run ∷ more) runs h))
with_more run (Err refusal) runs h = absurd (let no : ⊥ = cc in no)

pub runs_first : (s : SessionsStanding) (x : StatementView) (xs : List StatementView) (runs : List Run) → runs_of means s (x ∷ xs) ≡ Ok runs → RunsFirst s x xs runs
runs_first s x xs runs h = go (means s x) refl h
  where
    go : (first : Checked Run) → means s x ≡ first → running first (λ next. runs_of means next xs) ≡ Ok runs → RunsFirst s x xs runs
    go (Ok run) is h = let m = with_more run (runs_of means run.next xs) runs h in record { run = run; more = m.0; are = m.2; meant = is; then_on = m.1 }
    go (Err refusal) is h = absurd (let no : ⊥ = cc in no)

module _ (d : AnyDatabase) (session : ℕ) where
  -- where the writes lead, with their accesses counted
  abbrev counted_end : SessionsStanding → List TableCount → List StatementView → List Run → SessionsStanding
  counted_end s counts xs runs = counting (runs_end s runs) (raised_all counts (filter_map (accessed d) xs))

  pub writes_told : (xs : List StatementView) (s : SessionsStanding) (counts : List TableCount) (runs : List Run) → IsMoving (moving_in s) → s.laid.database.graph ≡ d.graph → AllCounted d.graph.edges counts → runs_of means s xs ≡ Ok runs
      → AllCounted d.graph.edges (raised_all counts (filter_map (accessed d) xs)) × AreTold (told_writes session xs (results runs)) (counting s counts) (counted_end s counts xs runs)
  writes_told [] s counts runs is graph each h = (each, ap (λ (rs : List Run). counting (runs_end s rs) counts) (sym (ok_is [] runs h)))
  writes_told (x ∷ xs) s counts runs is graph each h =
      let f = runs_first s x xs runs h in
      let run = f.run in
      let ran = has_run s x run f.meant in
      let t = table_of ran in
      let next = run_moving s is x run ran session in
      let same = run_graph s is x run ran session in
      let here : AllCounted (edges_in s) counts = subst (λ (g : Drawn AnyView). AllCounted g.edges counts) (sym graph) each in
      let more : AllCounted d.graph.edges (raised counts t) = subst (λ (g : Drawn AnyView). AllCounted g.edges (raised counts t)) graph (write_counted s is x run ran session counts here) in
      let rest = writes_told xs run.next (raised counts t) f.more next (same ∙ graph) more f.then_on in
      let at_hand : s.session ≡ run.next.session = ap (λ (n : SessionsStanding). n.session) (sym ran.leaves) in
      let behind_it : beside run.next (raised counts t) s.session ≡ counting run.next (raised counts t) = ap (λ (n : ℕ). beside run.next (raised counts t) n) at_hand in
      let listed : filter_map (accessed d) (x ∷ xs) ≡ t ∷ filter_map (accessed d) xs = ap (λ (o : Option ℕ). cons_option o (filter_map (accessed d) xs)) (write_accesses s is x run ran session d (sym graph)) in
      let end : List ℕ → SessionsStanding = λ ts. counting (runs_end run.next f.more) (raised_all counts ts) in
      let first : AreTold (told_writes session (x ∷ xs) (results (run ∷ f.more))) (counting s counts) (end (t ∷ filter_map (accessed d) xs)) =
      tell_one (record { entry = Within session x; answer = Ok (answer_to run.done) }) (told_writes session xs (results f.more)) (counting s counts) (counting run.next (raised counts t)) (end (t ∷ filter_map (accessed d) xs))
      (Within session x) (answer_to run.done, beside run.next (raised counts t) session) refl refl (write_told s is x run ran session counts here) behind_it rest.1 in
      let both : AllCounted d.graph.edges (raised_all counts (filter_map (accessed d) (x ∷ xs))) × AreTold (told_writes session (x ∷ xs) (results (run ∷ f.more))) (counting s counts) (counted_end s counts (x ∷ xs) (run ∷ f.more)) =
      subst (λ (ts : List ℕ). AllCounted d.graph.edges (raised_all counts ts) × AreTold (told_writes session (x ∷ xs) (results (run ∷ f.more))) (counting s counts) (end ts)) (sym listed) (rest.0, first) in
      (both.0, subst (λ (rs : List Run). AreTold (told_writes session (x ∷ xs) (results rs)) (counting s counts) (counted_end s counts (x ∷ xs) rs)) (sym f.are) both.1)
