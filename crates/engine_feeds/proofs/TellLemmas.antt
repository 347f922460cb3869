-- What statements answer and leave, with whom it is told.
use Rattle.std.specs.Prelude.{IsSome, Result, Ok, Err, OnErr, IfOk}
use Rattle.std.specs.Str.{bytes_eq}
use Rattle.std.proofs.Common.{◌≡◌, ℕ, true, false, List, [], ◌∷◌, refl, sym, ap, ◌∙◌, subst}
use Rattle.std.proofs.lemmas.Bool.{false_from_ne_true, false≢true}
use mathlib.Core.Logic.{inl, inr}
use Rattle.par_base.specs.Checked.{Checked, ◌then◌}
use Rattle.par_base.specs.declared.fault.Fault.{Fault}
use Rattle.par_base.specs.declared.fault.Fault.TheVariants.{Refused, Memory as OutOfMemory}
use Rattle.par_base.specs.declared.refusal.Refusal.{Refusal}
use Rattle.statements.specs.Views.{StatementView, CreateVersion, DropVersion, Insert, Import, Update, Delete, Select, Materialize, Step, ShowLayout, Use, Session, Advise, Watch, Unwatch, Begin, Commit, Rollback}
use Rattle.version_graph.specs.Edges.{IsGraph, set_named}
use Rattle.version_graph.specs.Sets.{Each}
use Rattle.version_graph.proofs.NameLaws.{name_is, same_name}
use Rattle.version_model.specs.Sound.{IsSound}
use Rattle.op_any.specs.Operators.{AnyView, any_meaning}
use Rattle.db_state.specs.declared.parts.Parts.{Parts}
use Rattle.engine_transactions.specs.WriteUndo.{Undo}
use Rattle.change_feed.specs.declared.note.VersionNote.{VersionNote}
use Rattle.change_feed.specs.Feeds.{events_prepared, events_told}
use Rattle.change_feed.specs.Watchers.{WatcherState}
use Rattle.change_feed.specs.Watches.{WatchState, WatchesState, all_cleared, all_told, without_version}
use Rattle.version_notes.specs.Mirrors.{AllFollow, AreQuiet}
use Rattle.version_notes.specs.Notes.{notes_along, notes_between}
use Rattle.version_notes.specs.Runs.{IsOrdered, runs_notes, LeadAlong as LeadAlongThere}
use Rattle.version_notes.proofs.RunLaws.{Along, cleared_along, run_along, told_along}
use Rattle.version_notes.proofs.WatchLaws.{SameElse, SameTables, SameWatched, dropped_silent, nothing_between, quiet_dropped, quiet_there, silent_else, told_nothing}
use Rattle.engine_state.specs.AnyDatabase.{AnyDatabase}
use Rattle.engine_transactions.specs.EngineCoreKept.{data_of}
use Rattle.engine_transactions.proofs.ChainLaws.{ok_is}
use Rattle.engine_transactions.specs.EngineSessionsCalls.{IsAnswer}
use Rattle.engine_transactions.specs.Answer.{Answer}
use Rattle.engine_transactions.specs.Act.{act, Answers as AnswersBeneath}
use Rattle.engine_transactions.specs.Calls.{standing_of as standing_beneath, IsIdle, Keeps}
use Rattle.engine_transactions.specs.Held.{Holds, IsBack, Settles, answer_in}
use Rattle.engine_transactions.specs.Kept.{kept_in as kept_beneath}
use Rattle.tx_history.specs.Kinds.{kind_in, writes_rows_in}
use Rattle.engine_transactions.specs.Leads.{LeadAlong, data_behind, data_left}
use Rattle.engine_transactions.specs.Standing.{Standing as TransactionsStanding}
use Rattle.engine_transactions.specs.declared.held.Held.{Held}
use Rattle.engine_transactions.specs.declared.kept.Kept.{Kept as Transactions}
use Rattle.tx_history.specs.declared.statement_kind.StatementKind.{StatementKind}
use Rattle.tx_history.specs.declared.statement_kind.StatementKind.TheVariants as kind
use Rattle.engine_feeds.specs.Act.{acted_by, told_of, watches_behind, Answers}
use Rattle.engine_feeds.specs.Calls.{standing_with, Carries}
use Rattle.engine_feeds.specs.Kept.{AreKept}
use Rattle.engine_feeds.specs.Notes.{event_notes}
use Rattle.engine_feeds.specs.Plain.{is_plain, HearNothing}
use Rattle.engine_feeds.proofs.ActLemmas.{stays_behind, stays_dropped}
use Rattle.engine_feeds.proofs.EndLemmas.{ends}

-- ---- what is known of a database

pub is_ordered : (k : Parts AnyView) → IsGraph k.graph → IsSound any_meaning k.graph.edges (data_of k).state → IsOrdered (data_of k)
is_ordered k graph sound = record { edges = graph.edges; rise = λ t. (sound.well.tables t).0 }

pub graph_at : (kept : Transactions) (k : Parts AnyView) → k ≡ kept_beneath kept → IsGraph k.graph → IsGraph (data_of (kept_beneath kept)).graph
graph_at kept k same graph = subst (λ (p : Parts AnyView). IsGraph p.graph) same graph

pub ordered_at : (kept : Transactions) (k : Parts AnyView) → k ≡ kept_beneath kept → IsGraph k.graph → IsSound any_meaning k.graph.edges (data_of k).state → IsOrdered (data_of (kept_beneath kept))
ordered_at kept k same graph sound = subst (λ (p : Parts AnyView). IsOrdered (data_of p)) same (is_ordered k graph sound)

leads_there : (d : AnyDatabase) (es : List AnyDatabase) (us : List Undo) → LeadAlong d es us → LeadAlongThere d es us
leads_there d [] [] leads = tt
leads_there d [] (u ∷ us) leads = absurd leads
leads_there d (e ∷ es) [] leads = absurd leads
leads_there d (e ∷ es) (u ∷ us) leads = (record { graph = leads.0.graph; changed = leads.0.changed; carried = leads.0.carried }, leads_there e es us leads.1)

-- the data of what is kept
abbrev data_at : Transactions → AnyDatabase
data_at kept = (standing_beneath kept).sessions.laid.database

-- ---- watches behind statements

pub plain_behind : (x : StatementView) (w : WatchesState) → is_plain x ≡ true → watches_behind x w ≡ w
plain_behind (CreateVersion name from operators) w plain = refl
plain_behind (DropVersion name) w plain = absurd (false≢true plain)
plain_behind (Insert name rows) w plain = refl
plain_behind (Import name text) w plain = refl
plain_behind (Update name assignments filter) w plain = refl
plain_behind (Delete name filter) w plain = refl
plain_behind (Select name items filter csv) w plain = refl
plain_behind (Materialize named in_steps) w plain = refl
plain_behind Step w plain = refl
plain_behind ShowLayout w plain = refl
plain_behind (Use name) w plain = refl
plain_behind (Session number) w plain = refl
plain_behind (Advise name) w plain = refl
plain_behind (Watch name) w plain = refl
plain_behind (Unwatch number) w plain = refl
plain_behind Begin w plain = refl
plain_behind Commit w plain = refl
plain_behind Rollback w plain = refl

-- nobody watches
abbrev none_live : List WatcherState → ℕ → WatchesState
none_live waiting last = record { waiting = waiting; last = last; live = [] }

behind_none : (x : StatementView) (waiting : List WatcherState) (last : ℕ) → watches_behind x (none_live waiting last) ≡ none_live waiting last
behind_none (DropVersion name) waiting last = refl
behind_none (CreateVersion name from operators) waiting last = refl
behind_none (Insert name rows) waiting last = refl
behind_none (Import name text) waiting last = refl
behind_none (Update name assignments filter) waiting last = refl
behind_none (Delete name filter) waiting last = refl
behind_none (Select name items filter csv) waiting last = refl
behind_none (Materialize named in_steps) waiting last = refl
behind_none Step waiting last = refl
behind_none ShowLayout waiting last = refl
behind_none (Use name) waiting last = refl
behind_none (Session number) waiting last = refl
behind_none (Advise name) waiting last = refl
behind_none (Watch name) waiting last = refl
behind_none (Unwatch number) waiting last = refl
behind_none Begin waiting last = refl
behind_none Commit waiting last = refl
behind_none Rollback waiting last = refl

events_none : (es : List (List VersionNote)) (waiting : List WatcherState) (last : ℕ) → events_told es (none_live waiting last) ≡ none_live waiting last
events_none [] waiting last = refl
events_none (e ∷ es) waiting last = events_none es waiting last

unwatched_told : (s : TransactionsStanding) (x : StatementView) (next : TransactionsStanding) (w : WatchesState) → w.live ≡ [] → told_of s x next w ≡ w
unwatched_told s x next w none =
    let same : none_live w.waiting w.last ≡ w = λ i. record w { live = sym none i } in
    subst (λ (v : WatchesState). told_of s x next v ≡ v) same (ap (watches_behind x) (events_none (event_notes s x next) w.waiting w.last) ∙ behind_none x w.waiting w.last)

-- ---- statements that write no rows

still_data : (k : StatementKind) (s next : TransactionsStanding) → writes_rows_in k ≡ false → data_left k s next ≡ next.sessions.laid.database ∷ []
still_data kind.Begin s next off = refl
still_data kind.Rollback s next off = refl
still_data kind.Commit s next off = absurd (false≢true (sym off))
still_data kind.Select s next off = refl
still_data kind.Write s next off = absurd (false≢true (sym off))
still_data kind.Other s next off = refl

same_all : (d later : AnyDatabase) (live : List WatchState) → AllFollow d live → ((version : List ℕ) → IsSome (set_named d.graph.versions version) → SameTables d later version) → Each (SameWatched d later) live
same_all d later [] follows same = tt
same_all d later (w ∷ live) follows same = (same w.version follows.0.lives, same_all d later live follows.1 same)

-- each watched version is the same behind the statement
abbrev StaysAll : Transactions → Transactions → WatchesState → Type 0
StaysAll old new w = Each (SameWatched (data_at old) (data_at new)) w.live

passed_same : (x : StatementView) (old new : Transactions) (w : WatchesState) (answer : Answer) → IsGraph (data_at old).graph → AreQuiet (data_at old) w → act (standing_beneath old) x ≡ Ok (answer, standing_beneath new) → (writes_rows_in (kind_in x) ≡ false) × (is_plain x ≡ true) → StaysAll old new w
passed_same x old new w answer graph quiet acts nothing =
    same_all (data_at old) (data_at new) w.live quiet.follow (λ version lives.
    let it = stays_behind (standing_beneath old) version lives x (answer, standing_beneath new) graph nothing.0 nothing.1 acts in
    (it.lives, it.tables))

-- nobody is told of it, and all stay quiet
pub record Passes (x : StatementView) (old new : Transactions) (w : WatchesState) : Type 0 where
  pub told : told_of (standing_beneath old) x (standing_beneath new) w ≡ w
  pub quiet : AreQuiet (data_at new) w

pub passed : (x : StatementView) (old new : Transactions) (w : WatchesState) (answer : Answer) → IsGraph (data_at old).graph → AreQuiet (data_at old) w → act (standing_beneath old) x ≡ Ok (answer, standing_beneath new) → HearNothing x w → Passes x old new w
passed x old new w answer graph quiet acts (inl none) = record {
  told = unwatched_told (standing_beneath old) x (standing_beneath new) w none;
  quiet = record { fresh = quiet.fresh; quiet = quiet.quiet; follow = subst (AllFollow (data_at new)) (sym none) tt };
}
passed x old new w answer graph quiet acts (inr nothing) =
    let same = passed_same x old new w answer graph quiet acts nothing in
    record {
      told =
          plain_behind x (events_told (event_notes (standing_beneath old) x (standing_beneath new)) w) nothing.1
          ∙ ap (λ (datas : List AnyDatabase). events_told (notes_along (data_at old) datas) w) (still_data (kind_in x) (standing_beneath old) (standing_beneath new) nothing.0)
          ∙ told_nothing (notes_between (data_at old) (data_at new)) w quiet.quiet (nothing_between (data_at old) (data_at new) w.live same);
      quiet = quiet_there (data_at old) (data_at new) w same quiet;
    }

-- ---- what a call gives

-- the model's answer, with the watches behind it
given_with : (x : StatementView) (old new : Transactions) (w v : WatchesState) (answer : Answer) → act (standing_beneath old) x ≡ Ok (answer, standing_beneath new) → told_of (standing_beneath old) x (standing_beneath new) w ≡ v → acted_by (standing_with old w) x ≡ Ok (answer, standing_with new v)
given_with x old new w v answer acts told =
    ap (λ (m : Checked (Answer × TransactionsStanding)). m then λ a. Ok (a.0, record { transactions = a.1; watches = told_of (standing_beneath old) x a.1 w })) acts
    ∙ ap (λ (u : WatchesState). Ok (answer, record { transactions = standing_beneath new; watches = u })) told

pub refused_with : (x : StatementView) (old : Transactions) (w : WatchesState) (r : Refusal) → act (standing_beneath old) x ≡ Err r → acted_by (standing_with old w) x ≡ Err r
refused_with x old w r acts = ap (λ (m : Checked (Answer × TransactionsStanding)). m then λ a. Ok (a.0, record { transactions = a.1; watches = told_of (standing_beneath old) x a.1 w })) acts

-- what is as it was is kept as it was
kept_same : (old new : Transactions) (w : WatchesState) → standing_beneath new ≡ standing_beneath old → IsIdle new.executing → AreKept old w → AreKept new w
kept_same old new w same idle kept = record { idle = idle; quiet = subst (λ (s : TransactionsStanding). AreQuiet s.sessions.laid.database w) (sym same) kept.quiet }

-- after an error
pub failed_with : (x : StatementView) (old new : Transactions) (w v : WatchesState) (fault : Fault Refusal) → AnswersBeneath (act (standing_beneath old) x) (Err fault) (standing_beneath new) → standing_beneath new ≡ standing_beneath old → v ≡ w → Keeps x old.executing new.executing → IsIdle new.executing → AreKept old w
    → Carries (acted_by (standing_with old w) x) x old w (Err fault) new v
failed_with x old new w v fault answers same left keeps idle kept =
    subst (λ (u : WatchesState). Carries (acted_by (standing_with old w) x) x old w (Err fault) new u) (sym left)
    (record {
      answers = told fault answers;
      same = ap (λ (s : TransactionsStanding). record { transactions = s; watches = w }) same;
      answer = tt;
      keeps = keeps;
      kept = kept_same old new w same idle kept;
    })
  where
    told : (fault : Fault Refusal) → AnswersBeneath (act (standing_beneath old) x) (Err fault) (standing_beneath new) → Answers (acted_by (standing_with old w) x) (Err fault) (standing_with new w)
    told (Refused r) acts = refused_with x old w r acts
    told (OutOfMemory memory) acts = tt

pub done_with : (x : StatementView) (old new : Transactions) (w v : WatchesState) (answer : Answer) → act (standing_beneath old) x ≡ Ok (answer, standing_beneath new) → told_of (standing_beneath old) x (standing_beneath new) w ≡ v → AreQuiet (data_at new) v → IsAnswer answer → Keeps x old.executing new.executing → IsIdle new.executing
    → Carries (acted_by (standing_with old w) x) x old w (Ok answer) new v
done_with x old new w v answer acts told quiet prints keeps idle = record {
  answers = given_with x old new w v answer acts told;
  same = tt;
  answer = prints;
  keeps = keeps;
  kept = record { idle = idle; quiet = quiet };
}

-- A STATEMENT OF WHICH NOBODY IS TOLD
pub pass_carries : (x : StatementView) (old new : Transactions) (w : WatchesState) (result : Result Answer (Fault Refusal)) → IsGraph (data_at old).graph → AnswersBeneath (act (standing_beneath old) x) result (standing_beneath new) → OnErr result (standing_beneath new ≡ standing_beneath old) → IfOk result IsAnswer → Keeps x old.executing new.executing → IsIdle new.executing
    → HearNothing x w → AreKept old w → Carries (acted_by (standing_with old w) x) x old w result new w
pass_carries x old new w (Ok answer) graph answers same prints keeps idle nothing kept =
    let it = passed x old new w answer graph kept.quiet answers nothing in
    done_with x old new w w answer answers it.told it.quiet prints keeps idle
pass_carries x old new w (Err fault) graph answers same prints keeps idle nothing kept = failed_with x old new w w fault answers same refl keeps idle kept

-- ---- a statement that writes rows

pub write_plain : (x : StatementView) → writes_rows_in (kind_in x) ≡ true → is_plain x ≡ true
write_plain (CreateVersion name from operators) on = refl
write_plain (DropVersion name) on = absurd (false≢true on)
write_plain (Insert name rows) on = refl
write_plain (Import name text) on = refl
write_plain (Update name assignments filter) on = refl
write_plain (Delete name filter) on = refl
write_plain (Select name items filter csv) on = refl
write_plain (Materialize named in_steps) on = refl
write_plain Step on = refl
write_plain ShowLayout on = refl
write_plain (Use name) on = refl
write_plain (Session number) on = refl
write_plain (Advise name) on = refl
write_plain (Watch name) on = refl
write_plain (Unwatch number) on = refl
write_plain Begin on = refl
write_plain Commit on = refl
write_plain Rollback on = refl

module _ (x : StatementView) (old now : Transactions) (w : WatchesState) (held : Held) (is : IsOrdered (data_at old)) (kept : AreKept old w) (holds : Holds (act (standing_beneath old) x) (data_behind (standing_beneath old) x) old held now) where
  abbrev notes : List (List VersionNote)
  notes = runs_notes (kept_beneath now).graph w.live now.executing.unsettled.items

  -- its watches may be made ready
  pub held_along : Along (data_at old) (data_behind (standing_beneath old) x holds.next) w notes
  held_along =
      run_along (data_at old) (data_behind (standing_beneath old) x holds.next) now.executing.unsettled.items w (kept_beneath now).graph w.live (sym holds.graph) refl is
      (leads_there (data_at old) (data_behind (standing_beneath old) x holds.next) now.executing.unsettled.items holds.leads) kept.quiet.follow

  -- it stays, and they are told
  pub settled_carries : (on : writes_rows_in (kind_in x) ≡ true) (answer : Answer) (new : Transactions) (ready v : WatchesState) → Settles (act (standing_beneath old) x) old answer new → ready ≡ events_prepared notes w → v ≡ all_told ready
      → Carries (acted_by (standing_with old w) x) x old w (Ok answer) new v
  settled_carries on answer new ready v settles ready_is told_is =
      let stands : holds.next ≡ standing_beneath new = ap (λ (q : Answer × TransactionsStanding). q.1) (ok_is (answer_in held, holds.next) (answer, standing_beneath new) (sym holds.acts ∙ settles.answers)) in
      let along = subst (λ (next : TransactionsStanding). Along (data_at old) (data_behind (standing_beneath old) x next) w notes) stands held_along in
      let told = told_along (data_at old) (data_behind (standing_beneath old) x (standing_beneath new)) w notes kept.quiet along in
      let all : v ≡ all_told (events_prepared notes w) = told_is ∙ ap all_told ready_is in
      let end = ends (standing_beneath old) x (answer, standing_beneath new) on settles.answers in
      done_with x old new w v answer settles.answers
      (plain_behind x (events_told (event_notes (standing_beneath old) x (standing_beneath new)) w) (write_plain x on) ∙ sym told.0 ∙ sym all)
      (subst (λ (q : AnyDatabase × WatchesState). AreQuiet q.0 q.1) (λ i. (end i, sym all i)) told.1)
      settles.prints (settles.keeps x) settles.idle

-- it is taken back
pub back_carries : (x : StatementView) (old new : Transactions) (w v : WatchesState) (memory : _) → IsBack old new → AreKept old w → v ≡ all_cleared w → Carries (acted_by (standing_with old w) x) x old w (Err (OutOfMemory memory)) new v
back_carries x old new w v memory back kept cleared =
    failed_with x old new w v (OutOfMemory memory) tt back.same (cleared ∙ cleared_along (data_at old) w kept.quiet) (back.keeps x) back.idle kept

-- ---- a drop

other_order : (a b : List ℕ) → bytes_eq a b ≡ false → bytes_eq b a ≡ false
other_order a b off = false_from_ne_true (bytes_eq b a) (λ same. false≢true (sym off ∙ name_is a b (sym (same_name b a same))))

else_all : (d later : AnyDatabase) (name : List ℕ) (live : List WatchState) → AllFollow d live → ((version : List ℕ) → IsSome (set_named d.graph.versions version) → bytes_eq name version ≡ false → SameTables d later version) → Each (SameElse d later name) live
else_all d later name [] follows same = tt
else_all d later name (w ∷ live) follows same = ((λ off. same w.version follows.0.lives (other_order w.version name off)), else_all d later name live follows.1 same)

pub drop_carries : (name : List ℕ) (old new : Transactions) (w v : WatchesState) (answer : Answer) → AnswersBeneath (act (standing_beneath old) (DropVersion name)) (Ok answer) (standing_beneath new) → IsAnswer answer → Keeps (DropVersion name) old.executing new.executing → IsIdle new.executing → AreKept old w
    → v ≡ record w { live = without_version name w.live } → Carries (acted_by (standing_with old w) (DropVersion name)) (DropVersion name) old w (Ok answer) new v
drop_carries name old new w v answer acts prints keeps idle kept left =
    let same = else_all (data_at old) (data_at new) name w.live kept.quiet.follow (λ version lives off.
    let it = stays_dropped (standing_beneath old) version lives name (answer, standing_beneath new) off acts in
    (it.lives, it.tables)) in
    done_with (DropVersion name) old new w v answer acts
    (dropped_silent name (notes_between (data_at old) (data_at new)) w kept.quiet.quiet (silent_else (data_at old) (data_at new) name w.live same) ∙ sym left)
    (subst (AreQuiet (data_at new)) (sym left) (quiet_dropped (data_at old) (data_at new) name w same kept.quiet))
    prints keeps idle
