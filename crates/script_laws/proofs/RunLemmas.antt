-- The writes of a COMMIT, one after the other.
use Rattle.std.specs.Prelude.{Result, Ok, Err}
use Rattle.std.proofs.Common.{◌≡◌, List, [], ◌∷◌, refl, sym, ap, subst}
use Rattle.par_base.specs.declared.refusal.Refusal.{Refusal}
use Rattle.par_base.specs.Checked.{Checked, ◌then◌}
use Rattle.statements.specs.Views.{StatementView}
use Rattle.version_graph.specs.Sets.{Each}
use Rattle.session_tx.specs.Meaning.{Ran}
use Rattle.session_tx.specs.Commits.{results, running, runs_of, with_runs}
use Rattle.session_tx.specs.Serial.{end_of}
use Rattle.session_laws.specs.Kept.{IsKept}
use Rattle.session_laws.specs.Written.{IsWriteInFull, WritesInFullAreOrdinary}
use Rattle.engine_transactions.specs.AnyDatabase.{AnyDatabase}
use Rattle.engine_transactions.specs.EngineCoreUndo.{acted_write}
use Rattle.engine_transactions.specs.Reply.{Reply}
use Rattle.engine_transactions.specs.Reply.TheVariants as reply
use Rattle.engine_transactions.specs.EngineSessionsStanding.{Standing as SessionsStanding}
use Rattle.engine_state.specs.declared.reply.WriteReply.{WriteReply}
use Rattle.engine_state.specs.declared.reply.WriteReply.TheVariants as write
use Rattle.tx_history.specs.declared.table_read.TableRead.{TableRead}
use Rattle.engine_transactions.specs.Changed.{has_changed}
use Rattle.engine_transactions.specs.Meaning.{means, write_reply}
use Rattle.script_laws.specs.Written.{AreWrites, reply_to}
use Rattle.script_laws.proofs.OpenLemmas.{Fits}

abbrev pub Run : Type 0
Run = Ran SessionsStanding TableRead WriteReply

abbrev pub data_in : SessionsStanding → AnyDatabase
data_in s = s.laid.database

-- ---- one write

-- a reply that is one to a write
told : (r : Reply) (w : WriteReply) → write_reply r ≡ Ok w → reply_to w ≡ r
told (reply.Inserted ids) w is = let one : write.Inserted ids ≡ w = cc in ap reply_to (sym one)
told (reply.Updated count) w is = let one : write.Updated count ≡ w = cc in ap reply_to (sym one)
told (reply.Deleted count) w is = let one : write.Deleted count ≡ w = cc in ap reply_to (sym one)
told reply.Done w is = absurd (let no : ⊥ = cc in no)
told (reply.Rows header rows) w is = absurd (let no : ⊥ = cc in no)
told (reply.Moved count) w is = absurd (let no : ⊥ = cc in no)
told (reply.Layout tables operators) w is = absurd (let no : ⊥ = cc in no)
told (reply.Pending count) w is = absurd (let no : ⊥ = cc in no)
told (reply.Flipped operator left) w is = absurd (let no : ⊥ = cc in no)
told (reply.Watching number) w is = absurd (let no : ⊥ = cc in no)
told (reply.Unwatched number count rows) w is = absurd (let no : ⊥ = cc in no)
told reply.Kept w is = absurd (let no : ⊥ = cc in no)
told (reply.Committed replies) w is = absurd (let no : ⊥ = cc in no)

-- what an answered write gives, as a run
abbrev written_for : SessionsStanding → Checked (Reply × AnyDatabase) → Checked (Reply × SessionsStanding)
written_for s m = m then λ answer. Ok (answer.0, record s { laid = record s.laid { database = answer.1 } })

abbrev ran_for : SessionsStanding → Checked (Reply × AnyDatabase) → Checked Run
ran_for s m =
    written_for s m then λ answer.
    write_reply answer.0 then λ r.
    Ok (record { done = r; next = answer.1; changes = λ read. has_changed s.laid.database answer.1.laid.database read.table })

-- it is that of an ordinary database, and leaves a sound state
abbrev RunsWell : AnyDatabase → StatementView → Checked Run → Type 0
RunsWell d w (Ok run) = IsWriteInFull d w (reply_to run.done, data_in run.next) × IsKept (data_in run.next)
RunsWell d w (Err refusal) = Unit {0}

module _ (full : WritesInFullAreOrdinary) where
  replied : (s : SessionsStanding) (w : StatementView) (a : Reply × AnyDatabase) → Fits w → IsKept (data_in s) → acted_write (data_in s) w ≡ Ok a
      → (m : Checked WriteReply) → write_reply a.0 ≡ m → RunsWell (data_in s) w (m then λ r. Ok (record { done = r; next = record s { laid = record s.laid { database = a.1 } }; changes = λ read. has_changed s.laid.database a.1 read.table }))
  replied s w a fit kept is (Ok r) same =
      let one = full (data_in s) w a fit kept is in
      (subst (λ (k : Reply). IsWriteInFull (data_in s) w (k, a.1)) (sym (told a.0 r same)) one.is, one.kept)
  replied s w a fit kept is (Err refusal) same = tt

  ran_well : (s : SessionsStanding) (w : StatementView) → Fits w → IsKept (data_in s) → (m : Checked (Reply × AnyDatabase)) → acted_write (data_in s) w ≡ m → RunsWell (data_in s) w (ran_for s m)
  ran_well s w fit kept (Ok a) is = replied s w a fit kept is (write_reply a.0) refl
  ran_well s w fit kept (Err refusal) is = tt

  means_well : (s : SessionsStanding) (w : StatementView) → Fits w → IsKept (data_in s) → RunsWell (data_in s) w (means s w)
  means_well s w fit kept = ran_well s w fit kept (acted_write (data_in s) w) refl

  -- ---- all of them

  -- they are those of an ordinary database, and leave a sound state
  abbrev pub RunWell : SessionsStanding → List StatementView → Result (List Run) Refusal → Type 0
  RunWell s ws (Ok runs) = AreWrites (data_in s) ws (results runs) (data_in (end_of s runs)) × IsKept (data_in (end_of s runs))
  RunWell s ws (Err refusal) = Unit {0}

  more_well : (s : SessionsStanding) (w : StatementView) (ws : List StatementView) (run : Run) → IsWriteInFull (data_in s) w (reply_to run.done, data_in run.next) → (r : Result (List Run) Refusal) → RunWell run.next ws r → RunWell s (w ∷ ws) (with_runs (run ∷ []) r)
  more_well s w ws run one (Ok runs) rest = ((data_in run.next, (one, rest.0)), rest.1)
  more_well s w ws run one (Err refusal) rest = tt

  one_well : (s : SessionsStanding) (w : StatementView) (ws : List StatementView) (m : Checked Run) → RunsWell (data_in s) w m → ((next : SessionsStanding) → IsKept (data_in next) → RunWell next ws (runs_of means next ws)) → RunWell s (w ∷ ws) (running m (λ next. runs_of means next ws))
  one_well s w ws (Ok run) one rest = more_well s w ws run one.0 (runs_of means run.next ws) (rest run.next one.1)
  one_well s w ws (Err refusal) one rest = tt

  pub runs_well : (ws : List StatementView) (s : SessionsStanding) → Each Fits ws → IsKept (data_in s) → RunWell s ws (runs_of means s ws)
  runs_well [] s fit kept = (refl, kept)
  runs_well (w ∷ ws) s fit kept = one_well s w ws (means s w) (means_well s w fit.0 kept) (λ next kept'. runs_well ws next fit.1 kept')
