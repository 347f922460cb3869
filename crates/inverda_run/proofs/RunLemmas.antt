-- The parts of a run, one after the other.
use Rattle.std.specs.Prelude.{Option, Some, None}
use Rattle.std.proofs.Common.{◌≡◌, ℕ, List, ap, subst, sym, ◌∙◌}
use Rattle.change_feed.specs.Watchers.{WatcherState}
use Rattle.watch_laws.specs.Sessions.{Sessions}
use Rattle.generated_run.specs.SessionsStanding.{kept_in as kept_beside, standing_of as standing_beside}
use Rattle.generated_run.specs.WatchedStanding.{Standing as WatchedStanding}
use Rattle.generated_run.specs.WatchedCalls.{standing_of}
use Rattle.generated_run.specs.WatchedKept.{WatchedView, kept_in}
use Rattle.run_words.specs.Words.{Asked, Says}
use Rattle.run_words.specs.Laws.{SayOneThing}
use Rattle.generated_run.specs.Statuses.{Done}
use Rattle.generated_run.specs.ScriptRunCalls.{EndStays as ScriptStays}
use Rattle.generated_run.specs.End.{End as ScriptEnd}
use Rattle.generated_run.specs.End.TheVariants as script
use Rattle.inverda_run.specs.Starts.{Told}
use Rattle.inverda_run.specs.Statuses.{Generates, Starts}
use Rattle.inverda_run.specs.Calls.{EndStays, Ends, EndsGenerated, Finishes, ended}
use Rattle.inverda_run.specs.Laws.{OneStart}
use Rattle.inverda_run.specs.declared.end.End.{End}
use Rattle.inverda_run.proofs.EndLemmas.{finish_ends, generated_ends}

-- ---- the sink

-- a script
pub script_stays : (was is : ℕ) (e : ScriptEnd) → ScriptStays was is e → EndStays was is (ended e)
script_stays was is script.Done h = h
script_stays was is script.Memory h = h
script_stays was is script.Syntax h = h
script_stays was is script.Unread h = h
script_stays was is script.Unwritten h = tt
script_stays was is script.TooLong h = h

-- from a count that is the same
pub stays_from : (old was is : ℕ) (e : End) → was ≡ old → EndStays was is e → EndStays old is e
stays_from old was is e same h = subst (λ (n : ℕ). EndStays n is e) same h

-- ---- what is lent

-- the sessions that are lent at the end are those of where the run stands
module _ (kept lent : WatchedView) (sessions : Sessions) (whole : lent ≡ kept) (part : sessions ≡ lent.transactions.executing.sessions) where
  is_part : sessions ≡ kept.transactions.executing.sessions
  is_part = part ∙ ap (λ (w : WatchedView). w.transactions.executing.sessions) whole

  pub same_sessions : (standing_of kept).transactions.sessions ≡ standing_beside sessions
  same_sessions = ap standing_beside (sym is_part)

  pub same_kept : kept_in kept ≡ kept_beside sessions
  same_kept = ap kept_beside (sym is_part)

-- ---- the end

pub finished : (words : List (List ℕ)) (told told' : Told) (waiting : List WatcherState) (left left' : Option (List ℕ)) (read read' : ℕ) (held between held' : Option (List ℕ)) (put was put' filed was_filed filed' : ℕ)
    → SayOneThing → OneStart → (asked : Asked) (from to : WatchedStanding) → Starts words told waiting asked from → asked.generate ≡ None → Done from to left left' held between → to.transactions.sessions.laid.database.limit ≡ asked.max_id → read' ≡ read → was ≡ put → was_filed ≡ filed
    → (e : End) → Finishes to.transactions asked.dump told' between held' was put' was_filed filed' e → Ends words told told' waiting left left' read read' held held' put put' filed filed' e
finished words told told' waiting left left' read read' held between held' put was put' filed was_filed filed' one start asked from to starts own done limit_stays same put_is filed_is e finishes =
    subst (λ (n : ℕ). Ends words told told' waiting left left' read read' held held' n put' filed filed' e) put_is
    (subst (λ (n : ℕ). Ends words told told' waiting left left' read read' held held' was put' n filed' e) filed_is
    (finish_ends words told told' waiting left left' read read' held was was_filed filed' one start asked from to starts own between held' put' done limit_stays same e finishes))

-- of the generated script
pub generated_so : (words : List (List ℕ)) (told told' : Told) (waiting : List WatcherState) (left : Option (List ℕ)) (read : ℕ) (held held' : Option (List ℕ)) (put put' filed was_filed filed' : ℕ) → SayOneThing
    → (asked : Asked) (from : WatchedStanding) → Starts words told waiting asked from → (n : ℕ) → asked.generate ≡ Some n → was_filed ≡ filed
    → (e : End) → EndsGenerated from.transactions n asked.dump told' held held' put put' was_filed filed' e → Ends words told told' waiting left left read read held held' put put' filed filed' e
generated_so words told told' waiting left read held held' put put' filed was_filed filed' one asked from starts n is filed_is e h =
    subst (λ (f : ℕ). Ends words told told' waiting left left read read held held' put put' f filed' e) filed_is
    (generated_ends words told told' waiting left read held held' put put' was_filed filed' one asked from starts n is e h)

-- the source of a script that isn't generated may be touched
pub source_touched : (words : List (List ℕ)) → SayOneThing → (asked : Asked) → Says words asked → asked.generate ≡ None → (n : ℕ) → Generates words n → ⊥
source_touched words one asked says none n g =
    let same : g.asked.generate ≡ asked.generate = ap (λ (a : Asked). a.generate) (one words g.asked asked g.says says) in
    let some = g.generate in
    cc
