-- What the statuses say, by how a run ends.
use Rattle.std.specs.Prelude.{◌⊎◌, ◌≤◌, Bool, nat_le, Option, Some, None}
use Rattle.std.proofs.Common.{◌≡◌, ℕ, List, length, take, codes, sym, ap, subst, ◌∙◌, inl, inr, arith}
use Rattle.outside.specs.Causes.{Rose, RoseOnce}
use Rattle.change_feed.specs.Watchers.{WatcherState}
use Rattle.change_feed.specs.Watches.{AllFresh}
use Rattle.bidel_script.specs.Script.{Outcome, Over, Fault, Long, Open}
use Rattle.bidel_script.proofs.UniqueLaws.{one_comes}
use Rattle.generated_run.specs.WatchedStanding.{Standing as WatchedStanding}
use Rattle.generated_run.specs.Begun.{empty_standing}
use Rattle.generated_run.specs.Summed.{generated_end}
use Rattle.run_words.specs.Words.{Asked}
use Rattle.run_words.specs.Laws.{SayOneThing}
use Rattle.watch_laws.specs.Moves.{AreIdle, MovesUnseen}
use Rattle.generated_run.specs.WatchedOutput.{state_after}
use Rattle.generated_run.specs.Statuses.{AnswersScript, Done, FirstReplies, Had, Passed, Stopped, StoppedOfAll, Taken, Unread, above, early, failed, limit, whole}
use Rattle.generated_run.proofs.EndLaws.{done_answers, done_told, had_done, had_passed, had_stopped}
use Rattle.generated_run.proofs.CutLaws.{passed_first, stopped_of_all, unread_first}
use Rattle.watch_laws.proofs.UnseenLaws.{moves_unseen}
use Rattle.inverda_run.specs.Starts.{Told, dump_of}
use Rattle.inverda_run.specs.Statuses.{Carried, Loads, LongDump, LongLoad, OfStart, Ran, RefusedDump, RunsSource, SayNothing, Starts, StaysBut, source, generated}
use Rattle.inverda_run.specs.Decided.{DumpFits, Early, Told', ToldGenerated, ToldLonger, ToldNoDump, ToldWhole, no_fault, of_source as of_source_fault, of_load, of_dump}
use Rattle.inverda_run.specs.Calls.{HoldsNoDump}
use Rattle.inverda_run.proofs.StartLemmas.{loads_none, longer_no_start, longer_not_refused, nothing_starts, refused_no_start, refused_not_longer, start_not_longer, start_not_refused, starts_empty}

-- ---- a run that is done

-- what follows of a run of the source's script
of_source : {words : List (List ℕ)} {told : Told} {waiting : List WatcherState} {asked : Asked} {from to : WatchedStanding} {left left' held between : Option (List ℕ)} {P : Type 0} → Starts words told waiting asked from → RunsSource words
    → Carried asked from to left left' held between → (asked.generate ≡ None → Done from to left left' held between → P) → P
of_source {words} {told} {waiting} {asked} {from} {to} {left} {left'} {held} {between} {P} starts none (source own done) f = f own done
of_source {words} {told} {waiting} {asked} {from} {to} {left} {left'} {held} {between} {P} starts none (generated n is same put next) f =
    absurd (none n (record { asked = asked; says = starts.says; generate = is }))

pub ran_answers : {words : List (List ℕ)} {told told' : Told} {waiting : List WatcherState} {left left' held held' : Option (List ℕ)} → Ran words told told' waiting left left' held held' → RunsSource words → OfStart words told waiting (λ from. AnswersScript from left held held')
ran_answers {words} {told} {told'} {waiting} {left} {left'} {held} {held'} r none = of_source r.starts none r.carried (λ own done. (r.asked, r.from, r.starts, own, done_answers r.from r.to left left' held held' done))

-- between its statements nobody is ready for a note
starts_idle : {words : List (List ℕ)} {told : Told} {waiting : List WatcherState} {asked : Asked} {from : WatchedStanding} → AllFresh waiting → Starts words told waiting asked from → AreIdle from.watches
starts_idle {words} {told} {waiting} {asked} {from} fresh starts = subst AreIdle (sym starts.watches) (record { live = tt; waiting = fresh })

pub ran_unseen : {words : List (List ℕ)} {told told' : Told} {waiting : List WatcherState} {left left' held held' : Option (List ℕ)} → AllFresh waiting → Ran words told told' waiting left left' held held' → RunsSource words
    → OfStart words told waiting (λ from. MovesUnseen from left left' held held')
ran_unseen {words} {told} {told'} {waiting} {left} {left'} {held} {held'} fresh r none =
    of_source r.starts none r.carried (λ own done. (
      r.asked,
      r.from,
      r.starts,
      own,
      moves_unseen r.from left left' held held' done.bytes done.statements (starts_idle fresh r.starts) done.taken done.script done.put,
    ))

-- the source told a script, where the script was carried out
pub done_is_over : {left left' held : Option (List ℕ)} {from to : WatchedStanding} {between : Option (List ℕ)} {o : Outcome} → Done from to left left' held between → Had left o → o ≡ Over
done_is_over {left} {left'} {held} {from} {to} {between} {o} d had = had_done from to left left' held between o had d

-- a run that is told to read the source has carried out its script
carried_done : {words : List (List ℕ)} {told : Told} {waiting : List WatcherState} {asked : Asked} {from to : WatchedStanding} {left left' held between : Option (List ℕ)} {o : Outcome} → SayOneThing → Starts words told waiting asked from
    → Carried asked from to left left' held between → Told' words told waiting left o → Done from to left left' held between
carried_done {words} {told} {waiting} {asked} {from} {to} {left} {left'} {held} {between} {o} one starts carried t = of_source starts none carried (λ own done. done)
  where
    none : RunsSource words
    none n g =
        let same : g.asked.generate ≡ t.asked.generate = ap (λ (a : Asked). a.generate) (one words g.asked t.asked g.says t.starts.says) in
        let some = g.generate in
        let own = t.source in
        cc

pub ran_is_over : SayOneThing → {words : List (List ℕ)} {told told' : Told} {waiting : List WatcherState} {left left' held held' : Option (List ℕ)} {o : Outcome} → Ran words told told' waiting left left' held held' → Told' words told waiting left o → o ≡ Over
ran_is_over one {words} {told} {told'} {waiting} {left} {left'} {held} {held'} r t = done_is_over (carried_done one r.starts r.carried t) t.had

-- ---- a run that a fault ended

pub stopped_is_fault : {words : List (List ℕ)} {told : Told} {waiting : List WatcherState} {left left' held held' : Option (List ℕ)} {read read' : ℕ} {o : Outcome} → OfStart words told waiting (λ from. Stopped from left left' read read' held held') → ¬ Rose read read' → Told' words told waiting left o → (at : ℕ) × (o ≡ Fault at)
stopped_is_fault {words} {told} {waiting} {left} {left'} {held} {held'} {read} {read'} {o} s safe t = had_stopped s.1 s.1 left left' held held' read read' o t.had safe s.4

pub stopped_cut : {words : List (List ℕ)} {told : Told} {waiting : List WatcherState} {left left' held held' : Option (List ℕ)} {read read' : ℕ} → OfStart words told waiting (λ from. Stopped from left left' read read' held held') → OfStart words told waiting (λ from. StoppedOfAll from left held held')
stopped_cut {words} {told} {waiting} {left} {left'} {held} {held'} {read} {read'} s = (s.0, s.1, s.2, s.3, stopped_of_all s.1 left left' held held' read read' s.4)

pub unread_rose : {words : List (List ℕ)} {told : Told} {waiting : List WatcherState} {left left' held held' : Option (List ℕ)} {read read' : ℕ} → OfStart words told waiting (λ from. Unread from left left' read read' held held') → Rose read read'
unread_rose {words} {told} {waiting} {left} {left'} {held} {held'} {read} {read'} s = s.4.cause

pub unread_cut : {words : List (List ℕ)} {told : Told} {waiting : List WatcherState} {left left' held held' : Option (List ℕ)} {read read' : ℕ} → OfStart words told waiting (λ from. Unread from left left' read read' held held') → OfStart words told waiting (λ from. FirstReplies from left held held' (codes "read fault"))
unread_cut {words} {told} {waiting} {left} {left'} {held} {held'} {read} {read'} s = (s.0, s.1, s.2, s.3, unread_first s.1 left left' held held' read read' s.4)

pub passed_is_long : {words : List (List ℕ)} {told : Told} {waiting : List WatcherState} {left left' held held' : Option (List ℕ)} {read read' : ℕ} {o : Outcome} → OfStart words told waiting (λ from. Passed from left left' read read' held held') → ¬ Rose read read' → Told' words told waiting left o → (o ≡ Long) ⊎ (o ≡ Open)
passed_is_long {words} {told} {waiting} {left} {left'} {held} {held'} {read} {read'} {o} s safe t = had_passed s.1 s.1 left left' held held' read read' o t.had safe s.4

pub passed_cut : {words : List (List ℕ)} {told : Told} {waiting : List WatcherState} {left left' held held' : Option (List ℕ)} {read read' : ℕ} → OfStart words told waiting (λ from. Passed from left left' read read' held held') → OfStart words told waiting (λ from. FirstReplies from left held held' (codes "too long"))
passed_cut {words} {told} {waiting} {left} {left'} {held} {held'} {read} {read'} s = (s.0, s.1, s.2, s.3, passed_first s.1 left left' held held' read read' s.4)

-- ---- a run that started

module _ (one : SayOneThing) where
  pub started_not_refused : {words : List (List ℕ)} {told : Told} {waiting : List WatcherState} {P : WatchedStanding → Type 0} → OfStart words told waiting P → ToldNoDump words told → ⊥
  started_not_refused {words} {told} {waiting} s d = start_not_refused words told one s.0 s.1 s.2 d

  pub started_not_longer : {words : List (List ℕ)} {told : Told} {waiting : List WatcherState} {P : WatchedStanding → Type 0} → OfStart words told waiting P → ToldLonger words told → ⊥
  started_not_longer {words} {told} {waiting} s d = start_not_longer words told one s.0 s.1 s.2 d

  pub ran_not_refused : {words : List (List ℕ)} {told told' : Told} {waiting : List WatcherState} {left left' held held' : Option (List ℕ)} → Ran words told told' waiting left left' held held' → ToldNoDump words told → ⊥
  ran_not_refused {words} {told} {told'} {waiting} {left} {left'} {held} {held'} r d = start_not_refused words told one r.asked r.from r.starts d

  pub ran_not_longer : {words : List (List ℕ)} {told told' : Told} {waiting : List WatcherState} {left left' held held' : Option (List ℕ)} → Ran words told told' waiting left left' held held' → ToldLonger words told → ⊥
  ran_not_longer {words} {told} {told'} {waiting} {left} {left'} {held} {held'} r d = start_not_longer words told one r.asked r.from r.starts d

  -- ---- a run that didn't

  holds_none : {words : List (List ℕ)} {told : Told} {held held' : Option (List ℕ)} → (r : RefusedDump words told held held') → HoldsNoDump (told r.name)
  holds_none {words} {told} {held} {held'} r = record { bytes = r.bytes; within = r.within; holds = r.holds; none = r.none }

  pub refused_not_told : {words : List (List ℕ)} {told : Told} {waiting : List WatcherState} {left held held' : Option (List ℕ)} {o : Outcome} → RefusedDump words told held held' → Told' words told waiting left o → ⊥
  refused_not_told {words} {told} {waiting} {left} {held} {held'} r t = refused_no_start words told one r.loads.asked r.name t.from r.loads.says r.loads.load (holds_none r) t.asked t.starts t.load

  pub refused_is_not_longer : {words : List (List ℕ)} {told : Told} {held held' : Option (List ℕ)} → RefusedDump words told held held' → ToldLonger words told → ⊥
  refused_is_not_longer {words} {told} {held} {held'} r d = refused_not_longer words told one r.loads.asked r.name r.loads.says r.loads.load (holds_none r) d

  pub long_not_told : {words : List (List ℕ)} {told : Told} {waiting : List WatcherState} {left left' held held' : Option (List ℕ)} {read read' : ℕ} {o : Outcome} → LongLoad words told left left' read read' held held' → Told' words told waiting left o → ⊥
  long_not_told {words} {told} {waiting} {left} {left'} {held} {held'} {read} {read'} r t = longer_no_start words told one r.loads.asked r.name t.from r.loads.says r.loads.load r.longer t.asked t.starts t.load

  pub long_is_not_refused : {words : List (List ℕ)} {told : Told} {left left' held held' : Option (List ℕ)} {read read' : ℕ} → LongLoad words told left left' read read' held held' → ToldNoDump words told → ⊥
  long_is_not_refused {words} {told} {left} {left'} {held} {held'} {read} {read'} r d = longer_not_refused words told one r.loads.asked r.name r.loads.says r.loads.load r.longer d

  -- ---- a dump that is too long

  pub long_dump_not_refused : {words : List (List ℕ)} {told : Told} {waiting : List WatcherState} {left left' held held' : Option (List ℕ)} {read read' : ℕ} → LongDump words told waiting left left' read read' held held' → ToldNoDump words told → ⊥
  long_dump_not_refused {words} {told} {waiting} {left} {left'} {held} {held'} {read} {read'} r d = start_not_refused words told one r.ran.asked r.ran.from r.ran.starts d

  pub long_dump_is_over : {words : List (List ℕ)} {told : Told} {waiting : List WatcherState} {left left' held held' : Option (List ℕ)} {read read' : ℕ} {o : Outcome} → LongDump words told waiting left left' read read' held held' → Told' words told waiting left o → o ≡ Over
  long_dump_is_over {words} {told} {waiting} {left} {left'} {held} {held'} {read} {read'} r t = done_is_over (carried_done one r.ran.starts r.ran.carried t) t.had

  -- a run whose dump fits has none that is too long
  pub long_dump_not_whole : {words : List (List ℕ)} {told : Told} {waiting : List WatcherState} {left left' held held' : Option (List ℕ)} {read read' : ℕ} → LongDump words told waiting left left' read read' held held' → ToldWhole words told waiting left → ⊥
  long_dump_not_whole {words} {told} {waiting} {left} {left'} {held} {held'} {read} {read'} r w =
      let had = w.script.had in
      let done = carried_done one r.ran.starts r.ran.carried w.script in
      let comes = done_told r.ran.from r.to left left' held r.ran.between had.bytes had.told done in
      let same = one_comes (take limit had.bytes) (nat_le (length had.bytes) limit) had.statements done.statements Over Over had.comes comes in
      let asked : r.ran.asked ≡ w.script.asked = one words r.ran.asked w.script.asked r.ran.starts.says w.script.starts.says in
      let fits : DumpFits w.script.asked.dump (state_after r.ran.from had.statements).transactions =
      w.fits r.ran.from (subst (λ (a : Asked). Starts words told waiting a r.ran.from) asked r.ran.starts) in
      let dump_is : w.script.asked.dump ≡ Some r.name = ap (λ (a : Asked). a.dump) (one words w.script.asked r.dumps.asked w.script.starts.says r.dumps.says) ∙ r.dumps.dump in
      let to_is : r.to ≡ state_after r.ran.from had.statements = done.next ∙ ap (state_after r.ran.from) (sym same.0) in
      let least : length (dump_of (state_after r.ran.from had.statements).transactions) ≤ limit = subst (λ (d : Option (List ℕ)). DumpFits d (state_after r.ran.from had.statements).transactions) dump_is fits in
      let text_is : r.text ≡ dump_of (state_after r.ran.from had.statements).transactions = r.dump.written ∙ ap (λ (k : WatchedStanding). dump_of k.transactions) to_is in
      let above = r.above in
      omega (arith, least, above, ap length text_is)

  -- ---- a generated script

  -- it is not the source's
  pub started_not_generated : {words : List (List ℕ)} {told : Told} {waiting : List WatcherState} {P : WatchedStanding → Type 0} → OfStart words told waiting P → ToldGenerated words → ⊥
  started_not_generated {words} {told} {waiting} {P} s d =
      let same : d.asked.generate ≡ s.0.generate = ap (λ (a : Asked). a.generate) (one words d.asked s.0 d.says s.2.says) in
      let some = d.generate in
      let own = s.3 in
      cc

  -- it loads nothing
  pub loads_not_generated : {words : List (List ℕ)} {name : List ℕ} → Loads words name → ToldGenerated words → ⊥
  loads_not_generated {words} {name} l d =
      let same : d.asked.load ≡ l.asked.load = ap (λ (a : Asked). a.load) (one words d.asked l.asked d.says l.says) in
      let none : d.asked.load ≡ None = loads_none words d.asked d.n d.says d.generate in
      let some = l.load in
      cc

  -- its dump fits
  pub long_dump_not_generated : {words : List (List ℕ)} {told : Told} {waiting : List WatcherState} {left left' held held' : Option (List ℕ)} {read read' : ℕ} → LongDump words told waiting left left' read read' held held' → ToldGenerated words → ⊥
  long_dump_not_generated {words} {told} {waiting} {left} {left'} {held} {held'} {read} {read'} r d = go r.ran.carried
    where
      go : Carried r.ran.asked r.ran.from r.to left left' held r.ran.between → ⊥
      go (source own done) =
          let same : d.asked.generate ≡ r.ran.asked.generate = ap (λ (a : Asked). a.generate) (one words d.asked r.ran.asked d.says r.ran.starts.says) in
          let some = d.generate in
          cc
      go (generated n is same put next) =
          let asked : r.ran.asked ≡ d.asked = one words r.ran.asked d.asked r.ran.starts.says d.says in
          let number : n ≡ d.n = (let e : Some n ≡ Some d.n = sym is ∙ ap (λ (a : Asked). a.generate) asked ∙ d.generate in cc) in
          let begin : r.ran.from.transactions ≡ empty_standing d.asked.max_id = starts_empty words told r.ran.asked r.ran.from n r.ran.starts is ∙ ap (λ (a : Asked). empty_standing a.max_id) asked in
          let to_is : r.to.transactions ≡ generated_end (empty_standing d.asked.max_id) d.n = ap (λ (k : WatchedStanding). k.transactions) next ∙ (λ i. generated_end (begin i) (number i)) in
          let dump_is : d.asked.dump ≡ Some r.name = ap (λ (a : Asked). a.dump) (one words d.asked r.dumps.asked d.says r.dumps.says) ∙ r.dumps.dump in
          let fits : DumpFits (Some r.name) (generated_end (empty_standing d.asked.max_id) d.n) = subst (λ (f : Option (List ℕ)). DumpFits f (generated_end (empty_standing d.asked.max_id) d.n)) dump_is d.fits in
          let text_is : r.text ≡ dump_of (generated_end (empty_standing d.asked.max_id) d.n) = r.dump.written ∙ ap dump_of to_is in
          let above = r.above in
          omega (arith, fits, above, ap length text_is)

-- words that say nothing start nothing
pub nothing_told : {words : List (List ℕ)} {told : Told} {waiting : List WatcherState} {left : Option (List ℕ)} {o : Outcome} → SayNothing words → Told' words told waiting left o → ⊥
nothing_told {words} {told} {waiting} none t = nothing_starts words told t.asked t.from none t.starts

pub nothing_started : {words : List (List ℕ)} {told : Told} {waiting : List WatcherState} {P : WatchedStanding → Type 0} → SayNothing words → OfStart words told waiting P → ⊥
nothing_started {words} {told} {waiting} none s = nothing_starts words told s.0 s.1 none s.2

-- a file stays where one condition holds, and so where a weaker one does
pub stays_for : {words : List (List ℕ)} {told told' : Told} {P Q : Type 0} → (P → Q) → StaysBut words told told' P → StaysBut words told told' Q
stays_for f stays file = elim (stays file) [ inl same ↦ inl same | inr dumped ↦ inr (dumped.0, f dumped.1) ]

-- ---- at most one call of the source failed

taken_once : {left left' : Option (List ℕ)} {read read' : ℕ} {bytes : List ℕ} {ended : Bool} → Taken left left' read read' bytes ended → RoseOnce read read'
taken_once (whole consumed end within same fixed) = inl same
taken_once (early consumed within same fixed) = inl same
taken_once (failed consumed within rose fixed) = inr rose
taken_once (above taken consumed over is same fixed) = inl same

pub stopped_once : {words : List (List ℕ)} {told : Told} {waiting : List WatcherState} {left left' held held' : Option (List ℕ)} {read read' : ℕ} → OfStart words told waiting (λ from. Stopped from left left' read read' held held') → RoseOnce read read'
stopped_once s = taken_once s.4.taken

pub passed_once : {words : List (List ℕ)} {told : Told} {waiting : List WatcherState} {left left' held held' : Option (List ℕ)} {read read' : ℕ} → OfStart words told waiting (λ from. Passed from left left' read read' held held') → RoseOnce read read'
passed_once s = taken_once s.4.taken

module _ {words : List (List ℕ)} {told : Told} {waiting : List WatcherState} {left left' held held' : Option (List ℕ)} {read read' filed filed' : ℕ} where
  pub early_once : Early words told waiting left left' read read' held held' filed filed' → RoseOnce read read'
  early_once (no_fault read_is files begun) = inl read_is
  early_once (of_source_fault read_is files begun) = inr read_is
  early_once (of_load files begun) = inl begun.untouched.1
  early_once (of_dump files begun) = inl begun.calm

  -- nor did more than one call of the files
  pub early_once_filed : Early words told waiting left left' read read' held held' filed filed' → RoseOnce filed filed'
  early_once_filed (no_fault read_is files begun) = inl files
  early_once_filed (of_source_fault read_is files begun) = inl files
  early_once_filed (of_load files begun) = inr files
  early_once_filed (of_dump files begun) = inr files
