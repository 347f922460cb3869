-- How a run ends.
use Rattle.std.specs.Prelude.{Option, Some, None}
use Rattle.std.proofs.Common.{◌≡◌, ℕ, List, codes, refl, sym, subst, ◌∙◌, inl, inr}
use Rattle.outside.specs.Causes.{Rose}
use Rattle.change_feed.specs.Watchers.{WatcherState}
use Rattle.generated_run.specs.EngineCoreTexts.{line}
use Rattle.generated_run.specs.WatchedStanding.{Standing as WatchedStanding}
use Rattle.run_words.specs.Words.{Asked, Says}
use Rattle.run_words.specs.Laws.{SayOneThing}
use Rattle.script_generator.specs.Summary.{summary_lines}
use Rattle.generated_run.specs.Statuses.{CutShort, Done, PutsFront, limit}
use Rattle.generated_run.specs.ScriptRunCalls.{Ends as ScriptEnds}
use Rattle.generated_run.specs.End.{End as ScriptEnd}
use Rattle.generated_run.specs.End.TheVariants as script
use Rattle.generated_run.proofs.FrontLaws.{puts_none}
use Rattle.generated_run.specs.Summed.{generated_end, generated_summary}
use Rattle.inverda_run.specs.Files.{IsLonger}
use Rattle.inverda_run.specs.Starts.{Told}
use Rattle.inverda_run.specs.Statuses.{Carried, OfStart, SayNothing, Starts, Written, source, generated}
use Rattle.inverda_run.specs.Calls.{DumpsTo, Ends, EndsGenerated, Finishes, HoldsNoDump, IsLongDump, PutsLast, ended}
use Rattle.inverda_run.specs.Laws.{OneStart}
use Rattle.inverda_run.specs.Decided.{Begun, Early, no_fault, of_source, of_load, of_dump}
use Rattle.inverda_run.specs.declared.end.End.{End}
use Rattle.inverda_run.specs.declared.end.End.TheVariants as end
use Rattle.inverda_run.proofs.BegunLemmas.{bad_begun, done_begun, long_begun, longer_begun, none_begun, refused_begun, script_begun, summary_begun, summed_begun, summed_long}
use Rattle.inverda_run.proofs.StartLemmas.{starts_limit}

-- nothing was read of the script
module _ (words : List (List ℕ)) (told told' : Told) (waiting : List WatcherState) (left : Option (List ℕ)) (read : ℕ) (held held' : Option (List ℕ)) (put put' filed filed' : ℕ) where
  abbrev Here : End → Type 0
  Here e = Ends words told told' waiting left left read read held held' put put' filed filed' e

  early : filed' ≡ filed → Begun words told waiting left held held' → Early words told waiting left left read read held held' filed filed'
  early same begun = no_fault refl same begun

  -- memory ran out before anything was put
  pub memory_ends : held' ≡ held → filed' ≡ filed → Here end.Memory
  memory_ends same files = (early files (none_begun words told waiting left held held' same), files)

  -- the words say nothing
  pub bad_ends : SayNothing words → filed' ≡ filed → (e : End) → PutsLast end.BadWords (line (codes "bad words")) held held' put put' e → Here e
  bad_ends none files e (inl p) = subst Here (sym p.0) (none, p.1, (refl, refl), files)
  bad_ends none files e (inr p) = subst Here (sym p.0) (p.1, early files (bad_begun words told waiting left held held' none p.2))

  module _ (one : SayOneThing) (asked : Asked) (says : Says words asked) (name : List ℕ) (load : asked.load ≡ Some name) where
    abbrev loads : Rattle.inverda_run.specs.Statuses.Loads words name
    loads = record { asked = asked; says = says; load = load }

    -- the loaded file holds no dump
    pub refused_ends : HoldsNoDump (told name) → filed' ≡ filed → (e : End) → PutsLast end.Refused (line (codes "dump refused")) held held' put put' e → Here e
    refused_ends h files e (inl p) =
        subst Here (sym p.0) (record { name = name; loads = loads; bytes = h.bytes; within = h.within; holds = h.holds; none = h.none; put = p.1 }, (refl, refl), files)
    refused_ends h files e (inr p) = subst Here (sym p.0) (p.1, early files (refused_begun words told waiting left held held' one asked says name load h p.2))

    -- it is too long
    pub longer_ends : IsLonger limit (told name) → filed' ≡ filed → (e : End) → PutsLast end.LongLoad (line (codes "too long")) held held' put put' e → Here e
    longer_ends h files e (inl p) = subst Here (sym p.0) (record { name = name; loads = loads; longer = h; untouched = (refl, refl); put = p.1 }, files)
    longer_ends h files e (inr p) = subst Here (sym p.0) (p.1, early files (longer_begun words told waiting left held held' one asked says name load h p.2))

    -- it couldn't be read
    pub unread_ends : Rose filed filed' → (e : End) → PutsLast end.UnreadLoad (line (codes "file fault")) held held' put put' e → Here e
    unread_ends rose e (inl p) = subst Here (sym p.0) (rose, record { name = name; loads = loads; untouched = (refl, refl); put = p.1 })
    unread_ends rose e (inr p) = subst Here (sym p.0) (p.1, of_load rose (record { name = name; loads = loads; untouched = (refl, refl); put = p.2 }))

-- a script was run
module _ (words : List (List ℕ)) (told told' : Told) (waiting : List WatcherState) (left left' : Option (List ℕ)) (read read' : ℕ) (held : Option (List ℕ)) (put filed filed' : ℕ)
    (asked : Asked) (from to : WatchedStanding) (starts : Starts words told waiting asked from) where
  -- it came to its end: by what the sink was given of it, and what is known where nothing more was put, or the line on a long dump
  module _ (between held' : Option (List ℕ)) (put' : ℕ) (carried : Carried asked from to left left' held between) (limit_stays : to.transactions.sessions.laid.database.limit ≡ asked.max_id) (same : read' ≡ read)
      (none : held' ≡ between → Begun words told waiting left held held')
      (long : (name : List ℕ) → asked.dump ≡ Some name → IsLongDump to.transactions → PutsFront between held' (line (codes "too long")) → Begun words told waiting left held held') where
    abbrev There : End → Type 0
    There e = Ends words told told' waiting left left' read read' held held' put put' filed filed' e

    ran : held' ≡ between → Written asked.dump told' to.transactions → filed' ≡ filed → There end.Done
    ran is written files = (
      record {
        asked = asked;
        from = from;
        to = to;
        starts = starts;
        carried = subst (λ (h : Option (List ℕ)). Carried asked from to left left' held h) (sym is) carried;
        limit_stays = limit_stays;
        written = written;
      },
      same,
      files,
    )

    dumped : (name : List ℕ) → asked.dump ≡ Some name → (e : End) → DumpsTo to.transactions (told' name) between held' put put' filed filed' e → There e
    dumped name is end.Done h =
        ran h.1 (subst (λ (d : Option (List ℕ)). Written d told' to.transactions) (sym is) (h.0.text, h.0.dump, h.0.within, h.0.holds)) h.3
    dumped name is end.Memory h = (no_fault same h.2 (none h.0), h.2)
    dumped name is end.LongDump h = (
      record {
        to = to;
        ran = record { asked = asked; from = from; starts = starts; between = between; carried = carried; calm = same; put = h.1 };
        name = name;
        dumps = record { asked = asked; says = starts.says; dump = is };
        text = h.0.text;
        dump = h.0.dump;
        above = h.0.above;
      },
      h.3,
    )
    dumped name is end.UnwrittenDump h = (
      h.0,
      record {
        to = to;
        ran = record { asked = asked; from = from; starts = starts; between = between; carried = carried; calm = same; put = h.1 };
        name = name;
        dumps = record { asked = asked; says = starts.says; dump = is };
      },
    )
    dumped name is end.Unwritten h = (
      h.0,
      elim h.1 [
        | inl more ↦ no_fault same more.2 (long name is more.0 more.1)
        | inr less ↦ of_dump less.0 (record { asked = asked; from = from; to = to; starts = starts; between = between; carried = carried; calm = same; name = name; dump = is; put = less.1 })
      ],
    )
    dumped name is end.BadWords h = absurd h
    dumped name is end.Syntax h = absurd h
    dumped name is end.Refused h = absurd h
    dumped name is end.Unread h = absurd h
    dumped name is end.LongScript h = absurd h
    dumped name is end.LongLoad h = absurd h
    dumped name is end.UnreadLoad h = absurd h

    finishes_so : (e : End) → Finishes to.transactions asked.dump told' between held' put put' filed filed' e → There e
    finishes_so e h = go asked.dump refl h
      where
        go : (d : Option (List ℕ)) → asked.dump ≡ d → Finishes to.transactions d told' between held' put put' filed filed' e → There e
        go None is f = subst There (sym f.0) (ran f.1 (subst (λ (d : Option (List ℕ)). Written d told' to.transactions) (sym is) tt) f.3)
        go (Some name) is f = dumped name is e f

-- that of the source
module _ (words : List (List ℕ)) (told told' : Told) (waiting : List WatcherState) (left left' : Option (List ℕ)) (read read' : ℕ) (held : Option (List ℕ)) (put filed filed' : ℕ)
    (one : SayOneThing) (start : OneStart) (asked : Asked) (from to : WatchedStanding) (starts : Starts words told waiting asked from) (own : asked.generate ≡ None) where
  ofStart : {P : WatchedStanding → Type 0} → P from → OfStart words told waiting P
  ofStart p = (asked, from, starts, own, p)

  -- memory or the sink ended it
  early_run : (held' : Option (List ℕ)) → filed' ≡ filed → CutShort from left left' read read' held held' → Early words told waiting left left' read read' held held' filed filed'
  early_run held' files (inl h) = no_fault h.0 files (script_begun words told waiting left held held' one start asked from starts own h.1)
  early_run held' files (inr h) = of_source h.0 files (ofStart h.1)

  -- it came to no end of its own
  pub script_ends : (held' : Option (List ℕ)) (put' : ℕ) → filed' ≡ filed → (e : ScriptEnd) → (e ≡ script.Done → ⊥) → ScriptEnds from to left left' read read' held held' put put' e
      → Ends words told told' waiting left left' read read' held held' put put' filed filed' (ended e)
  script_ends held' put' files script.Done n h = absurd (n refl)
  script_ends held' put' files script.Memory n h = (early_run held' files h, files)
  script_ends held' put' files script.Syntax n h = (ofStart h, files)
  script_ends held' put' files script.Unread n h = (ofStart h, files)
  script_ends held' put' files script.Unwritten n h = (h.0, early_run held' files h.1)
  script_ends held' put' files script.TooLong n h = (ofStart h, files)

  -- it came to its end
  pub finish_ends : (between held' : Option (List ℕ)) (put' : ℕ) → Done from to left left' held between → to.transactions.sessions.laid.database.limit ≡ asked.max_id → read' ≡ read → (e : End) → Finishes to.transactions asked.dump told' between held' put put' filed filed' e
      → Ends words told told' waiting left left' read read' held held' put put' filed filed' e
  finish_ends between held' put' done limit_stays same e h =
      finishes_so words told told' waiting left left' read read' held put filed filed' asked from to starts between held' put' (source own done) limit_stays same
      (done_begun words told waiting left held held' one start asked from starts own left' between to done)
      (long_begun words told waiting left held held' one start asked from starts own left' between to done) e h

-- the generated one
module _ (words : List (List ℕ)) (told told' : Told) (waiting : List WatcherState) (left : Option (List ℕ)) (read : ℕ) (held held' : Option (List ℕ)) (put put' filed filed' : ℕ)
    (one : SayOneThing) (asked : Asked) (from : WatchedStanding) (starts : Starts words told waiting asked from) (n : ℕ) (is : asked.generate ≡ Some n) where
  abbrev So : End → Type 0
  So e = Ends words told told' waiting left left read read held held' put put' filed filed' e

  early_so : filed' ≡ filed → Begun words told waiting left held held' → Early words told waiting left left read read held held' filed filed'
  early_so files begun = no_fault refl files begun

  pub generated_ends : (e : End) → EndsGenerated from.transactions n asked.dump told' held held' put put' filed filed' e → So e
  generated_ends e (inl memory) =
      subst So (sym memory.0) (early_so memory.3 (summary_begun words told waiting left held held' one asked from starts n is (puts_none held held' (summary_lines (generated_summary from.transactions n)) memory.1)), memory.3)
  generated_ends e (inr (inl front)) = subst So (sym front.0) (front.1, early_so front.3 (summary_begun words told waiting left held held' one asked from starts n is front.2))
  generated_ends e (inr (inr finished)) =
      finishes_so words told told' waiting left left read read held put filed filed' asked from (record from { transactions = generated_end from.transactions n }) starts finished.0 held' put'
      (generated n is refl finished.1 refl) (finished.2 ∙ starts_limit words told asked from starts) refl
      (summed_begun words told waiting left held held' one asked from starts n is finished.0 finished.1)
      (summed_long words told waiting left held held' one asked from starts n is finished.0 finished.1) e finished.3
