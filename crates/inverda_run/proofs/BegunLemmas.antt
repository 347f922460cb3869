-- Fronts of what a run puts.
use Rattle.std.specs.Prelude.{nat_le, Option, Some, None}
use Rattle.std.proofs.Common.{◌≡◌, ℕ, List, [], ◌++◌, length, take, codes, sym, ap, subst, ◌∙◌, inl, inr, arith, append-nil}
use Rattle.std.specs.Io.KnownBytes.{Appends}
use Rattle.bidel_script.specs.Script.{Over}
use Rattle.change_feed.specs.Watchers.{WatcherState}
use Rattle.bidel_script.proofs.UniqueLaws.{one_comes}
use Rattle.generated_run.specs.EngineCoreTexts.{line}
use Rattle.generated_run.specs.Standing.{Standing}
use Rattle.generated_run.specs.WatchedStanding.{Standing as WatchedStanding}
use Rattle.generated_run.specs.Begun.{empty_standing}
use Rattle.script_generator.specs.Summary.{summary_lines}
use Rattle.generated_run.specs.Summed.{generated_end, generated_summary}
use Rattle.run_words.specs.Words.{Asked, Says}
use Rattle.run_words.specs.Laws.{SayOneThing}
use Rattle.generated_run.specs.WatchedOutput.{out, state_after}
use Rattle.generated_run.specs.Statuses.{Done, PutsFront, WritesScript, last_line, limit}
use Rattle.generated_run.specs.Statuses as script
use Rattle.generated_run.proofs.EndLaws.{done_told}
use Rattle.generated_run.proofs.FrontLaws.{puts_all, puts_behind, puts_more, puts_none}
use Rattle.inverda_run.specs.Files.{IsLonger}
use Rattle.inverda_run.specs.Starts.{Told, dump_of}
use Rattle.inverda_run.specs.Statuses.{SayNothing, Starts}
use Rattle.inverda_run.specs.Decided.{Begun, Behind, PutsScript, PutsSummary, bad, refused, longer, script as runs, summary}
use Rattle.inverda_run.specs.Calls.{HoldsNoDump, IsLongDump}
use Rattle.inverda_run.specs.Laws.{OneStart}
use Rattle.inverda_run.proofs.StartLemmas.{loads_none, longer_no_start, longer_not_refused, nothing_longer, nothing_refused, nothing_starts, one_start, refused_no_start, refused_not_longer, start_not_longer, start_not_refused, starts_empty}

-- behind a dump that is too long stands the line that says so
long_last : (to : Standing) (name : List ℕ) → IsLongDump to → (dump : Option (List ℕ)) (other : Standing) (last : List ℕ) → dump ≡ Some name → Behind dump other last → to ≡ other → last ≡ line (codes "too long")
long_last to name long None other last is behind same = absurd (let no : ⊥ = cc in no)
long_last to name long (Some file) other last is behind same = elim behind [
  | inr above ↦ above.1
  | inl within ↦ (let text_is : long.text ≡ dump_of other = long.dump.written ∙ ap dump_of same in
      let above = long.above in
      let least = within.0 in
      absurd (omega (arith, ap length text_is)))
]

module _ (words : List (List ℕ)) (told : Told) (waiting : List WatcherState) (left held held' : Option (List ℕ)) where
  -- nothing was put
  pub none_begun : held' ≡ held → Begun words told waiting left held held'
  none_begun same text p = puts_none held held' text same

  -- a front of the line that says that the words are bad
  pub bad_begun : SayNothing words → PutsFront held held' (line (codes "bad words")) → Begun words told waiting left held held'
  bad_begun none put text (bad other is) = subst (PutsFront held held') (sym is) put
  bad_begun none put text (refused d is) = absurd (nothing_refused words told none d)
  bad_begun none put text (longer d is) = absurd (nothing_longer words told none d)
  bad_begun none put text (runs p) = absurd (nothing_starts words told p.asked p.from none p.starts)
  bad_begun none put text (summary p) = absurd (none p.asked p.says)

  module _ (one : SayOneThing) (asked : Asked) (says : Says words asked) where
    -- a generated script loads nothing
    none_loaded : (name text : List ℕ) → asked.load ≡ Some name → PutsSummary words text → ⊥
    none_loaded name text load p =
        let same : p.asked.load ≡ asked.load = ap (λ (a : Asked). a.load) (one words p.asked asked p.says says) in
        let none : p.asked.load ≡ None = loads_none words p.asked p.n p.says p.generate in
        cc

    -- a front of the line that says that the dump is refused
    pub refused_begun : (name : List ℕ) → asked.load ≡ Some name → HoldsNoDump (told name) → PutsFront held held' (line (codes "dump refused")) → Begun words told waiting left held held'
    refused_begun name load holds put text (bad none is) = absurd (none asked says)
    refused_begun name load holds put text (refused d is) = subst (PutsFront held held') (sym is) put
    refused_begun name load holds put text (longer d is) = absurd (refused_not_longer words told one asked name says load holds d)
    refused_begun name load holds put text (runs p) = absurd (refused_no_start words told one asked name p.from says load holds p.asked p.starts p.load)
    refused_begun name load holds put text (summary p) = absurd (none_loaded name text load p)

    -- a front of the line that says that the file is too long
    pub longer_begun : (name : List ℕ) → asked.load ≡ Some name → IsLonger limit (told name) → PutsFront held held' (line (codes "too long")) → Begun words told waiting left held held'
    longer_begun name load long put text (bad none is) = absurd (none asked says)
    longer_begun name load long put text (refused d is) = absurd (longer_not_refused words told one asked name says load long d)
    longer_begun name load long put text (longer d is) = subst (PutsFront held held') (sym is) put
    longer_begun name load long put text (runs p) = absurd (longer_no_start words told one asked name p.from says load long p.asked p.starts p.load)
    longer_begun name load long put text (summary p) = absurd (none_loaded name text load p)

  -- ---- behind the start

  module _ (one : SayOneThing) (start : OneStart) (asked : Asked) (from : WatchedStanding) (starts : Starts words told waiting asked from) (source : asked.generate ≡ None) where
    -- it is enough to look at what runs of the script put
    by_script : ((text : List ℕ) → PutsScript words told waiting left text → PutsFront held held' text) → Begun words told waiting left held held'
    by_script f text (bad none is) = absurd (none asked starts.says)
    by_script f text (refused d is) = absurd (start_not_refused words told one asked from starts d)
    by_script f text (longer d is) = absurd (start_not_longer words told one asked from starts d)
    by_script f text (runs p) = f text p
    by_script f text (summary p) =
        let same : p.asked.generate ≡ asked.generate = ap (λ (a : Asked). a.generate) (one words p.asked asked p.says starts.says) in
        let some = p.generate in
        absurd (let no : ⊥ = cc in no)

    same_start : (text : List ℕ) (p : PutsScript words told waiting left text) → from ≡ p.from
    same_start text p = one_start words told one start p.asked asked p.from from p.starts starts p.load

    -- a front of what the run of the script puts
    pub script_begun : script.Begun from left held held' → Begun words told waiting left held held'
    script_begun begun = by_script go
      where
        go : (text : List ℕ) → PutsScript words told waiting left text → PutsFront held held' text
        go text p =
            let known : script.Begun from (Some p.bytes) held held' = subst (λ (l : Option (List ℕ)). script.Begun from l held held') p.source begun in
            let writes : WritesScript from (take limit p.bytes) (nat_le (length p.bytes) limit) (line (codes "too long")) p.script =
            subst (λ (s : WatchedStanding). WritesScript s (take limit p.bytes) (nat_le (length p.bytes) limit) (line (codes "too long")) p.script) (sym (same_start text p)) p.writes in
            subst (PutsFront held held') (sym p.text_is) (puts_more held held' p.script p.last (known p.script writes))

    module _ (left' between : Option (List ℕ)) (to : WatchedStanding) (done : Done from to left left' held between) where
      -- what the script put before the end is all that its run puts
      whole : (text : List ℕ) (p : PutsScript words told waiting left text) → (p.writes.outcome ≡ Over) × (p.script ≡ out from done.statements) × (to ≡ state_after p.from p.writes.statements)
      whole text p =
          let t = done_told from to left left' held between p.bytes p.source done in
          let same = one_comes (take limit p.bytes) (nat_le (length p.bytes) limit) p.writes.statements done.statements p.writes.outcome Over p.writes.comes t in
          let outcome_is : last_line (take limit p.bytes) (line (codes "too long")) p.writes.outcome ≡ [] =
          ap (last_line (take limit p.bytes) (line (codes "too long"))) same.1 in (
            same.1,
            p.writes.same ∙ ap (λ (l : List ℕ). out p.from p.writes.statements ++ l) outcome_is ∙ append-nil (out p.from p.writes.statements)
                ∙ ap (out p.from) same.0 ∙ ap (λ (s : WatchedStanding). out s done.statements) (sym (same_start text p)),
            done.next ∙ ap (λ (s : WatchedStanding). state_after s done.statements) (same_start text p) ∙ ap (state_after p.from) (sym same.0),
          )

      -- nothing was put behind the replies
      pub done_begun : held' ≡ between → Begun words told waiting left held held'
      done_begun same = by_script go
        where
          go : (text : List ℕ) → PutsScript words told waiting left text → PutsFront held held' text
          go text p =
              let w = whole text p in
              subst (PutsFront held held') (sym p.text_is)
              (puts_more held held' p.script p.last (subst (PutsFront held held') (sym w.1)
              (puts_all held held' (out from done.statements) (subst (λ (h : Option (List ℕ)). Appends held h (out from done.statements)) (sym same) done.put))))

      -- a front was put of the line that says that the dump is too long
      pub long_begun : (name : List ℕ) → asked.dump ≡ Some name → IsLongDump to.transactions → PutsFront between held' (line (codes "too long")) → Begun words told waiting left held held'
      long_begun name is long put = by_script go
        where
          go : (text : List ℕ) → PutsScript words told waiting left text → PutsFront held held' text
          go text p =
              let w = whole text p in
              let d : p.asked.dump ≡ Some name = ap (λ (a : Asked). a.dump) (one words p.asked asked p.starts.says starts.says) ∙ is in
              let last = long_last to.transactions name long p.asked.dump (state_after p.from p.writes.statements).transactions p.last d (p.behind w.0) (ap (λ (s : WatchedStanding). s.transactions) w.2) in
              subst (PutsFront held held') (sym (p.text_is ∙ ap (λ (s : List ℕ). s ++ p.last) w.1 ∙ ap (λ (l : List ℕ). out from done.statements ++ l) last))
              (puts_behind held between held' (out from done.statements) (line (codes "too long")) done.put put)

  -- ---- behind the start of a generated script

  module _ (one : SayOneThing) (asked : Asked) (from : WatchedStanding) (starts : Starts words told waiting asked from) (n : ℕ) (is : asked.generate ≡ Some n) where
    -- it is enough to look at what is put of its summary
    by_summary : ((text : List ℕ) → PutsSummary words text → PutsFront held held' text) → Begun words told waiting left held held'
    by_summary f text (bad none e) = absurd (none asked starts.says)
    by_summary f text (refused d e) = absurd (start_not_refused words told one asked from starts d)
    by_summary f text (longer d e) = absurd (start_not_longer words told one asked from starts d)
    by_summary f text (runs p) =
        let same : p.asked.generate ≡ asked.generate = ap (λ (a : Asked). a.generate) (one words p.asked asked p.starts.says starts.says) in
        let none = p.none in
        absurd (let no : ⊥ = cc in no)
    by_summary f text (summary p) = f text p

    module _ (text : List ℕ) (p : PutsSummary words text) where
      same_asked : p.asked ≡ asked
      same_asked = one words p.asked asked p.says starts.says

      same_number : p.n ≡ n
      same_number = let e : Some p.n ≡ Some n = sym p.generate ∙ ap (λ (a : Asked). a.generate) same_asked ∙ is in cc

      same_begin : empty_standing p.asked.max_id ≡ from.transactions
      same_begin = ap (λ (a : Asked). empty_standing a.max_id) same_asked ∙ sym (starts_empty words told asked from n starts is)

      same_end : generated_end from.transactions n ≡ generated_end (empty_standing p.asked.max_id) p.n
      same_end = λ i. generated_end (sym same_begin i) (sym same_number i)

      summary_is : text ≡ summary_lines (generated_summary from.transactions n) ++ p.last
      summary_is = p.text_is ∙ (λ i. summary_lines (generated_summary (same_begin i) (same_number i)) ++ p.last)

    -- a front of the summary was put
    pub summary_begun : PutsFront held held' (summary_lines (generated_summary from.transactions n)) → Begun words told waiting left held held'
    summary_begun put = by_summary (λ text p. subst (PutsFront held held') (sym (summary_is text p)) (puts_more held held' (summary_lines (generated_summary from.transactions n)) p.last put))

    module _ (between : Option (List ℕ)) (put : Appends held between (summary_lines (generated_summary from.transactions n))) where
      -- nothing was put behind it
      pub summed_begun : held' ≡ between → Begun words told waiting left held held'
      summed_begun same =
          let text = summary_lines (generated_summary from.transactions n) in
          summary_begun (puts_all held held' text (subst (λ (h : Option (List ℕ)). Appends held h text) (sym same) put))

      -- a front was put of the line that says that the dump is too long
      pub summed_long : (name : List ℕ) → asked.dump ≡ Some name → IsLongDump (generated_end from.transactions n) → PutsFront between held' (line (codes "too long")) → Begun words told waiting left held held'
      summed_long name dumps long more = by_summary go
        where
          go : (text : List ℕ) → PutsSummary words text → PutsFront held held' text
          go text p =
              let d : p.asked.dump ≡ Some name = ap (λ (a : Asked). a.dump) (same_asked text p) ∙ dumps in
              let last = long_last (generated_end from.transactions n) name long p.asked.dump (generated_end (empty_standing p.asked.max_id) p.n) p.last d p.behind (same_end text p) in
              subst (PutsFront held held') (sym (summary_is text p ∙ ap (λ (l : List ℕ). summary_lines (generated_summary from.transactions n) ++ l) last))
              (puts_behind held between held' (summary_lines (generated_summary from.transactions n)) (line (codes "too long")) put more)
