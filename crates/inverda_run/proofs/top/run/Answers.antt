use Rattle.outside.specs.Causes.{Rose}
use Rattle.inverda_run.specs.declared.end.End.TheVariants as end
use Rattle.std.proofs.Common.{◌≡◌, ◌⊎◌, inr, map, string_bytes, ℕ, refl, sym, ap, subst, ◌∙◌, inl}
use Rattle.op_any.specs.Operators.{AnyView}
use Rattle.db_state.specs.declared.parts.Parts.{Parts}
use Rattle.dump_formats.specs.Texts.{AreSpelled}
use Rattle.watch_laws.specs.SessionLawsSessions.{HasCounts}
use Rattle.generated_run.specs.Standing.{Standing}
use Rattle.generated_run.specs.TransactionsCalls.{standing_of as standing_beneath}
use Rattle.generated_run.specs.WatchedStanding.{Standing as WatchedStanding}
use Rattle.generated_run.specs.WatchedCalls.{standing_of}
use Rattle.run_words.specs.Calls.{asked_of}
use Rattle.inverda_run.specs.Starts.{all_waiting}
use Rattle.inverda_run.specs.Statuses.{Starts}
use Rattle.inverda_run.specs.Calls.{EndStays, Ends, MissesLoad}
use Rattle.inverda_run.specs.declared.end.End.{End}
use Rattle.inverda_run.proofs.EndLemmas.{bad_ends, longer_ends, memory_ends, refused_ends, script_ends, unread_ends}
use Rattle.inverda_run.proofs.FinishLemmas.{finish_stays}
use Rattle.inverda_run.proofs.RunLemmas.{finished, generated_so, same_kept, same_sessions, script_stays, source_touched, stays_from}
use Rattle.inverda_run.proofs.StartLemmas.{starts_limit}
use Rattle.inverda_run.proofs.StartedLemmas.{misses_loaded}
use Rattle.inverda_run.proofs.top.run.Goals as goal

pub returns-in-Err-Refused-clause-ends : goal.returns-in-Err-Refused-clause-ends
returns-in-Err-Refused-clause-ends g c =
    let told = g.F.Files.told c.args.files.now in
    let filed = g.F.Files.faults c.args.files.now in
    bad_ends (map string_bytes c.args.words.now) told told (map g.W.Watcher.seen c.args.watchers.items) (g.S.Source.left c.args.script.now) (g.S.Source.faults c.args.script.now) (g.K.Sink.held c.args.out.now) (g.K.Sink.held c.put_last.new.out)
    (g.K.Sink.faults c.args.out.now) (g.K.Sink.faults c.put_last.new.out) filed filed (rw c.in-Err-Refused.field-0-is at c.in-Err-Refused.ensures) refl c.put_last.result c.put_last.ensures.puts

pub returns-in-Err-Refused-begin-clause-ends : goal.returns-in-Err-Refused-begin-clause-ends
returns-in-Err-Refused-begin-clause-ends g c =
    let last = c.put_last-in-Err-Refused-begin in
    let begun = rw c.in-Err-Refused-begin.field-0-is at c.in-Err-Refused-begin.ensures.begins in
    refused_ends (map string_bytes c.args.words.now) (g.F.Files.told c.args.files.now) (g.F.Files.told c.begin.new.files) (map g.W.Watcher.seen c.args.watchers.items) (g.S.Source.left c.args.script.now) (g.S.Source.faults c.args.script.now)
    (g.K.Sink.held c.args.out.now) (g.K.Sink.held last.new.out) (g.K.Sink.faults c.args.out.now) (g.K.Sink.faults last.new.out) (g.F.Files.faults c.args.files.now) (g.F.Files.faults c.begin.new.files)
    c.words_say_one_thing.ensures (asked_of c.in-Ok.asked) c.in-Ok.ensures begun.0 begun.1 begun.2 begun.3 last.result last.ensures.puts

pub returns-in-Err-TooLong-clause-ends : goal.returns-in-Err-TooLong-clause-ends
returns-in-Err-TooLong-clause-ends g c =
    let last = c.put_last-in-Err-TooLong in
    let begun = rw c.in-Err-TooLong.field-0-is at c.in-Err-TooLong.ensures.begins in
    longer_ends (map string_bytes c.args.words.now) (g.F.Files.told c.args.files.now) (g.F.Files.told c.begin.new.files) (map g.W.Watcher.seen c.args.watchers.items) (g.S.Source.left c.args.script.now) (g.S.Source.faults c.args.script.now)
    (g.K.Sink.held c.args.out.now) (g.K.Sink.held last.new.out) (g.K.Sink.faults c.args.out.now) (g.K.Sink.faults last.new.out) (g.F.Files.faults c.args.files.now) (g.F.Files.faults c.begin.new.files)
    c.words_say_one_thing.ensures (asked_of c.in-Ok.asked) c.in-Ok.ensures begun.0 begun.1 begun.2 begun.3 last.result last.ensures.puts

pub returns-in-Err-Memory-clause-ends : goal.returns-in-Err-Memory-clause-ends
returns-in-Err-Memory-clause-ends g c =
    let told = g.F.Files.told c.args.files.now in
    let held = g.K.Sink.held c.args.out.now in
    let put = g.K.Sink.faults c.args.out.now in
    let filed = g.F.Files.faults c.args.files.now in
    memory_ends (map string_bytes c.args.words.now) told told (map g.W.Watcher.seen c.args.watchers.items) (g.S.Source.left c.args.script.now) (g.S.Source.faults c.args.script.now) held held put put filed filed refl refl

pub returns-in-Err-Memory-begin-clause-ends : goal.returns-in-Err-Memory-begin-clause-ends
returns-in-Err-Memory-begin-clause-ends g c =
    let held = g.K.Sink.held c.args.out.now in
    let put = g.K.Sink.faults c.args.out.now in
    memory_ends (map string_bytes c.args.words.now) (g.F.Files.told c.args.files.now) (g.F.Files.told c.begin.new.files) (map g.W.Watcher.seen c.args.watchers.items) (g.S.Source.left c.args.script.now) (g.S.Source.faults c.args.script.now) held held put put
    (g.F.Files.faults c.args.files.now) (g.F.Files.faults c.begin.new.files) refl (rw c.in-Err-Memory-begin.field-0-is at c.in-Err-Memory-begin.ensures.begins)

pub returns-in-Err-Fault-clause-ends : goal.returns-in-Err-Fault-clause-ends
returns-in-Err-Fault-clause-ends g c =
    let last = c.put_last-in-Err-Fault in
    let begun = rw c.in-Err-Fault.field-0-is at c.in-Err-Fault.ensures.begins in
    unread_ends (map string_bytes c.args.words.now) (g.F.Files.told c.args.files.now) (g.F.Files.told c.begin.new.files) (map g.W.Watcher.seen c.args.watchers.items) (g.S.Source.left c.args.script.now) (g.S.Source.faults c.args.script.now)
    (g.K.Sink.held c.args.out.now) (g.K.Sink.held last.new.out) (g.K.Sink.faults c.args.out.now) (g.K.Sink.faults last.new.out) (g.F.Files.faults c.args.files.now) (g.F.Files.faults c.begin.new.files)
    c.words_say_one_thing.ensures (asked_of c.in-Ok.asked) c.in-Ok.ensures begun.0 begun.1 begun.2 last.result last.ensures.puts

pub returns-in_default-with_watchers-clause-ends : goal.returns-in_default-with_watchers-clause-ends
returns-in_default-with_watchers-clause-ends g c =
    let held = g.K.Sink.held c.args.out.now in
    let put = g.K.Sink.faults c.args.out.now in
    memory_ends (map string_bytes c.args.words.now) (g.F.Files.told c.args.files.now) (g.F.Files.told c.begin.new.files) (map g.W.Watcher.seen c.args.watchers.items) (g.S.Source.left c.args.script.now) (g.S.Source.faults c.args.script.now) held held put put
    (g.F.Files.faults c.args.files.now) (g.F.Files.faults c.begin.new.files) refl c.in-Ok-begin.ensures.begins.2

pub returns-in-Done-clause-ends : goal.returns-in-Done-clause-ends
returns-in-Done-clause-ends g c =
    let words = map string_bytes c.args.words.now in
    let told = g.F.Files.told c.args.files.now in
    let asked = asked_of c.in-Ok.asked in
    let begins = c.in-Ok-begin.ensures.begins in
    let waiting = map g.W.Watcher.seen c.args.watchers.items in
    let from : WatchedStanding = record { transactions = standing_beneath c.in-Ok-begin.transactions; watches = all_waiting waiting } in
    let own = c.in_default.is in
    let starts : Starts words told waiting asked from = record { says = c.in-Ok.ensures; start = begins.0; watches = refl } in
    let made = c.new-stream.ensures.watched ∙ c.in-Ok-with_watchers.ensures in
    let ends = rw made at c.in-Done.ensures.ends in
    let to = standing_of c.run_source.new.stream.watched in
    finished words told (g.F.Files.told c.finish.new.files) waiting (g.S.Source.left c.args.script.now) (g.S.Source.left c.run_source.new.script) (g.S.Source.faults c.args.script.now) (g.S.Source.faults c.run_source.new.script)
    (g.K.Sink.held c.args.out.now) (g.K.Sink.held c.run_source.new.out) (g.K.Sink.held c.finish.new.out) (g.K.Sink.faults c.args.out.now) (g.K.Sink.faults c.run_source.new.out) (g.K.Sink.faults c.finish.new.out)
    (g.F.Files.faults c.args.files.now) (g.F.Files.faults c.begin.new.files) (g.F.Files.faults c.finish.new.files)
    c.words_say_one_thing.ensures c.two_runs_are_one.ensures.start asked from to starts own
    ends.0 ((rw made at c.in-Done.ensures.keeps.limit) ∙ starts_limit words told asked from starts) ends.1 c.in-Done.ensures.stays begins.2 c.finish.result
    (c.finish.ensures.finishes to.transactions (same_sessions c.run_source.new.stream.watched c.watched.result.now c.sessions.result.now c.watched.ensures c.sessions.ensures))

pub returns : goal.returns
returns g c =
    let words = map string_bytes c.args.words.now in
    let told = g.F.Files.told c.args.files.now in
    let told' = g.F.Files.told c.begin.new.files in
    let left = g.S.Source.left c.args.script.now in
    let left' = g.S.Source.left c.run_source.new.script in
    let read = g.S.Source.faults c.args.script.now in
    let read' = g.S.Source.faults c.run_source.new.script in
    let held = g.K.Sink.held c.args.out.now in
    let held' = g.K.Sink.held c.run_source.new.out in
    let put = g.K.Sink.faults c.args.out.now in
    let put' = g.K.Sink.faults c.run_source.new.out in
    let filed = g.F.Files.faults c.args.files.now in
    let filed' = g.F.Files.faults c.begin.new.files in
    let asked = asked_of c.in-Ok.asked in
    let waiting = map g.W.Watcher.seen c.args.watchers.items in
    let from : WatchedStanding = record { transactions = standing_beneath c.in-Ok-begin.transactions; watches = all_waiting waiting } in
    let own = c.in_default.is in
    let starts : Starts words told waiting asked from = record { says = c.in-Ok.ensures; start = c.in-Ok-begin.ensures.begins.0; watches = refl } in
    let made = c.new-stream.ensures.watched ∙ c.in-Ok-with_watchers.ensures in
    record {
      ends = subst (λ (e : End). Ends words told told' waiting left left' read read' held held' put put' filed filed' e) (sym c.ended.ensures)
          (script_ends words told told' waiting left left' read read' held put filed filed' c.words_say_one_thing.ensures c.two_runs_are_one.ensures.start asked from (standing_of c.run_source.new.stream.watched) starts own
          held' put' c.in-Ok-begin.ensures.begins.2 c.run_source.result c.in_default-run_source.not-Done (rw made at c.run_source.ensures.ends));
      stays = subst (λ (e : End). EndStays put put' e) (sym c.ended.ensures) (script_stays put put' c.run_source.result c.run_source.ensures.stays);
      files = λ file. inl (c.begin.ensures.same file);
      misses = misses_loaded words told asked (g.F.Files.missing c.args.files.now) (g.F.Files.missing c.begin.new.files) c.in-Ok.ensures c.begin.ensures.missing;
      untouched = λ n generates. absurd (source_touched words c.words_say_one_thing.ensures asked c.in-Ok.ensures own n generates);
      later_read = c.run_source.ensures.later_read;
      later_write = c.run_source.ensures.later_write;
      later_file = c.begin.ensures.later;
    }

pub returns-in-Done-clause-stays : goal.returns-in-Done-clause-stays
returns-in-Done-clause-stays g c =
    stays_from (g.K.Sink.faults c.args.out.now) (g.K.Sink.faults c.run_source.new.out) (g.K.Sink.faults c.finish.new.out) c.finish.result c.in-Done.ensures.stays
    (finish_stays (standing_of c.run_source.new.stream.watched).transactions (asked_of c.in-Ok.asked).dump (g.F.Files.told c.finish.new.files) (g.K.Sink.held c.run_source.new.out) (g.K.Sink.held c.finish.new.out)
    (g.K.Sink.faults c.run_source.new.out) (g.K.Sink.faults c.finish.new.out) (g.F.Files.faults c.begin.new.files) (g.F.Files.faults c.finish.new.files) c.finish.result (c.finish.ensures.finishes (standing_of c.run_source.new.stream.watched).transactions (same_sessions c.run_source.new.stream.watched c.watched.result.now c.sessions.result.now c.watched.ensures c.sessions.ensures)))

pub returns-in-Done-clause-untouched : goal.returns-in-Done-clause-untouched
returns-in-Done-clause-untouched g c = λ n generates. absurd (source_touched (map string_bytes c.args.words.now) c.words_say_one_thing.ensures (asked_of c.in-Ok.asked) c.in-Ok.ensures c.in_default.is n generates)

pub returns-in-Some-clause-ends : goal.returns-in-Some-clause-ends
returns-in-Some-clause-ends g c =
    let words = map string_bytes c.args.words.now in
    let told = g.F.Files.told c.args.files.now in
    let asked = asked_of c.in-Ok.asked in
    let begins = c.in-Ok-begin.ensures.begins in
    let waiting = map g.W.Watcher.seen c.args.watchers.items in
    let from : WatchedStanding = record { transactions = standing_beneath c.in-Ok-begin.transactions; watches = all_waiting waiting } in
    let starts : Starts words told waiting asked from = record { says = c.in-Ok.ensures; start = begins.0; watches = refl } in
    generated_so words told (g.F.Files.told c.generate.new.files) waiting (g.S.Source.left c.args.script.now) (g.S.Source.faults c.args.script.now) (g.K.Sink.held c.args.out.now) (g.K.Sink.held c.generate.new.out)
    (g.K.Sink.faults c.args.out.now) (g.K.Sink.faults c.generate.new.out) (g.F.Files.faults c.args.files.now) (g.F.Files.faults c.begin.new.files) (g.F.Files.faults c.generate.new.files)
    c.words_say_one_thing.ensures asked from starts c.in-Some.n c.in-Some.is begins.2 c.generate.result c.generate.ensures.ends

pub finish-requires-clause-counted : goal.finish-requires-clause-counted
finish-requires-clause-counted g c =
    let ends = rw (c.new-stream.ensures.watched ∙ c.in-Ok-with_watchers.ensures) at c.in-Done.ensures.ends in
    let done = ends.0 in
    let from : WatchedStanding = record { transactions = standing_beneath c.in-Ok-begin.transactions; watches = all_waiting (map g.W.Watcher.seen c.args.watchers.items) } in
    let to = ap (λ (k : WatchedStanding). k.transactions) done.next ∙ c.watches_are_beside.ensures.stands from done.statements in
    subst HasCounts (sym (ap (λ (k : Standing). k.sessions) to) ∙ same_sessions c.run_source.new.stream.watched c.watched.result.now c.sessions.result.now c.watched.ensures c.sessions.ensures)
    (c.scripts_keep_counts.ensures from.transactions done.statements c.in-Ok-begin.ensures.begins.1.counted)

pub finish-requires-clause-spelled : goal.finish-requires-clause-spelled
finish-requires-clause-spelled g c =
    let keeps = rw (c.new-stream.ensures.watched ∙ c.in-Ok-with_watchers.ensures) at c.in-Done.ensures.keeps in
    subst (λ (p : Parts AnyView). AreSpelled p.graph.edges) (same_kept c.run_source.new.stream.watched c.watched.result.now c.sessions.result.now c.watched.ensures c.sessions.ensures) (keeps.spelled c.in-Ok-begin.ensures.begins.1.spelled)

pub returns-in-Done-clause-files : goal.returns-in-Done-clause-files
returns-in-Done-clause-files g c = λ file.
    elim (c.finish.ensures.others file) [
      | inl same ↦ inl (same ∙ c.begin.ensures.same file)
      | inr there ↦ inr (
        record { asked = asked_of c.in-Ok.asked; says = c.in-Ok.ensures; dump = there.0 },
        subst (λ (n : ℕ). (c.finish.result ≡ end.Done) ⊎ Rose n (g.F.Files.faults c.finish.new.files)) c.in-Ok-begin.ensures.begins.2 there.1,
      )
    ]

pub returns-in-Done-clause-misses : goal.returns-in-Done-clause-misses
returns-in-Done-clause-misses g c =
    let was = g.F.Files.missing c.args.files.now in
    let asked = asked_of c.in-Ok.asked in
    let told = g.F.Files.told c.args.files.now in
    misses_loaded (map string_bytes c.args.words.now) told asked was (g.F.Files.missing c.finish.new.files) c.in-Ok.ensures (subst (λ (m : ℕ). MissesLoad told asked.load was m) (sym c.finish.ensures.missing) c.begin.ensures.missing)
