use Rattle.std.proofs.Common.{◌∙◌, ap, subst, sym}
use Rattle.watch_laws.specs.SessionLawsSessions.{HasCounts}
use Rattle.generated_run.specs.SessionsStanding.{standing_of as standing_beside}
use Rattle.generated_run.specs.TransactionsCalls.{standing_of}
use Rattle.inverda_run.proofs.FinishLemmas.{finish_stays}
use Rattle.inverda_run.proofs.GenerateLemmas.{front_put, generated_counts, summary_put}
use Rattle.inverda_run.proofs.RunLemmas.{stays_from}
use Rattle.inverda_run.proofs.generate.generate.Goals as goal

pub returns-in-Ok-write_all-clause-ends : goal.returns-in-Ok-write_all-clause-ends
returns-in-Ok-write_all-clause-ends g c =
    summary_put (standing_of c.args.transactions.now) c.args.n _ (g.F.Files.told c.finish.new.files) (g.K.Sink.held c.args.out.now) (g.K.Sink.held c.write_all.new.sink) (g.K.Sink.held c.finish.new.out)
    (g.K.Sink.faults c.args.out.now) (g.K.Sink.faults c.write_all.new.sink) (g.K.Sink.faults c.finish.new.out) (g.F.Files.faults c.args.files.now) (g.F.Files.faults c.finish.new.files)
    c.as_bytes.result.now (c.as_bytes.ensures.value ∙ c.as_str.ensures ∙ c.in-Ok.ensures.text)
    (standing_of c.summarize.new.transactions) c.in-Ok.ensures.end c.in-Ok.ensures.keeps.limit
    c.in-Ok-write_all.ensures.cause.stays c.in-Ok-write_all.ensures.ok c.finish.result (c.finish.ensures.finishes (standing_of c.summarize.new.transactions) (ap standing_beside (sym c.sessions.ensures)))

pub returns-in-Ok-write_all-clause-stays : goal.returns-in-Ok-write_all-clause-stays
returns-in-Ok-write_all-clause-stays g c =
    stays_from (g.K.Sink.faults c.args.out.now) (g.K.Sink.faults c.write_all.new.sink) (g.K.Sink.faults c.finish.new.out) c.finish.result c.in-Ok-write_all.ensures.cause.stays
    (finish_stays (standing_of c.summarize.new.transactions) _ (g.F.Files.told c.finish.new.files) (g.K.Sink.held c.write_all.new.sink) (g.K.Sink.held c.finish.new.out)
    (g.K.Sink.faults c.write_all.new.sink) (g.K.Sink.faults c.finish.new.out) (g.F.Files.faults c.args.files.now) (g.F.Files.faults c.finish.new.files) c.finish.result (c.finish.ensures.finishes (standing_of c.summarize.new.transactions) (ap standing_beside (sym c.sessions.ensures))))

pub returns-clause-ends : goal.returns-clause-ends
returns-clause-ends g c =
    front_put (standing_of c.args.transactions.now) c.args.n _ (g.F.Files.told c.args.files.now) (g.K.Sink.held c.args.out.now) (g.K.Sink.held c.args.out.now) (g.K.Sink.held c.write_all.new.sink)
    (g.K.Sink.faults c.args.out.now) (g.K.Sink.faults c.args.out.now) (g.K.Sink.faults c.write_all.new.sink) (g.F.Files.faults c.args.files.now) (g.F.Files.faults c.args.files.now)
    c.as_bytes.result.now (c.as_bytes.ensures.value ∙ c.as_str.ensures ∙ c.in-Ok.ensures.text) c.in-Err.ensures.cause.failed c.in-Err.ensures.err

pub finish-requires-clause-counted : goal.finish-requires-clause-counted
finish-requires-clause-counted g c =
    subst HasCounts (ap standing_beside (sym c.sessions.ensures))
    (generated_counts c.scripts_keep_counts.ensures (standing_of c.args.transactions.now) (standing_of c.summarize.new.transactions) c.args.n c.in-Ok.ensures.end c.requires.counted)
