use Rattle.std.proofs.Common.{◌∙◌, refl, inl, inr, subst}
use Rattle.op_any.specs.Operators.{AnyView}
use Rattle.op_any.specs.BuiltOn.{AreBuiltOn}
use Rattle.db_state.specs.declared.parts.Parts.{Parts}
use Rattle.generated_run.specs.SessionsStanding.{kept_in, standing_of}
use Rattle.inverda_run.specs.declared.end.End.TheVariants as end
use Rattle.inverda_run.proofs.FinishLemmas.{is_dumped, long_dumped, writes_but}
use Rattle.inverda_run.proofs.finish.dump_to.Goals as goal

pub returns-then-bytes-clause-dumps : goal.returns-then-bytes-clause-dumps
returns-then-bytes-clause-dumps g c = λ to there.
    let s = c.args.sessions.now in
    let kept = c.engine.ensures in
    let same = c.database-database.ensures.database ∙ kept in
    let is = c.as_bytes-bytes.ensures.value ∙ c.as_str.ensures in
    let built = subst (λ (p : Parts AnyView). AreBuiltOn p.ids.next p.graph.edges) kept c.database-database.ensures.built in
    let dump = is_dumped to (standing_of s) (kept_in s) c.database-database.result.now c.counts.result.now c.pending.result.now c.as_bytes-bytes.result.now c.in-Ok.text there refl same c.counts.ensures c.pending.ensures.value is c.in-Ok.ensures.text c.in-Ok.ensures.stands c.requires.spelled built in
    long_dumped to (g.F.Files.told c.args.files.now c.args.name.now) (g.K.Sink.held c.args.out.now) (g.K.Sink.held c.put_last.new.out) (g.K.Sink.faults c.args.out.now) (g.K.Sink.faults c.put_last.new.out) (g.F.Files.faults c.args.files.now) (g.F.Files.faults c.args.files.now)
    (record { text = c.as_bytes-bytes.result.now; dump = dump; above = c.if-bytes.true }) refl c.put_last.result c.put_last.ensures.puts

pub returns-in-Ok-replace-clause-others : goal.returns-in-Ok-replace-clause-others
returns-in-Ok-replace-clause-others g c =
    writes_but c.args.name.now (g.F.Files.told c.args.files.now) (g.F.Files.told c.replace.new.self) (g.F.Files.faults c.args.files.now) (g.F.Files.faults c.replace.new.self) end.Done c.replace.ensures.others (inl refl)

pub returns-clause-others : goal.returns-clause-others
returns-clause-others g c =
    writes_but c.args.name.now (g.F.Files.told c.args.files.now) (g.F.Files.told c.replace.new.self) (g.F.Files.faults c.args.files.now) (g.F.Files.faults c.replace.new.self) c.put_last-in-Err.result c.replace.ensures.others (inr c.in-Err.ensures.cause.failed)
