use Rattle.std.proofs.Common.{◌∙◌, subst}
use Rattle.std.specs.Io.KnownBytes.{Appends}
use Rattle.script_run.specs.Statuses.{PutsFront}
use Rattle.script_run.proofs.turn.put_reply.Goals as goal

pub returns-in-Ok-clause-puts : goal.returns-in-Ok-clause-puts
returns-in-Ok-clause-puts g c = (
  subst (Appends (g.K.Sink.held c.args.out.now) (g.K.Sink.held c.write_all.new.sink)) (c.as_bytes.ensures.value ∙ c.as_str.ensures) c.in-Ok.ensures.ok,
  c.in-Ok.ensures.cause.stays,
)

pub returns-in-Err-clause-puts : goal.returns-in-Err-clause-puts
returns-in-Err-clause-puts g c = (
  c.in-Err.ensures.cause.failed,
  subst (PutsFront (g.K.Sink.held c.args.out.now) (g.K.Sink.held c.write_all.new.sink)) (c.as_bytes.ensures.value ∙ c.as_str.ensures) c.in-Err.ensures.err,
)
