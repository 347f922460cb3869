use Rattle.inverda_run.proofs.StartedLemmas.{begins_named}
use Rattle.inverda_run.proofs.begin.begin.Goals as goal

pub returns-in-Some-clause-begins : goal.returns-in-Some-clause-begins
returns-in-Some-clause-begins g c =
    rw c.in-Some.is (begins_named (g.F.Files.told c.args.files.now) c.in-Some.name.now c.args.limits.max_id (g.F.Files.faults c.args.files.now) (g.F.Files.faults c.load_engine.new.files) c.load_engine.result c.load_engine.ensures.begins)
