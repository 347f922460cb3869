use Rattle.op_any.specs.Operators.{any_meaning}
use Rattle.db_state.specs.Fields.{database_for}
use Rattle.dump_formats.specs.Formats.{run_json}
use Rattle.dump_formats.proofs.StandLemmas.{dumped, spelled}
use Rattle.dump_formats.proofs.dumping.dump.Goals as goal

pub returns-clause-stands : goal.returns-clause-stands
returns-clause-stands c texts = (
  run_json (database_for any_meaning c.args.db.now) c.args.db.now.layout.operators c.args.counts.now c.args.pending.now,
  spelled _ _ _ _ c.from_string.ensures c.in_ok-json.ensures.value c.in_ok-text.ensures.read,
  dumped c.args.db.now c.args.counts.now c.args.pending.now c.requires.counted c.requires.leads (c.in_ok-json.ensures.stands texts),
)
