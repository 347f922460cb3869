use Rattle.outer_entries.proofs.FindingLemmas.{adds_one}
use Rattle.outer_entries.proofs.finding.add.Goals as goal

pub returns : goal.returns
returns c = adds_one _ _ c.args.a c.args.b c.in_ok-insert.ensures.ok c.in_ok-insert-2.ensures.ok c.in_ok-insert-3.ensures.ok
