use Rattle.std.proofs.Common.{sym, ◌∙◌}
use Rattle.outer_entries.proofs.FindingLemmas.{adds_none}
use Rattle.outer_entries.proofs.finding.add_if_full.Goals as goal

pub returns-else-branch : goal.returns-else-branch
returns-else-branch g c = let none = sym c.in_ok-is_full.ensures ∙ c.if-branch.false in rw none (adds_none c.args.found.now)
