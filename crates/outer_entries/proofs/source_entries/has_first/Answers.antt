use Rattle.std.proofs.Common.{◌∙◌}
use Rattle.outer_entries.proofs.source_entries.has_first.Goals as goal

pub returns : goal.returns
returns c = c.has.ensures ∙ c.requires.second c.args.b
