use Rattle.std.proofs.Common.{◌∙◌, append_assoc}
use Rattle.engine_core.specs.Texts.{refusal_bytes}
use Rattle.engine_core.proofs.refusal_line.stale.Goals as goal

pub returns : goal.returns
unfolding refusal_bytes
returns c = c.from_string.ensures ∙ c.in_ok-text.ensures.ok ∙ simp (append_assoc, c.as_str.ensures)
