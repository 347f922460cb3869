use Rattle.std.proofs.Common.{rules}
use Rattle.par_base.specs.inner.SharedTexts.{inline_view}
use Rattle.par_base.proofs.inline.InlineText.as_bytes.Goals as goal

pub returns : goal.returns
unfolding inline_view
returns c = search rules
