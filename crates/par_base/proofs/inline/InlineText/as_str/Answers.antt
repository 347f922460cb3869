use Rattle.std.proofs.lemmas.Str.{IsUtf8-had}
use Rattle.par_base.specs.inner.SharedTexts.{inline_view}
use Rattle.par_base.proofs.inline.InlineText.as_str.Goals as goal

pub from_utf8_unchecked-requires : goal.from_utf8_unchecked-requires
unfolding inline_view
from_utf8_unchecked-requires c = rw c.as_bytes.ensures (IsUtf8-had _ c.args.self.now.text)
