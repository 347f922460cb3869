use Rattle.std.proofs.Common.{ap, length, ◌∙◌}
use Rattle.std.proofs.lemmas.List.{take_at}
use Rattle.par_base.specs.inner.SharedTexts.{inline_view}
use Rattle.par_base.proofs.inline.InlineText.new.Goals as goal

pub returns : goal.returns
unfolding inline_view
returns c =
    let same = c.copy_from_slice.ensures.after ∙ c.as_bytes.ensures.value in
    take_at _ _ _ (ap length same) ∙ same
