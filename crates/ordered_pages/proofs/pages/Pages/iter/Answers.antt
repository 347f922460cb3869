use Rattle.std.proofs.Common.{rules}
use Rattle.ordered_pages.specs.inner.Pages.{AreSized}
use Rattle.ordered_pages.proofs.PagesLemmas.{hold_one}
use Rattle.ordered_pages.proofs.pages.Pages.iter.Goals as goal

pub new-requires : goal.new-requires
new-requires g c =
    let sized : AreSized c.as_slice.result.now = search rules in
    hold_one c.as_slice.result.now sized
