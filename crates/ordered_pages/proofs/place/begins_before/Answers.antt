use Rattle.std.specs.Ordering.{is_lt}
use Rattle.std.proofs.Common.{◌∙◌, ap, sym}
use Rattle.ordered_pages.proofs.PagesLemmas.{reads_low, reads_some}
use Rattle.ordered_pages.proofs.place.begins_before.Goals as goal

pub first-requires : goal.first-requires
first-requires g c = reads_some c.args.pages.now c.args.at c.index-pages-at.result c.requires.sized c.requires.within c.index-pages-at.is

pub returns : goal.returns
returns g c = λ _. reads_low g.E.Entry.order g.met.E.Entry.total c.args.pages.now c.args.at (g.P.Probe.key c.args.probe.now) c.index-pages-at.result c.first.result.now c.requires.rise c.requires.sized c.requires.within c.index-pages-at.is c.first.ensures
    (ap is_lt (sym c.compare.ensures) ∙ sym c.if-is_lt.ensures)
