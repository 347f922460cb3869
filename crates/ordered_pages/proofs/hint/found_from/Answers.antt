use Rattle.std.proofs.Common.{◌∙◌, sym}
use Rattle.ordered_pages.proofs.PlaceLemmas.{read_page, found_at, not_between}
use Rattle.ordered_pages.proofs.hint.found_from.Goals as goal

pub returns-in-Less : goal.returns-in-Less
returns-in-Less g c =
    let page = read_page c.args.pages.now c.args.page c.index-pages-page.result c.as_slice-entries.result.now c.requires.within.0 c.index-pages-page.is c.as_slice-entries.ensures in
    not_between g.E.Entry.order g.met.E.Entry.total c.args.pages.now c.args.page c.args.place (g.P.Probe.key c.args.probe.now) c.as_slice-entries.result.now c.index-entries-place.result c.requires.rise c.requires.within page c.index-entries-place.is c.requires.before
    (sym c.compare.ensures ∙ c.in-Less.is)

pub returns-in-Equal : goal.returns-in-Equal
returns-in-Equal g c =
    let page = read_page c.args.pages.now c.args.page c.index-pages-page.result c.as_slice-entries.result.now c.requires.within.0 c.index-pages-page.is c.as_slice-entries.ensures in
    found_at g.E.Entry.order g.met.E.Entry.total c.args.pages.now c.args.page c.args.place (g.P.Probe.key c.args.probe.now) c.as_slice-entries.result.now c.index-entries-place.result c.requires.rise c.requires.within page c.index-entries-place.is
    (sym c.compare.ensures ∙ c.in-Equal.is)
