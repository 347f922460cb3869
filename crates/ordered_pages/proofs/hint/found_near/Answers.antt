use Rattle.std.proofs.Common.{◌≡◌, ◌+◌, ◌∙◌, suc, sym, arith}
use Rattle.ordered_pages.proofs.PlaceLemmas.{read_page, found_at, past_place, not_before}
use Rattle.ordered_pages.proofs.hint.found_near.Goals as goal

pub found_behind-requires-clause-before : goal.found_behind-requires-clause-before
found_behind-requires-clause-before g c =
    let page = read_page c.args.pages.now c.args.page c.index-pages-page.result c.as_slice-entries.result.now c.requires.within.0 c.index-pages-page.is c.as_slice-entries.ensures in
    let next : c.args.place + 1 ≡ suc c.args.place = omega arith in
    past_place g.E.Entry.order g.met.E.Entry.total c.args.pages.now c.args.page c.args.place (c.args.place + 1) (g.P.Probe.key c.args.probe.now) c.as_slice-entries.result.now c.index-entries-place.result c.requires.rise c.requires.within page c.index-entries-place.is
    (sym c.compare.ensures ∙ c.in-Greater.is) next

pub returns-then-place-eq0 : goal.returns-then-place-eq0
returns-then-place-eq0 g c =
    let page = read_page c.args.pages.now c.args.page c.index-pages-page.result c.as_slice-entries.result.now c.requires.within.0 c.index-pages-page.is c.as_slice-entries.ensures in
    not_before g.E.Entry.order g.met.E.Entry.total c.args.pages.now c.args.page c.args.place (g.P.Probe.key c.args.probe.now) c.as_slice-entries.result.now c.index-entries-place.result c.requires.rise c.requires.within page c.index-entries-place.is
    (omega arith) (omega arith) (sym c.compare.ensures ∙ c.in-Less.is)

pub returns-in-Equal : goal.returns-in-Equal
returns-in-Equal g c =
    let page = read_page c.args.pages.now c.args.page c.index-pages-page.result c.as_slice-entries.result.now c.requires.within.0 c.index-pages-page.is c.as_slice-entries.ensures in
    found_at g.E.Entry.order g.met.E.Entry.total c.args.pages.now c.args.page c.args.place (g.P.Probe.key c.args.probe.now) c.as_slice-entries.result.now c.index-entries-place.result c.requires.rise c.requires.within page c.index-entries-place.is
    (sym c.compare.ensures ∙ c.in-Equal.is)
