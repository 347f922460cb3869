use Rattle.std.proofs.Common.{◌≡◌, ◌+◌, ◌++◌, suc, ℕ, drop, ◌∙◌, ap, sym, subst, arith}
use Rattle.ordered_pages.specs.Entries.{Rise, entries_from}
use Rattle.ordered_pages.specs.inner.Pages.{all_entries, Hold}
use Rattle.ordered_pages.proofs.PagesLemmas.{reads_rises, hold_drop, hold_one}
use Rattle.ordered_pages.proofs.FindLemmas.{from_pages}
use Rattle.ordered_pages.proofs.place.behind.Goals as goal

pub behind_in-requires : goal.behind_in-requires
behind_in-requires g c =
    subst (Rise g.E.Entry.order) (sym c.as_slice.ensures) (reads_rises g.E.Entry.order g.met.E.Entry.total c.args.pages.now c.page_of-at.result c.index-pages-at.result c.requires.rise c.page_of-at.ensures.0 c.index-pages-at.is)

pub new-requires-2 : goal.new-requires-2
new-requires-2 g c = subst (Hold 1) (sym c.split_at.ensures.back) (hold_drop 1 (c.page_of-at.result + 1) c.args.pages.now (hold_one c.args.pages.now c.requires.sized))

pub returns : goal.returns
returns g c =
    let o = g.E.Entry.order in
    let k = g.P.Probe.key c.args.probe.now in
    let at = c.page_of-at.result in
    let next : at + 1 ≡ suc at = omega arith in
    c.new-2.ensures
    ∙ ap (λ es. es ++ all_entries c.split_at.result.1.now) (c.behind_in.ensures ∙ ap (λ es. entries_from o es k) c.as_slice.ensures)
    ∙ ap (λ ps. entries_from o c.index-pages-at.result k ++ all_entries ps) (c.split_at.ensures.back ∙ ap (λ (n : ℕ). drop n c.args.pages.now) next)
    ∙ from_pages o g.met.E.Entry.total c.args.pages.now k at c.index-pages-at.result c.page_of-at.ensures c.index-pages-at.is
