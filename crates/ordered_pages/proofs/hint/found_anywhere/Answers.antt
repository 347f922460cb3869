use Rattle.std.proofs.Common.{◌∙◌, sym, ap, subst}
use Rattle.ordered_pages.specs.Entries.{Rise, entry_of}
use Rattle.ordered_pages.proofs.PagesLemmas.{reads_rises, reads_entry}
use Rattle.ordered_pages.proofs.FindLemmas.{entry_there, entry_nowhere}
use Rattle.ordered_pages.proofs.hint.found_anywhere.Goals as goal

pub place_of-requires : goal.place_of-requires
place_of-requires g c =
    subst (Rise g.E.Entry.order) (sym c.as_slice-entries.ensures) (reads_rises g.E.Entry.order g.met.E.Entry.total c.args.pages.now _ c.index-pages-page.result c.requires.rise c.page_near-page.ensures.0 c.index-pages-page.is)

pub returns-in-Ok : goal.returns-in-Ok
returns-in-Ok g c =
    let o = g.E.Entry.order in
    let k = g.P.Probe.key c.args.probe.now in
    let rise = subst (Rise o) (sym c.as_slice-entries.ensures) (reads_rises o g.met.E.Entry.total c.args.pages.now _ c.index-pages-page.result c.requires.rise c.page_near-page.ensures.0 c.index-pages-page.is) in
    entry_there o g.met.E.Entry.total c.as_slice-entries.result.now _ k c.index-entries-place.result rise c.in-Ok.ensures c.index-entries-place.is
    ∙ ap (λ p. entry_of o p k) c.as_slice-entries.ensures
    ∙ sym (reads_entry o g.met.E.Entry.total c.args.pages.now k _ c.index-pages-page.result c.page_near-page.ensures c.index-pages-page.is)

pub returns-in-Err : goal.returns-in-Err
returns-in-Err g c =
    let o = g.E.Entry.order in
    let k = g.P.Probe.key c.args.probe.now in
    entry_nowhere o g.met.E.Entry.total c.as_slice-entries.result.now _ k c.in-Err.ensures
    ∙ ap (λ p. entry_of o p k) c.as_slice-entries.ensures
    ∙ sym (reads_entry o g.met.E.Entry.total c.args.pages.now k _ c.index-pages-page.result c.page_near-page.ensures c.index-pages-page.is)
