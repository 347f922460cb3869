use Rattle.std.proofs.Common.{◌∙◌, ◌<◌, length, sym, ap, subst}
use Rattle.ordered_pages.specs.Entries.{Rise, entry_of}
use Rattle.ordered_pages.proofs.PagesLemmas.{reads_rises, reads_entry, reads_some}
use Rattle.ordered_pages.proofs.FindLemmas.{both_steps}
use Rattle.ordered_pages.proofs.find.find_in.Goals as goal

pub find_entry-requires-clause-rise : goal.find_entry-requires-clause-rise
find_entry-requires-clause-rise g c =
    subst (Rise g.E.Entry.order) (sym c.as_slice.ensures) (reads_rises g.E.Entry.order g.met.E.Entry.total c.args.pages.now _ c.index-pages-find_page.result c.requires.rise c.find_page.ensures.page.0 c.index-pages-find_page.is)

pub find_entry-requires-clause-some : goal.find_entry-requires-clause-some
find_entry-requires-clause-some g c =
    subst (λ p. 0 < length p) (sym c.as_slice.ensures) (reads_some c.args.pages.now _ c.index-pages-find_page.result c.requires.sized c.find_page.ensures.page.0 c.index-pages-find_page.is)

pub returns-clause-value : goal.returns-clause-value
returns-clause-value g c =
    c.find_entry.ensures.value ∙ ap (λ p. entry_of g.E.Entry.order p (g.P.Probe.key c.args.probe.now)) c.as_slice.ensures
    ∙ sym (reads_entry g.E.Entry.order g.met.E.Entry.total c.args.pages.now (g.P.Probe.key c.args.probe.now) _ c.index-pages-find_page.result c.find_page.ensures.page c.index-pages-find_page.is)

pub returns-clause-steps : goal.returns-clause-steps
returns-clause-steps g c =
    both_steps c.args.pages.now _ c.index-pages-find_page.result c.as_slice.result.now _ _ _ c.requires.sized c.find_page.ensures.page.0 c.index-pages-find_page.is c.as_slice.ensures c.find_page.ensures.steps c.find_entry.ensures.steps
