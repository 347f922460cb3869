use Rattle.std.proofs.Common.{◌≡◌, ◌+◌, ◌≤◌, ◌∙◌, [], suc, length, get_or, refl, ap, subst, arith}
use Rattle.ordered_pages.specs.Entries.{AreBefore}
use Rattle.ordered_pages.specs.inner.Pages.{all_entries}
use Rattle.ordered_pages.proofs.PlaceLemmas.{read_page, next_page, last_page, first_place, not_behind}
use Rattle.ordered_pages.proofs.hint.found_behind.Goals as goal

pub found_from-requires-then-behind-pages-clause-within : goal.found_from-requires-then-behind-pages-clause-within
found_from-requires-then-behind-pages-clause-within g c = first_place c.args.pages.now (c.args.page + 1) c.requires.sized (omega arith)

pub found_from-requires-then-behind-pages-clause-before : goal.found_from-requires-then-behind-pages-clause-before
found_from-requires-then-behind-pages-clause-before g c =
    let o = g.E.Entry.order in
    let k = g.P.Probe.key c.args.probe.now in
    let here = c.requires.within.0 in
    let long = c.len-entries.ensures ∙ ap length (read_page c.args.pages.now c.args.page c.index-pages-page.result c.index-pages-page.result here c.index-pages-page.is refl) in
    let end : length (get_or c.args.pages.now c.args.page []) ≤ c.args.place + 1 = omega (arith, long) in
    let next : c.args.page + 1 ≡ suc c.args.page = omega arith in
    subst (λ es. AreBefore o es k) (next_page c.args.pages.now c.args.page (c.args.place + 1) (c.args.page + 1) here end next) c.requires.before

pub returns : goal.returns
returns g c =
    let o = g.E.Entry.order in
    let k = g.P.Probe.key c.args.probe.now in
    let here = c.requires.within.0 in
    let long = c.len-entries.ensures ∙ ap length (read_page c.args.pages.now c.args.page c.index-pages-page.result c.index-pages-page.result here c.index-pages-page.is refl) in
    let end : length (get_or c.args.pages.now c.args.page []) ≤ c.args.place + 1 = omega (arith, long) in
    let last : length c.args.pages.now ≤ suc c.args.page = omega arith in
    not_behind o g.met.E.Entry.total (all_entries c.args.pages.now) k
    (subst (λ es. AreBefore o es k) (last_page c.args.pages.now c.args.page (c.args.place + 1) here end last) c.requires.before)
