use Rattle.std.proofs.Common.{◌≡◌, ◌+◌, ◌*◌, ◌≤◌, length, vec_len, ◌∙◌, ap, sym, subst, arith, rules}
use Rattle.ordered_pages.specs.Entries.{Rise, entry_of}
use Rattle.ordered_pages.specs.inner.Pages.{all_entries, IsPageOf}
use Rattle.ordered_pages.proofs.OrderLaws.{puts_nothing}
use Rattle.ordered_pages.proofs.PagesLemmas.{reads_rises, reads_entry}
use Rattle.ordered_pages.proofs.EditLemmas.{but_edited, entries_edited, spare_left}
use Rattle.ordered_pages.proofs.FindLemmas.{entry_nowhere}
use Rattle.ordered_pages.proofs.edit.take_entry.Goals as goal

pub place_of-requires : goal.place_of-requires
place_of-requires g c =
    let ps = c.args.pages.now.items in
    let o = g.E.Entry.order in
    let k = g.P.Probe.key c.args.probe.now in
    let of : IsPageOf o ps k c.page_of-page.result = subst (λ qs. IsPageOf o qs k c.page_of-page.result) c.deref.ensures.value c.page_of-page.ensures in
    subst (Rise o) (sym c.as_slice.ensures) (reads_rises o g.met.E.Entry.total ps c.page_of-page.result c.index.result.now c.requires.rise of.0 c.index.ensures)

pub mend-requires-clause-others : goal.mend-requires-clause-others
mend-requires-clause-others g c = but_edited c.args.pages.now.items c.remove_at-own.new.pages.items c.page_of-page.result c.requires.sized c.remove_at-own.ensures.page

pub mend-requires-clause-own : goal.mend-requires-clause-own
mend-requires-clause-own g c =
    let len : vec_len c.args.pages.now ≡ length c.args.pages.now.items = search rules in
    entries_edited c.args.pages.now.items c.remove_at-own.new.pages.items c.page_of-page.result _ c.requires.sized c.remove_at-own.ensures.page (c.remove_at-own.ensures.pages ∙ len)

pub mend-requires-clause-some : goal.mend-requires-clause-some
mend-requires-clause-some g c = λ large.
    let len : vec_len c.remove_at-own.new.pages ≡ length c.remove_at-own.new.pages.items = search rules in
    let others = but_edited c.args.pages.now.items c.remove_at-own.new.pages.items c.page_of-page.result c.requires.sized c.remove_at-own.ensures.page in
    let within = c.requires.within in
    let fits : length (all_entries c.remove_at-own.new.pages.items) ≤ 32 * (vec_len c.args.pages.now + vec_len c.args.spare.now) = omega (arith, c.remove_at-own.ensures.len, within) in
    spare_left c.remove_at-own.new.pages.items c.page_of-page.result (vec_len c.args.pages.now) (vec_len c.args.spare.now) others large (sym c.remove_at-own.ensures.pages ∙ len) fits

pub returns-in-Err-clause-value : goal.returns-in-Err-clause-value
returns-in-Err-clause-value g c =
    let ps = c.args.pages.now.items in
    let o = g.E.Entry.order in
    let k = g.P.Probe.key c.args.probe.now in
    let of : IsPageOf o ps k c.page_of-page.result = subst (λ qs. IsPageOf o qs k c.page_of-page.result) c.deref.ensures.value c.page_of-page.ensures in
    entry_nowhere o g.met.E.Entry.total c.as_slice.result.now c.in-Err.field-0 k c.in-Err.ensures
    ∙ ap (λ es. entry_of o es k) c.as_slice.ensures
    ∙ sym (reads_entry o g.met.E.Entry.total ps k c.page_of-page.result c.index.result.now of c.index.ensures)

pub returns-in-Err-clause-entries : goal.returns-in-Err-clause-entries
returns-in-Err-clause-entries g c =
    puts_nothing g.E.Entry.order g.met.E.Entry.total (all_entries c.args.pages.now.items) (g.P.Probe.key c.args.probe.now) (sym (returns-in-Err-clause-value g c))
