use Rattle.std.proofs.Common.{◌≡◌, ◌+◌, ◌*◌, ◌≤◌, length, vec_len, ◌∙◌, sym, subst, arith, rules}
use Rattle.ordered_pages.specs.Entries.{Rise}
use Rattle.ordered_pages.specs.inner.Pages.{all_entries, IsPageOf}
use Rattle.ordered_pages.proofs.PagesLemmas.{reads_rises}
use Rattle.ordered_pages.proofs.EditLemmas.{page_most, but_edited, entries_edited, spare_left}
use Rattle.ordered_pages.proofs.edit.put_entry.Goals as goal

pub place_of-requires : goal.place_of-requires
place_of-requires g c =
    let ps = c.args.pages.now.items in
    let o = g.E.Entry.order in
    let of : IsPageOf o ps (o.key c.args.entry) c.page_of-page.result = subst (λ qs. IsPageOf o qs (o.key c.args.entry) c.page_of-page.result) c.deref.ensures.value c.page_of-page.ensures in
    subst (Rise o) (sym c.as_slice.ensures) (reads_rises o g.met.E.Entry.total ps c.page_of-page.result c.index.result.now c.requires.rise of.0 c.index.ensures)

pub insert_at-requires-clause-room : goal.insert_at-requires-clause-room
insert_at-requires-clause-room g c = λ p is. page_most c.args.pages.now.items c.page_of-page.result p c.requires.sized is

pub mend-requires-clause-others : goal.mend-requires-clause-others
mend-requires-clause-others g c = but_edited c.args.pages.now.items c.insert_at.new.pages.items c.page_of-page.result c.requires.sized c.insert_at.ensures.page

pub mend-requires-clause-own : goal.mend-requires-clause-own
mend-requires-clause-own g c =
    let len : vec_len c.args.pages.now ≡ length c.args.pages.now.items = search rules in
    entries_edited c.args.pages.now.items c.insert_at.new.pages.items c.page_of-page.result _ c.requires.sized c.insert_at.ensures.page (c.insert_at.ensures.pages ∙ len)

pub mend-requires-clause-some : goal.mend-requires-clause-some
mend-requires-clause-some g c = λ large.
    let len : vec_len c.insert_at.new.pages ≡ length c.insert_at.new.pages.items = search rules in
    let others = but_edited c.args.pages.now.items c.insert_at.new.pages.items c.page_of-page.result c.requires.sized c.insert_at.ensures.page in
    let room = c.requires.place c.insert_at.ensures.none in
    let fits : length (all_entries c.insert_at.new.pages.items) ≤ 32 * (vec_len c.args.pages.now + vec_len c.args.spare.now) = omega (arith, c.insert_at.ensures.len, room) in
    spare_left c.insert_at.new.pages.items c.page_of-page.result (vec_len c.args.pages.now) (vec_len c.args.spare.now) others large (sym c.insert_at.ensures.pages ∙ len) fits
