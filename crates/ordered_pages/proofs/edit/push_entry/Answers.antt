use Rattle.std.proofs.Common.{◌≡◌, suc, ◌+◌, ◌-◌, ◌*◌, ◌≤◌, length, vec_len, ◌∙◌, sym, ap, arith, rules}
use Rattle.ordered_pages.specs.inner.Pages.{all_entries}
use Rattle.ordered_pages.proofs.EditLemmas.{page_most, but_edited, entries_edited, spare_left, last_page_of, page_end}
use Rattle.ordered_pages.proofs.edit.push_entry.Goals as goal

pub insert_at-requires-clause-page : goal.insert_at-requires-clause-page
insert_at-requires-clause-page g c =
    let last : suc (c.len-last.result - 1) ≡ length c.args.pages.now.items = search rules in
    last_page_of g.E.Entry.order g.met.E.Entry.total c.args.pages.now.items (g.E.Entry.order.key c.args.entry) (c.len-last.result - 1) last c.requires.behind

pub insert_at-requires-clause-place : goal.insert_at-requires-clause-place
insert_at-requires-clause-place g c = λ p is.
    let end : c.len-end.result ≡ length p = c.len-end.ensures ∙ ap length (c.index.ensures ∙ is.1 c.index.result.now) in
    page_end g.E.Entry.order g.met.E.Entry.total c.args.pages.now.items (g.E.Entry.order.key c.args.entry) (c.len-last.result - 1) c.len-end.result p c.requires.behind is end

pub insert_at-requires-clause-room : goal.insert_at-requires-clause-room
insert_at-requires-clause-room g c = λ p is. page_most c.args.pages.now.items (c.len-last.result - 1) p c.requires.sized is

pub mend-requires-clause-others : goal.mend-requires-clause-others
mend-requires-clause-others g c = but_edited c.args.pages.now.items c.insert_at.new.pages.items (c.len-last.result - 1) c.requires.sized c.insert_at.ensures.page

pub mend-requires-clause-own : goal.mend-requires-clause-own
mend-requires-clause-own g c =
    let len : vec_len c.args.pages.now ≡ length c.args.pages.now.items = search rules in
    entries_edited c.args.pages.now.items c.insert_at.new.pages.items (c.len-last.result - 1) _ c.requires.sized c.insert_at.ensures.page (c.insert_at.ensures.pages ∙ len)

pub mend-requires-clause-some : goal.mend-requires-clause-some
mend-requires-clause-some g c = λ large.
    let len : vec_len c.insert_at.new.pages ≡ length c.insert_at.new.pages.items = search rules in
    let others = but_edited c.args.pages.now.items c.insert_at.new.pages.items (c.len-last.result - 1) c.requires.sized c.insert_at.ensures.page in
    let fits : length (all_entries c.insert_at.new.pages.items) ≤ 32 * (vec_len c.args.pages.now + vec_len c.args.spare.now) = omega (arith, c.insert_at.ensures.len, c.requires.place) in
    spare_left c.insert_at.new.pages.items (c.len-last.result - 1) (vec_len c.args.pages.now) (vec_len c.args.spare.now) others large (sym c.insert_at.ensures.pages ∙ len) fits
