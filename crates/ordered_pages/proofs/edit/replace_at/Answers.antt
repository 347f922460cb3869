use Rattle.std.proofs.Common.{set, refl, ap, ◌∙◌, length}
use Rattle.ordered_pages.specs.inner.Pages.{all_entries}
use Rattle.ordered_pages.proofs.EditLemmas.{Replaces, replaced, is_page, length_set, sized_still}
use Rattle.ordered_pages.proofs.edit.replace_at.Goals as goal

done : (g : _) (c : goal.After-pages-1 g) → Replaces g.E.Entry.order (all_entries c.args.pages.now.items) (all_entries (set c.args.pages.now.items c.args.page c.replace.new.self)) (g.E.Entry.order.key c.args.entry) c.args.entry c.replace.result
done g c =
    let p = c.index_mut.result.now in
    let ps = c.args.pages.now.items in
    replaced g.E.Entry.order g.met.E.Entry.total ps (g.E.Entry.order.key c.args.entry) c.args.page c.args.at p c.replace.new.self c.replace.result c.args.entry c.requires.rise c.requires.within c.index_mut.ensures.value
    (c.requires.place p (is_page ps c.args.page p c.requires.within c.index_mut.ensures.value)) refl c.replace.ensures.entries c.replace.ensures.value

pub returns-clause-rise : goal.returns-clause-rise
returns-clause-rise g c = (done g c).made.rises

pub returns-clause-value : goal.returns-clause-value
returns-clause-value g c = (done g c).was

pub returns-clause-entries : goal.returns-clause-entries
returns-clause-entries g c = (done g c).made.puts

pub returns-clause-len : goal.returns-clause-len
returns-clause-len g c = (done g c).long

pub returns-clause-sized : goal.returns-clause-sized
returns-clause-sized g c =
    sized_still c.args.pages.now.items c.args.page c.index_mut.result.now c.replace.new.self c.requires.sized c.requires.within c.index_mut.ensures.value
    (ap length c.replace.ensures.entries ∙ length_set c.index_mut.result.now c.args.at c.args.entry)
