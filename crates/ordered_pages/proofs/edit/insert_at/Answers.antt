use Rattle.std.proofs.Common.{set, refl}
use Rattle.ordered_pages.specs.inner.Pages.{all_entries}
use Rattle.ordered_pages.proofs.EditLemmas.{Inserts, inserted, is_page}
use Rattle.ordered_pages.proofs.edit.insert_at.Goals as goal

done : (g : _) (c : goal.After-pages-1 g) → Inserts g.E.Entry.order (all_entries c.args.pages.now.items) (all_entries (set c.args.pages.now.items c.args.page c.insert.new.self)) (g.E.Entry.order.key c.args.entry) c.args.entry
done g c =
    let p = c.index_mut.result.now in
    let ps = c.args.pages.now.items in
    inserted g.E.Entry.order g.met.E.Entry.total ps (g.E.Entry.order.key c.args.entry) c.args.page c.args.at p c.insert.new.self c.args.entry c.requires.rise c.requires.page c.index_mut.ensures.value
    (c.requires.place p (is_page ps c.args.page p c.requires.page.0 c.index_mut.ensures.value)) refl c.insert.ensures

pub returns-clause-rise : goal.returns-clause-rise
returns-clause-rise g c = (done g c).made.rises

pub returns-clause-none : goal.returns-clause-none
returns-clause-none g c = (done g c).was

pub returns-clause-entries : goal.returns-clause-entries
returns-clause-entries g c = (done g c).made.puts

pub returns-clause-len : goal.returns-clause-len
returns-clause-len g c = (done g c).long
