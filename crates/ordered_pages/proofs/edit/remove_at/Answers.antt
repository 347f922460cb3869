use Rattle.std.proofs.Common.{set}
use Rattle.ordered_pages.specs.inner.Pages.{all_entries}
use Rattle.ordered_pages.proofs.EditLemmas.{Removes, removed, is_page}
use Rattle.ordered_pages.proofs.edit.remove_at.Goals as goal

done : (g : _) (c : goal.After-pages-1 g) → Removes g.E.Entry.order (all_entries c.args.pages.now.items) (all_entries (set c.args.pages.now.items c.args.page c.remove.new.self)) (g.P.Probe.key c.args.probe.now) c.remove.result
done g c =
    let p = c.index_mut.result.now in
    let ps = c.args.pages.now.items in
    removed g.E.Entry.order g.met.E.Entry.total ps (g.P.Probe.key c.args.probe.now) c.args.page c.args.at p c.remove.new.self c.remove.result c.requires.rise c.requires.within c.index_mut.ensures.value
    (c.requires.place p (is_page ps c.args.page p c.requires.within c.index_mut.ensures.value)) c.remove.ensures.entries c.remove.ensures.value

pub returns-clause-rise : goal.returns-clause-rise
returns-clause-rise g c = (done g c).made.rises

pub returns-clause-value : goal.returns-clause-value
returns-clause-value g c = (done g c).was

pub returns-clause-entries : goal.returns-clause-entries
returns-clause-entries g c = (done g c).made.puts

pub returns-clause-len : goal.returns-clause-len
returns-clause-len g c = (done g c).long
