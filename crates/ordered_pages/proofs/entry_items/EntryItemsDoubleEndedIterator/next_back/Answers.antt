use Rattle.std.proofs.Common.{◌++◌, ◌∙◌, ap, rules, sym}
use Rattle.ordered_pages.specs.inner.Pages.{all_entries}
use Rattle.ordered_pages.proofs.EntryItemLemmas.{last_holds, last_entry, no_entries, shorter, some_entry}
use Rattle.ordered_pages.proofs.entry_items.EntryItemsDoubleEndedIterator.next_back.Goals as goal

pub returns-in_err-last-clause-steps : goal.returns-in_err-last-clause-steps
returns-in_err-last-clause-steps g c =
    let page = c.in-Some-split_last.page.now in
    let held = last_holds c.self.inside.pages.now c.in-Some-split_last.before.now page c.in-Some-split_last.ensures.cases.0 c.self.invariant in
    absurd (some_entry page c.as_slice.result.now c.as_slice.ensures c.in_err-last.ensures.cases held.1)

pub invariant_of-self-in-Some-split_last : goal.invariant_of-self-in-Some-split_last
invariant_of-self-in-Some-split_last g c =
    (last_holds c.self.inside.pages.now c.in-Some-split_last.before.now c.in-Some-split_last.page.now c.in-Some-split_last.ensures.cases.0 c.self.invariant).0

pub returns-in-Some-split_last-clause-steps : goal.returns-in-Some-split_last-clause-steps
returns-in-Some-split_last-clause-steps g c =
    let front = c.self.inside.front.now in
    let pages = c.self.inside.pages.now in
    sym c.self.view_is
    ∙ ap (λ back. front ++ (all_entries pages ++ back)) (no_entries c.self.inside.back.now c.in_default.ensures.cases)
    ∙ last_entry front c.in-Some-split_last.page.now c.in_ok-last.others.now pages c.in-Some-split_last.before.now c.in_ok-last.last.now
    c.in-Some-split_last.ensures.cases.0 (sym c.as_slice.ensures ∙ c.in_ok-last.ensures.cases.0)

pub returns-in-Some-split_last-clause-goes : goal.returns-in-Some-split_last-clause-goes
returns-in-Some-split_last-clause-goes g c =
    let fewer = shorter c.args.self.now _ c.in_ok-last.last.now (returns-in-Some-split_last-clause-steps g c) in
    search rules
