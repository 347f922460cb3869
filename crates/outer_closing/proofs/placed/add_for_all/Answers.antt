use Rattle.std.proofs.Common.{◌++◌, [], ◌∷◌, List, take, ap, sym, ◌∙◌, subst}
use Rattle.std.proofs.lemmas.List.{take_more}
use Rattle.row_store.specs.declared.change.Change.{Change}
use Rattle.id_closing.specs.Told.{AllOf}
use Rattle.id_closing.proofs.ToldLaws.{all_more, all_then}
use Rattle.outer_closing.specs.Assigned.{FindsChanged}
use Rattle.outer_closing.proofs.FoundLemmas.{changed_among}
use Rattle.outer_closing.proofs.placed.add_for_all.Goals as goal

pub loop-change-preserved : goal.loop-change-preserved
loop-change-preserved c =
    let inv = c.loop-change.invariant in
    let it = c.args.it.now.values.now in
    let replaced = c.args.it.now.replaced.now in
    let cs = c.args.changes.now in
    let i = c.loop-change.change-index in
    let d = c.change-item.result in
    let ids = c.loop-change.ids in
    let new = c.add_for_change.new.ids in
    let more = c.in_ok-add_for_change.ensures.stay in
    let taken = take_more cs i d c.loop-change-test.true ∙ ap (λ (x : Change). take i cs ++ x ∷ []) (sym c.change-item.is) in
    let old = all_then (FindsChanged it replaced ids) (FindsChanged it replaced new) (take i cs) (changed_among ids new more it replaced) inv.found in
    record {
      found = subst (λ (xs : List Change). AllOf (FindsChanged it replaced new) xs) (sym taken) (all_more (FindsChanged it replaced new) (take i cs) d old c.in_ok-add_for_change.ensures.found);
      stay = λ q h. more q (inv.stay q h);
    }
