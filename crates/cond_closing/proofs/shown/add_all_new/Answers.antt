use Rattle.std.proofs.Common.{◌++◌, [], ◌∷◌, List, take, ap, sym, ◌∙◌, subst}
use Rattle.std.proofs.lemmas.List.{take_more}
use Rattle.row_store.specs.declared.change.Change.{Change}
use Rattle.id_closing.specs.Told.{AllOf, OfNew}
use Rattle.id_closing.proofs.ToldLaws.{all_more, all_then}
use Rattle.cond_closing.specs.Matching.{FindsMatches}
use Rattle.cond_closing.proofs.ShownLemmas.{finds_among}
use Rattle.cond_closing.proofs.shown.add_all_new.Goals as goal

pub loop-change-preserved : goal.loop-change-preserved
loop-change-preserved g c =
    let inv = c.loop-change.invariant in
    let cs = c.args.changes.now in
    let i = c.loop-change.change-index in
    let d = c.change-item.result in
    let j = g.M.Matching.joins c.args.matching.now in
    let knows = g.M.Matching.knows c.args.matching.now in
    let half = c.args.half in
    let ids = c.loop-change.ids in
    let new = c.add_new.new.ids in
    let more = c.in_ok-add_new.ensures.stay in
    let taken = take_more cs i d c.loop-change-test.true ∙ ap (λ (x : Change). take i cs ++ x ∷ []) (sym c.change-item.is) in
    let old = all_then (OfNew (FindsMatches j knows half ids)) (OfNew (FindsMatches j knows half new)) (take i cs) (λ x has row e. finds_among ids new more j knows half row (has row e)) inv.news in
    record {
      news = subst (λ (xs : List Change). AllOf (OfNew (FindsMatches j knows half new)) xs) (sym taken) (all_more (OfNew (FindsMatches j knows half new)) (take i cs) d old c.in_ok-add_new.ensures.new);
      stay = λ q h. more q (inv.stay q h);
    }
