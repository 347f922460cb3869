use Rattle.std.proofs.Common.{◌++◌, [], ◌∷◌, List, take, ap, sym, ◌∙◌, subst}
use Rattle.std.proofs.lemmas.List.{take_more}
use Rattle.row_store.specs.declared.change.Change.{Change}
use Rattle.fk_closing.specs.Keys.{keys_among}
use Rattle.fk_closing.specs.Looking.{HasLeast}
use Rattle.id_closing.specs.Told.{AllOf, OfNew}
use Rattle.id_closing.proofs.ToldLaws.{all_more, all_then}
use Rattle.fk_closing.proofs.begins.add_all_least.Goals as goal

pub loop-change-preserved : goal.loop-change-preserved
loop-change-preserved g c =
    let inv = c.loop-change.invariant in
    let cs = c.args.changes.now in
    let i = c.loop-change.change-index in
    let d = c.change-item.result in
    let second = (g.P.RowParts.parts c.args.parts.now).second in
    let all = keys_among c.args.among c.args.keys.now in
    let new = c.add_least.new.ids in
    let more = c.in_ok-add_least.ensures.stay in
    let taken = take_more cs i d c.loop-change-test.true ∙ ap (λ (x : Change). take i cs ++ x ∷ []) (sym c.change-item.is) in
    let old = all_then (OfNew (HasLeast second all c.loop-change.ids)) (OfNew (HasLeast second all new)) (take i cs) (λ x has row e to is. more to (has row e to is)) inv.least in
    record {
      least = subst (λ (xs : List Change). AllOf (OfNew (HasLeast second all new)) xs) (sym taken) (all_more (OfNew (HasLeast second all new)) (take i cs) d old c.in_ok-add_least.ensures.least);
      stay = λ q h. more q (inv.stay q h);
    }
