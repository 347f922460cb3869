use Rattle.std.proofs.Common.{rules, ◌≡◌, List, ap, ◌∙◌, subst}
use Rattle.par_base.specs.declared.value.Value.{Value}
use Rattle.fk_closing.specs.Keys.{keys_among}
use Rattle.key_index.specs.Found.{IsLeastFrom}
use Rattle.id_closing.proofs.FoundLaws.{added_has, added_stays}
use Rattle.fk_closing.proofs.LookLemmas.{least_one}
use Rattle.fk_closing.proofs.begins.add_least.Goals as goal

pub returns-in_ok-add_some-clause-least : goal.returns-in_ok-add_some-clause-least
returns-in_ok-add_some-clause-least g c row is to least =
    let same : c.in-Some.row ≡ row = search rules in
    let all = keys_among c.args.among c.args.keys.now in
    let second = (g.P.RowParts.parts c.args.parts.now).second in
    let part = c.as_slice.ensures ∙ c.in_ok-part.ensures ∙ ap second same in
    let found = subst (λ (b : List Value). IsLeastFrom all b 0 c.least_row.result) part c.least_row.ensures in
    rw c.in_ok-add_some.ensures (added_has c.args.ids.now c.least_row.result to (least_one all (second row) 0 c.least_row.result to found least))

pub returns-in_ok-add_some-clause-stay : goal.returns-in_ok-add_some-clause-stay
returns-in_ok-add_some-clause-stay g c = rw c.in_ok-add_some.ensures (added_stays c.args.ids.now c.least_row.result)
