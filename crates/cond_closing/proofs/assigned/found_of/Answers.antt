use Rattle.std.proofs.Common.{List, subst, ◌∙◌}
use Rattle.par_base.specs.declared.value.Value.{Value}
use Rattle.key_index.specs.Found.{IsLeastFrom}
use Rattle.cond_closing.proofs.BackwardLemmas.{found_least, found_own}
use Rattle.cond_closing.proofs.assigned.found_of.Goals as goal

pub returns-in-Some : goal.returns-in-Some
returns-in-Some c rows a are found =
    found_own c.args.places.now c.args.old.now c.args.half c.args.row.now c.args.keys.now.rows c.in_ok-mine.mine c.in-Some.id c.in-Some.is (c.in_ok-mine.ensures c.args.row.now c.in_ok-values.ensures) rows a are found

pub returns : goal.returns
returns c rows a are found =
    let least = subst (λ (key : List Value). IsLeastFrom c.args.keys.now.rows key 0 c.least_with.result) (c.as_slice.ensures ∙ c.in_ok-values.ensures) c.least_with.ensures in
    found_least c.args.places.now c.args.old.now c.args.half c.args.row.now c.args.keys.now.rows c.in_ok-mine.mine c.in-None.is (c.in_ok-mine.ensures c.args.row.now c.in_ok-values.ensures) c.get.ensures.rise c.least_with.result least rows a are found
