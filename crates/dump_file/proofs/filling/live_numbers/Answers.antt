use Rattle.std.proofs.Common.{◌≤◌, List, ℕ, length, subst, sym, arith}
use Rattle.version_graph.specs.Sets.{Distinct}
use Rattle.dump_file.proofs.NumberLemmas.{all_numbers, numbers_once}
use Rattle.dump_file.proofs.filling.live_numbers.Goals as goal

pub returns-clause-numbers : goal.returns-clause-numbers
returns-clause-numbers c =
    let count = c.live_operators-place-end.ensures.count in
    let over = c.loop-place-test.false in
    let past : length c.args.graph.now.edges ≤ c.loop-place.place = omega (arith, count, over) in
    all_numbers c.args.graph.now.edges c.loop-place.place c.loop-place.made past c.loop-place.invariant

pub returns-clause-once : goal.returns-clause-once
returns-clause-once c =
    let count = c.live_operators-place-end.ensures.count in
    let over = c.loop-place-test.false in
    let past : length c.args.graph.now.edges ≤ c.loop-place.place = omega (arith, count, over) in
    subst (λ (l : List ℕ). Distinct l) (sym (all_numbers c.args.graph.now.edges c.loop-place.place c.loop-place.made past c.loop-place.invariant))
    (numbers_once c.args.graph.now.edges c.live_operators-place-end.ensures.graph.edges)
