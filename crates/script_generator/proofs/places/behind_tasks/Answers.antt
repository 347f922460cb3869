use Rattle.std.proofs.Common.{◌-◌, ◌∙◌, sym, arith}
use Rattle.script_generator.proofs.PlaceLemmas.{counted_fourths, todo_place, ending_place}
use Rattle.script_generator.proofs.places.behind_tasks.Goals as goal

pub returns-then-at-todos : goal.returns-then-at-todos
returns-then-at-todos c =
    let n = c.args.tasks in
    let at = c.args.at in
    let m = c.fourths_below-todos.result in
    let count = c.fourths_below-todos.ensures.value ∙ counted_fourths n in
    sym (todo_place n m (omega (arith, count)) (omega (arith, count)) at (at - 3) (omega arith) (omega arith))

pub returns-else-at-todos : goal.returns-else-at-todos
returns-else-at-todos c =
    let n = c.args.tasks in
    let at = c.args.at in
    let m = c.fourths_below-todos.result in
    let count = c.fourths_below-todos.ensures.value ∙ counted_fourths n in
    sym (ending_place n m (omega (arith, count)) (omega (arith, count)) at (at - 3 - m) (omega arith))
