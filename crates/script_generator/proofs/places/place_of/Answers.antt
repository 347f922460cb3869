use Rattle.std.proofs.Common.{◌-◌, arith}
use Rattle.script_generator.proofs.PlaceLemmas.{task_place}
use Rattle.script_generator.proofs.places.place_of.Goals as goal

pub returns-then-at-tasks : goal.returns-then-at-tasks
returns-then-at-tasks c =
    let k = c.args.k in
    task_place c.args.n k (k - 1) (omega arith) (omega (arith, c.from-tasks.ensures))
