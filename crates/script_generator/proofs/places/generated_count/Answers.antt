use Rattle.std.proofs.Common.{◌≡◌, ◌∙◌, ℕ, ap, length, arith}
use Rattle.std.specs.List.{filter}
use Rattle.script_generator.specs.Generated.{below, is_fourth}
use Rattle.script_generator.proofs.PlaceLemmas.{script_length}
use Rattle.script_generator.proofs.places.generated_count.Goals as goal

pub returns : goal.returns
returns c =
    let same : c.from-tasks.result ≡ c.args.n = c.from-tasks.ensures in
    let todos = c.fourths_below-todos.ensures.value ∙ ap (λ (n : ℕ). length (filter is_fourth (below n))) same in
    let count = script_length c.args.n c.fourths_below-todos.result todos in
    omega (arith, same, count)
