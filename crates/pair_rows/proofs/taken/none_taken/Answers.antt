use Rattle.std.proofs.Common.{ℕ, List, sym, ap, ◌∙◌}
use Rattle.pair_rows.specs.Shown.{has}
use Rattle.pair_rows.proofs.taken.none_taken.Goals as goal

pub returns-clause-knows : goal.returns-clause-knows
returns-clause-knows c a b = c.new-2.ensures a b ∙ ap (λ (entries : List (ℕ × ℕ × ℕ)). has entries a b) (sym c.new.ensures)
