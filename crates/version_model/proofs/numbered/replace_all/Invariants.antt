use Rattle.std.proofs.Common.{◌≡◌, ℕ, map, vec_len}
use mathlib.Core.List.{reverse}
use Rattle.version_model.specs.Kept.{value_of, latest_of, renewed}
use Rattle.version_model.proofs.numbered.replace_all.Given as goal

abbrev pub invariant-loop-item : goal.invariant-loop-item
invariant-loop-item g l = record {
  values : (n : ℕ) → renewed (value_of l.items.items n) (latest_of (reverse l.left.items) n) ≡ renewed (value_of l.fn.items.items n) (latest_of l.fn.newer n);
  numbers : map (λ item. item.number) l.items.items ≡ map (λ item. item.number) l.fn.items.items;
}

abbrev pub decreases-loop-item : goal.decreases-loop-item
decreases-loop-item g l = vec_len l.left
