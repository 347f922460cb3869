-- How entries are ordered.
use Rattle.std.specs.Prelude.{◌≡◌}
use Rattle.std.specs.Cmp.{IsTotalOrder}
use Rattle.std.specs.declared.cmp.Ordering.{Ordering}
use Rattle.std.specs.declared.cmp.Ordering.TheVariants.{Equal}

-- the key of each entry, and how two keys stand to each other
pub record Order (E K : Type 0) : Type 0 where
  pub key : E → K
  pub cmp : K → K → Ordering

-- the keys are in a total order, in which no key but itself equals one
pub record IsTotal {E K : Type 0} (order : Order E K) : Type 0 where
  pub total : IsTotalOrder order.cmp
  pub same : (a b : K) → order.cmp a b ≡ Equal → a ≡ b
