-- What a `List` ends as, where a `&mut` to one of its items was handed out.
use Rattle.std.specs.Prelude.{ℕ, Option, List, slice_set}
use Rattle.std.specs.Borrow.{LendsIf, Fml, RattleType, MutBor}
use Rattle.par_base.specs.contracts.list.List.{the_row}

module _ (T : RattleType) (v : MutBor (List T.Denot)) where
  -- once the loan ends, the place has the last value that was written through it; at `None` the list stays
  abbrev pub lends_item : ℕ → Option (MutBor T.Denot) → Fml
  lends_item i r = LendsIf (the_row T) T v r (λ w. slice_set v.now i w) v.now
