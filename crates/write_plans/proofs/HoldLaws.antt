-- What databases hold: as much, or at least as much.
use Rattle.std.proofs.Common.{ℕ, List, sym, subst, arith}
use Rattle.db_state.specs.declared.parts.Parts.{Parts}
use Rattle.kept_changes.specs.Room.{capacities_at, AreAtLeast}
use Rattle.kept_changes.proofs.CapacityLaws.{at_least_more, at_least_same}
use Rattle.write_plans.specs.Capacity.{HoldsAsMuch, HoldsAtLeast}

module _ {O : Type 0} where
  pub holds_self : (d : Parts O) → HoldsAtLeast d d
  holds_self d = record { stored = λ n. omega arith; aux = λ n. at_least_same (capacities_at d.aux n); memory = λ n. omega arith }

  pub holds_enough : (old new : Parts O) → HoldsAsMuch old new → HoldsAtLeast old new
  holds_enough old new much = record {
    stored = λ n. omega (arith, much.stored n);
    aux = λ n. subst (λ (ns : List ℕ). AreAtLeast (capacities_at old.aux n) ns) (sym (much.aux n)) (at_least_same (capacities_at old.aux n));
    memory = λ n. omega (arith, much.memory n);
  }

  pub holds_more : (old mid new : Parts O) → HoldsAtLeast old mid → HoldsAtLeast mid new → HoldsAtLeast old new
  holds_more old mid new first second = record {
    stored = λ n. omega (arith, first.stored n, second.stored n);
    aux = λ n. at_least_more (capacities_at old.aux n) (capacities_at mid.aux n) (capacities_at new.aux n) (first.aux n) (second.aux n);
    memory = λ n. omega (arith, first.memory n, second.memory n);
  }
