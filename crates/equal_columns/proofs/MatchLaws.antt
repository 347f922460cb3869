-- A pair of which the condition doesn't hold isn't shown anew.
use Rattle.std.proofs.Common.{◌≡◌, ℕ, List, Bool, true, false, ◌&&◌, ◌||◌, not, Some, is_some, refl}
use Rattle.par_base.specs.declared.value.Value.{Value}
use Rattle.row_store.specs.Rows.{Rows, row_of}
use Rattle.id_memory.specs.Pairs.{Pairs}
use Rattle.equal_columns.specs.Keyed.{PassesMatches}
use Rattle.pair_rows.specs.Shown.{Joining, has, is_deleted, is_shown, matches}

-- neither is it new where it is in the memory nor where it isn't
never_new : (had matched deleted : Bool) → (((had && not matched) || (false && not deleted)) && not had) ≡ false
never_new false matched deleted = refl
never_new true true deleted = refl
never_new true false deleted = refl

-- so a test of pairs that are shown and weren't in the memory passes only matching ones
pub shown_match : (j : Joining) (s t : Rows) (m : Pairs) (ns nt : Rows) (row : List Value) (a : ℕ) → row_of ns a ≡ Some row
    → PassesMatches j j.condition nt row a (λ x. is_shown j s t m ns nt x.0 x.1 && not (has m x.0 x.1))
shown_match j s t m ns nt row a first b other second fails =
    rw (first, second, fails) (never_new (has m a b) (matches j s t a b) (is_deleted j s t m a b))
