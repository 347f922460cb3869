-- The place of a name, as a search from the left finds it.
use Rattle.std.proofs.Common.{◌≡◌, ℕ, ◌<◌, ◌≤◌, Bool, true, List, length, get_or, drop, Some, None, arith, drop-cons}
use Rattle.std.proofs.lemmas.Grind.{common_steps}
use Rattle.std.proofs.lemmas.Iterator.Adapters.{position_from-zero}
use Rattle.std.specs.List.{position_from}
use Rattle.std.specs.Str.{bytes_eq}
use Rattle.expr_lang.specs.Resolved.{place_of}

-- the place is what the search from the front answers
pub place_of-from : (columns : List (List ℕ)) (name : List ℕ) → place_of columns name ≡ position_from (bytes_eq name) 0 columns
unfolding place_of
place_of-from columns name = position_from-zero (bytes_eq name) columns

-- the search ends at an item that passes
pub position_from-here : {X : Type 0} (test : X → Bool) (xs : List X) (at : ℕ) (x : X) → at < length xs → get_or xs at x ≡ x → test x ≡ true → position_from test at (drop at xs) ≡ Some at
position_from-here test xs at x within item passes = rw (drop-cons xs at x within, item, passes)

-- the search fails at the end
pub position_from-end : {X : Type 0} (test : X → Bool) (xs : List X) (at : ℕ) → length xs ≤ at → position_from test at (drop at xs) ≡ None
position_from-end test xs at past = grind (arith, common_steps)
