-- What inner calls suppose and ensure.
use Rattle.std.specs.Prelude.{◌≡◌, ℕ, ◌<◌, Bool, true, false, List, [], ◌∷◌, length, slice_index_or, Some}
use Rattle.std.specs.Borrow.{Bor}
use Rattle.json.specs.Find.{get_member as find_member}
use Rattle.json.specs.Token.{Token}
use Rattle.json.specs.Value.{members_view as tree_members, value_view}
use Rattle.json.specs.declared.value.Value.{Value}

-- the last member of the key stands at the place
pub record IsPlaceOf {A : Type 0} (key : List ℕ) (place : ℕ) (members : List (Bor (List ℕ) × Value A)) : Type 0 where
  pub entry : Bor (List ℕ) × Value A
  pub within : place < length members
  pub here : (d : Bor (List ℕ) × Value A) → slice_index_or members place d ≡ entry
  pub named : entry.0.now ≡ key
  pub value : find_member key (tree_members members) ≡ Some (value_view entry.1)

-- no token is left
abbrev pub is_end : List Token → Bool
is_end [] = true
is_end (t ∷ ts) = false
