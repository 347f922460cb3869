-- Identifiers that are found, and those of them that are still to be followed.
use Rattle.std.specs.Prelude.{◌≡◌, ◌⊎◌, ℕ, ◌+◌, ◌-◌, ◌*◌, ◌^◌, ◌<◌, ◌≤◌, true, List, [], ◌∷◌, ◌++◌, length, map, Option, Some, None}
use Rattle.op_law.specs.Identifiers.{has_id, IdsRise}

-- each of these is one of those
abbrev pub AreAmong : List ℕ → List ℕ → Type 0
AreAmong some all = (q : ℕ) → has_id some q ≡ true → has_id all q ≡ true

-- identifiers, each once, of 64 bits
pub record AreIds (ids : List ℕ) : Type 0 where
  pub rise : IdsRise 0 ids
  pub bits : (q : ℕ) → has_id ids q ≡ true → q < 2 ^ 64

-- those that are to be followed, each with the one that brought it, where one did
abbrev pub Left : Type 0
Left = List (ℕ × Option ℕ)

abbrev pub ids_left : Left → List ℕ
ids_left left = map (λ x. x.0) left

-- how long it may go on: each identifier is found once, and followed once
abbrev pub work_left : List ℕ → Left → ℕ
work_left found left = length left + 2 * (2 ^ 64 - length found)

-- others were found, which are to be followed
pub record FindsMore (found : List ℕ) (left : Left) (now : List ℕ) (now_left : Left) : Type 0 where
  pub ids : AreIds now
  pub stay : AreAmong found now
  pub remain : AreAmong (ids_left left) (ids_left now_left)
  pub others : (q : ℕ) → has_id now q ≡ true → (has_id found q ≡ true) ⊎ (has_id (ids_left now_left) q ≡ true)
  pub work : work_left now now_left ≤ work_left found left

-- with one more at the end, where there is one
abbrev pub added : List ℕ → Option ℕ → List ℕ
added ids None = ids
added ids (Some id) = ids ++ id ∷ []
