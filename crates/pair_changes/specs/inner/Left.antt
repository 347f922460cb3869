-- What is left of the entries of a memory, of which the first is read already.
use Rattle.std.specs.Prelude.{◌≡◌, ℕ, [], ◌∷◌, Option, Some, None}
use Rattle.id_memory.specs.Pairs.{Pairs}
use Rattle.pair_changes.specs.declared.left.Left.{Left}

-- the first entry, where one is left, and those behind it
abbrev pub left_from : Option (ℕ × ℕ × ℕ) → Pairs → Pairs
left_from None others = others
left_from (Some e) others = e ∷ others

-- all that are left
abbrev pub all_left : Left → Pairs
all_left left = left_from left.first left.others

-- without a first one there is none behind it
abbrev pub IsRead : Left → Type 0
IsRead left = left.first ≡ None → left.others ≡ []
