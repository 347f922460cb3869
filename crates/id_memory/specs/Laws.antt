-- Laws of memories.
use Rattle.std.specs.Prelude.{◌≡◌, ℕ, ◌↔◌, Some}
use Rattle.id_memory.specs.Pairs.{Pairs, RiseFrom, IsOneToOne, pair_of, id_of}

-- two memories that ascend and have the same pair at each identifier are equal
abbrev pub OneMemoryHasThem : Type 0
OneMemoryHasThem = (first second : Pairs) → RiseFrom 0 first → RiseFrom 0 second → ((p : ℕ) → pair_of first p ≡ pair_of second p) → first ≡ second

-- a pair has an identifier exactly where the identifier has the pair
abbrev pub OtherWay : Type 0
OtherWay = (entries : Pairs) → RiseFrom 0 entries → IsOneToOne entries → (p s t : ℕ) → (id_of entries s t ≡ Some p) ↔ (pair_of entries p ≡ Some (s, t))
