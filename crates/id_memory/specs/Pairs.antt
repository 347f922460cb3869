-- What contracts say of the entries of a memory.
use Rattle.std.specs.Prelude.{◌≡◌, ℕ, ◌+◌, ◌≤◌, ◌==◌, ◌&&◌, Bool, List, [], ◌∷◌, count_by, if◌then◌else◌, Option, Some, None}

-- identifiers p, each with its pair (s, t)
abbrev pub Pairs : Type 0
Pairs = List (ℕ × ℕ × ℕ)

-- the identifiers rise strictly, and begin at n or above
abbrev pub RiseFrom : ℕ → Pairs → Type 0
RiseFrom n [] = Unit {0}
RiseFrom n (e ∷ es) = (n ≤ e.0) × RiseFrom (e.0 + 1) es

-- the pair of an identifier
abbrev pub pair_of : Pairs → ℕ → Option (ℕ × ℕ)
pair_of [] p = None
pair_of (e ∷ es) p = if e.0 == p then Some (e.1, e.2) else pair_of es p

-- whether an entry has this pair
abbrev pub has_pair : ℕ → ℕ → ℕ × ℕ × ℕ → Bool
has_pair s t e = e.1 == s && e.2 == t

-- no pair stands twice
abbrev pub IsOneToOne : Pairs → Type 0
IsOneToOne es = (s t : ℕ) → count_by (has_pair s t) es ≤ 1

-- the identifier of a pair
abbrev pub id_of : Pairs → ℕ → ℕ → Option ℕ
id_of [] s t = None
id_of (e ∷ es) s t = if has_pair s t e then Some e.0 else id_of es s t

-- how many entries have s as their first
abbrev pub with_first : ℕ → Pairs → ℕ
with_first s es = count_by (λ e. e.1 == s) es

-- how many entries have t as their second
abbrev pub with_second : ℕ → Pairs → ℕ
with_second t es = count_by (λ e. e.2 == t) es

-- the memory with this pair, or none, at the identifier: it ascends, and every other identifier has what it had
pub record IsWith (before : Pairs) (p : ℕ) (pair : Option (ℕ × ℕ)) (now : Pairs) : Type 0 where
  pub rises : RiseFrom 0 now
  pub pairs : (q : ℕ) → pair_of now q ≡ (if p == q then pair else pair_of before q)
