-- One entry for each operator, from the lines of a dump.
use Rattle.std.specs.Prelude.{ℕ, Bool, false, ◌==◌, List, [], ◌∷◌, Option, Some, None, option_map, option_and_then, if◌then◌else◌}

-- the value of the first line, where it stands under this number
abbrev pub front : {V : Type 0} → ℕ → List (ℕ × V) → Option V
front n [] = None
front n (l ∷ ls) = if n == l.0 then Some l.1 else None

-- the lines without it
abbrev pub behind : {V : Type 0} → ℕ → List (ℕ × V) → List (ℕ × V)
behind n [] = []
behind n (l ∷ ls) = if n == l.0 then ls else l ∷ ls

-- whether the first line stands under this number
abbrev pub comes : {V : Type 0} → ℕ → List (ℕ × V) → Bool
comes n [] = false
comes n (l ∷ ls) = n == l.0

-- the value of an operator: that of its line, which must be told, or else the empty one, which mustn't be
abbrev pub own_value : {V : Type 0} → (ℕ × V → Bool) → V → ℕ → Option V → Option V
own_value told empty n None = if told (n, empty) then None else Some empty
own_value told empty n (Some v) = if told (n, v) then Some v else None

-- no entries, where no line is left over
abbrev pub none_over : {V : Type 0} → List (ℕ × V) → Option (List (ℕ × V))
none_over [] = Some []
none_over (l ∷ ls) = None

-- an entry for each of these operators in their order, where each takes its line and none is left over
abbrev pub filled : {V : Type 0} → (ℕ × V → Bool) → V → List ℕ → List (ℕ × V) → Option (List (ℕ × V))
filled told empty [] lines = none_over lines
filled told empty (n ∷ ns) lines = option_and_then (λ v. option_map (λ rest. (n, v) ∷ rest) (filled told empty ns (behind n lines))) (own_value told empty n (front n lines))
