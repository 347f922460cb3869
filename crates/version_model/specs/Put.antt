-- Functions of numbers, with other values at some of them.
use Rattle.std.specs.Prelude.{ℕ, ◌==◌, List, [], ◌∷◌, if◌then◌else◌}

-- the function with these values at these numbers, in order; a number that stands twice has the first
abbrev pub put : {A : Type 0} → (ℕ → A) → List ℕ → List A → ℕ → A
put f [] values n = f n
put f (k ∷ ks) [] n = f n
put f (k ∷ ks) (v ∷ vs) n = if n == k then v else put f ks vs n
