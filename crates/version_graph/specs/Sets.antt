-- Lists as sets.
use Rattle.std.specs.Prelude.{◌≡◌, ◌⊎◌, List, [], ◌∷◌}

abbrev pub In : {X : Type 0} → X → List X → Type 0
In x [] = ⊥
In x (y ∷ ys) = (x ≡ y) ⊎ In x ys

-- nothing is in both
abbrev pub Apart : {X : Type 0} → List X → List X → Type 0
Apart {X} xs ys = (x : X) → In x xs → In x ys → ⊥

-- nothing stands twice
abbrev pub Distinct : {X : Type 0} → List X → Type 0
Distinct [] = Unit {0}
Distinct (x ∷ xs) = (In x xs → ⊥) × Distinct xs

abbrev pub Within : {X : Type 0} → List X → List X → Type 0
Within {X} xs ys = (x : X) → In x xs → In x ys

abbrev pub Each : {X : Type 0} → (X → Type 0) → List X → Type 0
Each P [] = Unit {0}
Each P (x ∷ xs) = P x × Each P xs
