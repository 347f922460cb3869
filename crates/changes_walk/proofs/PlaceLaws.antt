-- The crossing at a place of a walk.
use Rattle.std.proofs.Common.{zero, suc, ◌≡◌, ℕ, ◌<◌, ◌≤◌, List, [], ◌∷◌, map, length, get_or, refl, ap, ◌∙◌, arith}
use Rattle.std.proofs.lemmas.List.{length-map}
use Rattle.version_graph.specs.Forest.{Crossing, step_told}
use Rattle.version_graph.specs.declared.parts.Step.{Step}

-- an item of a list that has one at a place
some_item : {X : Type 0} (xs : List X) (i : ℕ) → i < length xs → X
some_item [] i h = absurd (omega arith)
some_item (x ∷ xs) i h = x

get_map : {X Y : Type 0} (f : X → Y) (xs : List X) (i : ℕ) (d : X) (e : Y) → i < length xs → get_or (map f xs) i e ≡ f (get_or xs i d)
get_map f [] i d e h = absurd (omega arith)
get_map f (x ∷ xs) zero d e h = refl
get_map f (x ∷ xs) (suc i) d e h = get_map f xs i d e (omega arith)

-- a step tells of the crossing at its place
pub told_at : {O : Type 0} (steps : List Step) (ps : List (Crossing O)) (i : ℕ) (e : Step) → steps ≡ map step_told ps → i < length steps → (d : Crossing O) × (i < length ps) × (get_or steps i e ≡ step_told (get_or ps i d))
told_at steps ps i e is within =
    let inside : i < length ps = omega (arith, within, ap (λ (l : List Step). length l) is, length-map ps step_told) in
    let d = some_item ps i inside in
    (d, inside, ap (λ (l : List Step). get_or l i e) is ∙ get_map step_told ps i d e inside)

-- where there are no more steps there are no more crossings
pub no_more_told : {O : Type 0} (steps : List Step) (ps : List (Crossing O)) (i : ℕ) → steps ≡ map step_told ps → length steps ≤ i → length ps ≤ i
no_more_told steps ps i is all = omega (arith, all, ap (λ (l : List Step). length l) is, length-map ps step_told)
