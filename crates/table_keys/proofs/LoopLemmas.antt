-- The changes that a loop goes over.
use Rattle.std.proofs.Common.{ℕ, zero, suc, ◌+◌, ◌<◌, List, [], ◌∷◌, take, get_or, length, arith}
use Rattle.row_store.specs.declared.change.Change.{Change}
use Rattle.row_store.specs.Changes.{ChangesRise, IsAbove}

-- a change is above those before it
pub above_taken : (n : ℕ) (cs : List Change) (i : ℕ) (d : Change) → ChangesRise n cs → i < length cs → IsAbove (take i cs) (get_or cs i d).id
above_taken n [] i d rise h = absurd (omega arith)
above_taken n (c ∷ cs) zero d rise h = tt
above_taken n (c ∷ []) (suc i) d rise h = absurd (omega arith)
above_taken n (c ∷ e ∷ cs) (suc zero) d rise h = omega (arith, rise.1.0)
above_taken n (c ∷ e ∷ cs) (suc (suc i)) d rise h = above_taken (c.id + 1) (e ∷ cs) (suc i) d rise.1 (omega arith)
