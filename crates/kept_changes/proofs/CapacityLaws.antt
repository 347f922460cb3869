-- What can be held without memory: where it is as much, and where it grows.
use Rattle.std.proofs.Common.{◌≡◌, ℕ, zero, suc, ◌+◌, length, List, [], ◌∷◌, slice_index_or, slice_set, refl, ap, sym, subst, arith}
use Rattle.row_store.specs.States.{TableState}
use Rattle.op_law.specs.Tables.{Tables, contents}
use Rattle.kept_changes.specs.Room.{capacities, spares, AreAtLeast}

pub at_least_same : (rs : List ℕ) → AreAtLeast rs rs
at_least_same [] = tt
at_least_same (r ∷ rs) = (omega arith, at_least_same rs)

pub at_least_more : (rs ss us : List ℕ) → AreAtLeast rs ss → AreAtLeast ss us → AreAtLeast rs us
at_least_more [] [] [] h k = tt
at_least_more [] [] (u ∷ us) h k = absurd k
at_least_more [] (s ∷ ss) us h k = absurd h
at_least_more (r ∷ rs) [] us h k = absurd h
at_least_more (r ∷ rs) (s ∷ ss) [] h k = absurd k
at_least_more (r ∷ rs) (s ∷ ss) (u ∷ us) h k = (omega (arith, h.0, k.0), at_least_more rs ss us h.1 k.1)

held_more : (rs ss : List ℕ) (ts : Tables) → AreAtLeast rs ss → AreAtLeast (capacities rs ts) (capacities ss ts)
held_more [] [] ts h = tt
held_more [] (s ∷ ss) ts h = absurd h
held_more (r ∷ rs) [] ts h = absurd h
held_more (r ∷ rs) (s ∷ ss) [] h = tt
held_more (r ∷ rs) (s ∷ ss) (t ∷ ts) h = (omega (arith, h.0), held_more rs ss ts h.1)

-- it grows where the rows stay and the room grows
pub capacities_grown : (rs ss : List ℕ) (ts us : Tables) → us ≡ ts → AreAtLeast rs ss → AreAtLeast (capacities rs ts) (capacities ss us)
capacities_grown rs ss ts us same h = subst (λ (xs : Tables). AreAtLeast (capacities rs ts) (capacities ss xs)) (sym same) (held_more rs ss ts h)

-- it stays with a table that holds as much in the place of one
pub capacities_set : (ts : List TableState) (at : ℕ) (t d : TableState) → t.spare + length t.rows ≡ (slice_index_or ts at d).spare + length (slice_index_or ts at d).rows
    → capacities (spares (slice_set ts at t)) (contents (slice_set ts at t)) ≡ capacities (spares ts) (contents ts)
capacities_set [] at t d e = refl
capacities_set (u ∷ ts) zero t d e = ap (λ (n : ℕ). n ∷ capacities (spares ts) (contents ts)) e
capacities_set (u ∷ ts) (suc at) t d e = ap (λ (ns : List ℕ). (u.spare + length u.rows) ∷ ns) (capacities_set ts at t d e)
