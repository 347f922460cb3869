-- Numbers that are the same, and entries that are counted.
use Rattle.std.proofs.Common.{◌≡◌, ℕ, ◌+◌, ◌∷◌, Bool, cond, count_by}
use Rattle.std.proofs.lemmas.List.Sums.{sum_by-cons}
use Rattle.id_memory.specs.Pairs.{Pairs}

-- counting one entry more
pub count_cons : (p : ℕ × ℕ × ℕ → Bool) (e : ℕ × ℕ × ℕ) (es : Pairs) → count_by p (e ∷ es) ≡ cond (p e) 1 0 + count_by p es
count_cons p e es = sum_by-cons (λ e. cond (p e) 1 0) e es
