-- Places from one on.
use Rattle.std.proofs.Common.{◌≡◌, ℕ, zero, suc, ◌+◌, List, [], ◌∷◌, ◌++◌, length, refl, ap, sym, ◌∙◌, arith}
use Rattle.op_outer_cond.specs.Outerings.{places_from}

-- so many places
pub places_long : (from n : ℕ) → length (places_from from n) ≡ n
unfolding places_from
places_long from zero = refl
places_long from (suc n) = ap suc (places_long (from + 1) n)

-- no place
pub places_none : (from : ℕ) → [] ≡ places_from from 0
unfolding places_from
places_none from = refl

-- one place more behind
places_behind : (from n : ℕ) → places_from from (suc n) ≡ places_from from n ++ (from + n) ∷ []
unfolding places_from
places_behind from zero = ap (λ (k : ℕ). k ∷ []) (omega arith)
places_behind from (suc n) =
    let same : (from + 1) + n ≡ from + suc n = omega arith in
    ap (λ (ps : List ℕ). from ∷ ps) (places_behind (from + 1) n ∙ ap (λ (k : ℕ). places_from (from + 1) n ++ k ∷ []) same)

-- the same of a list that was made
pub places_more : (from n : ℕ) (made new : List ℕ) → made ≡ places_from from n → new ≡ made ++ (from + length made) ∷ [] → new ≡ places_from from (n + 1)
places_more from n made new is pushed =
    let long = ap length is ∙ places_long from n in
    let next : suc n ≡ n + 1 = omega arith in
    pushed ∙ ap (λ (k : ℕ). made ++ (from + k) ∷ []) long ∙ ap (λ (ps : List ℕ). ps ++ (from + n) ∷ []) is ∙ sym (places_behind from n) ∙ ap (places_from from) next
