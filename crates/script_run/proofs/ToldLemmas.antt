-- What was taken of the bytes that the source told.
use Rattle.std.proofs.Common.{◌≡◌, ◌<◌, ◌≤◌, ℕ, List, ◌++◌, Option, None, Some, Bool, true, false, inl, inr, sym, ap, ◌∙◌, append-nil, take, length, arith, length-append}
use Rattle.std.specs.Prelude.{nat_le, min}
use Rattle.std.proofs.lemmas.List.{take_all, take-append-le}
use Rattle.std.proofs.lemmas.Bool.{le-leb, lt-leb}
use Rattle.std.proofs.lemmas.Bool.Decides.{leb_tells}
use Rattle.std.specs.Io.KnownBytes.{Consumes, IsAtEnd}
use Rattle.script_run.specs.Statuses.{limit}

some_same : (one other : List ℕ) → Some one ≡ Some other → one ≡ other
some_same one other h = cc

-- what was read to its end is what the source told
pub whole_told : (left left' : Option (List ℕ)) (told bytes : List ℕ) → left ≡ Some told → Consumes left left' bytes → IsAtEnd left' → told ≡ bytes
whole_told None left' told bytes h c e = cc
whole_told (Some b) None told bytes h c e = absurd c
whole_told (Some b) (Some rest) told bytes h c e =
    sym (some_same b told h) ∙ c ∙ ap (λ (l : List ℕ). bytes ++ l) e ∙ append-nil bytes

-- what passes the limit is more than it, and its first bytes are those that the source told
pub above_told : (left left' : Option (List ℕ)) (told taken : List ℕ) → left ≡ Some told → Consumes left left' taken → limit < length taken
    → (limit < length told) × (take limit told ≡ take limit taken)
above_told None left' told taken h c lt = cc
above_told (Some b) None told taken h c lt = absurd c
above_told (Some b) (Some rest) told taken h c lt =
    let same : told ≡ taken ++ rest = sym (some_same b told h) ∙ c in
    (omega (arith, lt, ap length same, length-append taken rest), ap (take limit) same ∙ take-append-le limit taken rest (omega (arith, lt)))

-- of what the source told these bytes count, and it ends behind them where there are no more
abbrev pub CountsAll : List ℕ → List ℕ → Bool → Type 0
CountsAll told bytes ended = (take limit told ≡ bytes) × (nat_le (length told) limit ≡ ended)

-- what was read to its end
pub whole_counts : (left left' : Option (List ℕ)) (told bytes : List ℕ) (ended : Bool) → left ≡ Some told → Consumes left left' bytes → IsAtEnd left' → length bytes ≤ limit → ended ≡ true
    → CountsAll told bytes ended
whole_counts left left' told bytes ended h c e le fixed =
    let same = whole_told left left' told bytes h c e in (
      ap (take limit) same ∙ take_all limit bytes le,
      le-leb (length told) limit (omega (arith, ap length same, le)) ∙ sym fixed,
    )

-- what passes the limit
pub above_counts : (left left' : Option (List ℕ)) (told taken bytes : List ℕ) (ended : Bool) → left ≡ Some told → Consumes left left' taken → limit < length taken → bytes ≡ take limit taken
    → ended ≡ false → CountsAll told bytes ended
above_counts left left' told taken bytes ended h c lt same fixed =
    let a = above_told left left' told taken h c lt in (
      a.1 ∙ sym same,
      lt-leb (length told) limit a.0 ∙ sym fixed,
    )

-- the first bytes, so many where there are as many
pub take_min : (n : ℕ) (xs : List ℕ) (m : ℕ) → m ≡ min (length xs) n → take m xs ≡ take n xs
take_min n xs m h = elim (leb_tells n (length xs)) [
  | inl k ↦ (let same : m ≡ n = omega (arith, h, k.1) in ap (λ (i : ℕ). take i xs) same)
  | inr k ↦ take_all m xs (omega (arith, h, k.1)) ∙ sym (take_all n xs (omega (arith, k.1)))
]
