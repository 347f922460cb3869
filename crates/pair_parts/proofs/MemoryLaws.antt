-- Entries of the identifiers that pass.
use Rattle.std.proofs.Common.{◌≡◌, ℕ, ◌+◌, ◌<◌, ◌≤◌, ◌==◌, [], ◌∷◌, Bool, true, false, cond, count_by, None, refl, ap, sym, subst, ◌∙◌, arith}
use Rattle.std.proofs.lemmas.Bool.{eqb-true, false≢true}
use Rattle.std.proofs.lemmas.List.Sums.{sum_by-cons}
use Rattle.id_memory.specs.Pairs.{Pairs, RiseFrom, IsOneToOne, has_pair, pair_of}
use Rattle.op_law.specs.Local.{only}
use Rattle.op_law.specs.Meaning.{PairState}
use Rattle.op_law.specs.Sound.{PairsSound}
use Rattle.op_law.proofs.OnlyLaws.{by_test}
use Rattle.pair_parts.specs.Parts.{IsMemory, memory_only, part_of_pair}

-- one without entries is a memory
pub none_stand : (es : Pairs) → es ≡ [] → IsMemory es
none_stand es none = subst (λ (x : Pairs). IsMemory x) (sym none) (record { rises = tt; one = λ s t. omega arith })

-- an identifier that passes has its pair
pub memory_in : (P : ℕ → Bool) (es : Pairs) (id : ℕ) → P id ≡ true → pair_of (memory_only P es) id ≡ pair_of es id
memory_in P [] id pass = refl
memory_in P (e ∷ es) id pass =
    let rest = memory_in P es id pass in
    by_test (e.0 == id)
    (λ q. let here : P e.0 ≡ true = ap P (eqb-true e.0 id q) ∙ pass in rw here (rw q refl))
    (λ q. by_test (P e.0) (λ u. rw u (rw q rest)) (λ u. rw u (rw q rest)))

-- one that fails has none
pub memory_out : (P : ℕ → Bool) (es : Pairs) (id : ℕ) → P id ≡ false → pair_of (memory_only P es) id ≡ None
memory_out P [] id fail = refl
memory_out P (e ∷ es) id fail =
    let rest = memory_out P es id fail in
    by_test (P e.0)
    (λ u. by_test (e.0 == id)
    (λ q. let bad : P id ≡ true = sym (ap P (eqb-true e.0 id q)) ∙ u in absurd (false≢true (sym fail ∙ bad)))
    (λ q. rw u (rw q rest)))
    (λ u. rw u rest)

rise_more : (n m : ℕ) (es : Pairs) → n ≤ m → RiseFrom m es → RiseFrom n es
rise_more n m [] h rise = tt
rise_more n m (e ∷ es) h rise = (omega (arith, h, rise.0), rise.1)

-- what is left still rises
pub memory_rise : (P : ℕ → Bool) (n : ℕ) (es : Pairs) → RiseFrom n es → RiseFrom n (memory_only P es)
memory_rise P n [] rise = tt
memory_rise P n (e ∷ es) rise =
    by_test (P e.0)
    (λ q. rw q (rise.0, memory_rise P (e.0 + 1) es rise.1))
    (λ q. rw q (memory_rise P n es (rise_more n (e.0 + 1) es (omega (arith, rise.0)) rise.1)))

-- counting one entry more
count_cons : (test : ℕ × ℕ × ℕ → Bool) (e : ℕ × ℕ × ℕ) (es : Pairs) → count_by test (e ∷ es) ≡ cond (test e) 1 0 + count_by test es
count_cons test e es = sum_by-cons (λ x. cond (test x) 1 0) e es

-- there are no more of any entries
fewer : (test : ℕ × ℕ × ℕ → Bool) (P : ℕ → Bool) (es : Pairs) → count_by test (memory_only P es) ≤ count_by test es
fewer test P [] = omega arith
fewer test P (e ∷ es) =
    let rest = fewer test P es in
    let all = count_cons test e es in
    by_test (P e.0)
    (λ q. let some = count_cons test e (memory_only P es) in rw q (omega (arith, some, all, rest)))
    (λ q. rw q (omega (arith, all, rest)))

-- so no pair stands twice
pub memory_one : (P : ℕ → Bool) (es : Pairs) → IsOneToOne es → IsOneToOne (memory_only P es)
memory_one P es one s t = let most = one s t in let few = fewer (has_pair s t) P es in omega (arith, most, few)

-- what may stand may stand restricted
pub memory_sound : (P : ℕ → Bool) (n : ℕ) (es : Pairs) → PairsSound n es → PairsSound n (memory_only P es)
memory_sound P n [] sound = tt
memory_sound P n (e ∷ es) sound = by_test (P e.0) (λ q. rw q (sound.0, memory_sound P n es sound.1)) (λ q. rw q (memory_sound P n es sound.1))

-- tests that agree below the next identifier leave the same
pub memory_same : (P Q : ℕ → Bool) (next : ℕ) (es : Pairs) → ((q : ℕ) → q < next → P q ≡ Q q) → PairsSound next es → memory_only P es ≡ memory_only Q es
memory_same P Q next [] same sound = refl
memory_same P Q next (e ∷ es) same sound =
    let rest = memory_same P Q next es same sound.1 in
    let here = same e.0 sound.0.0.1 in
    by_test (Q e.0)
    (λ q. let own : P e.0 ≡ true = here ∙ q in rw (own, q) (ap (λ (l : Pairs). e ∷ l) rest))
    (λ q. let own : P e.0 ≡ false = here ∙ q in rw (own, q) rest)

-- all are left where all pass
pub memory_all : (es : Pairs) → memory_only (λ q. true) es ≡ es
memory_all [] = refl
memory_all (e ∷ es) = ap (λ (l : Pairs). e ∷ l) (memory_all es)

-- what is left of what more was left of
pub memory_within : (P Q : ℕ → Bool) → ((q : ℕ) → P q ≡ true → Q q ≡ true) → (es : Pairs) → memory_only P (memory_only Q es) ≡ memory_only P es
memory_within P Q more [] = refl
memory_within P Q more (e ∷ es) =
    let rest = memory_within P Q more es in
    by_test (P e.0)
    (λ u. let own = more e.0 u in rw own (rw u (ap (λ (l : Pairs). e ∷ l) rest)))
    (λ u. by_test (Q e.0) (λ v. rw v (rw u rest)) (λ v. rw (v, u) rest))

-- a part without a memory has none either
pub part_without : (P : ℕ → Bool) (p : PairState) → p.memory ≡ [] → record { source = only P p.source; target = only P p.target; memory = p.memory } ≡ part_of_pair P p
part_without P p none = ap (λ (es : Pairs). record { source = only P p.source; target = only P p.target; memory = es }) (none ∙ sym (ap (memory_only P) none))
