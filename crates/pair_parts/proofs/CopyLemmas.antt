-- The part of a memory with one entry more.
use Rattle.std.proofs.Common.{◌≡◌, ℕ, zero, suc, ◌+◌, ◌<◌, ◌≤◌, ◌==◌, List, [], ◌∷◌, Bool, true, false, cond, length, take, get_or, Option, Some, None, refl, ap, sym, ◌∙◌, arith}
use Rattle.std.proofs.lemmas.Bool.{false≢true, eqb-true}
use Rattle.id_memory.specs.Laws.{OneMemoryHasThem, OtherWay}
use Rattle.id_memory.specs.Pairs.{Pairs, RiseFrom, IsOneToOne, IsWith, id_of, pair_of}
use Rattle.op_law.specs.Identifiers.{IdsRise, has_id}
use Rattle.op_law.proofs.OnlyLaws.{by_test}
use Rattle.pair_parts.specs.Parts.{memory_only}
use Rattle.pair_parts.proofs.MemoryLaws.{memory_in, memory_one, memory_out, memory_rise}

-- a test or one before it
swap : (a b c : Bool) → cond a true (cond b true c) ≡ cond b true (cond a true c)
swap true true c = refl
swap true false c = refl
swap false true c = refl
swap false false c = refl

-- one identifier more is listed
pub has_next : (ids : List ℕ) (i d q : ℕ) → i < length ids → has_id (take (i + 1) ids) q ≡ cond (get_or ids i d == q) true (has_id (take i ids) q)
has_next [] i d q h = absurd (omega arith)
has_next (x ∷ xs) zero d q h = refl
has_next (x ∷ xs) (suc i) d q h =
    let e : suc i + 1 ≡ suc (i + 1) = omega arith in
    rw e (ap (λ (b : Bool). cond (x == q) true b) (has_next xs i d q (omega arith)) ∙ swap (x == q) (get_or xs i d == q) (has_id (take i xs) q))

-- it isn't below the least
least_of : (n : ℕ) (ids : List ℕ) (i d : ℕ) → IdsRise n ids → i < length ids → n ≤ get_or ids i d
least_of n [] i d rise h = absurd (omega arith)
least_of n (x ∷ xs) zero d rise h = rise.0
least_of n (x ∷ xs) (suc i) d rise h = omega (arith, rise.0, least_of (x + 1) xs i d rise.1 (omega arith))

-- nor is it listed before
pub not_before : (n : ℕ) (ids : List ℕ) (i d : ℕ) → IdsRise n ids → i < length ids → has_id (take i ids) (get_or ids i d) ≡ false
not_before n [] i d rise h = absurd (omega arith)
not_before n (x ∷ xs) zero d rise h = refl
not_before n (x ∷ xs) (suc i) d rise h =
    let low = least_of (x + 1) xs i d rise.1 (omega arith) in
    let other : (x == get_or xs i d) ≡ false = by_test (x == get_or xs i d) (λ e. let same = eqb-true x (get_or xs i d) e in absurd (omega (arith, same, low))) (λ e. e) in
    rw other (not_before (x + 1) xs i d rise.1 (omega arith))

-- with the entry of one identifier more, which wasn't in it, the part is that of a wider test
pub part_with : OneMemoryHasThem → (m : Pairs) → RiseFrom 0 m → (P Q : ℕ → Bool) (id : ℕ) → P id ≡ false → ((q : ℕ) → Q q ≡ cond (id == q) true (P q)) → (now : Pairs) → IsWith (memory_only P m) id (pair_of m id) now → now ≡ memory_only Q m
part_with one m rise P Q id out more now with =
    one now (memory_only Q m) with.rises (memory_rise Q 0 m rise)
    (λ q. with.pairs q ∙ by_test (id == q)
    (λ e. let own : Q q ≡ true = more q ∙ ap (λ (b : Bool). cond b true (P q)) e in rw e (ap (pair_of m) (eqb-true id q e) ∙ sym (memory_in Q m q own)))
    (λ e.
    let alike : Q q ≡ P q = more q ∙ ap (λ (b : Bool). cond b true (P q)) e in
    rw e (by_test (P q)
    (λ u. memory_in P m q u ∙ sym (memory_in Q m q (alike ∙ u)))
    (λ u. memory_out P m q u ∙ sym (memory_out Q m q (alike ∙ u))))))

-- where the identifier has none, nothing is put
pub part_still : (m : Pairs) → RiseFrom 0 m → (P : ℕ → Bool) (id : ℕ) → P id ≡ false → pair_of m id ≡ None → IsWith (memory_only P m) id (pair_of m id) (memory_only P m)
part_still m rise P id out none = record {
  rises = memory_rise P 0 m rise;
  pairs = λ q. by_test (id == q)
      (λ e. rw e (memory_out P m q (sym (ap P (eqb-true id q e)) ∙ out) ∙ sym none))
      (λ e. rw e refl);
}

by_option : {A B : Type 0} (o : Option A) → (o ≡ None → B) → ((x : A) → o ≡ Some x → B) → B
by_option None f g = f refl
by_option (Some x) f g = g x refl

-- its pair isn't in the part
pub new_pair : OtherWay → (m : Pairs) → RiseFrom 0 m → IsOneToOne m → (P : ℕ → Bool) (id s t : ℕ) → P id ≡ false → pair_of m id ≡ Some (s, t) → id_of (memory_only P m) s t ≡ None
new_pair other m rise one P id s t out at =
    let small = memory_only P m in
    by_option (id_of small s t)
    (λ none. none)
    (λ p found.
    let there : pair_of small p ≡ Some (s, t) = (other small (memory_rise P 0 m rise) (memory_one P m one) p s t).0 found in
    by_test (P p)
    (λ u.
    let whole : pair_of m p ≡ Some (s, t) = sym (memory_in P m p u) ∙ there in
    let first : id_of m s t ≡ Some p = (other m rise one p s t).1 whole in
    let second : id_of m s t ≡ Some id = (other m rise one id s t).1 at in
    let same : Some p ≡ Some id = sym first ∙ second in
    let is : p ≡ id = cc in
    absurd (false≢true (sym out ∙ sym (ap P is) ∙ u)))
    (λ u. let none : None ≡ Some (s, t) = sym (memory_out P m p u) ∙ there in absurd (cc)))

-- nothing passes before the first
pub part_none : (m : Pairs) → memory_only (has_id []) m ≡ []
part_none [] = refl
part_none (e ∷ es) = part_none es
