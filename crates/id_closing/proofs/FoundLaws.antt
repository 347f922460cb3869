-- Identifiers that are found: with one more, and with none.
use Rattle.std.specs.Prelude.{nat_lt}
use Rattle.std.proofs.Common.{◌≡◌, ℕ, ◌+◌, ◌^◌, ◌<◌, ◌≤◌, ◌==◌, ◌⊎◌, List, [], ◌∷◌, ◌++◌, Bool, true, false, cond, length, length-append, Option, Some, None, refl, ap, sym, ◌∙◌, subst, arith}
use Rattle.std.proofs.lemmas.Bool.{eqb-true, eq-eqb, false≢true}
use Rattle.std.proofs.lemmas.Bool.Decides.{nat_tests}
use mathlib.Core.Logic.{inl, inr}
use Rattle.op_law.specs.Identifiers.{has_id, put_id, IdsRise}
use Rattle.op_law.proofs.IdentifierLaws.{has_put, rise_put}
use Rattle.op_law.proofs.OnlyLaws.{by_test}
use Rattle.id_closing.specs.Found.{added, AreAmong, AreIds, FindsMore, ids_left, Left}

-- one of two tests
pub either : (a b : Bool) → cond a true b ≡ true → (a ≡ true) ⊎ (b ≡ true)
either true b e = inl refl
either false b e = inr e

-- the second test
pub other_test : (a b : Bool) → b ≡ true → cond a true b ≡ true
other_test true b e = refl
other_test false b e = e

-- the identifier that is put is there, and what was there stays
pub put_has : (i : ℕ) (xs : List ℕ) → has_id (put_id i xs) i ≡ true
put_has i xs = let own = eq-eqb i i refl in has_put i xs i ∙ ap (λ (b : Bool). cond b true (has_id xs i)) own

pub put_stays : (i : ℕ) (xs : List ℕ) (q : ℕ) → has_id xs q ≡ true → has_id (put_id i xs) q ≡ true
put_stays i xs q h = has_put i xs q ∙ other_test (i == q) (has_id xs q) h

-- an identifier at the end
pub end_has : (xs : List ℕ) (i : ℕ) → has_id (xs ++ i ∷ []) i ≡ true
end_has [] i = let own = eq-eqb i i refl in rw own refl
end_has (x ∷ xs) i = other_test (x == i) (has_id (xs ++ i ∷ []) i) (end_has xs i)

pub end_stays : (xs : List ℕ) (i q : ℕ) → has_id xs q ≡ true → has_id (xs ++ i ∷ []) q ≡ true
end_stays [] i q h = absurd (false≢true h)
end_stays (x ∷ xs) i q h =
    by_test (x == q) (λ e. rw e refl) (λ e. let rest : has_id xs q ≡ true = rw e at h in rw e (end_stays xs i q rest))

pub end_is : (xs : List ℕ) (i q : ℕ) → has_id (xs ++ i ∷ []) q ≡ true → (has_id xs q ≡ true) ⊎ (i ≡ q)
end_is [] i q h = by_test (i == q) (λ e. inr (eqb-true i q e)) (λ e. let no : false ≡ true = rw e at h in absurd (false≢true no))
end_is (x ∷ xs) i q h =
    by_test (x == q) (λ e. inl (rw e refl)) (λ e. let rest : has_id (xs ++ i ∷ []) q ≡ true = rw e at h in rw e (end_is xs i q rest))

-- how long a list is with one more
pub put_long : (n i : ℕ) (xs : List ℕ) → IdsRise n xs → has_id xs i ≡ false → length (put_id i xs) ≡ length xs + 1
put_long n i [] rise h = refl
put_long n i (x ∷ xs) rise h =
    by_test (nat_lt i x)
    (λ e. rw e (omega arith))
    (λ e.
    by_test (x == i)
    (λ s. let no : true ≡ false = rw s at h in absurd (false≢true (sym no)))
    (λ s.
    let turned : (i == x) ≡ false = grind (arith, nat_tests) in
    let rest : has_id xs i ≡ false = rw s at h in
    let longer = put_long (x + 1) i xs rise.1 rest in
    rw (e, turned) (omega (arith, longer))))

-- ascending identifiers below a bound are no more than it
pub within_bound : (n bound : ℕ) (xs : List ℕ) → IdsRise n xs → n ≤ bound → ((q : ℕ) → has_id xs q ≡ true → q < bound) → n + length xs ≤ bound
within_bound n bound [] rise low h = omega (arith, low)
within_bound n bound (x ∷ xs) rise low h =
    let own = eq-eqb x x refl in
    let under : x < bound = h x (rw own refl) in
    let rest = within_bound (x + 1) bound xs rise.1 (omega (arith, under)) (λ q e. h q (other_test (x == q) (has_id xs q) e)) in
    omega (arith, rest, rise.0)

-- what is to be followed, with one more
pub left_more : (left : Left) (x : ℕ × Option ℕ) → ids_left (left ++ x ∷ []) ≡ ids_left left ++ x.0 ∷ []
left_more [] x = refl
left_more (y ∷ ys) x = ap (λ (xs : List ℕ). y.0 ∷ xs) (left_more ys x)

-- where nothing is found
pub finds_none : (found : List ℕ) (left : Left) → AreIds found → FindsMore found left found left
finds_none found left ids = record { ids = ids; stay = λ q h. h; remain = λ q h. h; others = λ q h. inl h; work = omega arith }

-- the identifiers with one of 64 bits more
put_ids : (id : ℕ) (found : List ℕ) → AreIds found → id < 2 ^ 64 → AreIds (put_id id found)
put_ids id found ids bits = record {
  rise = rise_put 0 id found (omega arith) ids.rise;
  bits = λ q h.
      elim (either (id == q) (has_id found q) (sym (has_put id found q) ∙ h)) [
        | inl e ↦ subst (λ (x : ℕ). x < 2 ^ 64) (eqb-true id q e) bits
        | inr e ↦ ids.bits q e
      ];
}

-- where one is found that wasn't there
pub finds_one : (found : List ℕ) (left : Left) (id : ℕ) (by : Option ℕ) → AreIds found → id < 2 ^ 64 → has_id found id ≡ false → FindsMore found left (put_id id found) (left ++ (id, by) ∷ [])
finds_one found left id by ids bits new =
    let more : ids_left (left ++ (id, by) ∷ []) ≡ ids_left left ++ id ∷ [] = left_more left (id, by) in
    record {
      ids = put_ids id found ids bits;
      stay = λ q h. put_stays id found q h;
      remain = λ q h. rw more (end_stays (ids_left left) id q h);
      others = λ q h.
          elim (either (id == q) (has_id found q) (sym (has_put id found q) ∙ h)) [
            | inl e ↦ inr (rw more (subst (λ (x : ℕ). has_id (ids_left left ++ id ∷ []) x ≡ true) (eqb-true id q e) (end_has (ids_left left) id)))
            | inr e ↦ inl e
          ];
      work =
          let all = put_ids id found ids bits in
          let fits = within_bound 0 (2 ^ 64) (put_id id found) all.rise (omega arith) all.bits in
          let long = put_long 0 id found ids.rise new in
          let behind : length (left ++ (id, by) ∷ []) ≡ length left + 1 = grind (arith, length-append) in
          omega (arith, fits, long, behind);
    }

-- one after another
pub finds_both : (a : List ℕ) (al : Left) (b : List ℕ) (bl : Left) (c : List ℕ) (cl : Left) → FindsMore a al b bl → FindsMore b bl c cl → FindsMore a al c cl
finds_both a al b bl c cl f g = record {
  ids = g.ids;
  stay = λ q h. g.stay q (f.stay q h);
  remain = λ q h. g.remain q (f.remain q h);
  others = λ q h.
      elim (g.others q h) [
        | inl e ↦ elim (f.others q e) [ inl was ↦ inl was | inr now ↦ inr (g.remain q now) ]
        | inr e ↦ inr e
      ];
  work = omega (arith, f.work, g.work);
}

-- with one more, where there is one
pub added_stays : (ids : List ℕ) (o : Option ℕ) → AreAmong ids (added ids o)
added_stays ids None q h = h
added_stays ids (Some i) q h = end_stays ids i q h

pub added_has : (ids : List ℕ) (o : Option ℕ) (g : ℕ) → o ≡ Some g → has_id (added ids o) g ≡ true
added_has ids None g e = absurd (cc)
added_has ids (Some i) g e = let same : i ≡ g = cc in subst (λ (x : ℕ). has_id (ids ++ i ∷ []) x ≡ true) same (end_has ids i)
