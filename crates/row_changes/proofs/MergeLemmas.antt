-- Going over two ascending lists in order.
use Rattle.std.specs.Prelude.{nat_lt}
use Rattle.std.proofs.Common.{◌≡◌, ℕ, zero, suc, ◌+◌, ◌<◌, ◌≤◌, ◌==◌, List, [], ◌∷◌, length, drop, get_or, drop-cons, add-one, true, false, ap, sym, ◌∙◌, subst, refl, arith}
use Rattle.std.proofs.lemmas.Bool.Decides.{nat_tests}
use Rattle.row_store.specs.declared.change.Change.{Change}
use Rattle.row_store.specs.Changes.{ChangesRise}
use Rattle.op_law.specs.Identifiers.{put_id}
use Rattle.row_changes.specs.Touched.{touched_in}
use Rattle.op_rows.specs.inner.CellLemmas.{IdsRise, rise_put}

put_low : (x : ℕ) (xs : List ℕ) → IdsRise (x + 1) xs → put_id x xs ≡ x ∷ xs
put_low x [] h = refl
put_low x (y ∷ ys) h = let less : nat_lt x y ≡ true = grind (arith, nat_tests) in rw less refl

put_over : (x y : ℕ) (ys : List ℕ) → y < x → put_id x (y ∷ ys) ≡ y ∷ put_id x ys
put_over x y ys h =
    let a : nat_lt x y ≡ false = grind (arith, nat_tests) in
    let b : (x == y) ≡ false = grind (arith, nat_tests) in
    rw (a, b) refl

put_same : (x y : ℕ) (ys : List ℕ) → x ≡ y → put_id x (y ∷ ys) ≡ y ∷ ys
put_same x y ys h =
    let a : nat_lt x y ≡ false = grind (arith, nat_tests) in
    let b : (x == y) ≡ true = grind (arith, nat_tests) in
    rw (a, b) refl

-- both rise, so what they have together rises
rise_both : (n k : ℕ) (rows : List Change) (ids : List ℕ) → n ≤ k → ChangesRise k rows → IdsRise n ids → IdsRise n (touched_in rows ids)
rise_both n k [] ids h rise all = all
rise_both n k (r ∷ rs) ids h rise all = rise_put n r.id (touched_in rs ids) (omega (arith, rise.0)) (rise_both n (r.id + 1) rs ids (omega (arith, rise.0)) rise.1 all)

-- the first identifier of the list is the least
step_id : (x k : ℕ) (xs : List ℕ) (rows : List Change) → x < k → ChangesRise k rows → touched_in rows (x ∷ xs) ≡ x ∷ touched_in rows xs
step_id x k xs [] e h = refl
step_id x k xs (r ∷ rs) e h =
    ap (λ (ids : List ℕ). put_id r.id ids) (step_id x (r.id + 1) xs rs (omega (arith, h.0)) h.1) ∙ put_over r.id x (touched_in rs xs) (omega (arith, h.0))

-- that of the rows is
step_row : (r : Change) (rs : List Change) (xs : List ℕ) → ChangesRise (r.id + 1) rs → IdsRise (r.id + 1) xs → touched_in (r ∷ rs) xs ≡ r.id ∷ touched_in rs xs
step_row r rs xs h k = put_low r.id (touched_in rs xs) (rise_both (r.id + 1) (r.id + 1) rs xs (omega arith) h k)

-- they are the same
step_both : (r : Change) (rs : List Change) (x : ℕ) (xs : List ℕ) → ChangesRise (r.id + 1) rs → r.id ≡ x → touched_in (r ∷ rs) (x ∷ xs) ≡ r.id ∷ touched_in rs xs
step_both r rs x xs h e =
    ap (λ (ids : List ℕ). put_id r.id ids) (step_id x (r.id + 1) xs rs (omega (arith, e)) h) ∙ put_same r.id x (touched_in rs xs) e ∙ ap (λ (k : ℕ). k ∷ touched_in rs xs) (sym e)

rise_drop : (n i : ℕ) (rows : List Change) → ChangesRise n rows → ChangesRise 0 (drop i rows)
rise_drop n zero [] h = tt
rise_drop n (suc i) [] h = tt
rise_drop n zero (r ∷ rs) h = (omega arith, h.1)
rise_drop n (suc i) (r ∷ rs) h = rise_drop (r.id + 1) i rs h.1

ids_drop : (n i : ℕ) (ids : List ℕ) → IdsRise n ids → IdsRise 0 (drop i ids)
ids_drop n zero [] h = tt
ids_drop n (suc i) [] h = tt
ids_drop n zero (x ∷ xs) h = (omega arith, h.1)
ids_drop n (suc i) (x ∷ xs) h = ids_drop (x + 1) i xs h.1

none_left : (n i : ℕ) (ids : List ℕ) → length ids ≤ i → IdsRise n (drop i ids)
none_left n zero [] h = tt
none_left n (suc i) [] h = tt
none_left n zero (x ∷ xs) h = absurd (omega arith)
none_left n (suc i) (x ∷ xs) h = none_left n i xs (omega arith)

split_at : {A : Type 0} (xs : List A) (i : ℕ) (x : A) → i < length xs → drop i xs ≡ get_or xs i x ∷ drop (i + 1) xs
split_at xs i x h = rw (add-one, drop-cons xs i x)

-- what is left at these places
module _ (ids : List ℕ) (rows : List Change) (i j : ℕ) (r : Change) (rise : IdsRise 0 ids) (rows_rise : ChangesRise 0 rows) where
  rows_tail : j < length rows → ChangesRise 0 (get_or rows j r ∷ drop (j + 1) rows)
  rows_tail h = subst (λ (t : List Change). ChangesRise 0 t) (split_at rows j r h) (rise_drop 0 j rows rows_rise)

  ids_tail : i < length ids → IdsRise 0 (get_or ids i 0 ∷ drop (i + 1) ids)
  ids_tail h = subst (λ (t : List ℕ). IdsRise 0 t) (split_at ids i 0 h) (ids_drop 0 i ids rise)

  next_row : j < length rows → IdsRise ((get_or rows j r).id + 1) (drop i ids) → touched_in (drop j rows) (drop i ids) ≡ (get_or rows j r).id ∷ touched_in (drop (j + 1) rows) (drop i ids)
  next_row h above = ap (λ (t : List Change). touched_in t (drop i ids)) (split_at rows j r h) ∙ step_row (get_or rows j r) (drop (j + 1) rows) (drop i ids) (rows_tail h).1 above

  pub next_end : j < length rows → i ≡ length ids → touched_in (drop j rows) (drop i ids) ≡ (get_or rows j r).id ∷ touched_in (drop (j + 1) rows) (drop i ids)
  next_end h e = next_row h (none_left _ i ids (omega arith))

  pub next_less : j < length rows → i < length ids → (get_or rows j r).id < get_or ids i 0 → touched_in (drop j rows) (drop i ids) ≡ (get_or rows j r).id ∷ touched_in (drop (j + 1) rows) (drop i ids)
  next_less h k less = next_row h (subst (λ (t : List ℕ). IdsRise ((get_or rows j r).id + 1) t) (sym (split_at ids i 0 k)) (omega (arith, less), (ids_tail k).1))

  pub next_same : j < length rows → i < length ids → (get_or rows j r).id ≡ get_or ids i 0 → touched_in (drop j rows) (drop i ids) ≡ (get_or rows j r).id ∷ touched_in (drop (j + 1) rows) (drop (i + 1) ids)
  next_same h k e =
      ap (λ (t : List Change). touched_in t (drop i ids)) (split_at rows j r h) ∙ ap (λ (t : List ℕ). touched_in (get_or rows j r ∷ drop (j + 1) rows) t) (split_at ids i 0 k)
      ∙ step_both (get_or rows j r) (drop (j + 1) rows) (get_or ids i 0) (drop (i + 1) ids) (rows_tail h).1 e

  pub next_more : j < length rows → i < length ids → get_or ids i 0 < (get_or rows j r).id → touched_in (drop j rows) (drop i ids) ≡ get_or ids i 0 ∷ touched_in (drop j rows) (drop (i + 1) ids)
  next_more h k more =
      ap (λ (t : List ℕ). touched_in (drop j rows) t) (split_at ids i 0 k)
      ∙ step_id (get_or ids i 0) (get_or ids i 0 + 1) (drop (i + 1) ids) (drop j rows) (omega arith) (subst (λ (t : List Change). ChangesRise (get_or ids i 0 + 1) t) (sym (split_at rows j r h)) (omega (arith, more), (rows_tail h).1))
