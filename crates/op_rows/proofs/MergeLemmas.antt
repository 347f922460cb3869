-- Going over an ascending list and the rows of a table in order.
use Rattle.std.specs.Prelude.{nat_lt}
use Rattle.std.proofs.Common.{◌≡◌, ℕ, zero, suc, ◌+◌, ◌<◌, ◌≤◌, ◌==◌, List, [], ◌∷◌, ◌++◌, length, drop, get_or, drop-cons, add-one, true, false, ap, sym, ◌∙◌, subst, refl, arith}
use Rattle.std.proofs.lemmas.Bool.Decides.{nat_tests}
use Rattle.par_base.specs.declared.value.Value.{Value}
use Rattle.row_store.specs.Rows.{Rows, RiseFrom}
use Rattle.op_law.specs.Identifiers.{put_id, ids_in}
use Rattle.op_rows.specs.inner.CellLemmas.{IdsRise, rise_put}
use Rattle.op_rows.specs.inner.Merging.{AddsBelow, AddsRow, IsBehind}

put_low : (x : ℕ) (xs : List ℕ) → IdsRise (x + 1) xs → put_id x xs ≡ x ∷ xs
put_low x [] h = refl
put_low x (y ∷ ys) h = let less : nat_lt x y ≡ true = grind (arith, nat_tests) in rw less refl

put_over : (x y : ℕ) (ys : List ℕ) → y < x → put_id x (y ∷ ys) ≡ y ∷ put_id x ys
put_over x y ys h =
    let a : nat_lt x y ≡ false = grind (arith, nat_tests) in
    let b : (x == y) ≡ false = grind (arith, nat_tests) in
    rw (a, b) refl

put_same : (x y : ℕ) (ys : List ℕ) → x ≡ y → put_id x (y ∷ ys) ≡ y ∷ ys
put_same x y ys h =
    let a : nat_lt x y ≡ false = grind (arith, nat_tests) in
    let b : (x == y) ≡ true = grind (arith, nat_tests) in
    rw (a, b) refl

-- both rise, so what they have together rises
rise_both : (n k : ℕ) (rows : Rows) (ids : List ℕ) → n ≤ k → RiseFrom k rows → IdsRise n ids → IdsRise n (ids_in rows ids)
rise_both n k [] ids h rise all = all
rise_both n k (r ∷ rs) ids h rise all = rise_put n r.0 (ids_in rs ids) (omega (arith, rise.0)) (rise_both n (r.0 + 1) rs ids (omega (arith, rise.0)) rise.1 all)

-- the first identifier of the list is the least
step_id : (x k : ℕ) (xs : List ℕ) (rows : Rows) → x < k → RiseFrom k rows → ids_in rows (x ∷ xs) ≡ x ∷ ids_in rows xs
step_id x k xs [] e h = refl
step_id x k xs (r ∷ rs) e h =
    ap (λ (ids : List ℕ). put_id r.0 ids) (step_id x (r.0 + 1) xs rs (omega (arith, h.0)) h.1) ∙ put_over r.0 x (ids_in rs xs) (omega (arith, h.0))

ids_drop : (n i : ℕ) (ids : List ℕ) → IdsRise n ids → IdsRise 0 (drop i ids)
ids_drop n zero [] h = tt
ids_drop n (suc i) [] h = tt
ids_drop n zero (x ∷ xs) h = (omega arith, h.1)
ids_drop n (suc i) (x ∷ xs) h = ids_drop (x + 1) i xs h.1

none_left : (n i : ℕ) (ids : List ℕ) → length ids ≤ i → IdsRise n (drop i ids)
none_left n zero [] h = tt
none_left n (suc i) [] h = tt
none_left n zero (x ∷ xs) h = absurd (omega arith)
none_left n (suc i) (x ∷ xs) h = none_left n i xs (omega arith)

split_at : {A : Type 0} (xs : List A) (i : ℕ) (x : A) → i < length xs → drop i xs ≡ get_or xs i x ∷ drop (i + 1) xs
split_at xs i x h = rw (add-one, drop-cons xs i x)

append_one : (all rest : List ℕ) (x : ℕ) → all ++ x ∷ rest ≡ (all ++ x ∷ []) ++ rest
append_one [] rest x = refl
append_one (y ∷ all) rest x = ap (λ (ids : List ℕ). y ∷ ids) (append_one all rest x)

-- ---- what the list has below an identifier

pub not_less : (x id : ℕ) → nat_lt x id ≡ false → id ≤ x
not_less x id above = grind (arith, nat_tests)

pub some_above : (ids : List ℕ) (at id : ℕ) → IdsRise 0 ids → at < length ids → id ≤ get_or ids at 0 → IdsRise id (drop at ids)
some_above ids at id rise h above =
    let tail : IdsRise 0 (get_or ids at 0 ∷ drop (at + 1) ids) = subst (λ (t : List ℕ). IdsRise 0 t) (split_at ids at 0 h) (ids_drop 0 at ids rise) in
    subst (λ (t : List ℕ). IdsRise id t) (sym (split_at ids at 0 h)) (above, tail.1)

pub below_more : (ids first all now : List ℕ) (from to id : ℕ) → to < length ids → get_or ids to 0 < id → now ≡ all ++ get_or ids to 0 ∷ []
    → ((rows : Rows) → RiseFrom id rows → first ++ ids_in rows (drop from ids) ≡ all ++ ids_in rows (drop to ids))
    → (rows : Rows) → RiseFrom id rows → first ++ ids_in rows (drop from ids) ≡ now ++ ids_in rows (drop (to + 1) ids)
below_more ids first all now from to id h below is so_far = λ rows rise.
    so_far rows rise
    ∙ ap (λ (t : List ℕ). all ++ ids_in rows t) (split_at ids to 0 h)
    ∙ ap (λ (t : List ℕ). all ++ t) (step_id (get_or ids to 0) id (drop (to + 1) ids) rows below rise)
    ∙ append_one all (ids_in rows (drop (to + 1) ids)) (get_or ids to 0)
    ∙ ap (λ (t : List ℕ). t ++ ids_in rows (drop (to + 1) ids)) (sym is)

-- ---- the list behind an identifier

put_first : (id : ℕ) (ids : List ℕ) (rows : Rows) → IdsRise (id + 1) ids → RiseFrom (id + 1) rows → put_id id (ids_in rows ids) ≡ id ∷ ids_in rows ids
put_first id ids rows rise above = put_low id (ids_in rows ids) (rise_both (id + 1) (id + 1) rows ids (omega arith) above rise)

pub none_behind : (ids : List ℕ) (at id : ℕ) → at ≡ length ids → IsBehind id (drop at ids) (drop at ids)
none_behind ids at id h = λ rows above. put_first id (drop at ids) rows (none_left (id + 1) at ids (omega arith)) above

pub same_behind : (ids : List ℕ) (at id : ℕ) → at < length ids → get_or ids at 0 ≡ id → IsBehind id (drop at ids) (drop (at + 1) ids)
same_behind ids at id h same = λ rows above.
    let rest = drop (at + 1) ids in
    let first : drop at ids ≡ id ∷ rest = split_at ids at 0 h ∙ ap (λ (x : ℕ). x ∷ rest) same in
    ap (λ (t : List ℕ). put_id id (ids_in rows t)) first
    ∙ ap (λ (t : List ℕ). put_id id t) (step_id id (id + 1) rest rows (omega arith) above)
    ∙ put_same id id (ids_in rows rest) refl

pub other_behind : (ids : List ℕ) (at id : ℕ) → IdsRise id (drop at ids) → at < length ids → (get_or ids at 0 ≡ id → ⊥) → IsBehind id (drop at ids) (drop at ids)
other_behind ids at id rise h other = λ rows above.
    let own : IdsRise id (get_or ids at 0 ∷ drop (at + 1) ids) = subst (λ (t : List ℕ). IdsRise id t) (split_at ids at 0 h) rise in
    let more : IdsRise (id + 1) (get_or ids at 0 ∷ drop (at + 1) ids) = (omega (arith, own.0, other), own.1) in
    put_first id (drop at ids) rows (subst (λ (t : List ℕ). IdsRise (id + 1) t) (sym (split_at ids at 0 h)) more) above

-- ---- a row of the table

pub row_more : (ids first all now : List ℕ) (from at to id : ℕ) → AddsBelow first ids from id at all → now ≡ all ++ id ∷ [] → IsBehind id (drop at ids) (drop to ids) → to ≤ length ids → AddsRow first ids from id to now
row_more ids first all now from at to id adds is next within = (
  within,
  λ rows above.
      let both : RiseFrom id ((id, []) ∷ rows) = (omega arith, above) in
      adds.2 ((id, []) ∷ rows) both
      ∙ ap (λ (t : List ℕ). all ++ t) (next rows above)
      ∙ append_one all (ids_in rows (drop to ids)) id
      ∙ ap (λ (t : List ℕ). t ++ ids_in rows (drop to ids)) (sym is),
)

pub rise_rest : (row : ℕ × List Value) (left : Rows) → RiseFrom 0 (row ∷ left) → RiseFrom 0 left
rise_rest row [] rise = tt
rise_rest row (r ∷ rs) rise = (omega arith, rise.1.1)

pub merge_more : (ids all now : List ℕ) (before rows left : Rows) (row : ℕ × List Value) (from to : ℕ) → before ≡ row ∷ left → RiseFrom 0 before → AddsRow all ids from row.0 to now → ids_in rows ids ≡ all ++ ids_in before (drop from ids) → ids_in rows ids ≡ now ++ ids_in left (drop to ids)
merge_more ids all now before rows left row from to step rise adds so_far =
    let rest : RiseFrom 0 (row ∷ left) = subst (λ (t : Rows). RiseFrom 0 t) step rise in
    so_far ∙ ap (λ (t : Rows). all ++ ids_in t (drop from ids)) step ∙ adds.1 left rest.1

-- a row more of a table, beside no others
pub listed_more : (all now : List ℕ) (before rows left : Rows) (row : ℕ × List Value) → before ≡ row ∷ left → RiseFrom 0 before → now ≡ all ++ row.0 ∷ [] → ids_in rows [] ≡ all ++ ids_in before [] → ids_in rows [] ≡ now ++ ids_in left []
listed_more all now before rows left row step rise is so_far =
    let rest : RiseFrom 0 (row ∷ left) = subst (λ (t : Rows). RiseFrom 0 t) step rise in
    so_far
    ∙ ap (λ (t : Rows). all ++ ids_in t []) step
    ∙ ap (λ (ids : List ℕ). all ++ ids) (put_first row.0 [] left tt rest.1)
    ∙ append_one all (ids_in left []) row.0
    ∙ ap (λ (t : List ℕ). t ++ ids_in left []) (sym is)
