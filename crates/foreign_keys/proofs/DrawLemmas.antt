-- Values that are drawn for, one by one.
use Rattle.std.specs.Prelude.{max}
use Rattle.std.proofs.Common.{◌≡◌, ℕ, suc, ◌+◌, ◌<◌, ◌≤◌, List, [], ◌∷◌, ◌++◌, length, take, get_or, true, false, cond, Some, None, refl, ap, sym, ◌∙◌, subst, arith}
use Rattle.std.proofs.Math.Seq.{take-suc}
use Rattle.std.proofs.lemmas.List.{length-take-le}
use Rattle.par_base.specs.declared.value.Value.{Value}
use Rattle.row_store.specs.Rows.{Rows, AreBelow}
use Rattle.row_parts.specs.RowCells.{by_test}
use Rattle.foreign_keys.specs.DrawnIds.{Values, add_once, has, place, numbered, place_if, ArePlaced}
use Rattle.foreign_keys.specs.inner.DrawnLemmas.{place_under}
use Rattle.par_base.specs.SameRows.{same_row}
use Rattle.key_index.specs.Found.{first_with}

-- a value that isn't there goes to the end
pub add_new : (v : List Value) (d : Values) → has d v ≡ false → d ++ v ∷ [] ≡ add_once v d
add_new v [] h = refl
add_new v (x ∷ xs) h =
    by_test (same_row x v)
    (λ e. absurd (cc))
    (λ e. let h2 : has xs v ≡ false = rw e at h in rw e (ap (λ (rest : Values). x ∷ rest) (add_new v xs h2)))

-- one that is there stays alone
pub add_there : (v : List Value) (d : Values) → has d v ≡ true → d ≡ add_once v d
add_there v [] h = absurd (cc)
add_there v (x ∷ xs) h =
    by_test (same_row x v)
    (λ e. rw e refl)
    (λ e. let h2 : has xs v ≡ true = rw e at h in rw e (ap (λ (rest : Values). x ∷ rest) (add_there v xs h2)))

-- what a place tells
pub place_there : (d : Values) (v : List Value) (p : ℕ) → place_if d v ≡ Some p → (has d v ≡ true) × ((p ≡ place d v) × (p ≤ length d))
place_there d v p h =
    by_test (has d v)
    (λ e.
    let some : Some (place d v) ≡ Some p = rw e at h in
    let is : p ≡ place d v = cc in
    let under = place_under d v e in
    (e, (is, omega (arith, is, under))))
    (λ e. let none : None ≡ Some p = rw e at h in absurd (cc))

-- and what no place tells
pub no_place : (d : Values) (v : List Value) → place_if d v ≡ None → has d v ≡ false
no_place d v h = by_test (has d v) (λ e. let some : Some (place d v) ≡ None = rw e at h in absurd (cc)) (λ e. e)

-- the place of a value is its identifier, where the values stand at their places
first_numbered : (n : ℕ) (xs : Values) (v : List Value) → first_with (numbered n xs) v ≡ cond (has xs v) (Some (n + place xs v)) None
first_numbered n [] v = refl
first_numbered n (x ∷ xs) v =
    by_test (same_row x v)
    (λ e. let own : n ≡ n + 0 = omega arith in rw e (ap Some own))
    (λ e. let behind : n + 1 + place xs v ≡ n + (place xs v + 1) = omega arith in rw e (first_numbered (n + 1) xs v ∙ ap (λ (i : ℕ). cond (has xs v) (Some i) None) behind))

pub place_is : (values : Values) (places : Rows) (v : List Value) → ArePlaced values places → first_with places v ≡ place_if values v
place_is values places v placed =
    let own : 0 + place values v ≡ place values v = omega arith in
    ap (λ (rows : Rows). first_with rows v) placed ∙ first_numbered 0 values v ∙ ap (λ (i : ℕ). cond (has values v) (Some i) None) own

-- one more row
pub numbered_more : (n : ℕ) (xs : List (List Value)) (v : List Value) → numbered n (xs ++ v ∷ []) ≡ numbered n xs ++ (n + length xs, v) ∷ []
numbered_more n [] v = ap (λ (i : ℕ). (i, v) ∷ []) (omega arith)
numbered_more n (x ∷ xs) v = ap (λ (rest : Rows). (n, x) ∷ rest) (numbered_more (n + 1) xs v ∙ ap (λ (i : ℕ). numbered (n + 1) xs ++ (i, v) ∷ []) (omega arith))

-- each value stands at its place, with one more
pub placed_next : (v : List Value) (d e : Values) (before now : Rows) → ArePlaced d before → e ≡ d ++ v ∷ [] → now ≡ before ++ (length d, v) ∷ [] → ArePlaced e now
placed_next v d e before now placed is more =
    let at : length d ≡ 0 + length d = omega arith in
    more ∙ ap (λ (rows : Rows). rows ++ (length d, v) ∷ []) placed ∙ ap (λ (i : ℕ). numbered 0 d ++ (i, v) ∷ []) at ∙ sym (numbered_more 0 d v) ∙ ap (numbered 0) (sym is)

-- numbered values stand below what is behind them
pub numbered_below : (n id : ℕ) (xs : List (List Value)) → n + length xs ≤ id → AreBelow (numbered n xs) id
numbered_below n id [] h = tt
numbered_below n id (x ∷ xs) h = (omega (arith, h), numbered_below (n + 1) id xs (omega (arith, h)))

-- so values at their places stand below the next place
pub placed_below : (values : Values) (places : Rows) (next : ℕ) → ArePlaced values places → next ≡ length values → AreBelow places next
placed_below values places next placed is = subst (λ (rows : Rows). AreBelow rows next) (sym placed) (numbered_below 0 next values (omega (arith, is)))

-- a value more is within what may be refused
pub more_within : (next limit i : ℕ) → next + i ≤ limit → next + (i + 1) ≤ max next (limit + 1)
more_within next limit i within = omega (arith, within)

-- the next value behind the rows of those before it
pub numbered_next : (n i id : ℕ) (xs : List (List Value)) (v d : List Value) (rows : Rows) → i < length xs → rows ≡ numbered n (take i xs) → id ≡ n + i → v ≡ get_or xs i d → rows ++ (id, v) ∷ [] ≡ numbered n (take (i + 1) xs)
numbered_next n i id xs v d rows h is own value =
    let e : i + 1 ≡ suc i = omega arith in
    let more : take (i + 1) xs ≡ take i xs ++ v ∷ [] = ap (λ (j : ℕ). take j xs) e ∙ take-suc xs i d h ∙ ap (λ (x : List Value). take i xs ++ x ∷ []) (sym value) in
    let long = length-take-le i xs (omega arith) in
    ap (λ (rs : Rows). rs ++ (id, v) ∷ []) is ∙ ap (λ (j : ℕ). numbered n (take i xs) ++ (j, v) ∷ []) (own ∙ omega (arith, long)) ∙ sym (numbered_more n (take i xs) v) ∙ ap (numbered n) (sym more)

-- the next identifier is above those before it
pub next_above : (n i id : ℕ) (xs : List (List Value)) (rows : Rows) → i < length xs → rows ≡ numbered n (take i xs) → id ≡ n + i → AreBelow rows id
next_above n i id xs rows h is own =
    let long = length-take-le i xs (omega arith) in
    subst (λ (rs : Rows). AreBelow rs id) (sym is) (numbered_below n id (take i xs) (omega (arith, long, own)))
