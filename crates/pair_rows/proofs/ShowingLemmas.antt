-- Passes over entries and pairs.
use Rattle.std.proofs.Common.{◌≡◌, ℕ, zero, suc, ◌+◌, ◌<◌, ◌≤◌, ◌==◌, List, [], ◌∷◌, ◌++◌, length, filter, drop, take, slice_index_or, count_by, Bool, true, false, if◌then◌else◌, Option, Some, None, refl, ap, sym, ◌∙◌, subst, append_assoc, append-nil, length-take-le, take-append-drop, arith}
use Rattle.std.proofs.lemmas.List.{take_more, drop_more}
use Rattle.std.proofs.lemmas.Bool.{ne_eqb, eqb-true, eq-eqb}
use Rattle.par_base.specs.declared.value.Value.{Value}
use Rattle.row_store.specs.Rows.{Rows}
use Rattle.id_memory.specs.Pairs.{Pairs, RiseFrom, pair_of, id_of, has_pair, IsOneToOne, IsWith}
use Rattle.id_memory.specs.Laws.{OneMemoryHasThem}
use Rattle.id_memory.specs.States.{CounterState}
use Rattle.op_law.specs.Calls.{first_refused}
use Rattle.row_parts.specs.RowCells.{by_test}
use Rattle.pair_rows.specs.inner.Lookups.{filter_append}
use Rattle.pair_rows.specs.inner.PairLemmas.{count_append, count_yes, count_no, AllIn}
use Rattle.pair_rows.specs.Shown.{has, pairs_with, all_pairs, numbered}
use Rattle.pair_rows.specs.inner.Changed.{pairs_of}

-- all pairs of two lists of rows
all_append : (xs ys t : Rows) → all_pairs (xs ++ ys) t ≡ all_pairs xs t ++ all_pairs ys t
all_append [] ys t = refl
all_append (x ∷ xs) ys t = ap (λ (zs : List (ℕ × ℕ)). pairs_with x.0 t ++ zs) (all_append xs ys t) ∙ sym (append_assoc (pairs_with x.0 t) (all_pairs xs t) (all_pairs ys t))

-- numbers for two lists of pairs
numbered_append : (n : ℕ) (xs ys : List (ℕ × ℕ)) → numbered n (xs ++ ys) ≡ numbered n xs ++ numbered (n + length xs) ys
numbered_append n [] ys = let same : n + 0 ≡ n = omega arith in ap (λ (k : ℕ). numbered k ys) (sym same)
numbered_append n (x ∷ xs) ys =
    let same : (n + 1) + length xs ≡ n + suc (length xs) = omega arith in
    ap (λ (zs : Pairs). (n, x.0, x.1) ∷ zs) (numbered_append (n + 1) xs ys ∙ ap (λ (k : ℕ). numbered (n + 1) xs ++ numbered k ys) same)

-- one row more
of_append : (a : ℕ) (xs ys : List ℕ) → pairs_of a (xs ++ ys) ≡ pairs_of a xs ++ pairs_of a ys
of_append a [] ys = refl
of_append a (x ∷ xs) ys = ap (λ (zs : List (ℕ × ℕ)). (a, x) ∷ zs) (of_append a xs ys)

-- one pair more of a row
pub new_more : (test : ℕ × ℕ → Bool) (before : List (ℕ × ℕ)) (a : ℕ) (bs : List ℕ) (i : ℕ) (made new : List (ℕ × ℕ)) → i < length bs
    → made ≡ before ++ filter test (pairs_of a (take i bs)) → new ≡ made ++ filter test (pairs_of a (slice_index_or bs i 0 ∷ []))
    → new ≡ before ++ filter test (pairs_of a (take (i + 1) bs))
new_more test before a bs i made new h is made_new =
    let last = filter test (pairs_of a (slice_index_or bs i 0 ∷ [])) in
    let more : filter test (pairs_of a (take (i + 1) bs)) ≡ filter test (pairs_of a (take i bs)) ++ last =
    ap (λ (all : List ℕ). filter test (pairs_of a all)) (take_more bs i 0 h)
    ∙ ap (filter test) (of_append a (take i bs) (slice_index_or bs i 0 ∷ []))
    ∙ filter_append test (pairs_of a (take i bs)) (pairs_of a (slice_index_or bs i 0 ∷ [])) in
    made_new ∙ ap (λ (xs : List (ℕ × ℕ)). xs ++ last) is
    ∙ append_assoc before (filter test (pairs_of a (take i bs))) last
    ∙ ap (λ (xs : List (ℕ × ℕ)). before ++ xs) (sym more)

-- an entry of the memory has a pair of it
pub pair_in : (m es : Pairs) (i : ℕ) → i < length es → AllIn m es → has m (slice_index_or es i (0, 0, 0)).1 (slice_index_or es i (0, 0, 0)).2 ≡ true
pair_in m [] i h all = absurd (omega arith)
pair_in m (e ∷ es) zero h all = all.0
pair_in m (e ∷ es) (suc i) h all = pair_in m es i (omega arith) all.1

-- the pairs of one row more
pub all_more : (test : ℕ × ℕ → Bool) (rows t : Rows) (i : ℕ) (row : ℕ × List Value) (made new : List (ℕ × ℕ)) → i < length rows → row ≡ slice_index_or rows i row
    → made ≡ filter test (all_pairs (take i rows) t) → new ≡ made ++ filter test (pairs_with row.0 t)
    → new ≡ filter test (all_pairs (take (i + 1) rows) t)
all_more test rows t i row made new h at is made_new =
    let more : filter test (all_pairs (take (i + 1) rows) t) ≡ filter test (all_pairs (take i rows) t) ++ filter test (pairs_with row.0 t) =
    ap (λ (rs : Rows). filter test (all_pairs rs t)) (take_more rows i row h ∙ ap (λ (r : ℕ × List Value). take i rows ++ r ∷ []) (sym at))
    ∙ ap (filter test) (all_append (take i rows) (row ∷ []) t ∙ ap (λ (xs : List (ℕ × ℕ)). all_pairs (take i rows) t ++ xs) (append-nil (pairs_with row.0 t)))
    ∙ filter_append test (all_pairs (take i rows) t) (pairs_with row.0 t) in
    made_new ∙ ap (λ (xs : List (ℕ × ℕ)). xs ++ filter test (pairs_with row.0 t)) is ∙ sym more

-- one number more
pub numbered_more : (n : ℕ) (xs : List (ℕ × ℕ)) (i : ℕ) → i < length xs → numbered n (take (i + 1) xs) ≡ numbered n (take i xs) ++ (n + i, (slice_index_or xs i (0, 0)).0, (slice_index_or xs i (0, 0)).1) ∷ []
numbered_more n xs i h =
    let x = slice_index_or xs i (0, 0) in
    let long : length (take i xs) ≡ i = length-take-le i xs (omega (arith, h)) in
    ap (numbered n) (take_more xs i (0, 0) h) ∙ numbered_append n (take i xs) (x ∷ []) ∙ ap (λ (k : ℕ). numbered n (take i xs) ++ (n + k, x.0, x.1) ∷ []) long

-- an entry behind rising ones is above them
behind_all : (n : ℕ) (es : Pairs) (e : ℕ × ℕ × ℕ) (fs : Pairs) → RiseFrom n (es ++ e ∷ fs) → (n ≤ e.0) × (pair_of es e.0 ≡ None)
behind_all n [] e fs rise = (rise.0, refl)
behind_all n (x ∷ xs) e fs rise =
    let rest = behind_all (x.0 + 1) xs e fs rise.1 in
    let low = rise.0 in
    let high = rest.0 in
    let other = ne_eqb x.0 e.0 (λ q. absurd (omega (arith, q, high))) in
    (omega (arith, low, high), rw other rest.1)

-- a list in two at an entry
pub split_at : (es : Pairs) (i : ℕ) → i < length es → es ≡ take i es ++ slice_index_or es i (0, 0, 0) ∷ drop (i + 1) es
split_at es i h = sym (take-append-drop i es) ∙ ap (λ (rest : Pairs). take i es ++ rest) (drop_more es i (0, 0, 0) h)

-- an entry has a new identifier
pub new_id : (es : Pairs) (i : ℕ) → i < length es → RiseFrom 0 es → pair_of (take i es) (slice_index_or es i (0, 0, 0)).0 ≡ None
new_id es i h rise = (behind_all 0 (take i es) (slice_index_or es i (0, 0, 0)) (drop (i + 1) es) (subst (λ (all : Pairs). RiseFrom 0 all) (split_at es i h) rise)).1

-- a pair that is counted nowhere has no identifier
none_of : (m : Pairs) (a b : ℕ) → count_by (has_pair a b) m ≡ 0 → id_of m a b ≡ None
none_of [] a b h = refl
none_of (e ∷ es) a b h =
    by_test (has_pair a b e)
    (λ q. let more = count_yes (has_pair a b) e es q in absurd (omega (arith, more, h)))
    (λ q. let same = count_no (has_pair a b) e es q in rw q (none_of es a b (sym same ∙ h)))

-- an entry has a new pair
pub new_pair : (es : Pairs) (i : ℕ) → i < length es → IsOneToOne es → id_of (take i es) (slice_index_or es i (0, 0, 0)).1 (slice_index_or es i (0, 0, 0)).2 ≡ None
new_pair es i h one =
    let e = slice_index_or es i (0, 0, 0) in
    let p = has_pair e.1 e.2 in
    let first = eq-eqb e.1 e.1 refl in
    let second = eq-eqb e.2 e.2 refl in
    let here : p e ≡ true = rw (first, second) refl in
    let all = ap (count_by p) (split_at es i h) in
    let parts = count_append p (take i es) (e ∷ drop (i + 1) es) in
    let more = count_yes p e (drop (i + 1) es) here in
    let most = one e.1 e.2 in
    none_of (take i es) e.1 e.2 (omega (arith, all, parts, more, most))

-- the entries with one more rise, and have its pair besides
rises_take : (n : ℕ) (es : Pairs) (k : ℕ) → RiseFrom n es → RiseFrom n (take k es)
rises_take n [] zero rise = tt
rises_take n [] (suc k) rise = tt
rises_take n (e ∷ es) zero rise = tt
rises_take n (e ∷ es) (suc k) rise = (rise.0, rises_take (e.0 + 1) es k rise.1)

-- the pair of an entry behind the others
pair_behind : (es : Pairs) (e : ℕ × ℕ × ℕ) (q : ℕ) → pair_of es e.0 ≡ None → pair_of (es ++ e ∷ []) q ≡ (if e.0 == q then Some (e.1, e.2) else pair_of es q)
pair_behind [] e q none = refl
pair_behind (x ∷ xs) e q none =
    let away : (x.0 == e.0) ≡ false = by_test (x.0 == e.0) (λ u. let some : ◌≡◌ {A = Option (ℕ × ℕ)} (Some (x.1, x.2)) None = rw u at none in absurd (cc)) (λ u. u) in
    let rest : pair_of xs e.0 ≡ None = rw away at none in
    let ih = pair_behind xs e q rest in
    by_test (x.0 == q)
    (λ u.
    let same = eqb-true x.0 q u in
    let other : (e.0 == q) ≡ false = ne_eqb e.0 q (λ v. let back : (x.0 == e.0) ≡ true = subst (λ (i : ℕ). (x.0 == i) ≡ true) (same ∙ sym v) (eq-eqb x.0 x.0 refl) in absurd (cc)) in
    rw (u, other) refl)
    (λ u. rw u ih)

-- so putting an entry gives one entry more
pub put_more : (es : Pairs) (i : ℕ) (before now : Pairs) → OneMemoryHasThem → i < length es → RiseFrom 0 es → before ≡ take i es
    → IsWith before (slice_index_or es i (0, 0, 0)).0 (Some ((slice_index_or es i (0, 0, 0)).1, (slice_index_or es i (0, 0, 0)).2)) now
    → now ≡ take (i + 1) es
put_more es i before now law h rise is with =
    let e = slice_index_or es i (0, 0, 0) in
    let none = new_id es i h rise in
    law now (take (i + 1) es) with.rises (rises_take 0 es (i + 1) rise)
    (λ q.
    with.pairs q ∙ ap (λ (m : Pairs). if e.0 == q then Some (e.1, e.2) else pair_of m q) is
    ∙ sym (ap (λ (m : Pairs). pair_of m q) (take_more es i (0, 0, 0) h) ∙ pair_behind (take i es) e q none))

-- one identifier more was drawn
pub draw_step : (old before now : CounterState) (i id : ℕ) → before ≡ record old { next = old.next + i } → (id ≡ before.next) × (id ≤ before.limit) → now ≡ record before { next = before.next + 1 }
    → (id ≡ old.next + i) × (now ≡ record old { next = old.next + (i + 1) }) × (old.next + (i + 1) ≤ first_refused old)
draw_step old before now i id is got raised =
    let next : before.next ≡ old.next + i = ap (λ (c : CounterState). c.next) is in
    let limit : before.limit ≡ old.limit = ap (λ (c : CounterState). c.limit) is in
    let number = got.0 in
    let within = got.1 in
    let sum : (old.next + i) + 1 ≡ old.next + (i + 1) = omega arith in (
      number ∙ next,
      raised ∙ ap (λ (c : CounterState). record c { next = c.next + 1 }) is ∙ ap (λ (n : ℕ). record old { next = n }) sum,
      omega (arith, next, limit, number, within),
    )
