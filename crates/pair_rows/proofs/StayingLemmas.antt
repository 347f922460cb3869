-- Passes over rows of which some stay.
use Rattle.std.proofs.Common.{◌≡◌, ℕ, zero, suc, ◌+◌, ◌<◌, ◌≤◌, ◌==◌, nat_lt, List, [], ◌∷◌, ◌++◌, length, take, drop, filter, count_by, slice_index_or, Bool, true, not, cond, if◌then◌else◌, ◌||◌, refl, ap, sym, ◌∙◌, subst, take-append-drop, arith}
use Rattle.std.specs.Prelude.{min}
use Rattle.std.proofs.Math.Nat.{min-eq_left, min-zero}
use Rattle.std.proofs.lemmas.Bool.{lt-ltb}
use Rattle.std.proofs.lemmas.Bool.Decides.{nat_tests}
use Rattle.std.proofs.lemmas.List.{take_more, drop_more}
use Rattle.par_base.specs.declared.value.Value.{Value}
use Rattle.row_store.specs.Rows.{Rows, RiseFrom, AreBelow}
use Rattle.id_memory.specs.Pairs.{Pairs}
use Rattle.row_parts.specs.RowCells.{by_test}
use Rattle.pair_rows.specs.inner.Numbers.{count_cons}
use Rattle.pair_rows.specs.Stays.{stands, staying}
use Rattle.pair_rows.specs.inner.Lookups.{filter_append}

-- more than none
some_counted : (k n : ℕ) → k ≡ 1 + n → nat_lt 0 k ≡ true
some_counted k n e = grind (arith, nat_tests)

-- whether one of so many is counted is whether there are some
pub some_of : (n : ℕ) → nat_lt 0 (min 1 n) ≡ nat_lt 0 n
some_of zero = ap (nat_lt 0) (min-zero 1)
some_of (suc n) = ap (nat_lt 0) (min-eq_left (omega arith)) ∙ sym (lt-ltb 0 (suc n) (omega arith))

-- an identifier stands in a pair where some pairs with it are counted
pub stands_counted : (pick : ℕ × ℕ × ℕ → ℕ) (es : Pairs) (id : ℕ) → nat_lt 0 (count_by (λ e. pick e == id) es) ≡ stands pick es id
stands_counted pick [] id = refl
stands_counted pick (e ∷ es) id =
    let all = count_cons (λ e. pick e == id) e es in
    by_test (pick e == id)
    (λ q.
    let more : count_by (λ e. pick e == id) (e ∷ es) ≡ 1 + count_by (λ e. pick e == id) es = all ∙ ap (λ (b : Bool). cond b 1 0 + count_by (λ e. pick e == id) es) q in
    let chosen : stands pick (e ∷ es) id ≡ true = ap (λ (b : Bool). if b then true else stands pick es id) q in
    some_counted (count_by (λ e. pick e == id) (e ∷ es)) (count_by (λ e. pick e == id) es) more ∙ sym chosen)
    (λ q.
    let same : count_by (λ e. pick e == id) (e ∷ es) ≡ 0 + count_by (λ e. pick e == id) es = all ∙ ap (λ (b : Bool). cond b 1 0 + count_by (λ e. pick e == id) es) q in
    let less : count_by (λ e. pick e == id) (e ∷ es) ≡ count_by (λ e. pick e == id) es = omega (arith, same) in
    let other : stands pick (e ∷ es) id ≡ stands pick es id = ap (λ (b : Bool). if b then true else stands pick es id) q in
    ap (nat_lt 0) less ∙ stands_counted pick es id ∙ sym other)

-- rows that stay are below the next row
behind_kept : (test : ℕ → Bool) (n : ℕ) (xs : Rows) (x : ℕ × List Value) (ys : Rows) → RiseFrom n (xs ++ x ∷ ys) → (n ≤ x.0) × AreBelow (filter (λ r. test r.0) xs) x.0
behind_kept test n [] x ys rise = (rise.0, tt)
behind_kept test n (r ∷ rs) x ys rise =
    let rest = behind_kept test (r.0 + 1) rs x ys rise.1 in
    let low = rise.0 in
    let high = rest.0 in
    (omega (arith, low, high), by_test (test r.0) (λ q. rw q ((omega (arith, high)), rest.1)) (λ q. rw q rest.1))

-- the same, counted from the front
pub kept_below_next : (pick : ℕ × ℕ × ℕ → ℕ) (old new : Pairs) (rows : Rows) (i : ℕ) (row : ℕ × List Value) → i < length rows → row ≡ slice_index_or rows i row → RiseFrom 0 rows → AreBelow (staying pick old new (take i rows)) row.0
kept_below_next pick old new rows i row h at rise =
    let split : rows ≡ take i rows ++ row ∷ drop (i + 1) rows = sym (take-append-drop i rows) ∙ ap (λ (rest : Rows). take i rows ++ rest) (drop_more rows i row h ∙ ap (λ (y : ℕ × List Value). y ∷ drop (i + 1) rows) (sym at)) in
    (behind_kept (λ id. not (stands pick old id) || stands pick new id) 0 (take i rows) row (drop (i + 1) rows) (subst (λ (all : Rows). RiseFrom 0 all) split rise)).1

-- one row more
pub staying_more : (pick : ℕ × ℕ × ℕ → ℕ) (old new : Pairs) (rows : Rows) (i : ℕ) (row : ℕ × List Value) (made now : Rows) → i < length rows → row ≡ slice_index_or rows i row
    → made ≡ staying pick old new (take i rows) → now ≡ made ++ (if not (stands pick old row.0) || stands pick new row.0 then row ∷ [] else [])
    → now ≡ staying pick old new (take (i + 1) rows)
staying_more pick old new rows i row made now h at is pushed =
    let last = if not (stands pick old row.0) || stands pick new row.0 then row ∷ [] else [] in
    let more : staying pick old new (take (i + 1) rows) ≡ staying pick old new (take i rows) ++ last =
    ap (staying pick old new) (take_more rows i row h ∙ ap (λ (y : ℕ × List Value). take i rows ++ y ∷ []) (sym at))
    ∙ filter_append (λ r. not (stands pick old r.0) || stands pick new r.0) (take i rows) (row ∷ []) in
    pushed ∙ ap (λ (rs : Rows). rs ++ last) is ∙ sym more
