-- Rows that stand in entries, by counting.
use Rattle.std.proofs.Common.{◌≡◌, ℕ, ◌+◌, ◌<◌, ◌≤◌, List, [], ◌∷◌, ◌++◌, length, take, drop, filter, slice_index_or, Bool, if◌then◌else◌, ap, sym, ◌∙◌, subst, take-append-drop, arith}
use Rattle.std.proofs.lemmas.List.{take_more, drop_more}
use Rattle.par_base.specs.declared.value.Value.{Value}
use Rattle.row_store.specs.Rows.{Rows, RiseFrom, AreBelow}
use Rattle.pair_rows.specs.inner.Lookups.{filter_append}
use Rattle.outer_law.specs.Placed.{standing}
use Rattle.id_memory.specs.Pairs.{Pairs}
use Rattle.row_parts.specs.RowCells.{by_test}
use Rattle.pair_rows.specs.Stays.{stands}

-- rows that stand are below the next row
behind_kept : (test : ℕ → Bool) (n : ℕ) (xs : Rows) (x : ℕ × List Value) (ys : Rows) → RiseFrom n (xs ++ x ∷ ys) → (n ≤ x.0) × AreBelow (filter (λ r. test r.0) xs) x.0
behind_kept test n [] x ys rise = (rise.0, tt)
behind_kept test n (r ∷ rs) x ys rise =
    let rest = behind_kept test (r.0 + 1) rs x ys rise.1 in
    let low = rise.0 in
    let high = rest.0 in
    (omega (arith, low, high), by_test (test r.0) (λ q. rw q ((omega (arith, high)), rest.1)) (λ q. rw q rest.1))

pub below_next : (pick : ℕ × ℕ × ℕ → ℕ) (es : Pairs) (rows : Rows) (i : ℕ) (row : ℕ × List Value) → i < length rows → row ≡ slice_index_or rows i row → RiseFrom 0 rows → AreBelow (standing pick es (take i rows)) row.0
below_next pick es rows i row h at rise =
    let split : rows ≡ take i rows ++ row ∷ drop (i + 1) rows = sym (take-append-drop i rows) ∙ ap (λ (rest : Rows). take i rows ++ rest) (drop_more rows i row h ∙ ap (λ (y : ℕ × List Value). y ∷ drop (i + 1) rows) (sym at)) in
    (behind_kept (λ id. stands pick es id) 0 (take i rows) row (drop (i + 1) rows) (subst (λ (all : Rows). RiseFrom 0 all) split rise)).1

-- one row more
pub standing_more : (pick : ℕ × ℕ × ℕ → ℕ) (es : Pairs) (rows : Rows) (i : ℕ) (row : ℕ × List Value) (made now : Rows) → i < length rows → row ≡ slice_index_or rows i row
    → made ≡ standing pick es (take i rows) → now ≡ made ++ (if stands pick es row.0 then row ∷ [] else []) → now ≡ standing pick es (take (i + 1) rows)
standing_more pick es rows i row made now h at is pushed =
    let last = if stands pick es row.0 then row ∷ [] else [] in
    let more : standing pick es (take (i + 1) rows) ≡ standing pick es (take i rows) ++ last =
    ap (standing pick es) (take_more rows i row h ∙ ap (λ (y : ℕ × List Value). take i rows ++ y ∷ []) (sym at))
    ∙ filter_append (λ r. stands pick es r.0) (take i rows) (row ∷ []) in
    pushed ∙ ap (λ (rs : Rows). rs ++ last) is ∙ sym more
