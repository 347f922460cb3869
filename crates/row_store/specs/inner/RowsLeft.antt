-- What a pass over the rows of a table has left.
use Rattle.std.proofs.Common.{◌≡◌, ℕ, zero, suc, ◌+◌, ◌-◌, ◌<◌, ◌≤◌, List, [], ◌∷◌, ◌++◌, refl, length, take, drop, get_or, sym, ap, ◌∙◌, arith}
use Rattle.std.proofs.lemmas.List.{take_all, length-append}
use Rattle.par_base.specs.declared.value.Value.{Value}
use Rattle.row_store.specs.Rows.{Rows}

-- how many rows the pass has gone over
abbrev pub passed : Rows → Rows → ℕ
passed rows left = length rows - length left

-- these are left of the rows
abbrev pub AreLeft : Rows → Rows → Type 0
AreLeft rows left = (length left ≤ length rows) × (left ≡ drop (length rows - length left) rows)

drop_none : (rows : Rows) (n : ℕ) → n ≡ 0 → drop n rows ≡ rows
drop_none rows n e = ap (λ (k : ℕ). drop k rows) e

-- at first all are
pub all_left : (rows left : Rows) → left ≡ rows → AreLeft rows left
all_left rows left is =
    let same : length left ≡ length rows = ap length is in
    (omega (arith, same), is ∙ sym (drop_none rows (length rows - length left) (omega (arith, same))))

row_and_rest : (rows left : Rows) (row : ℕ × List Value) (n : ℕ) → row ∷ left ≡ drop n rows → (n < length rows) × (row ≡ get_or rows n row) × (left ≡ drop (suc n) rows)
row_and_rest [] left row zero is = cc
row_and_rest [] left row (suc n) is = cc
row_and_rest (r ∷ rows) left row zero is = (omega arith, cc, cc)
row_and_rest (r ∷ rows) left row (suc n) is = let rest = row_and_rest rows left row n is in (omega (arith, rest.0), rest.1, rest.2)

-- a row that comes is the next one
pub record Comes (rows before : Rows) (row : ℕ × List Value) (left : Rows) : Type 0 where
  pub within : passed rows before < length rows
  pub is : row ≡ get_or rows (passed rows before) row
  pub next : passed rows left ≡ passed rows before + 1
  pub rest : AreLeft rows left

pub comes : (rows before : Rows) (row : ℕ × List Value) (left : Rows) → AreLeft rows before → before ≡ row ∷ left → Comes rows before row left
comes rows before row left all is =
    let parts = row_and_rest rows left row (length rows - length before) (sym is ∙ all.1) in
    let long : length before ≡ suc (length left) = ap length is in
    let many : length before ≡ length left + 1 = omega (arith, long) in
    let next : length rows - length left ≡ (length rows - length before) + 1 = omega (arith, many, all.0) in
    let step : suc (length rows - length before) ≡ (length rows - length before) + 1 = omega arith in
    record {
      within = parts.0;
      is = parts.1;
      next = next;
      rest = (omega (arith, many, all.0), parts.2 ∙ ap (λ (k : ℕ). drop k rows) (step ∙ sym next));
    }

pub none_passed : (rows left : Rows) → left ≡ rows → passed rows left ≡ 0
none_passed rows left is = let same : length left ≡ length rows = ap length is in omega (arith, same)

-- at last none are
pub take_passed : (rows left : Rows) → left ≡ [] → take (passed rows left) rows ≡ rows
take_passed rows left none =
    let e : length left ≡ 0 = ap length none in
    take_all (passed rows left) rows (omega (arith, e))

-- these are the first of the rows, as a pass from behind leaves them
abbrev pub AreFirst : Rows → Rows → Type 0
AreFirst rows left = (length left ≤ length rows) × (left ≡ take (length left) rows)

pub all_first : (rows left : Rows) → left ≡ rows → AreFirst rows left
all_first rows left is =
    let same : length left ≡ length rows = ap length is in
    (omega (arith, same), is ∙ sym (take_all (length left) rows (omega (arith, same))))

last_and_others : (rows left : Rows) (row : ℕ × List Value) → left ++ row ∷ [] ≡ take (suc (length left)) rows → length left < length rows
    → (row ≡ get_or rows (length left) row) × (drop (length left) rows ≡ row ∷ drop (suc (length left)) rows) × (left ≡ take (length left) rows)
last_and_others [] left row is h = absurd (omega arith)
last_and_others (r ∷ rows) [] row is h = let same : row ≡ r = cc in (same, ap (λ (q : ℕ × List Value). q ∷ rows) (sym same), refl)
last_and_others (r ∷ rows) (l ∷ left) row is h =
    let first : l ≡ r = cc in
    let others : left ++ row ∷ [] ≡ take (suc (length left)) rows = cc in
    let rest = last_and_others rows left row others (omega arith) in
    (rest.0, rest.1, ap (λ (q : ℕ × List Value). q ∷ left) first ∙ ap (λ (qs : Rows). r ∷ qs) rest.2)

-- a row that comes from behind is the last one
pub record ComesLast (rows before : Rows) (row : ℕ × List Value) (left : Rows) : Type 0 where
  pub within : length left < length rows
  pub is : row ≡ get_or rows (length left) row
  pub next : length before ≡ length left + 1
  pub behind : drop (length left) rows ≡ row ∷ drop (length before) rows
  pub rest : AreFirst rows left

pub comes_last : (rows before : Rows) (row : ℕ × List Value) (left : Rows) → AreFirst rows before → before ≡ left ++ row ∷ [] → ComesLast rows before row left
comes_last rows before row left all is =
    let many : length before ≡ length left + 1 = ap length is ∙ length-append left (row ∷ []) in
    let step : length before ≡ suc (length left) = omega (arith, many) in
    let parts = last_and_others rows left row (sym is ∙ all.1 ∙ ap (λ (k : ℕ). take k rows) step) (omega (arith, many, all.0)) in
    record {
      within = omega (arith, many, all.0);
      is = parts.0;
      next = many;
      behind = parts.1 ∙ ap (λ (k : ℕ). row ∷ drop k rows) (sym step);
      rest = (omega (arith, many, all.0), parts.2);
    }

-- at last none is left, and all rows are behind
pub drop_first : (rows left : Rows) → left ≡ [] → drop (length left) rows ≡ rows
drop_first rows left none = ap (λ (ls : Rows). drop (length ls) rows) none
