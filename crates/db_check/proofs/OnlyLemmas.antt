-- Rows of the identifiers that pass a test, and of one identifier.
use Rattle.std.specs.Prelude.{◌<◌, ◌≤◌}
use Rattle.std.proofs.Common.{◌≡◌, ℕ, suc, ◌+◌, ◌==◌, List, [], ◌∷◌, ◌++◌, Bool, true, false, cond, length, take, drop, get_or, if◌then◌else◌, refl, sym, ap, ◌∙◌, subst, arith}
use Rattle.std.proofs.lemmas.Bool.{cond-false, eq-eqb, eqb-true, ne_eqb}
use Rattle.std.proofs.lemmas.List.{drop_more, take-append-drop, take_more}
use Rattle.par_base.specs.declared.value.Value.{Value}
use Rattle.row_store.specs.Rows.{AreBelow, RiseFrom, Rows}
use Rattle.row_store.specs.inner.SameTables.{ext}
use Rattle.op_law.specs.Local.{only, rows_only}
use Rattle.op_law.specs.Sound.{RowsSound}
use Rattle.op_law.specs.Tables.{AllRise, RowsWide, Tables}
use Rattle.op_law.proofs.OnlyLaws.{first_table, other_tables, rise_only, same_rows}

-- the test of one identifier
abbrev pub just : ℕ → ℕ → Bool
just id k = k == id

pub just_own : (id : ℕ) → just id id ≡ true
just_own id = eq-eqb id id refl

module _ (P : ℕ → Bool) where
  pub only_append : (xs ys : Rows) → rows_only P (xs ++ ys) ≡ rows_only P xs ++ rows_only P ys
  only_append [] ys = refl
  only_append (r ∷ xs) ys =
      let rest = only_append xs ys in
      let M : Bool → Type 0 = λ b. cond b (r ∷ rows_only P (xs ++ ys)) (rows_only P (xs ++ ys)) ≡ cond b (r ∷ rows_only P xs) (rows_only P xs) ++ rows_only P ys in
      elim (P r.0) as (λ b. M b) [ true ↦ ap (λ (l : Rows). r ∷ l) rest | false ↦ rest ]

  pub wide_only : (w : ℕ) (rows : Rows) → RowsWide w rows → RowsWide w (rows_only P rows)
  wide_only w [] h = tt
  wide_only w (r ∷ rs) h =
      let rest = wide_only w rs h.1 in
      let M : Bool → Type 0 = λ b. RowsWide w (cond b (r ∷ rows_only P rs) (rows_only P rs)) in
      elim (P r.0) as (λ b. M b) [ true ↦ (h.0, rest) | false ↦ rest ]

  pub sound_only : (n : ℕ) (rows : Rows) → RowsSound n rows → RowsSound n (rows_only P rows)
  sound_only n [] h = tt
  sound_only n (r ∷ rs) h =
      let rest = sound_only n rs h.1 in
      let M : Bool → Type 0 = λ b. RowsSound n (cond b (r ∷ rows_only P rs) (rows_only P rs)) in
      elim (P r.0) as (λ b. M b) [ true ↦ (h.0, rest) | false ↦ rest ]

  -- the rows that pass are below the next row
  behind_only : (n : ℕ) (xs : Rows) (x : ℕ × List Value) (ys : Rows) → RiseFrom n (xs ++ x ∷ ys) → (n ≤ x.0) × AreBelow (rows_only P xs) x.0
  behind_only n [] x ys rise = (rise.0, tt)
  behind_only n (r ∷ rs) x ys rise =
      let rest = behind_only (r.0 + 1) rs x ys rise.1 in
      let low = rise.0 in
      let high = rest.0 in
      let under : r.0 < x.0 = omega (arith, high) in
      let M : Bool → Type 0 = λ b. AreBelow (cond b (r ∷ rows_only P rs) (rows_only P rs)) x.0 in
      (omega (arith, low, high), elim (P r.0) as (λ b. M b) [ true ↦ (under, rest.1) | false ↦ rest.1 ])

  pub below_next : (rows : Rows) (i : ℕ) (row : ℕ × List Value) → i < length rows → row ≡ get_or rows i row → RiseFrom 0 rows → AreBelow (rows_only P (take i rows)) row.0
  below_next rows i row h at rise =
      let split : rows ≡ take i rows ++ row ∷ drop (i + 1) rows = sym (take-append-drop i rows) ∙ ap (λ (rest : Rows). take i rows ++ rest) (drop_more rows i row h ∙ ap (λ (y : ℕ × List Value). y ∷ drop (i + 1) rows) (sym at)) in
      (behind_only 0 (take i rows) row (drop (i + 1) rows) (subst (λ (all : Rows). RiseFrom 0 all) split rise)).1

  -- one row more
  pub only_more : (rows : Rows) (i : ℕ) (row : ℕ × List Value) (made now : Rows) → i < length rows → row ≡ get_or rows i row
      → made ≡ rows_only P (take i rows) → now ≡ made ++ (if P row.0 then row ∷ [] else []) → now ≡ rows_only P (take (i + 1) rows)
  only_more rows i row made now h at is pushed =
      let more : rows_only P (take (i + 1) rows) ≡ rows_only P (take i rows) ++ rows_only P (row ∷ []) =
      ap (rows_only P) (take_more rows i row h ∙ ap (λ (y : ℕ × List Value). take i rows ++ y ∷ []) (sym at)) ∙ only_append (take i rows) (row ∷ []) in
      pushed ∙ ap (λ (rs : Rows). rs ++ rows_only P (row ∷ [])) is ∙ sym more

-- ---- one identifier

-- an identifier has no row of another one
pub none_other : (id k : ℕ) → (id ≡ k → ⊥) → (rows : Rows) → rows_only (just id) (rows_only (just k) rows) ≡ []
none_other id k other [] = refl
none_other id k other (r ∷ rs) =
    let rest = none_other id k other rs in
    let X : Rows = rows_only (just k) rs in
    let M : Bool → Type 0 = λ b. (r.0 == k) ≡ b → rows_only (just id) (cond b (r ∷ X) X) ≡ [] in
    let both : M (r.0 == k) = elim (r.0 == k) as (λ b. M b) [
      | true ↦ λ e. cond-false (r.0 == id) (r ∷ rows_only (just id) X) (rows_only (just id) X) (ne_eqb r.0 id (λ same. other (sym same ∙ eqb-true r.0 k e))) ∙ rest
      | false ↦ λ e. rest
    ] in
    both refl

-- nor has one that isn't below the next one
pub none_above : (n id : ℕ) → n ≤ id → (rows : Rows) → RowsSound n rows → rows_only (just id) rows ≡ []
none_above n id h [] s = refl
none_above n id h (r ∷ rs) s =
    let less = s.0.0.1 in
    cond-false (r.0 == id) (r ∷ rows_only (just id) rs) (rows_only (just id) rs) (ne_eqb r.0 id (λ same. omega (arith, same, h, less))) ∙ none_above n id h rs s.1

pub rise_just : (n m : ℕ) (rows : Rows) → RiseFrom m rows → RiseFrom n (rows_only (just n) rows)
rise_just n m [] rise = tt
rise_just n m (r ∷ rs) rise =
    let rest = rise_just n (r.0 + 1) rs rise.1 in
    let more = rise_only (just n) (r.0 + 1) rs rise.1 in
    let X : Rows = rows_only (just n) rs in
    let M : Bool → Type 0 = λ b. (r.0 == n) ≡ b → RiseFrom n (cond b (r ∷ X) X) in
    let both : M (r.0 == n) = elim (r.0 == n) as (λ b. M b) [
      | true ↦ λ e. (let same = eqb-true r.0 n e in omega (arith, same), more)
      | false ↦ λ e. rest
    ] in
    both refl

pub below_just : (n : ℕ) (rows : Rows) → AreBelow (rows_only (just n) rows) (suc n)
below_just n [] = tt
below_just n (r ∷ rs) =
    let rest = below_just n rs in
    let X : Rows = rows_only (just n) rs in
    let M : Bool → Type 0 = λ b. (r.0 == n) ≡ b → AreBelow (cond b (r ∷ X) X) (suc n) in
    let both : M (r.0 == n) = elim (r.0 == n) as (λ b. M b) [
      | true ↦ λ e. (let same = eqb-true r.0 n e in omega (arith, same), rest)
      | false ↦ λ e. rest
    ] in
    both refl

-- ---- rows that rise, with the same rows of each identifier

pub same_at_each : (t u : Rows) → RiseFrom 0 t → RiseFrom 0 u → ((id : ℕ) → rows_only (just id) t ≡ rows_only (just id) u) → t ≡ u
same_at_each t u rise_t rise_u same = ext 0 t u rise_t rise_u (λ id. same_rows (just id) t u id (just_own id) (same id))

pub tables_at_each : (t u : Tables) → AllRise t → AllRise u → ((id : ℕ) → only (just id) t ≡ only (just id) u) → t ≡ u
tables_at_each [] [] rise_t rise_u same = refl
tables_at_each [] (y ∷ ys) rise_t rise_u same = let no : [] ≡ only (just 0) (y ∷ ys) = same 0 in cc
tables_at_each (x ∷ xs) [] rise_t rise_u same = let no : only (just 0) (x ∷ xs) ≡ [] = same 0 in cc
tables_at_each (x ∷ xs) (y ∷ ys) rise_t rise_u same =
    let first = same_at_each x y rise_t.0 rise_u.0 (λ id. ap first_table (same id)) in
    let others = tables_at_each xs ys rise_t.1 rise_u.1 (λ id. ap other_tables (same id)) in
    cc
