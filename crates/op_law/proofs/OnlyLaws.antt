-- Look-ups in tables that are restricted to the identifiers that pass a test.
use Rattle.std.proofs.Common.{◌≡◌, ℕ, ◌+◌, ◌≤◌, ◌==◌, List, [], ◌∷◌, Bool, true, false, cond, Some, None, refl, ap, sym, ◌∙◌, arith}
use Rattle.std.proofs.lemmas.Bool.{eqb-true}
use Rattle.par_base.specs.declared.value.Value.{Value}
use Rattle.row_store.specs.Rows.{Rows, RiseFrom, row_of}
use Rattle.row_store.specs.inner.FoundRows.{rise_more}
use Rattle.op_law.specs.Tables.{Tables}
use Rattle.op_law.specs.Local.{rows_only}

-- either value of a test
pub by_test : {A : Type 0} (b : Bool) → (b ≡ true → A) → (b ≡ false → A) → A
by_test true f g = f refl
by_test false f g = g refl

-- the tests of the first row, whether it passes and whether it is asked for
module _ (P : ℕ → Bool) (r : ℕ × List Value) (rs : Rows) (id : ℕ) where
  in_at : (b c : Bool) → P id ≡ true → P r.0 ≡ b → (r.0 == id) ≡ c → row_of (rows_only P rs) id ≡ row_of rs id → row_of (cond b (r ∷ rows_only P rs) (rows_only P rs)) id ≡ cond c (Some r.1) (row_of rs id)
  in_at true true h e k rest = rw k refl
  in_at true false h e k rest = rw k rest
  in_at false true h e k rest = let s = ap P (eqb-true r.0 id k) in absurd (cc)
  in_at false false h e k rest = rest

  out_at : (b c : Bool) → P id ≡ false → P r.0 ≡ b → (r.0 == id) ≡ c → row_of (rows_only P rs) id ≡ None → row_of (cond b (r ∷ rows_only P rs) (rows_only P rs)) id ≡ None
  out_at true true h e k rest = let s = ap P (eqb-true r.0 id k) in absurd (cc)
  out_at true false h e k rest = rw k rest
  out_at false c h e k rest = rest

-- an identifier that passes has what it had
pub row_in : (P : ℕ → Bool) (rows : Rows) (id : ℕ) → P id ≡ true → row_of (rows_only P rows) id ≡ row_of rows id
row_in P [] id h = refl
row_in P (r ∷ rs) id h = in_at P r rs id (P r.0) (r.0 == id) h refl refl (row_in P rs id h)

-- one that fails has none
pub row_out : (P : ℕ → Bool) (rows : Rows) (id : ℕ) → P id ≡ false → row_of (rows_only P rows) id ≡ None
row_out P [] id h = refl
row_out P (r ∷ rs) id h = out_at P r rs id (P r.0) (r.0 == id) h refl refl (row_out P rs id h)

rise_at : (n : ℕ) (r : ℕ × List Value) (rs : Rows) (b : Bool) → n ≤ r.0 → RiseFrom (r.0 + 1) rs → RiseFrom n (cond b (r ∷ rs) rs)
rise_at n r rs true h rest = (h, rest)
rise_at n r rs false h rest = rise_more n (r.0 + 1) rs (omega arith) rest

-- what is left still rises
pub rise_only : (P : ℕ → Bool) (n : ℕ) (rows : Rows) → RiseFrom n rows → RiseFrom n (rows_only P rows)
rise_only P n [] h = tt
rise_only P n (r ∷ rs) h = rise_at n r (rows_only P rs) (P r.0) h.0 (rise_only P (r.0 + 1) rs h.1)

-- where restricted tables are the same, so are the rows of identifiers that pass
pub same_rows : (P : ℕ → Bool) (t u : Rows) (id : ℕ) → P id ≡ true → rows_only P t ≡ rows_only P u → row_of t id ≡ row_of u id
same_rows P t u id e same = sym (row_in P t id e) ∙ ap (λ (rows : Rows). row_of rows id) same ∙ row_in P u id e

-- the first table of a side, and the others
abbrev pub first_table : Tables → Rows
first_table [] = []
first_table (t ∷ ts) = t

abbrev pub other_tables : Tables → Tables
other_tables [] = []
other_tables (t ∷ ts) = ts
