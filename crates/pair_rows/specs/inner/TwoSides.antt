-- The source has two tables and the target one.
use Rattle.std.proofs.Common.{◌≡◌, ℕ, zero, suc, List, [], ◌∷◌, length, IsSome, refl, subst}
use mathlib.Core.Logic.{inl, inr}
use Rattle.row_store.specs.Rows.{Rows, RiseFrom, row_of}
use Rattle.op_law.specs.Tables.{Tables, Heading, RowsWide, AreTablesOf, empty_tables, widths}
use Rattle.op_law.specs.Sound.{RowsSound, TablesSound, HasRow}
use Rattle.pair_rows.specs.Sides.{table_at}

-- a side of two tables
pub record TwoTables (a b : ℕ) (ts : Tables) : Type 0 where
  pub is : table_at 0 ts ∷ table_at 1 ts ∷ [] ≡ ts
  pub first_rise : RiseFrom 0 (table_at 0 ts)
  pub first_wide : RowsWide a (table_at 0 ts)
  pub second_rise : RiseFrom 0 (table_at 1 ts)
  pub second_wide : RowsWide b (table_at 1 ts)

-- a side of one table
pub record OneTable (a : ℕ) (ts : Tables) : Type 0 where
  pub is : table_at 0 ts ∷ [] ≡ ts
  pub rise : RiseFrom 0 (table_at 0 ts)
  pub wide : RowsWide a (table_at 0 ts)

-- a side of two headings has two tables
pub two_tables : (a b : ℕ) (hs : List Heading) (ts : Tables) → widths hs ≡ a ∷ b ∷ [] → AreTablesOf hs ts → TwoTables a b ts
two_tables a b [] ts e h = absurd (cc)
two_tables a b (k ∷ []) ts e h = absurd (cc)
two_tables a b (k ∷ (l ∷ [])) [] e h = absurd h
two_tables a b (k ∷ (l ∷ [])) (s ∷ []) e h = absurd h.1
two_tables a b (k ∷ (l ∷ [])) (s ∷ (t ∷ [])) e h =
    let one : length k.columns ≡ a = cc in
    let other : length l.columns ≡ b = cc in
    record {
      is = refl;
      first_rise = h.0.0;
      first_wide = subst (λ (w : ℕ). RowsWide w s) one h.0.1;
      second_rise = h.1.0.0;
      second_wide = subst (λ (w : ℕ). RowsWide w t) other h.1.0.1;
    }
two_tables a b (k ∷ (l ∷ [])) (s ∷ (t ∷ (u ∷ us))) e h = absurd h.1.1
two_tables a b (k ∷ (l ∷ (x ∷ xs))) ts e h = absurd (cc)

-- a side of one heading has one table
pub one_table : (a : ℕ) (hs : List Heading) (ts : Tables) → widths hs ≡ a ∷ [] → AreTablesOf hs ts → OneTable a ts
one_table a [] ts e h = absurd (cc)
one_table a (k ∷ []) [] e h = absurd h
one_table a (k ∷ []) (t ∷ []) e h =
    let one : length k.columns ≡ a = cc in
    record { is = refl; rise = h.0.0; wide = subst (λ (w : ℕ). RowsWide w t) one h.0.1 }
one_table a (k ∷ []) (t ∷ (u ∷ us)) e h = absurd h.1
one_table a (k ∷ (l ∷ ls)) ts e h = absurd (cc)

-- and such tables are of such sides
pub two_of : (a b : ℕ) (hs : List Heading) (s t : Rows) → widths hs ≡ a ∷ b ∷ [] → RiseFrom 0 s → RowsWide a s → RiseFrom 0 t → RowsWide b t → AreTablesOf hs (s ∷ t ∷ [])
two_of a b [] s t e rise wide other_rise other_wide = absurd (cc)
two_of a b (k ∷ []) s t e rise wide other_rise other_wide = absurd (cc)
two_of a b (k ∷ (l ∷ [])) s t e rise wide other_rise other_wide =
    let one : a ≡ length k.columns = cc in
    let other : b ≡ length l.columns = cc in
    ((rise, subst (λ (w : ℕ). RowsWide w s) one wide), ((other_rise, subst (λ (w : ℕ). RowsWide w t) other other_wide), tt))
two_of a b (k ∷ (l ∷ (x ∷ xs))) s t e rise wide other_rise other_wide = absurd (cc)

-- one table is a side
pub one_of : (a : ℕ) (hs : List Heading) (t : Rows) → widths hs ≡ a ∷ [] → RiseFrom 0 t → RowsWide a t → AreTablesOf hs (t ∷ [])
one_of a [] t e rise wide = absurd (cc)
one_of a (k ∷ []) t e rise wide = let one : a ≡ length k.columns = cc in ((rise, subst (λ (w : ℕ). RowsWide w t) one wide), tt)
one_of a (k ∷ (l ∷ ls)) t e rise wide = absurd (cc)

-- a table of a side
pub table_sound : (n at : ℕ) (ts : Tables) → TablesSound n ts → RowsSound n (table_at at ts)
table_sound n at [] sound = tt
table_sound n zero (t ∷ ts) sound = sound.0
table_sound n (suc at) (t ∷ ts) sound = table_sound n at ts sound.1

-- a row of a table of a side
pub row_in : (at : ℕ) (ts : Tables) (id : ℕ) → IsSome (row_of (table_at at ts) id) → HasRow id ts
row_in at [] id some = absurd (cc)
row_in zero (t ∷ ts) id some = inl some
row_in (suc at) (t ∷ ts) id some = inr (row_in at ts id some)

-- empty tables have no rows
pub empty_table : (at : ℕ) (hs : List Heading) → table_at at (empty_tables hs) ≡ []
empty_table at [] = refl
empty_table zero (h ∷ hs) = refl
empty_table (suc at) (h ∷ hs) = empty_table at hs
