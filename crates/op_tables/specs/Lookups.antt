-- Look-ups in tables: what stands at an identifier is as the table is, and tables made over identifiers.
use Rattle.std.proofs.Common.{◌≡◌, ℕ, List, [], ◌∷◌, length, Some, None, refl, ap, sym, ◌∙◌, subst, arith}
use Rattle.std.proofs.lemmas.Bool.{eqb-true}
use mathlib.Core.Logic.{inl, inr}
use Rattle.par_base.specs.declared.value.Value.{Value}
use Rattle.row_store.specs.Rows.{Rows, RiseFrom, row_of}
use Rattle.op_law.specs.Tables.{Tables, Heading, RowsWide, AreTablesOf}
use Rattle.op_law.specs.Sound.{RowsSound, TablesSound, HasRow}
use Rattle.op_law.specs.Identifiers.{ids_in, ids_over}
use Rattle.op_rows.specs.Cells.{first_cell, other_cells, with_row, table_from, CellWide, CellSound}
use Rattle.op_rows.specs.inner.CellLemmas.{has_id, none_at, rise_ids, IdsBelow, IdsRise, rise_put}
use Rattle.op_rows.specs.inner.Tabulated.{row_from, rise_from, all_below_from}
use Rattle.row_parts.specs.RowCells.{Cell, by_test}
use Rattle.op_tables.specs.SideTables.{first_table, second_table}

-- a table over the identifiers of one, two or three others
pub one_at : (rows : Rows) (f : ℕ → Cell) (p : ℕ) → (row_of rows p ≡ None → f p ≡ None) → row_of (table_from (ids_in rows []) f) p ≡ f p
one_at rows f p h = row_from (ids_in rows []) f p ∙ by_test (has_id (ids_in rows []) p) (λ e. rw e refl) (λ e. rw e (sym (h (ap first_cell (none_at (rows ∷ []) [] p e).0))))

-- the same over the identifiers of two tables
pub two_at : (s t : Rows) (f : ℕ → Cell) (p : ℕ) → (row_of s p ≡ None → row_of t p ≡ None → f p ≡ None) → row_of (table_from (ids_over (s ∷ t ∷ []) []) f) p ≡ f p
two_at s t f p h = row_from (ids_over (s ∷ t ∷ []) []) f p ∙ by_test (has_id (ids_over (s ∷ t ∷ []) []) p) (λ e. rw e refl)
    (λ e. let n = (none_at (s ∷ t ∷ []) [] p e).0 in rw e (sym (h (ap first_cell n) (ap (λ (cs : List Cell). first_cell (other_cells cs)) n))))

-- such a table rises, is as wide as what it is made of, and is as sound
pub one_rise : (rows : Rows) (f : ℕ → Cell) → RiseFrom 0 rows → RiseFrom 0 (table_from (ids_in rows []) f)
one_rise rows f h = rise_from 0 _ f (rise_ids (rows ∷ []) [] (h, tt) tt)

-- the same over two tables
pub two_rise : (s t : Rows) (f : ℕ → Cell) → RiseFrom 0 s → RiseFrom 0 t → RiseFrom 0 (table_from (ids_over (s ∷ t ∷ []) []) f)
two_rise s t f h g = rise_from 0 _ f (rise_ids (s ∷ t ∷ []) [] (h, (g, tt)) tt)

-- and over three
pub three_rise : (s t u : Rows) (f : ℕ → Cell) → RiseFrom 0 s → RiseFrom 0 t → RiseFrom 0 u → RiseFrom 0 (table_from (ids_over (s ∷ t ∷ u ∷ []) []) f)
three_rise s t u f h g i = rise_from 0 _ f (rise_ids (s ∷ t ∷ u ∷ []) [] (h, (g, (i, tt))) tt)

-- a row more, as wide as the others
wide_head : (w x : ℕ) (ids : List ℕ) (f : ℕ → Cell) (o : Cell) → CellWide w o → RowsWide w (table_from ids f) → RowsWide w (with_row x o (table_from ids f))
wide_head w x ids f None h wide = wide
wide_head w x ids f (Some row) h wide = (h, wide)

-- rows as wide as what each identifier gets
pub wide_table : (w : ℕ) (ids : List ℕ) (f : ℕ → Cell) → ((id : ℕ) → CellWide w (f id)) → RowsWide w (table_from ids f)
wide_table w [] f h = tt
wide_table w (x ∷ xs) f h = wide_head w x xs f (f x) (h x) (wide_table w xs f h)

-- rows that may stand, as what each identifier gets may
pub sound_table : (n : ℕ) (ids : List ℕ) (f : ℕ → Cell) → IdsBelow n ids → ((id : ℕ) → CellSound n (f id)) → RowsSound n (table_from ids f)
sound_table n ids f b h = (all_below_from n 1 ids (λ id. f id ∷ []) b (λ id. (h id, tt))).0

-- the tables of a side with one table or two
pub record One (w : ℕ) (ts : Tables) : Type 0 where
  pub is : first_table ts ∷ [] ≡ ts
  pub rise : RiseFrom 0 (first_table ts)
  pub wide : RowsWide w (first_table ts)

-- the only table of a side of one
one_of : (h : Heading) (w : ℕ) (ts : Tables) → length h.columns ≡ w → AreTablesOf (h ∷ []) ts → One w ts
one_of h w [] e of = absurd of
one_of h w (t ∷ []) e of = record { is = refl; rise = of.0.0; wide = subst (λ (x : ℕ). RowsWide x t) e of.0.1 }
one_of h w (t ∷ u ∷ us) e of = absurd (of.1)

-- of the side of one heading
pub one_table : (hs : List Heading) (h : Heading) (w : ℕ) (ts : Tables) → hs ≡ h ∷ [] → length h.columns ≡ w → AreTablesOf hs ts → One w ts
one_table hs h w ts is e of = one_of h w ts e (subst (λ (x : List Heading). AreTablesOf x ts) is of)

-- what is known of a side of two tables
pub record Two (v w : ℕ) (ts : Tables) : Type 0 where
  pub is : first_table ts ∷ second_table ts ∷ [] ≡ ts
  pub rise0 : RiseFrom 0 (first_table ts)
  pub wide0 : RowsWide v (first_table ts)
  pub rise1 : RiseFrom 0 (second_table ts)
  pub wide1 : RowsWide w (second_table ts)

-- the two tables of a side of two
two_of : (h k : Heading) (v w : ℕ) (ts : Tables) → length h.columns ≡ v → length k.columns ≡ w → AreTablesOf (h ∷ k ∷ []) ts → Two v w ts
two_of h k v w [] e f of = absurd of
two_of h k v w (t ∷ []) e f of = absurd (of.1)
two_of h k v w (t ∷ u ∷ []) e f of = record {
  is = refl;
  rise0 = of.0.0;
  wide0 = subst (λ (x : ℕ). RowsWide x t) e of.0.1;
  rise1 = of.1.0.0;
  wide1 = subst (λ (x : ℕ). RowsWide x u) f of.1.0.1;
}
two_of h k v w (t ∷ u ∷ x ∷ xs) e f of = absurd (of.1.1)

-- of the side of two headings
pub two_tables : (hs : List Heading) (h k : Heading) (v w : ℕ) (ts : Tables) → hs ≡ h ∷ k ∷ [] → length h.columns ≡ v → length k.columns ≡ w → AreTablesOf hs ts → Two v w ts
two_tables hs h k v w ts is e f of = two_of h k v w ts e f (subst (λ (x : List Heading). AreTablesOf x ts) is of)

-- and back
pub one_wide : (hs : List Heading) (h : Heading) (w : ℕ) (t : Rows) → hs ≡ h ∷ [] → length h.columns ≡ w → RiseFrom 0 t → RowsWide w t → AreTablesOf hs (t ∷ [])
one_wide hs h w t is e rise wide = subst (λ (x : List Heading). AreTablesOf x (t ∷ [])) (sym is) ((rise, subst (λ (x : ℕ). RowsWide x t) (sym e) wide), tt)

-- two tables of these widths are those of two headings
pub two_wide : (hs : List Heading) (h k : Heading) (v w : ℕ) (s t : Rows) → hs ≡ h ∷ k ∷ [] → length h.columns ≡ v → length k.columns ≡ w → RiseFrom 0 s → RowsWide v s → RiseFrom 0 t → RowsWide w t → AreTablesOf hs (s ∷ t ∷ [])
two_wide hs h k v w s t is e f rise0 wide0 rise1 wide1 =
    subst (λ (x : List Heading). AreTablesOf x (s ∷ t ∷ [])) (sym is) ((rise0, subst (λ (x : ℕ). RowsWide x s) (sym e) wide0), ((rise1, subst (λ (x : ℕ). RowsWide x t) (sym f) wide1), tt))

-- the same of what may stand
pub sound0 : (n : ℕ) (ts : Tables) → TablesSound n ts → RowsSound n (first_table ts)
sound0 n [] h = tt
sound0 n (t ∷ ts) h = h.0

-- and the second
pub sound1 : (n : ℕ) (ts : Tables) → TablesSound n ts → RowsSound n (second_table ts)
sound1 n [] h = tt
sound1 n (t ∷ ts) h = sound0 n ts h.1

-- a row of either table is a row of the side
pub in_first : (id : ℕ) (ts : Tables) (row : List Value) → row_of (first_table ts) id ≡ Some row → HasRow id ts
in_first id [] row e = absurd (cc)
in_first id (t ∷ ts) row e = inl (rw e refl)

-- and so is one of the second
pub in_second : (id : ℕ) (ts : Tables) (row : List Value) → row_of (second_table ts) id ≡ Some row → HasRow id ts
in_second id [] row e = absurd (cc)
in_second id (t ∷ ts) row e = inr (in_first id ts row e)

-- the identifiers of any rows rise, beside ones that do
pub ids_rise : (rows : Rows) (ids : List ℕ) → IdsRise 0 ids → IdsRise 0 (ids_in rows ids)
ids_rise [] ids h = h
ids_rise (r ∷ rs) ids h = rise_put 0 r.0 (ids_in rs ids) (omega arith) (ids_rise rs ids h)
