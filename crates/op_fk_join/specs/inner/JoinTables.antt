-- JOIN ON FK, backward: the new tables.
use Rattle.std.proofs.Common.{◌≡◌, ℕ, ◌+◌, ◌≤◌, List, [], ◌∷◌, true, cond, length, Option, Some, None, refl, ap, sym, ◌∙◌, subst, arith}
use Rattle.par_base.specs.declared.value.Value.{Value}
use Rattle.par_base.specs.declared.value.Value.TheVariants.{Reference}
use Rattle.row_store.specs.Rows.{Rows, RiseFrom, row_of}
use Rattle.row_store.proofs.UndoLaws.{ext}
use Rattle.op_law.specs.Tables.{RowsWide}
use Rattle.op_law.specs.Sound.{ValueSound, RowsSound, TablesSound}
use Rattle.op_law.specs.Identifiers.{ids_over}
use Rattle.op_rows.specs.Cells.{CellWide, CellSound}
use Rattle.op_rows.specs.inner.CellLemmas.{below_ids}
use Rattle.row_parts.specs.RowCells.{Cell, or_else, id_or, value_or, by_test, by_option}
use Rattle.foreign_keys.specs.KeyParts.{FkParts, FkWell}
use Rattle.foreign_keys.specs.References.{goal_of, at_goal}
use Rattle.foreign_keys.specs.DrawnIds.{numbered, place}
use Rattle.op_tables.specs.Lookups.{two_at, two_rise, wide_table, sound_table}
use Rattle.op_law.proofs.SoundLaws.{below_more, value_more, rows_more, sound_at, wide_at}
use Rattle.foreign_keys.specs.inner.DrawnLemmas.{place_under, numbered_from, distinct, has_needed, numbered_rise, drawn_none, drawn_wide, drawn_sound}
use Rattle.op_fk_join.specs.Join.{joined_row, stays_at, key_kept, first_with, draws_join, needs_join, join_drawn, ref_join, left_in, join_first_in, join_first, join_second, s_before, t_before}
use Rattle.foreign_keys.specs.Shared.{Ready}
use Rattle.op_tables.specs.inner.CellFacts.{cell_has, or_has}
use Rattle.op_fk_join.specs.inner.JoinFacts.{first_at_of, join_kept, join_needs_none, join_first_still}
use Rattle.par_base.specs.SameRows.{same_row}

-- a kept foreign key is that of the old row
kept_key : (k : FkParts) (c : Cell) (t : Rows) (y : List Value) (f : Value) → key_kept k c t y ≡ Some f → {X : Type 0} → ((v : List Value) → c ≡ Some v → k.key v ≡ f → X) → X
kept_key k None t y f e h = absurd (cc)
kept_key k (Some v) t y f e h =
    by_option (at_goal t (goal_of (k.key v)))
    (λ none. let bad : None ≡ Some f = sym (ap (λ (c : Cell). stays_at (k.key v) c y) none) ∙ e in absurd (cc))
    (λ u at.
    let e2 : cond (same_row y u) (Some (k.key v)) None ≡ Some f = sym (ap (λ (c : Cell). stays_at (k.key v) c y) at) ∙ e in
    by_test (same_row y u)
    (λ g. let some : Some (k.key v) ≡ Some f = rw g at e2 in h v refl (cc))
    (λ g. let bad : None ≡ Some f = rw g at e2 in absurd (cc)))

-- what holds of no row and of the old row holds of what is left
left_has : (k : FkParts) (P : Cell → Type 0) (o c : Cell) → P None → P c → P (left_in o c)
left_has k P (Some row) c none h = none
left_has k P None c none h = h

-- what holds of no row, the old row and a new row holds of what new S has
join_has : (k : FkParts) (P : Cell → Type 0) (r c : Cell) (t : Rows) (n : ℕ) (d : List (List Value)) → P None → P c → ((row : List Value) → r ≡ Some row → P (Some (k.put (k.first row) (value_or (ref_join k t n d (k.second row)) (key_kept k c t (k.second row)))))) → P (join_first_in k r c t n d)
join_has k P None c t n d none h f = left_has k P (joined_row k c t) c none h
join_has k P (Some row) c t n d none h f = f row refl

module _ (k : FkParts) (w a b z : ℕ) (well : FkWell k w a b z) (s t near : Rows) (n : ℕ) (ok : Ready w b z s t near n) where
  -- the values that are drawn for
  abbrev dd : List (List Value)
  dd = join_drawn k s t near

  -- new S
  abbrev ns : Rows
  ns = s_before k s t near n

  -- new T
  abbrev nt : Rows
  nt = t_before k s t near n

  -- the next identifier after the mapping
  abbrev next : ℕ
  next = n + length dd

  -- nothing is left where S had nothing
  nothing_left : (c : Cell) → c ≡ None → left_in (joined_row k c t) c ≡ None
  nothing_left c e = rw e refl

  -- what new S has at p
  pub s_at : (p : ℕ) → row_of ns p ≡ join_first k s t n dd near p
  s_at p = two_at near s (join_first k s t n dd near) p
      (λ e f. ap (λ (c : Cell). join_first_in k c (row_of s p) t n dd) e ∙ nothing_left (row_of s p) f)

  -- what new T has at q
  pub t_at : (q : ℕ) → row_of nt q ≡ join_second t n dd q
  t_at q = two_at t (numbered n dd) (join_second t n dd) q (λ e f. ap (λ (c : Cell). or_else c (row_of (numbered n dd) q)) e ∙ f)

  -- the drawn rows rise
  drawn_rise : RiseFrom 0 (numbered n dd)
  drawn_rise = numbered_rise 0 n dd (omega arith)

  -- new S rises
  pub s_rise : RiseFrom 0 ns
  s_rise = two_rise near s (join_first k s t n dd near) ok.near_rise ok.s_rise

  -- new T rises
  pub t_rise : RiseFrom 0 nt
  t_rise = two_rise t (numbered n dd) (join_second t n dd) ok.t_rise drawn_rise

  -- new S is as wide as its heading says
  pub s_wide : RowsWide z ns
  s_wide = wide_table z (ids_over (near ∷ s ∷ []) []) (join_first k s t n dd near)
      (λ p. join_has k (CellWide z) (row_of near p) (row_of s p) t n dd tt
      (cell_has (CellWide z) (row_of s p) tt (λ v e. wide_at z s p v ok.s_wide e))
      (λ row e. well.long_put (k.first row) _ (well.long_first row (wide_at w near p row ok.near_wide e))))

  -- so is new T
  pub t_wide : RowsWide b nt
  t_wide = wide_table b (ids_over (t ∷ numbered n dd ∷ []) []) (join_second t n dd)
      (λ q. or_has (CellWide b) (row_of t q) (row_of (numbered n dd) q)
      (cell_has (CellWide b) (row_of t q) tt (λ v e. wide_at b t q v ok.t_wide e))
      (cell_has (CellWide b) (row_of (numbered n dd) q) tt (λ v e. drawn_wide k w a b z well (needs_join k s t) near n q v ok.near_rise ok.near_wide e)))

  -- the drawn rows are sound
  drawn_rows : RowsSound next (numbered n dd)
  drawn_rows = drawn_sound k n next (needs_join k s t) near (λ v h. well.sound_second next v h) (omega arith) ok.near_below

  -- the foreign key of a new row may stand
  ref_sound : (p : ℕ) (row : List Value) → row_of near p ≡ Some row → key_kept k (row_of s p) t (k.second row) ≡ None → ValueSound next (ref_join k t n dd (k.second row))
  ref_sound p row at none = by_option (first_with t (k.second row))
      (λ e.
      let need : needs_join k s t p row ≡ true = ap (λ (o : Option Value). draws_join o (first_with t (k.second row))) none ∙ ap (draws_join None) e in
      let under = place_under dd (k.second row) (has_needed k (needs_join k s t) [] near p row at need) in
      let own = (sound_at n near p row ok.near_below at).0 in
      let one = own.0 in
      let more = own.1 in
      let here : ref_join k t n dd (k.second row) ≡ Reference (n + place dd (k.second row)) = ap (λ (o : Option ℕ). Reference (id_or (n + place dd (k.second row)) o)) e in
      subst (λ (v : Value). ValueSound next v) (sym here) (omega (arith, one, more), omega (arith, under)))
      (λ q e.
      let old = (sound_at n t q (k.second row) ok.t_below (first_at_of 0 t (k.second row) q ok.t_rise e)).0 in
      let here : ref_join k t n dd (k.second row) ≡ Reference q = ap (λ (o : Option ℕ). Reference (id_or (n + place dd (k.second row)) o)) e in
      subst (λ (v : Value). ValueSound next v) (sym here) (below_more n next (omega arith) q old))

  -- the foreign key of a new row is sound
  key_sound : (p : ℕ) (row : List Value) → row_of near p ≡ Some row → ValueSound next (value_or (ref_join k t n dd (k.second row)) (key_kept k (row_of s p) t (k.second row)))
  key_sound p row at = by_option (key_kept k (row_of s p) t (k.second row))
      (λ e. subst (λ (o : Option Value). ValueSound next (value_or (ref_join k t n dd (k.second row)) o)) (sym e) (ref_sound p row at e))
      (λ f e. subst (λ (o : Option Value). ValueSound next (value_or (ref_join k t n dd (k.second row)) o)) (sym e)
      (kept_key k (row_of s p) t (k.second row) f e
      (λ v es is. subst (λ (x : Value). ValueSound next x) is (value_more n next (omega arith) (k.key v) (well.sound_key n v (sound_at n s p v ok.s_below es).1)))))

  -- new S and new T are sound
  pub both_sound : TablesSound next (ns ∷ nt ∷ [])
  both_sound =
      let near_b = rows_more n next (omega arith) near ok.near_below in
      let s_b = rows_more n next (omega arith) s ok.s_below in
      let t_b = rows_more n next (omega arith) t ok.t_below in (
        sound_table next (ids_over (near ∷ s ∷ []) []) (join_first k s t n dd near) (below_ids next (near ∷ s ∷ []) [] (near_b, (s_b, tt)) tt)
            (λ p. join_has k (CellSound next) (row_of near p) (row_of s p) t n dd tt
            (cell_has (CellSound next) (row_of s p) tt (λ v e. (sound_at next s p v s_b e).1))
            (λ row e. well.sound_put next (k.first row) _ (well.sound_first next row (sound_at next near p row near_b e).1) (key_sound p row e))),
        (
          sound_table next (ids_over (t ∷ numbered n dd ∷ []) []) (join_second t n dd) (below_ids next (t ∷ numbered n dd ∷ []) [] (t_b, (drawn_rows, tt)) tt)
              (λ q. or_has (CellSound next) (row_of t q) (row_of (numbered n dd) q)
              (cell_has (CellSound next) (row_of t q) tt (λ v e. (sound_at next t q v t_b e).1))
              (cell_has (CellSound next) (row_of (numbered n dd) q) tt (λ v e. (sound_at next (numbered n dd) q v drawn_rows e).1))),
          tt,
        ),
      )

  -- new S and new T are related to new R
  pub related_after : (p : ℕ) → row_of near p ≡ joined_row k (row_of ns p) nt
  related_after p = join_kept k w a b z well s t near n ok ns nt s_at t_at p

  -- what new S and T have is of the near side, of the old ones, or drawn
  pub s_from : (p : ℕ) (v : List Value) → row_of ns p ≡ Some v → row_of near p ≡ None → row_of s p ≡ None → ⊥
  s_from p v at none gone =
      let no : row_of ns p ≡ None = s_at p ∙ ap (λ (c : Cell). join_first_in k c (row_of s p) t n dd) none ∙ nothing_left (row_of s p) gone in
      cc

  -- a new identifier of T is drawn
  pub t_from : (q : ℕ) (v : List Value) → row_of nt q ≡ Some v → row_of t q ≡ None → n ≤ q
  t_from q v at gone =
      let e : row_of (numbered n dd) q ≡ Some v = sym (ap (λ (c : Cell). or_else c (row_of (numbered n dd) q)) gone) ∙ sym (t_at q) ∙ at in
      (numbered_from n dd q v (distinct k (needs_join k s t) [] near tt) e).1.1

module _ (k : FkParts) (w a b z : ℕ) (well : FkWell k w a b z) (s t near : Rows) (n : ℕ) (ok : Ready w b z s t near n) (rel : (p : ℕ) → row_of near p ≡ joined_row k (row_of s p) t) where
  -- nothing is drawn where R is as it was
  pub none_drawn : join_drawn k s t near ≡ []
  none_drawn = drawn_none k 0 (needs_join k s t) near ok.near_rise (join_needs_none k w a b z well s t near n ok rel)

  -- S is as it was where R is
  pub s_still : s_before k s t near n ≡ s
  s_still = ext 0 _ s (s_rise k w a b z well s t near n ok) ok.s_rise (λ p. s_at k w a b z well s t near n ok p ∙ join_first_still k w a b z well s t near n ok rel p)

  -- none in place of what is missing changes nothing
  or_none : (c : Cell) → or_else c None ≡ c
  or_none None = refl
  or_none (Some v) = refl

  -- T is as it was where R is
  pub t_still : t_before k s t near n ≡ t
  t_still = ext 0 _ t (t_rise k w a b z well s t near n ok) ok.t_rise
      (λ q. t_at k w a b z well s t near n ok q ∙ ap (λ (d : List (List Value)). or_else (row_of t q) (row_of (numbered n d) q)) none_drawn ∙ or_none (row_of t q))
