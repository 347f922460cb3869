-- What the new tables have at each identifier, and that new S may stand.
use Rattle.std.proofs.Common.{◌≡◌, ℕ, ◌+◌, List, [], ◌∷◌, Bool, true, false, not, ◌&&◌, ◌||◌, cond, length, Option, Some, None, refl, ap, sym, ◌∙◌, subst, arith}
use Rattle.par_base.specs.declared.value.Value.{Value}
use Rattle.par_base.specs.declared.value.Value.TheVariants.{Null, Reference}
use Rattle.row_store.specs.Rows.{Rows, row_of}
use Rattle.op_law.specs.Sound.{ValueSound, ValuesSound}
use Rattle.op_law.specs.Identifiers.{ids_in, ids_over}
use Rattle.op_rows.specs.Cells.{first_cell, other_cells, CellSound}
use Rattle.op_rows.specs.inner.CellLemmas.{none_at}
use Rattle.op_rows.specs.inner.Tabulated.{row_from}
use Rattle.row_parts.specs.RowCells.{Cell, is_there, or_else, kept_if, map_cell, in_cell, id_or, value_or, by_test, by_option}
use Rattle.foreign_keys.specs.KeyParts.{FkParts, FkWell}
use Rattle.foreign_keys.specs.References.{referred}
use Rattle.foreign_keys.specs.Shared.{Ready}
use Rattle.foreign_keys.specs.DrawnIds.{numbered, has, place}
use Rattle.op_law.proofs.SoundLaws.{below_more, value_more, values_more, sound_at}
use Rattle.foreign_keys.specs.inner.DrawnLemmas.{place_under, has_needed}
use Rattle.op_fk_decompose.specs.Decompose.{alone, least_in, how, draws_for, needs, values_drawn, ref, near_row, new_first, new_second, s_after, t_after}
use Rattle.op_fk_decompose.specs.inner.DecomposeFacts.{Least, least, from_keep}
use Rattle.par_base.specs.SameRows.{same_row}

-- nothing of nothing
nothing : (a b : Bool) → or_else (kept_if a None) (or_else (kept_if b None) None) ≡ None
nothing true true = refl
nothing true false = refl
nothing false true = refl
nothing false false = refl

-- what is nothing outside need not be tested
no_cond : (b : Bool) (c d : Cell) → c ≡ d → (b ≡ false → d ≡ None) → cond b c None ≡ d
no_cond true c d e h = e
no_cond false c d e h = sym (h refl)

-- a row to which one refers isn't alone
pub not_alone : (a b c : Bool) → c ≡ true → (a && (not b && not c)) ≡ false
not_alone a b c h = grind arith

-- what is known of an alone row
pub alone_parts : (c : Cell) (b r : Bool) → (is_there c && (not b && not r)) ≡ true → (b ≡ false) × (r ≡ false)
alone_parts None b r h = absurd (cc)
alone_parts (Some v) true r h = absurd (cc)
alone_parts (Some v) false true h = absurd (cc)
alone_parts (Some v) false false h = (refl, refl)

module _ (k : FkParts) (w a b z : ℕ) (well : FkWell k w a b z) (s t near : Rows) (n : ℕ) (ok : Ready w b z s t near n) where
  -- the values drawn for
  abbrev d : List (List Value)
  d = values_drawn k s t near

  -- what new S has at an identifier
  pub first_at : (p : ℕ) → row_of (s_after k s t near n) p ≡ new_first k s t n d near p
  first_at p = row_from (ids_in near []) (new_first k s t n d near) p ∙ no_cond _ _ _ refl
      (λ out. let e = ap first_cell (none_at (near ∷ []) [] p out).0 in ap (λ (c : Cell). in_cell c (λ row. near_row k (how k s t p row) (ref k s t n d (k.second row)) (k.first row))) e)

  -- what new T has at an identifier
  pub second_at : (q : ℕ) → row_of (t_after k s t near n) q ≡ new_second k s t n d near (s_after k s t near n) q
  second_at q = row_from (ids_over (near ∷ t ∷ numbered n d ∷ []) []) (new_second k s t n d near (s_after k s t near n)) q ∙ no_cond _ _ _ refl
      (λ out.
      let e = (none_at (near ∷ t ∷ numbered n d ∷ []) [] q out).0 in
      let e1 : row_of near q ≡ None = ap first_cell e in
      let e2 : row_of t q ≡ None = ap (λ (cs : List Cell). first_cell (other_cells cs)) e in
      let e3 : row_of (numbered n d) q ≡ None = ap (λ (cs : List Cell). first_cell (other_cells (other_cells cs))) e in
      let al = alone k s t q in
      let re = referred k (s_after k s t near n) q || is_there (row_of (s_after k s t near n) q) in
      ap (λ (c : Cell). or_else (kept_if al (map_cell k.second c)) (or_else (kept_if re (row_of t q)) (row_of (numbered n d) q))) e1
      ∙ ap (λ (c : Cell). or_else (kept_if al None) (or_else (kept_if re c) (row_of (numbered n d) q))) e2
      ∙ ap (λ (c : Cell). or_else (kept_if al None) (or_else (kept_if re None) c)) e3
      ∙ nothing al re)

  -- where ref(b) is used it is null, an old shared row, or the drawn one
  pub ref_is : {X : Type 0} (p : ℕ) (row : List Value) → row_of near p ≡ Some row → how k s t p row ≡ Some None
      → (same_row (k.second row) k.null_second ≡ true → ref k s t n d (k.second row) ≡ Null → X)
      → ((q : ℕ) → Least k s t t (k.second row) q → ref k s t n d (k.second row) ≡ Reference q → X)
      → (has d (k.second row) ≡ true → ref k s t n d (k.second row) ≡ Reference (n + place d (k.second row)) → X) → X
  ref_is p row at case_is f g h =
      by_test (same_row (k.second row) k.null_second)
      (λ u. f u (rw u refl))
      (λ u. by_option (least_in k s t t (k.second row))
      (λ none.
      let need : needs k s t p row ≡ true = ap (λ (c : Option (Option Value)). draws_for k c (least_in k s t t (k.second row)) (same_row (k.second row) k.null_second)) case_is
      ∙ ap (λ (c : Option ℕ). draws_for k (Some None) c (same_row (k.second row) k.null_second)) none
      ∙ ap (λ (c : Bool). draws_for k (Some None) None c) u in
      h (has_needed k (needs k s t) [] near p row at need)
      (ap (λ (c : Bool). cond c Null (Reference (id_or (n + place d (k.second row)) (least_in k s t t (k.second row))))) u ∙ ap (λ (c : Option ℕ). Reference (id_or (n + place d (k.second row)) c)) none))
      (λ q some. g q (least k 0 s t t (k.second row) q ok.t_rise some)
      (ap (λ (c : Bool). cond c Null (Reference (id_or (n + place d (k.second row)) (least_in k s t t (k.second row))))) u ∙ ap (λ (c : Option ℕ). Reference (id_or (n + place d (k.second row)) c)) some)))

  -- the next identifier after those drawn
  abbrev pub next : ℕ
  next = n + length d

  -- the reference to a row of a value is below it
  ref_sound : (p : ℕ) (row : List Value) → row_of near p ≡ Some row → how k s t p row ≡ Some None → ValueSound next (ref k s t n d (k.second row))
  ref_sound p row at case_is =
      ref_is p row at case_is
      (λ u e. subst (λ (v : Value). ValueSound next v) (sym e) tt)
      (λ q l e. subst (λ (v : Value). ValueSound next v) (sym e) (below_more n next (omega arith) q (sound_at n t q l.row ok.t_below l.at).0))
      (λ h e.
      let under = place_under d (k.second row) h in
      let own = (sound_at n near p row ok.near_below at).0 in
      let one = own.0 in
      let more = own.1 in
      subst (λ (v : Value). ValueSound next v) (sym e) (omega (arith, one, more), omega (arith, under)))

  -- so is each key
  key_sound : (p : ℕ) (row : List Value) (h : Option Value) → row_of near p ≡ Some row → how k s t p row ≡ Some h → ValueSound next (value_or (ref k s t n d (k.second row)) h)
  key_sound p row None at e = ref_sound p row at e
  key_sound p row (Some g) at e =
      from_keep k (row_of s p) (alone k s t p) p t (k.first row) (k.second row) g e
      (λ v at_s key_is u. subst (λ (x : Value). ValueSound next x) key_is (value_more n next (omega arith) (k.key v) (well.sound_key n v (sound_at n s p v ok.s_below at_s).1)))
      (λ none al key_is. subst (λ (x : Value). ValueSound next x) key_is (below_more n next (omega arith) p (sound_at n near p row ok.near_below at).0))

  -- so is a row of S with such a key
  near_row_sound : (m : ℕ) (o : Option (Option Value)) (f : Value) (x : List Value) → ValuesSound m x → ((h : Option Value) → o ≡ Some h → ValueSound m (value_or f h)) → CellSound m (near_row k o f x)
  near_row_sound m None f x bx h = tt
  near_row_sound m (Some o) f x bx h = well.sound_put m x (value_or f o) bx (h o refl)

  -- a property of what is made of a row
  in_cell_has : (P : Cell → Type 0) (c : Cell) (f : List Value → Cell) → P None → ((row : List Value) → c ≡ Some row → P (f row)) → P (in_cell c f)
  in_cell_has P None f none h = none
  in_cell_has P (Some row) f none h = h row refl

  -- so is what new S has
  pub first_sound : (p : ℕ) → CellSound next (new_first k s t n d near p)
  first_sound p = in_cell_has (λ c. CellSound next c) (row_of near p) _ tt
      (λ row at. near_row_sound next _ _ _ (values_more n next (omega arith) (k.first row) (well.sound_first n row (sound_at n near p row ok.near_below at).1)) (λ h e. key_sound p row h at e))
