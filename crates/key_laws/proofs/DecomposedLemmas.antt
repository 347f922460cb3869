-- What a write of R makes of S and T on a foreign key: the cases of the operator, in the words of the tables.
use Rattle.std.proofs.Common.{◌≡◌, ℕ, ◌+◌, ◌≤◌, ◌==◌, ◌⊎◌, List, [], ◌∷◌, Bool, true, false, not, ◌&&◌, ◌||◌, cond, length, Option, Some, None, IsSome, refl, ap, sym, ◌∙◌, arith}
use Rattle.std.specs.Prelude.{◌≢◌}
use Rattle.std.proofs.lemmas.Bool.{eqb-true}
use mathlib.Core.Logic.{inl, inr}
use Rattle.par_base.specs.declared.value.Value.{Value}
use Rattle.par_base.specs.declared.value.Value.TheVariants.{Null, Reference}
use Rattle.par_base.specs.SameRows.{same_row}
use Rattle.par_base.specs.inner.SameLaws.{row_equal}
use Rattle.row_store.specs.Rows.{Rows, RiseFrom, row_of}
use Rattle.row_store.specs.inner.FoundRows.{from_at}
use Rattle.op_law.proofs.SoundLaws.{sound_at, wide_at}
use Rattle.row_parts.specs.RowCells.{Cell, is_there, row_or, map_cell, id_or, by_test, by_option}
use Rattle.op_tables.specs.Lookups.{sound0, sound1}
use Rattle.op_tables.specs.inner.CellFacts.{is_some}
use Rattle.foreign_keys.specs.KeyParts.{FkParts, FkWell}
use Rattle.foreign_keys.specs.References.{goal_of, at_goal, referred, far_part}
use Rattle.foreign_keys.specs.DrawnIds.{place as place_in}
use Rattle.foreign_keys.specs.Shared.{FkFits, Ready}
use Rattle.foreign_keys.specs.inner.DrawnLemmas.{drawn_none, low_none}
use Rattle.foreign_keys.specs.inner.ReferenceLemmas.{referred_by, referrer}
use Rattle.op_fk_decompose.specs.Columns.{column_parts, DecomposeFits}
use Rattle.op_fk_decompose.specs.Decompose.{alone, joined_in, joined, least_in, key_of_old, how_in, how, draws_for, needs, values_drawn, ref}
use Rattle.op_fk_decompose.specs.inner.ColumnLemmas.{fits}
use Rattle.op_fk_decompose.specs.inner.DecomposeFacts.{least}
use Rattle.op_fk_decompose.specs.inner.DecomposeKept.{pick_alone, pick_here, snd_at, is_made, none_made}
use Rattle.op_fk_decompose.specs.inner.DecomposeLaws.{source_of, target_of, first_rise}
use Rattle.key_laws.specs.Referring.{IsUsed, IsAlone}
use Rattle.key_laws.proofs.ReferringLemmas.{goal_is_reference, used_passes, passes_used, not_alone_if, if_not_alone, none_kept, told_apart, told_same}
use Rattle.key_laws.specs.Decomposed.{Written, old_r, old_s, old_t, new_r, new_s, new_t, made, HasNewPart, HasKey, StandsAt, UnchangedKeepsReference, EqualPartsShare, NullPartRefersToNone, KnownValueIsFound, KnownValueDrawsNothing, AloneRefersToItself, RowGoesWithItsLastReference, SamePartKeepsKey, AloneStaysAlone}

module _ (k : FkParts) where
  -- a row of the value that isn't alone: the least is there, and not above it
  pub least_of : (n : ℕ) (s t rows : Rows) (b : List Value) (q : ℕ) → RiseFrom n rows → row_of rows q ≡ Some b → alone k s t q ≡ false → (i : ℕ) × (least_in k s t rows b ≡ Some i) × (i ≤ q)
  least_of n s t [] b q rise at al = absurd (cc)
  least_of n s t (r ∷ rs) b q rise at al =
      by_test (same_row r.1 b && not (alone k s t r.0))
      (λ g. (r.0, rw g refl, from_at r.0 (r ∷ rs) q b (omega arith, rise.1) at))
      (λ g.
      by_test (r.0 == q)
      (λ e.
      let some : Some r.1 ≡ Some b = rw e at at in
      let is : r.1 ≡ b = cc in
      let same = told_same r.1 b is in
      let own : alone k s t r.0 ≡ false = ap (alone k s t) (eqb-true r.0 q e) ∙ al in
      let no : true ≡ false = rw (same, own) at g in
      absurd (cc))
      (λ e.
      let later : row_of rs q ≡ Some b = rw e at at in
      let rest = least_of (r.0 + 1) s t rs b q rise.1 later al in
      (rest.0, rw g rest.1, rest.2)))

  -- a row of R where S has none is one of an alone row
  alone_only : (c : Cell) (al : Bool) (t : Rows) (row : List Value) → joined_in k None c al t ≡ Some row → al ≡ true
  alone_only c true t row e = refl
  alone_only c false t row e = absurd (cc)

  -- the row of an alone one
  alone_row : (c : Cell) (al : Bool) (t : Rows) (row : List Value) → joined_in k None c al t ≡ Some row → {X : Type 0} → ((u : List Value) → c ≡ Some u → row ≡ k.join k.null_first u → X) → X
  alone_row (Some u) true t row e h = h u refl (cc)
  alone_row None true t row e h = absurd (cc)
  alone_row c false t row e h = absurd (cc)

  -- an alone row is there
  alone_there : (c : Cell) (b r : Bool) → (is_there c && (not b && not r)) ≡ true → IsSome c
  alone_there (Some u) b r h = refl
  alone_there None b r h = absurd (cc)

  -- where R has no row, S and T have none that stands alone
  none_alone : (c : Cell) (al : Bool) (t : Rows) → (al ≡ true → IsSome c) → joined_in k None c al t ≡ None → al ≡ false
  none_alone c false t there e = refl
  none_alone (Some u) true t there e = absurd (cc)
  none_alone None true t there e = let some = there refl in absurd (cc)

module _ (first second : List ℕ) (place : ℕ) (w : Written first second place) where
  -- the parts of its rows
  abbrev k : FkParts
  k = column_parts first second place

  -- old S
  abbrev s : Rows
  s = old_s w

  -- old T
  abbrev t : Rows
  t = old_t w

  -- old R
  abbrev r : Rows
  r = old_r w

  -- new R
  abbrev near : Rows
  near = new_r w

  -- how many columns R has
  abbrev wide : ℕ
  wide = length first + length second

  -- and S
  abbrev long_s : ℕ
  long_s = length first + 1

  -- the parts fit the headings
  fit : FkFits k wide (length first) (length second) long_s w.hs w.ht
  fit = fits first second place w.hs w.ht w.may.sound.pair.fits

  -- so they fit each other
  well : FkWell k wide (length first) (length second) long_s
  well = fit.well

  -- what is used of the tables
  ok : Ready wide (length second) long_s s t near w.n
  ok =
      let one = source_of (DecomposeFits first second place) k wide (length first) (length second) long_s (fits first second place) w.hs w.ht w.near w.may.sound.pair.fits w.may.near_of in
      let two = target_of (DecomposeFits first second place) k wide (length first) (length second) long_s (fits first second place) w.hs w.ht w.old.target w.may.sound.pair.fits w.may.sound.pair.target_of in
      record {
        s_rise = two.rise0;
        t_rise = two.rise1;
        near_rise = one.rise;
        s_wide = two.wide0;
        t_wide = two.wide1;
        near_wide = one.wide;
        s_below = sound0 w.n w.old.target w.may.sound.target;
        t_below = sound1 w.n w.old.target w.may.sound.target;
        near_below = sound0 w.n w.near w.may.near_sound;
      }

  -- old R is the old tables joined
  rel : (p : ℕ) → row_of r p ≡ joined k s t p
  rel p = w.may.sound.pair.related.1 p

  -- how long a T part is
  wide_goal : (o : Option ℕ) (u : List Value) → at_goal t o ≡ Some u → length u ≡ length second
  wide_goal None u e = absurd (cc)
  wide_goal (Some q) u e = wide_at (length second) t q u ok.t_wide e

  -- so is what a key gives
  long_far : (f : Value) → length (far_part k t f) ≡ length second
  long_far f = by_option (at_goal t (goal_of f))
      (λ e. ap (λ (c : Cell). length (row_or k.null_second c)) e ∙ well.long_null_second)
      (λ u e. ap (λ (c : Cell). length (row_or k.null_second c)) e ∙ wide_goal (goal_of f) u e)

  -- how long an S part is
  long_part : (p : ℕ) (v : List Value) → row_of s p ≡ Some v → length (k.part v) ≡ length first
  long_part p v e = well.long_part v (wide_at long_s s p v ok.s_wide e)

  -- what R shows where S has a row
  shown_s : (p : ℕ) (v : List Value) → row_of s p ≡ Some v → row_of r p ≡ Some (k.join (k.part v) (far_part k t (k.key v)))
  shown_s p v e = rel p ∙ ap (λ (c : Cell). joined_in k c (row_of t p) (alone k s t p) t) e

  -- its two parts
  shown_second : (p : ℕ) (v was : List Value) → row_of s p ≡ Some v → row_of r p ≡ Some was → k.second was ≡ far_part k t (k.key v)
  shown_second p v was e at =
      let some : Some was ≡ Some (k.join (k.part v) (far_part k t (k.key v))) = sym at ∙ shown_s p v e in
      let is : was ≡ k.join (k.part v) (far_part k t (k.key v)) = cc in
      ap k.second is ∙ well.second_join _ _ (long_part p v e) (long_far (k.key v))

  -- and the other
  shown_first : (p : ℕ) (v was : List Value) → row_of s p ≡ Some v → row_of r p ≡ Some was → k.first was ≡ k.part v
  shown_first p v was e at =
      let some : Some was ≡ Some (k.join (k.part v) (far_part k t (k.key v))) = sym at ∙ shown_s p v e in
      let is : was ≡ k.join (k.part v) (far_part k t (k.key v)) = cc in
      ap k.first is ∙ well.first_join _ _ (long_part p v e) (long_far (k.key v))

  -- what R shows where S has none
  shown_t : (p : ℕ) (c : Cell) → row_of s p ≡ None → row_of r p ≡ c → joined_in k None (row_of t p) (alone k s t p) t ≡ c
  shown_t p c none at = sym (rel p ∙ ap (λ (c : Cell). joined_in k c (row_of t p) (alone k s t p) t) none) ∙ at

  -- the key stays where the T part is as it was
  how_kept : (p : ℕ) (v was x : List Value) → row_of s p ≡ Some v → row_of r p ≡ Some was → k.second x ≡ k.second was → how k s t p x ≡ Some (Some (k.key v))
  how_kept p v was x e at same =
      ap (λ (c : Cell). how_in k c (alone k s t p) p t (k.first x) (k.second x)) e
      ∙ ap (λ (u : Bool). Some (cond u (Some (k.key v)) None)) (told_same (k.second x) (far_part k t (k.key v)) (same ∙ shown_second p v was e at))

  -- the key is made anew where the T part is another
  how_new : (p : ℕ) (x : List Value) → HasNewPart w p x → how k s t p x ≡ Some None
  how_new p x (at, inl gone) = by_option (row_of s p)
      (λ none.
      let al = none_alone k (row_of t p) (alone k s t p) t (alone_there k (row_of t p) (is_there (row_of s p)) (referred k s p)) (shown_t p None none gone) in
      ap (λ (c : Cell). how_in k c (alone k s t p) p t (k.first x) (k.second x)) none ∙ ap (λ (u : Bool). how_in k None u p t (k.first x) (k.second x)) al)
      (λ v e. let bad : None ≡ Some (k.join (k.part v) (far_part k t (k.key v))) = sym gone ∙ shown_s p v e in absurd (cc))
  how_new p x (at, inr h) = is_some (row_of s p) h.kept (λ v e.
      let other = told_apart (k.second x) (far_part k t (k.key v)) (λ same. h.other (shown_second p v h.was e h.shown ∙ sym same)) in
      ap (λ (c : Cell). how_in k c (alone k s t p) p t (k.first x) (k.second x)) e ∙ ap (λ (u : Bool). Some (cond u (Some (k.key v)) None)) other)

  -- and where it is made anew, the T part is another
  anew : (c : Cell) (al : Bool) (p : ℕ) (x y : List Value) → how_in k c al p t x y ≡ Some None → c ≡ None → al ≡ false
  anew c false p x y e none = refl
  anew None true p x y e none = by_test (same_row x k.null_first)
      (λ u. let bad : None ≡ Some None = rw u at e in absurd (cc))
      (λ u. let bad : Some (Some (Reference p)) ≡ Some None = rw u at e in absurd (cc))
  anew (Some v) true p x y e none = absurd (cc)

  -- the same, of a row of R
  new_how : (p : ℕ) (x : List Value) → row_of near p ≡ Some x → how k s t p x ≡ Some None → HasNewPart w p x
  new_how p x at e = by_option (row_of s p)
      (λ none.
      let al = anew (row_of s p) (alone k s t p) p (k.first x) (k.second x) e none in
      (at, inl (rel p ∙ ap (λ (c : Cell). joined_in k c (row_of t p) (alone k s t p) t) none ∙ ap (λ (u : Bool). joined_in k None (row_of t p) u t) al)))
      (λ v here.
      let was = k.join (k.part v) (far_part k t (k.key v)) in
      let shown = shown_s p v here in
      let told : Some (key_of_old k t v (k.second x)) ≡ Some None = sym (ap (λ (c : Cell). how_in k c (alone k s t p) p t (k.first x) (k.second x)) here) ∙ e in (
        at,
        inr (record {
          was = was;
          shown = shown;
          kept = rw here refl;
          other = λ same.
              let yes = told_same (k.second x) (far_part k t (k.key v)) (sym same ∙ shown_second p v was here shown) in
              let bad : Some (Some (k.key v)) ≡ Some None = sym (ap (λ (u : Bool). Some (cond u (Some (k.key v)) None)) yes) ∙ told in
              absurd (cc);
        }),
      ))

  -- the words for a row that isn't alone
  to_referred : (rows : Rows) (q : ℕ) → IsUsed place rows q → IsSome (row_of rows q) ⊎ (referred k rows q ≡ true)
  to_referred rows q (inl some) = inl some
  to_referred rows q (inr f) = inr (referred_by k rows f.id q f.row f.at (ap goal_of f.key))

  -- and back
  from_referred : (rows : Rows) (q : ℕ) → RiseFrom 0 rows → IsSome (row_of rows q) ⊎ (referred k rows q ≡ true) → IsUsed place rows q
  from_referred rows q rise (inl some) = inl some
  from_referred rows q rise (inr e) =
      let f = referrer k 0 rows q rise e in
      inr (record { id = f.id; row = f.row; at = f.at; key = goal_is_reference (k.key f.row) q f.goal })

  -- a row that is used is not alone
  shared : (q : ℕ) → IsUsed place s q → alone k s t q ≡ false
  shared q used = not_alone_if (row_of t q) (row_of s q) (referred k s q) (to_referred s q used)

  -- what new S has where the key is made anew
  made_anew : (p : ℕ) (x : List Value) → HasNewPart w p x → HasKey w p x (ref k s t w.n (values_drawn k s t near) (k.second x))
  made_anew p x new = is_made k wide (length first) (length second) long_s well s t near w.n ok p x (Some None) new.0 (how_new p x new)

  -- the least row with the value
  found : (b : List Value) (q : ℕ) → StandsAt w b q → (i : ℕ) × (least_in k s t t b ≡ Some i) × (i ≤ q) × StandsAt w b i
  found b q stands =
      let one = least_of k 0 s t t b q ok.t_rise stands.0 (shared q stands.1) in
      let is = least k 0 s t t b one.0 ok.t_rise one.1 in
      let at : row_of t one.0 ≡ Some b = is.at ∙ ap Some (row_equal is.row b is.same) in
      (one.0, one.1, one.2, (at, from_referred s one.0 ok.s_rise (if_not_alone (row_of t one.0) (row_of s one.0) (referred k s one.0) (rw at refl) is.shared)))

  pub unchanged : (p : ℕ) → row_of near p ≡ row_of r p → row_of (new_s w) p ≡ row_of s p
  unchanged p same = by_option (row_of near p)
      (λ none. none_made k wide (length first) (length second) long_s well s t near w.n ok p none
      ∙ sym (by_option (row_of s p) (λ gone. gone) (λ v e. let bad : None ≡ Some (k.join (k.part v) (far_part k t (k.key v))) = sym none ∙ same ∙ shown_s p v e in absurd (cc))))
      (λ x at.
      let shown : row_of r p ≡ Some x = sym same ∙ at in
      by_option (row_of s p)
      (λ none.
      let from = shown_t p (Some x) none shown in
      let al = alone_only k (row_of t p) (alone k s t p) t x from in
      let null : same_row (k.first x) k.null_first ≡ true =
      alone_row k (row_of t p) (alone k s t p) t x from (λ u there is. told_same (k.first x) k.null_first (ap k.first is ∙ well.first_join _ _ well.long_null_first (wide_at (length second) t p u ok.t_wide there))) in
      let stays : how k s t p x ≡ None =
      ap (λ (c : Cell). how_in k c (alone k s t p) p t (k.first x) (k.second x)) none ∙ ap (λ (u : Bool). how_in k None u p t (k.first x) (k.second x)) al ∙ ap (λ (u : Bool). cond u None (Some (Some (Reference p)))) null in
      is_made k wide (length first) (length second) long_s well s t near w.n ok p x None at stays ∙ sym none)
      (λ v e.
      is_made k wide (length first) (length second) long_s well s t near w.n ok p x (Some (Some (k.key v))) at (how_kept p v x x e shown refl)
      ∙ ap (λ (y : List Value). Some (k.put y (k.key v))) (shown_first p v x e shown) ∙ ap Some (well.put_parts v (wide_at long_s s p v ok.s_wide e)) ∙ sym e))

  pub equal_share : (p q : ℕ) (x y : List Value) → HasNewPart w p x → HasNewPart w q y → k.second x ≡ k.second y → (key : Value) × HasKey w p x key × HasKey w q y key
  equal_share p q x y one other same =
      let d = values_drawn k s t near in
      (ref k s t w.n d (k.second x), made_anew p x one, made_anew q y other ∙ ap (λ (b : List Value). Some (k.put (k.first y) (ref k s t w.n d b))) (sym same))

  pub null_part : (p : ℕ) (x : List Value) → HasNewPart w p x → k.second x ≡ k.null_second → HasKey w p x Null
  null_part p x new null =
      let d = values_drawn k s t near in
      made_anew p x new
      ∙ ap (λ (u : Bool). Some (k.put (k.first x) (cond u Null (Reference (id_or (w.n + place_in d (k.second x)) (least_in k s t t (k.second x))))))) (told_same (k.second x) k.null_second null)

  pub is_found : (p q : ℕ) (x : List Value) → HasNewPart w p x → k.second x ≢ k.null_second → StandsAt w (k.second x) q → (i : ℕ) × (i ≤ q) × StandsAt w (k.second x) i × HasKey w p x (Reference i)
  is_found p q x new other stands =
      let d = values_drawn k s t near in
      let one = found (k.second x) q stands in (
        one.0,
        one.2,
        one.3,
        made_anew p x new
            ∙ ap (λ (u : Bool). Some (k.put (k.first x) (cond u Null (Reference (id_or (w.n + place_in d (k.second x)) (least_in k s t t (k.second x))))))) (told_apart (k.second x) k.null_second other)
            ∙ ap (λ (o : Option ℕ). Some (k.put (k.first x) (Reference (id_or (w.n + place_in d (k.second x)) o)))) one.1,
      )

  -- no identifier is drawn for a null value, nor for one that was found
  null_draws : (l : Option ℕ) → draws_for k (Some None) l true ≡ false
  null_draws None = refl
  null_draws (Some q) = refl

  -- so no row with a known value draws
  known_draws : (x : List Value) → (k.second x ≡ k.null_second) ⊎ ((q : ℕ) × StandsAt w (k.second x) q) → draws_for k (Some None) (least_in k s t t (k.second x)) (same_row (k.second x) k.null_second) ≡ false
  known_draws x (inl null) = ap (λ (u : Bool). draws_for k (Some None) (least_in k s t t (k.second x)) u) (told_same (k.second x) k.null_second null) ∙ null_draws (least_in k s t t (k.second x))
  known_draws x (inr stands) = let one = found (k.second x) stands.0 stands.1 in ap (λ (l : Option ℕ). draws_for k (Some None) l (same_row (k.second x) k.null_second)) one.1

  pub draws_nothing : ((p : ℕ) (x : List Value) → HasNewPart w p x → (k.second x ≡ k.null_second) ⊎ ((q : ℕ) × StandsAt w (k.second x) q)) → (made w).next ≡ w.n
  draws_nothing known =
      let no_need : (p : ℕ) (x : List Value) → row_of near p ≡ Some x → needs k s t p x ≡ false =
      λ p x at.
      let drawn = λ (h : Option (Option Value)). draws_for k h (least_in k s t t (k.second x)) (same_row (k.second x) k.null_second) in
      by_option (how k s t p x)
      (λ e. ap drawn e)
      (λ o e. by_option o
      (λ none. let anew : how k s t p x ≡ Some None = e ∙ ap Some none in ap drawn anew ∙ known_draws x (known p x (new_how p x at anew)))
      (λ f some. ap drawn (e ∙ ap Some some))) in
      let none : values_drawn k s t near ≡ [] = drawn_none k 0 (needs k s t) near ok.near_rise no_need in
      let still : w.n + 0 ≡ w.n = omega arith in
      ap (λ (d : List (List Value)). w.n + length d) none ∙ still

  -- an alone row, in the words of the operator
  is_alone_row : (p : ℕ) → IsAlone place s t p → (alone k s t p ≡ true) × (row_of s p ≡ None)
  is_alone_row p is = (
    by_test (alone k s t p) (λ e. e) (λ e. absurd (is.1 (from_referred s p ok.s_rise (if_not_alone (row_of t p) (row_of s p) (referred k s p) is.0 e)))),
    by_option (row_of s p) (λ e. e) (λ v e. absurd (is.1 (inl (rw e refl)))),
  )

  -- and whether it stays so
  how_alone : (p : ℕ) (x : List Value) (b : Bool) → IsAlone place s t p → same_row (k.first x) k.null_first ≡ b → how k s t p x ≡ cond b None (Some (Some (Reference p)))
  how_alone p x b is same =
      let both = is_alone_row p is in
      ap (λ (c : Cell). how_in k c (alone k s t p) p t (k.first x) (k.second x)) both.1 ∙ ap (λ (u : Bool). how_in k None u p t (k.first x) (k.second x)) both.0
      ∙ ap (λ (u : Bool). cond u None (Some (Some (Reference p)))) same

  -- it has its new T part
  alone_second : (p : ℕ) (x : List Value) → IsAlone place s t p → row_of near p ≡ Some x → row_of (new_t w) p ≡ Some (k.second x)
  alone_second p x is at =
      snd_at k wide (length first) (length second) long_s well s t near w.n ok p ∙ pick_alone _ _ _ (k.second x) (is_alone_row p is).0 (ap (map_cell k.second) at)

  pub alone_itself : (p : ℕ) (x : List Value) → IsAlone place s t p → row_of near p ≡ Some x → k.first x ≢ k.null_first → HasKey w p x (Reference p) × (row_of (new_t w) p ≡ Some (k.second x))
  alone_itself p x is at other = (
    is_made k wide (length first) (length second) long_s well s t near w.n ok p x (Some (Some (Reference p))) at (how_alone p x false is (told_apart (k.first x) k.null_first other)),
    alone_second p x is at,
  )

  pub alone_still : (p : ℕ) (x : List Value) → IsAlone place s t p → row_of near p ≡ Some x → k.first x ≡ k.null_first → (row_of (new_s w) p ≡ None) × (row_of (new_t w) p ≡ Some (k.second x))
  alone_still p x is at null = (
    is_made k wide (length first) (length second) long_s well s t near w.n ok p x None at (how_alone p x true is (told_same (k.first x) k.null_first null)),
    alone_second p x is at,
  )

  pub same_part : (p : ℕ) (x was v : List Value) → row_of near p ≡ Some x → row_of r p ≡ Some was → k.second x ≡ k.second was → row_of s p ≡ Some v → HasKey w p x (k.key v)
  same_part p x was v at shown same e =
      is_made k wide (length first) (length second) long_s well s t near w.n ok p x (Some (Some (k.key v))) at (how_kept p v was x e shown same)

  pub goes : (q : ℕ) (value : List Value) → StandsAt w value q → (IsUsed place (new_s w) q → row_of (new_t w) q ≡ Some value) × ((IsUsed place (new_s w) q → ⊥) → row_of (new_t w) q ≡ None)
  goes q value stands =
      let ns = new_s w in
      let al = shared q stands.1 in
      let here = snd_at k wide (length first) (length second) long_s well s t near w.n ok q in
      let rise = first_rise k wide (length first) (length second) long_s well s t near w.n ok in (
        λ used. here ∙ pick_here _ _ _ _ _ value al (used_passes (row_of ns q) (referred k ns q) (to_referred ns q used)) stands.0,
        λ unused.
            let no : (referred k ns q || is_there (row_of ns q)) ≡ false = by_test (referred k ns q || is_there (row_of ns q))
            (λ e. absurd (unused (from_referred ns q rise (passes_used (row_of ns q) (referred k ns q) e)))) (λ e. e) in
            let under = (sound_at w.n t q value ok.t_below stands.0).0.1 in
            here ∙ none_kept _ _ _ _ _ al no (low_none k wide (length first) (length second) long_s well (needs k s t) near w.n q under),
      )

-- the laws

pub unchanged_keeps : UnchangedKeepsReference
unchanged_keeps first second place w p same = unchanged first second place w p same

pub parts_share : EqualPartsShare
parts_share first second place w p q x y one other same = equal_share first second place w p q x y one other same

pub null_refers : NullPartRefersToNone
null_refers first second place w p x new null = null_part first second place w p x new null

pub known_found : KnownValueIsFound
known_found first second place w p q x new other stands = is_found first second place w p q x new other stands

pub known_draws_nothing : KnownValueDrawsNothing
known_draws_nothing first second place w known = draws_nothing first second place w known

pub alone_refers : AloneRefersToItself
alone_refers first second place w p x is at other = alone_itself first second place w p x is at other

pub alone_stays : AloneStaysAlone
alone_stays first second place w p x is at null = alone_still first second place w p x is at null

pub same_part_keeps : SamePartKeepsKey
same_part_keeps first second place w p x was v at shown same e = same_part first second place w p x was v at shown same e

pub row_goes : RowGoesWithItsLastReference
row_goes first second place w q value stands = goes first second place w q value stands
