-- A near side equal to the old one draws nothing and gives the old tables.
use Rattle.std.proofs.Common.{◌≡◌, ℕ, List, [], Bool, true, false, not, ◌&&◌, ◌||◌, cond, length, Option, Some, None, refl, ap, sym, ◌∙◌, subst, arith}
use Rattle.par_base.specs.declared.value.Value.{Value}
use Rattle.par_base.specs.declared.value.Value.TheVariants.{Reference}
use Rattle.row_store.specs.Rows.{Rows, row_of}
use Rattle.row_store.proofs.UndoLaws.{ext}
use Rattle.row_parts.specs.RowCells.{Cell, is_there, row_or, map_cell, by_test, by_option}
use Rattle.foreign_keys.specs.KeyParts.{FkParts, FkWell}
use Rattle.foreign_keys.specs.References.{goal_of, at_goal, referred, far_part}
use Rattle.foreign_keys.specs.DrawnIds.{numbered}
use Rattle.op_tables.specs.Lookups.{one_rise, three_rise}
use Rattle.foreign_keys.specs.inner.DrawnLemmas.{numbered_rise, drawn_none}
use Rattle.op_fk_decompose.specs.Decompose.{alone, joined_in, joined, least_in, how_in, how, draws_for, needs, values_drawn, new_first, new_second, s_after, t_after}
use Rattle.foreign_keys.specs.Shared.{Ready}
use Rattle.op_fk_decompose.specs.inner.DecomposeForward.{alone_parts}
use Rattle.op_fk_decompose.specs.inner.DecomposeKept.{pick_alone, pick_here, pick_new, alone_none, snd_at, is_made, none_made}
use Rattle.par_base.specs.SameRows.{same_row}
use Rattle.par_base.specs.inner.SameLaws.{row_same}
use Rattle.op_law.proofs.SoundLaws.{wide_at}

-- what isn't alone is used
here : (b r : Bool) → (not b && not r) ≡ false → (r || b) ≡ true
here b r h = grind arith

-- what isn't there is none
there_none : (c : Cell) → is_there c ≡ false → c ≡ None
there_none None h = refl
there_none (Some v) h = absurd (cc)

-- a row of T that isn't alone is used
here_or : (c : Cell) (b r : Bool) (v : List Value) → c ≡ Some v → (is_there c && (not b && not r)) ≡ false → (r || b) ≡ true
here_or c b r v e h = here b r (sym (ap (λ (c : Cell). is_there c && (not b && not r)) e) ∙ h)

module _ (k : FkParts) (w a b z : ℕ) (well : FkWell k w a b z) (s t near : Rows) (n : ℕ) (ok : Ready w b z s t near n) (rel : (p : ℕ) → row_of near p ≡ joined k s t p) where
  -- the values drawn for
  abbrev dd : List (List Value)
  dd = values_drawn k s t near

  -- new S
  abbrev ns : Rows
  ns = s_after k s t near n

  -- new T
  abbrev nt : Rows
  nt = t_after k s t near n

  -- how long a row at a goal is
  wide_goal : (o : Option ℕ) (v : List Value) → at_goal t o ≡ Some v → length v ≡ b
  wide_goal None v e = absurd (cc)
  wide_goal (Some q) v e = wide_at b t q v ok.t_wide e

  -- how long the T part of a key is
  long_far : (f : Value) → length (far_part k t f) ≡ b
  long_far f = by_option (at_goal t (goal_of f))
      (λ e. ap (λ (c : Cell). length (row_or k.null_second c)) e ∙ well.long_null_second)
      (λ v e. ap (λ (c : Cell). length (row_or k.null_second c)) e ∙ wide_goal (goal_of f) v e)

  -- R has the row of S joined
  with_s : (p : ℕ) (v : List Value) → row_of s p ≡ Some v → row_of near p ≡ Some (k.join (k.part v) (far_part k t (k.key v)))
  with_s p v e = rel p ∙ ap (λ (c : Cell). joined_in k c (row_of t p) (alone k s t p) t) e

  -- without a row of S only an alone row is joined
  alone_only : (c : Cell) (al : Bool) (row : List Value) → Some row ≡ joined_in k None c al t → al ≡ true
  alone_only c true row e = refl
  alone_only c false row e = absurd (cc)

  -- a row of R that S lacks is alone in T
  with_t : (p : ℕ) (row : List Value) → row_of s p ≡ None → row_of near p ≡ Some row → alone k s t p ≡ true
  with_t p row e at = alone_only (row_of t p) (alone k s t p) row (sym at ∙ rel p ∙ ap (λ (c : Cell). joined_in k c (row_of t p) (alone k s t p) t) e)

  -- R has the alone row joined
  alone_row : (p : ℕ) (v : List Value) → row_of t p ≡ Some v → alone k s t p ≡ true → row_of s p ≡ None → row_of near p ≡ Some (k.join k.null_first v)
  alone_row p v e al none = rel p ∙ ap (λ (c : Cell). joined_in k c (row_of t p) (alone k s t p) t) none ∙ ap (λ (u : Bool). joined_in k None (row_of t p) u t) al ∙ ap (map_cell (k.join k.null_first)) e

  -- how long an S part is
  long_part_of : (p : ℕ) (v : List Value) → row_of s p ≡ Some v → length (k.part v) ≡ a
  long_part_of p v e = well.long_part v (wide_at z s p v ok.s_wide e)

  -- the case of a row that old S has
  how_s : (p : ℕ) (v row : List Value) → row_of s p ≡ Some v → row_of near p ≡ Some row → how k s t p row ≡ Some (Some (k.key v))
  how_s p v row e at =
      let some : Some row ≡ Some (k.join (k.part v) (far_part k t (k.key v))) = sym at ∙ with_s p v e in
      let is : row ≡ k.join (k.part v) (far_part k t (k.key v)) = cc in
      let second : k.second row ≡ far_part k t (k.key v) = ap k.second is ∙ well.second_join _ _ (long_part_of p v e) (long_far (k.key v)) in
      let same : same_row (k.second row) (far_part k t (k.key v)) ≡ true = subst (λ (x : List Value). same_row x (far_part k t (k.key v)) ≡ true) (sym second) (row_same _) in
      ap (λ (c : Cell). how_in k c (alone k s t p) p t (k.first row) (k.second row)) e ∙ ap (λ (u : Bool). Some (cond u (Some (k.key v)) None)) same

  -- the case of a row that old S lacks
  how_t : (p : ℕ) (row : List Value) → row_of s p ≡ None → row_of near p ≡ Some row → how k s t p row ≡ None
  how_t p row none at =
      let al = with_t p row none at in
      by_option (row_of t p)
      (λ e. let no = alone_none k s t p e in absurd (cc))
      (λ v e.
      let some : Some row ≡ Some (k.join k.null_first v) = sym at ∙ alone_row p v e al none in
      let is : row ≡ k.join k.null_first v = cc in
      let first : k.first row ≡ k.null_first = ap k.first is ∙ well.first_join _ _ well.long_null_first (wide_at b t p v ok.t_wide e) in
      let same : same_row (k.first row) k.null_first ≡ true = subst (λ (x : List Value). same_row x k.null_first ≡ true) (sym first) (row_same _) in
      ap (λ (c : Cell). how_in k c (alone k s t p) p t (k.first row) (k.second row)) none ∙ ap (λ (u : Bool). how_in k None u p t (k.first row) (k.second row)) al
      ∙ ap (λ (u : Bool). cond u None (Some (Some (Reference p)))) same)

  -- no row needs an identifier
  no_need : (p : ℕ) (row : List Value) → row_of near p ≡ Some row → needs k s t p row ≡ false
  no_need p row at = by_option (row_of s p)
      (λ none. ap (λ (c : Option (Option Value)). draws_for k c (least_in k s t t (k.second row)) (same_row (k.second row) k.null_second)) (how_t p row none at))
      (λ v e. ap (λ (c : Option (Option Value)). draws_for k c (least_in k s t t (k.second row)) (same_row (k.second row) k.null_second)) (how_s p v row e at))

  -- nothing is drawn
  pub nothing_drawn : dd ≡ []
  nothing_drawn = drawn_none k 0 (needs k s t) near ok.near_rise no_need

  -- new S is old S at each identifier
  first_still : (p : ℕ) → row_of ns p ≡ row_of s p
  first_still p = by_option (row_of s p)
      (λ none. by_option (row_of near p)
      (λ e. none_made k w a b z well s t near n ok p e ∙ sym none)
      (λ row e. is_made k w a b z well s t near n ok p row None e (how_t p row none e) ∙ sym none))
      (λ v e.
      let at = with_s p v e in
      is_made k w a b z well s t near n ok p _ (Some (Some (k.key v))) at (how_s p v _ e at)
      ∙ ap (λ (x : List Value). Some (k.put x (k.key v))) (well.first_join _ _ (long_part_of p v e) (long_far (k.key v)))
      ∙ ap Some (well.put_parts v (wide_at z s p v ok.s_wide e)) ∙ sym e)

  -- new S is old S
  pub first_is : ns ≡ s
  first_is = ext 0 ns s (one_rise near (new_first k s t n dd near) ok.near_rise) ok.s_rise first_still

  -- new T is old T at each identifier
  second_still : (q : ℕ) → row_of nt q ≡ row_of t q
  second_still q = by_option (row_of t q)
      (λ none.
      snd_at k w a b z well s t near n ok q ∙ pick_new _ _ _ _ _ (alone_none k s t q none) none ∙ ap (λ (x : List (List Value)). row_of (numbered n x) q) nothing_drawn ∙ sym none)
      (λ v e. by_test (alone k s t q)
      (λ al.
      let none = there_none _ ((alone_parts (row_of t q) (is_there (row_of s q)) (referred k s q) al).0) in
      snd_at k w a b z well s t near n ok q ∙ pick_alone _ _ _ v al (ap (map_cell k.second) (alone_row q v e al none) ∙ ap Some (well.second_join _ _ well.long_null_first (wide_at b t q v ok.t_wide e))) ∙ sym e)
      (λ al.
      let here : (referred k s q || is_there (row_of s q)) ≡ true = here_or (row_of t q) (is_there (row_of s q)) (referred k s q) v e al in
      let here2 : (referred k ns q || is_there (row_of ns q)) ≡ true = subst (λ (x : Rows). (referred k x q || is_there (row_of x q)) ≡ true) (sym first_is) here in
      snd_at k w a b z well s t near n ok q ∙ pick_here _ _ _ _ _ v al here2 e ∙ sym e))

  -- new T is old T
  pub second_is : nt ≡ t
  second_is = ext 0 nt t (three_rise near t (numbered n dd) (new_second k s t n dd near ns) ok.near_rise ok.t_rise (numbered_rise 0 n dd (omega arith))) ok.t_rise second_still
