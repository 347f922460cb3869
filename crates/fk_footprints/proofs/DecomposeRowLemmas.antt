-- DECOMPOSE ON FK, from R: rows that are as they were, and to what new rows refer.
use Rattle.std.proofs.Common.{◌≡◌, ◌⊎◌, ℕ, ◌+◌, ◌≤◌, List, Bool, true, false, not, ◌&&◌, ◌||◌, cond, length, Option, Some, None, refl, ap, sym, ◌∙◌, subst, arith}
use mathlib.Core.Logic.{inl}
use Rattle.par_base.specs.declared.value.Value.{Value}
use Rattle.par_base.specs.declared.value.Value.TheVariants.{Null, Reference}
use Rattle.par_base.specs.SameRows.{same_row}
use Rattle.par_base.specs.inner.SameLaws.{row_same}
use Rattle.row_store.specs.Rows.{Rows, row_of}
use Rattle.op_law.specs.Tables.{RowsWide}
use Rattle.op_law.proofs.SoundLaws.{wide_at}
use Rattle.row_parts.specs.RowCells.{Cell, is_there, row_or, map_cell, in_cell, id_or, value_or, by_test, by_option}
use Rattle.foreign_keys.specs.KeyParts.{FkParts, FkWell}
use Rattle.foreign_keys.specs.References.{goal_of, at_goal, referred, far_part}
use Rattle.foreign_keys.specs.DrawnIds.{place}
use Rattle.op_fk_decompose.specs.Decompose.{alone, joined_in, joined, least_in, how_in, how, draws_for, needs, ref, near_row, made_row, second_from}
use Rattle.op_fk_decompose.specs.inner.DecomposeFacts.{from_keep}
use Rattle.op_fk_decompose.specs.inner.DecomposeForward.{alone_parts}
use Rattle.op_fk_decompose.specs.inner.DecomposeKept.{alone_none, pick_alone, pick_here, pick_new}
use Rattle.fk_footprints.specs.Closed.{BringsGoals}
use Rattle.fk_footprints.specs.DecomposeForward.{BringsShared}

-- what isn't there is none
there_none : (c : Cell) → is_there c ≡ false → c ≡ None
there_none None h = refl
there_none (Some v) h = absurd (cc)

-- a row of T that isn't alone is used
used : (c : Cell) (b r : Bool) (v : List Value) → c ≡ Some v → (is_there c && (not b && not r)) ≡ false → (r || b) ≡ true
used c b r v e h = let f : (not b && not r) ≡ false = sym (ap (λ (x : Cell). is_there x && (not b && not r)) e) ∙ h in grind arith

module _ (k : FkParts) (w a b z : ℕ) (well : FkWell k w a b z) (s t : Rows) (s_wide : RowsWide z s) (t_wide : RowsWide b t) where
  -- how long a row at a goal is
  wide_goal : (o : Option ℕ) (v : List Value) → at_goal t o ≡ Some v → length v ≡ b
  wide_goal None v e = absurd (cc)
  wide_goal (Some q) v e = wide_at b t q v t_wide e

  -- how long the T part of a key is
  long_far : (f : Value) → length (far_part k t f) ≡ b
  long_far f = by_option (at_goal t (goal_of f))
      (λ e. ap (λ (c : Cell). length (row_or k.null_second c)) e ∙ well.long_null_second)
      (λ v e. ap (λ (c : Cell). length (row_or k.null_second c)) e ∙ wide_goal (goal_of f) v e)

  -- R has a row of S joined
  with_s : (p : ℕ) (v row : List Value) → row_of s p ≡ Some v → joined k s t p ≡ Some row → row ≡ k.join (k.part v) (far_part k t (k.key v))
  with_s p v row at e =
      let some : Some row ≡ Some (k.join (k.part v) (far_part k t (k.key v))) = sym e ∙ ap (λ (c : Cell). joined_in k c (row_of t p) (alone k s t p) t) at in
      cc

  -- or an alone row
  with_t : {X : Type 0} (p : ℕ) (row : List Value) → row_of s p ≡ None → joined k s t p ≡ Some row → ((u : List Value) → row_of t p ≡ Some u → alone k s t p ≡ true → row ≡ k.join k.null_first u → X) → X
  with_t p row none e f =
      let is : Some row ≡ joined_in k None (row_of t p) (alone k s t p) t = sym e ∙ ap (λ (c : Cell). joined_in k c (row_of t p) (alone k s t p) t) none in
      by_test (alone k s t p)
      (λ al. by_option (row_of t p)
      (λ gone. let no = alone_none k s t p gone in absurd (cc))
      (λ u at.
      let some : Some row ≡ Some (k.join k.null_first u) = is ∙ ap (λ (x : Bool). joined_in k None (row_of t p) x t) al ∙ ap (map_cell (k.join k.null_first)) at in
      f u at al (cc)))
      (λ al. let bad : Some row ≡ None = is ∙ ap (λ (x : Bool). joined_in k None (row_of t p) x t) al in absurd (cc))

  -- how long an S part is
  long_part_of : (p : ℕ) (v : List Value) → row_of s p ≡ Some v → length (k.part v) ≡ a
  long_part_of p v e = well.long_part v (wide_at z s p v s_wide e)

  -- a row that is as it was keeps its key
  how_s : (p : ℕ) (v row : List Value) → row_of s p ≡ Some v → joined k s t p ≡ Some row → how k s t p row ≡ Some (Some (k.key v))
  how_s p v row at e =
      let second : k.second row ≡ far_part k t (k.key v) = ap k.second (with_s p v row at e) ∙ well.second_join _ _ (long_part_of p v at) (long_far (k.key v)) in
      let same : same_row (k.second row) (far_part k t (k.key v)) ≡ true = subst (λ (x : List Value). same_row x (far_part k t (k.key v)) ≡ true) (sym second) (row_same _) in
      ap (λ (c : Cell). how_in k c (alone k s t p) p t (k.first row) (k.second row)) at ∙ ap (λ (u : Bool). Some (cond u (Some (k.key v)) None)) same

  -- or stays alone
  how_t : (p : ℕ) (row : List Value) → row_of s p ≡ None → joined k s t p ≡ Some row → how k s t p row ≡ None
  how_t p row none e = with_t p row none e (λ u at al is.
      let first : k.first row ≡ k.null_first = ap k.first is ∙ well.first_join _ _ well.long_null_first (wide_at b t p u t_wide at) in
      let same : same_row (k.first row) k.null_first ≡ true = subst (λ (x : List Value). same_row x k.null_first ≡ true) (sym first) (row_same _) in
      ap (λ (c : Cell). how_in k c (alone k s t p) p t (k.first row) (k.second row)) none ∙ ap (λ (u : Bool). how_in k None u p t (k.first row) (k.second row)) al
      ∙ ap (λ (u : Bool). cond u None (Some (Some (Reference p)))) same)

  -- so it is to get none
  pub still_keeps : (p : ℕ) (row : List Value) → joined k s t p ≡ Some row → how k s t p row ≡ Some None → ⊥
  still_keeps p row e key = by_option (row_of s p)
      (λ none. let bad : None ≡ Some None = sym (how_t p row none e) ∙ key in absurd (cc))
      (λ v at. let bad : Some (Some (k.key v)) ≡ Some None = sym (how_s p v row at e) ∙ key in absurd (cc))

  -- so it needs nothing
  pub still_needs : (p : ℕ) (row : List Value) → joined k s t p ≡ Some row → needs k s t p row ≡ false
  still_needs p row e = by_option (row_of s p)
      (λ none. ap (λ (h : Option (Option Value)). draws_for k h (least_in k s t t (k.second row)) (same_row (k.second row) k.null_second)) (how_t p row none e))
      (λ v at. ap (λ (h : Option (Option Value)). draws_for k h (least_in k s t t (k.second row)) (same_row (k.second row) k.null_second)) (how_s p v row at e))

  -- where R is as it was, so is S
  pub still_first : (n : ℕ) (d : List (List Value)) (p : ℕ) (o : Cell) → joined k s t p ≡ o → in_cell o (made_row k s t n d p) ≡ row_of s p
  still_first n d p None e = by_option (row_of s p)
      (λ none. sym none)
      (λ v at. let bad : None ≡ Some (k.join (k.part v) (far_part k t (k.key v))) = sym e ∙ ap (λ (c : Cell). joined_in k c (row_of t p) (alone k s t p) t) at in absurd (cc))
  still_first n d p (Some row) e = by_option (row_of s p)
      (λ none. ap (λ (h : Option (Option Value)). near_row k h (ref k s t n d (k.second row)) (k.first row)) (how_t p row none e) ∙ sym none)
      (λ v at.
      let first : k.first row ≡ k.part v = ap k.first (with_s p v row at e) ∙ well.first_join _ _ (long_part_of p v at) (long_far (k.key v)) in
      ap (λ (h : Option (Option Value)). near_row k h (ref k s t n d (k.second row)) (k.first row)) (how_s p v row at e)
      ∙ ap (λ (x : List Value). Some (k.put x (k.key v))) first ∙ ap Some (well.put_parts v (wide_at z s p v s_wide at)) ∙ sym at)

  -- and T, where S refers to it as before
  pub still_second : (made near ns : Rows) (q : ℕ) → row_of near q ≡ joined k s t q → row_of ns q ≡ row_of s q → row_of made q ≡ None
      → ((u : List Value) → row_of t q ≡ Some u → referred k ns q ≡ referred k s q) → second_from k s t made near ns q ≡ row_of t q
  still_second made near ns q is same out refs = by_option (row_of t q)
      (λ none. pick_new (alone k s t q) (referred k ns q || is_there (row_of ns q)) (map_cell k.second (row_of near q)) (row_of t q) (row_of made q) (alone_none k s t q none) none ∙ out ∙ sym none)
      (λ u at. by_test (alone k s t q)
      (λ al.
      let gone : row_of s q ≡ None = there_none (row_of s q) (alone_parts (row_of t q) (is_there (row_of s q)) (referred k s q) al).0 in
      let row : row_of near q ≡ Some (k.join k.null_first u) =
      is ∙ ap (λ (c : Cell). joined_in k c (row_of t q) (alone k s t q) t) gone ∙ ap (λ (x : Bool). joined_in k None (row_of t q) x t) al ∙ ap (map_cell (k.join k.null_first)) at in
      pick_alone _ _ _ u al (ap (map_cell k.second) row ∙ ap Some (well.second_join _ _ well.long_null_first (wide_at b t q u t_wide at))) ∙ sym at)
      (λ al.
      let old : (referred k s q || is_there (row_of s q)) ≡ true = used (row_of t q) (is_there (row_of s q)) (referred k s q) u at al in
      let here : (referred k ns q || is_there (row_of ns q)) ≡ true = ap (λ (x : Bool). x || is_there (row_of ns q)) (refs u at) ∙ ap (λ (c : Cell). referred k s q || is_there c) same ∙ old in
      pick_here _ _ _ _ _ u al here at ∙ sym at))

module _ (k : FkParts) (P : ℕ → Bool) (s t near : Rows) (n : ℕ) (goals : BringsGoals k P s t) (least : BringsShared k P near s t) (high : (q : ℕ) → n ≤ q → P q ≡ true) where
  -- an identifier that is another one that passes
  passed : (x q : ℕ) → P x ≡ true → Some x ≡ Some q → (P q ≡ true) ⊎ (row_of t q ≡ None)
  passed x q e some = let is : x ≡ q = cc in inl (subst (λ (i : ℕ). P i ≡ true) is e)

  -- to what the new key of a row that passes refers
  key_goal : (d : List (List Value)) (p : ℕ) (row : List Value) (h : Option Value) (q : ℕ) → P p ≡ true → row_of near p ≡ Some row → how k s t p row ≡ Some h
      → goal_of (value_or (ref k s t n d (k.second row)) h) ≡ Some q → (P q ≡ true) ⊎ (row_of t q ≡ None)
  key_goal d p row (Some g) q e at is goal =
      from_keep k (row_of s p) (alone k s t p) p t (k.first row) (k.second row) g is
      (λ v es key same. goals p v q e es (ap goal_of key ∙ goal))
      (λ none al key. passed p q e (ap goal_of key ∙ goal))
  key_goal d p row None q e at is goal =
      by_test (same_row (k.second row) k.null_second)
      (λ null.
      let bad : None ≡ Some q = sym (ap (λ (u : Bool). goal_of (cond u Null (Reference (id_or (n + place d (k.second row)) (least_in k s t t (k.second row)))))) null) ∙ goal in
      absurd (cc))
      (λ some.
      let to : Some (id_or (n + place d (k.second row)) (least_in k s t t (k.second row))) ≡ Some q =
      sym (ap (λ (u : Bool). goal_of (cond u Null (Reference (id_or (n + place d (k.second row)) (least_in k s t t (k.second row)))))) some) ∙ goal in
      by_option (least_in k s t t (k.second row))
      (λ none. passed (n + place d (k.second row)) q (high (n + place d (k.second row)) (omega arith)) (ap (λ (o : Option ℕ). Some (id_or (n + place d (k.second row)) o)) (sym none) ∙ to))
      (λ i found. passed i q (least p row i e at is some found) (ap (λ (o : Option ℕ). Some (id_or (n + place d (k.second row)) o)) (sym found) ∙ to)))

-- a row of new S that passes refers to what passes, or to no old row of T
pub made_goal : (k : FkParts) (w a b z : ℕ) (well : FkWell k w a b z) (P : ℕ → Bool) (s t near : Rows) (n : ℕ) → RowsWide w near → BringsGoals k P s t → BringsShared k P near s t → ((q : ℕ) → n ≤ q → P q ≡ true)
    → (d : List (List Value)) (p : ℕ) (v : List Value) (q : ℕ) → P p ≡ true → in_cell (row_of near p) (made_row k s t n d p) ≡ Some v → goal_of (k.key v) ≡ Some q → (P q ≡ true) ⊎ (row_of t q ≡ None)
made_goal k w a b z well P s t near n wide goals least high d p v q e made goal =
    by_option (row_of near p)
    (λ none. let bad : None ≡ Some v = sym (ap (λ (c : Cell). in_cell c (made_row k s t n d p)) none) ∙ made in absurd (cc))
    (λ row at.
    let is : made_row k s t n d p row ≡ Some v = sym (ap (λ (c : Cell). in_cell c (made_row k s t n d p)) at) ∙ made in
    by_option (how k s t p row)
    (λ none. let bad : None ≡ Some v = sym (ap (λ (h : Option (Option Value)). near_row k h (ref k s t n d (k.second row)) (k.first row)) none) ∙ is in absurd (cc))
    (λ h some.
    let put : Some (k.put (k.first row) (value_or (ref k s t n d (k.second row)) h)) ≡ Some v = sym (ap (λ (h : Option (Option Value)). near_row k h (ref k s t n d (k.second row)) (k.first row)) some) ∙ is in
    let same : k.put (k.first row) (value_or (ref k s t n d (k.second row)) h) ≡ v = cc in
    let key : k.key v ≡ value_or (ref k s t n d (k.second row)) h = ap k.key (sym same) ∙ well.key_put (k.first row) (value_or (ref k s t n d (k.second row)) h) (well.long_first row (wide_at w near p row wide at)) in
    key_goal k P s t near n goals least high d p row h q e at some (ap goal_of (sym key) ∙ goal)))
