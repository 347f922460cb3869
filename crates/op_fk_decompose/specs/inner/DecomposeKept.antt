-- The relation after a mapping forward.
use Rattle.std.proofs.Common.{◌≡◌, ℕ, ◌+◌, ◌≤◌, List, [], Bool, true, false, not, ◌&&◌, cond, length, Option, Some, None, refl, ap, sym, ◌∙◌, subst, arith}
use Rattle.std.proofs.lemmas.Bool.{or_left, or_from}
use Rattle.par_base.specs.declared.value.Value.{Value}
use Rattle.par_base.specs.declared.value.Value.TheVariants.{Null, Int, Text, Reference}
use Rattle.row_store.specs.Rows.{Rows, row_of}
use Rattle.row_parts.specs.RowCells.{Cell, is_there, or_else, kept_if, row_or, map_cell, in_cell, id_or, value_or, by_test, by_option}
use Rattle.foreign_keys.specs.KeyParts.{FkParts, FkWell}
use Rattle.foreign_keys.specs.References.{goal_of, referred, far_part}
use Rattle.foreign_keys.specs.DrawnIds.{numbered, place}
use Rattle.op_tables.specs.Lookups.{one_rise}
use Rattle.foreign_keys.specs.inner.ReferenceLemmas.{goal_below, referred_by, referrer}
use Rattle.foreign_keys.specs.inner.DrawnLemmas.{Distinct, numbered_at, numbered_from, distinct, Needer, needer, low_none}
use Rattle.op_fk_decompose.specs.Decompose.{alone, joined_in, joined, least_in, how, needs, values_drawn, ref, near_row, new_first, new_second, s_after, t_after}
use Rattle.op_fk_decompose.specs.inner.DecomposeFacts.{from_keep, from_stay, from_need}
use Rattle.foreign_keys.specs.Shared.{Ready}
use Rattle.op_fk_decompose.specs.inner.DecomposeForward.{first_at, second_at, ref_is, not_alone}
use Rattle.par_base.specs.SameRows.{same_row}
use Rattle.par_base.specs.inner.SameLaws.{row_equal}
use Rattle.op_law.proofs.SoundLaws.{sound_at, wide_at}

-- of the three kinds of row in new T, an alone row
pub pick_alone : (al : Bool) (x y : Cell) (v : List Value) → al ≡ true → x ≡ Some v → or_else (kept_if al x) y ≡ Some v
pick_alone al x y v e f = rw (e, f) refl

-- an old row that stays
pub pick_here : (al re : Bool) (x c y : Cell) (v : List Value) → al ≡ false → re ≡ true → c ≡ Some v → or_else (kept_if al x) (or_else (kept_if re c) y) ≡ Some v
pick_here al re x c y v e f g = rw (e, f, g) refl

-- a drawn row
pub pick_new : (al re : Bool) (x c y : Cell) → al ≡ false → c ≡ None → or_else (kept_if al x) (or_else (kept_if re c) y) ≡ y
pick_new al true x c y e g = rw (e, g) refl
pick_new al false x c y e g = rw e refl

-- none of them
pick_gone : (al re : Bool) (x c y : Cell) → x ≡ None → re ≡ false → y ≡ None → or_else (kept_if al x) (or_else (kept_if re c) y) ≡ None
pick_gone true re x c y e f g = rw (e, f, g) refl
pick_gone false re x c y e f g = rw (f, g) refl

-- a row that no S row has or refers to is alone
pub is_alone : (c : Cell) (b r : Bool) (v : List Value) → c ≡ Some v → b ≡ false → r ≡ false → (is_there c && (not b && not r)) ≡ true
is_alone c b r v e f g = rw (e, f, g) refl

module _ (k : FkParts) where
  -- where T has no row, none is alone
  pub alone_none : (s t : Rows) (q : ℕ) → row_of t q ≡ None → alone k s t q ≡ false
  alone_none s t q e = ap (λ (c : Cell). is_there c && (not (is_there (row_of s q)) && not (referred k s q))) e

  -- equal rows at the goal give equal T parts
  far_same : (t u : Rows) (f : Value) → ((q : ℕ) → goal_of f ≡ Some q → row_of t q ≡ row_of u q) → far_part k t f ≡ far_part k u f
  far_same t u (Reference q) h = ap (λ (c : Cell). row_or k.null_second c) (h q refl)
  far_same t u Null h = refl
  far_same t u (Int i) h = refl
  far_same t u (Text x) h = refl

  -- where S and T have no row, R has none
  pub none_joined : (al : Bool) (t : Rows) → joined_in k None None al t ≡ None
  none_joined true t = refl
  none_joined false t = refl

  -- the T part that a reference gives
  far_at : (t : Rows) (q : ℕ) (v : List Value) → row_of t q ≡ Some v → far_part k t (Reference q) ≡ v
  far_at t q v e = ap (λ (c : Cell). row_or k.null_second c) e

module _ (k : FkParts) (w a b z : ℕ) (well : FkWell k w a b z) (s t near : Rows) (n : ℕ) (ok : Ready w b z s t near n) where
  -- the values drawn for
  abbrev dd : List (List Value)
  dd = values_drawn k s t near

  -- new S
  abbrev ns : Rows
  ns = s_after k s t near n

  -- new T
  abbrev nt : Rows
  nt = t_after k s t near n

  -- the reference to a row of the T part
  abbrev ref_b : List Value → Value
  ref_b row = ref k s t n dd (k.second row)

  -- the row of S that is made of a row of R
  abbrev made : List Value → Option Value → List Value
  made row h = k.put (k.first row) (value_or (ref_b row) h)

  -- what new S has
  fst_at : (p : ℕ) → row_of ns p ≡ new_first k s t n dd near p
  fst_at p = first_at k w a b z well s t near n ok p

  -- what new T has
  pub snd_at : (q : ℕ) → row_of nt q ≡ new_second k s t n dd near ns q
  snd_at q = second_at k w a b z well s t near n ok q

  -- no row of R, no row of S
  pub none_made : (p : ℕ) → row_of near p ≡ None → row_of ns p ≡ None
  none_made p e = fst_at p ∙ ap (λ (c : Cell). in_cell c (λ row. near_row k (how k s t p row) (ref_b row) (k.first row))) e

  -- the row of S is made as the key says
  pub is_made : (p : ℕ) (row : List Value) (o : Option (Option Value)) → row_of near p ≡ Some row → how k s t p row ≡ o → row_of ns p ≡ near_row k o (ref_b row) (k.first row)
  is_made p row o e h = fst_at p ∙ ap (λ (c : Cell). in_cell c (λ row. near_row k (how k s t p row) (ref_b row) (k.first row))) e ∙ ap (λ (x : Option (Option Value)). near_row k x (ref_b row) (k.first row)) h

  -- how long an S part is
  long_first_of : (p : ℕ) (row : List Value) → row_of near p ≡ Some row → length (k.first row) ≡ a
  long_first_of p row e = well.long_first row (wide_at w near p row ok.near_wide e)

  -- the key of the row that is made
  key_made : (p : ℕ) (row : List Value) (h : Option Value) → row_of near p ≡ Some row → k.key (made row h) ≡ value_or (ref_b row) h
  key_made p row h e = well.key_put (k.first row) (value_or (ref_b row) h) (long_first_of p row e)

  -- the row refers to what its key says
  refers_made : (p q : ℕ) (row : List Value) (h : Option Value) → row_of near p ≡ Some row → how k s t p row ≡ Some h → goal_of (value_or (ref_b row) h) ≡ Some q → referred k ns q ≡ true
  refers_made p q row h e is g = referred_by k ns p q (made row h) (is_made p row (Some h) e is) (ap goal_of (key_made p row h e) ∙ g)

  -- each value is drawn for once
  dis : Distinct dd
  dis = distinct k (needs k s t) [] near tt

  -- old T has no identifier from n on
  high_none : (q : ℕ) → n ≤ q → row_of t q ≡ None
  high_none q h = by_option (row_of t q) (λ e. e) (λ v e. let u = (sound_at n t q v ok.t_below e).0.1 in absurd (omega (arith, u, h)))

  -- an old row to which one refers stays as it is
  kept_row : (q : ℕ) (v : List Value) → row_of t q ≡ Some v → alone k s t q ≡ false → referred k ns q ≡ true → row_of nt q ≡ Some v
  kept_row q v e al re = snd_at q ∙ pick_here _ _ _ _ _ v al (or_left _ _ re) e

  -- a row to which old S refers isn't alone
  shared_by : (p q : ℕ) (v : List Value) → row_of s p ≡ Some v → goal_of (k.key v) ≡ Some q → alone k s t q ≡ false
  shared_by p q v e g = not_alone (is_there (row_of t q)) (is_there (row_of s q)) (referred k s q) (referred_by k s p q v e g)

  -- a kept reference refers to the same row, or dangles as before
  keep_far : (p : ℕ) (row v : List Value) → row_of near p ≡ Some row → row_of s p ≡ Some v → how k s t p row ≡ Some (Some (k.key v)) → far_part k nt (k.key v) ≡ far_part k t (k.key v)
  keep_far p row v e es is =
      far_same k nt t (k.key v) (λ q g.
      by_option (row_of t q)
      (λ none. snd_at q ∙ pick_new _ _ _ _ _ (alone_none k s t q none) none ∙ low_none k w a b z well (needs k s t) near n q (goal_below n (k.key v) q (well.sound_key n v (sound_at n s p v ok.s_below es).1) g).1 ∙ sym none)
      (λ old some. kept_row q old some (shared_by p q v es g) (refers_made p q row (Some (k.key v)) e is g) ∙ sym some))

  -- an alone row has the new T part under its identifier
  own_at : (p : ℕ) (row : List Value) → row_of near p ≡ Some row → alone k s t p ≡ true → row_of nt p ≡ Some (k.second row)
  own_at p row e al = snd_at p ∙ pick_alone _ _ _ (k.second row) al (ap (map_cell k.second) e)

  -- the key of each new row gives its T part
  far_is : (p : ℕ) (row : List Value) (h : Option Value) → row_of near p ≡ Some row → how k s t p row ≡ Some h → far_part k nt (value_or (ref_b row) h) ≡ k.second row
  far_is p row (Some g) e is =
      from_keep k (row_of s p) (alone k s t p) p t (k.first row) (k.second row) g is
      (λ v es key u.
      let is2 : how k s t p row ≡ Some (Some (k.key v)) = is ∙ ap (λ (x : Value). Some (Some x)) (sym key) in
      subst (λ (x : Value). far_part k nt x ≡ k.second row) key (keep_far p row v e es is2 ∙ sym (row_equal _ _ u)))
      (λ none al key. subst (λ (x : Value). far_part k nt x ≡ k.second row) key (far_at k nt p (k.second row) (own_at p row e al)))
  far_is p row None e is =
      ref_is k w a b z well s t near n ok p row e is
      (λ u r. subst (λ (x : Value). far_part k nt x ≡ k.second row) (sym r) (sym (row_equal _ _ u)))
      (λ q l r.
      let there = kept_row q l.row l.at l.shared (refers_made p q row None e is (ap goal_of r)) in
      subst (λ (x : Value). far_part k nt x ≡ k.second row) (sym r) (far_at k nt q l.row there ∙ row_equal _ _ l.same))
      (λ h r.
      let q = n + place dd (k.second row) in
      let out = high_none (n + place dd (k.second row)) (omega arith) in
      let there : row_of nt (n + place dd (k.second row)) ≡ Some (k.second row) = snd_at _ ∙ pick_new _ _ _ _ _ (alone_none k s t _ out) out ∙ numbered_at n dd (k.second row) h in
      subst (λ (x : Value). far_part k nt x ≡ k.second row) (sym r) (far_at k nt _ (k.second row) there))

  -- each drawn row has a reference
  drawn_referred : (q : ℕ) (v : List Value) → row_of (numbered n dd) q ≡ Some v → referred k ns q ≡ true
  drawn_referred q v e =
      let f = numbered_from n dd q v dis e in
      let x : Needer k (needs k s t) near v = needer k (needs k s t) 0 [] near v ok.near_rise f.0 refl in
      let c = from_need k (how k s t x.id x.row) (least_in k s t t (k.second x.row)) (same_row (k.second x.row) k.null_second) x.need in
      let r : ref_b x.row ≡ Reference (n + place dd (k.second x.row)) =
      ap (λ (u : Bool). cond u Null (Reference (id_or (n + place dd (k.second x.row)) (least_in k s t t (k.second x.row))))) c.1.1 ∙ ap (λ (u : Option ℕ). Reference (id_or (n + place dd (k.second x.row)) u)) c.1.0 in
      refers_made x.id q x.row None x.at c.0 (ap goal_of r ∙ ap (λ (u : List Value). Some (n + place dd u)) x.is ∙ ap Some (sym f.1.0))

  -- no key is the reference to a row that stays alone
  stays_case : (p : ℕ) (row : List Value) → row_of near p ≡ Some row → how k s t p row ≡ None → alone k s t p ≡ true
      → (p2 : ℕ) (row2 : List Value) (h : Option Value) → row_of near p2 ≡ Some row2 → how k s t p2 row2 ≡ Some h → goal_of (value_or (ref_b row2) h) ≡ Some p → ⊥
  stays_case p row e is al p2 row2 (Some g) e2 is2 goal =
      from_keep k (row_of s p2) (alone k s t p2) p2 t (k.first row2) (k.second row2) g is2
      (λ v es key u. let no = shared_by p2 p v es (ap goal_of key ∙ goal) in (cc))
      (λ none al2 key.
      let i : Some p2 ≡ Some p = ap goal_of key ∙ goal in
      let j : p2 ≡ p = cc in
      let e3 : row_of near p ≡ Some row2 = subst (λ (x : ℕ). row_of near x ≡ Some row2) j e2 in
      let some : Some row ≡ Some row2 = sym e ∙ e3 in
      let rr : row ≡ row2 = cc in
      let is3 : how k s t p row2 ≡ Some (Some g) = subst (λ (x : ℕ). how k s t x row2 ≡ Some (Some g)) j is2 in
      let is4 : how k s t p row2 ≡ None = subst (λ (x : List Value). how k s t p x ≡ None) rr is in
      let bad : None ≡ Some (Some g) = sym is4 ∙ is3 in
      cc)
  stays_case p row e is al p2 row2 None e2 is2 goal =
      ref_is k w a b z well s t near n ok p2 row2 e2 is2
      (λ u r. let bad : None ≡ Some p = sym (ap goal_of r) ∙ goal in cc)
      (λ q l r.
      let i : Some q ≡ Some p = sym (ap goal_of r) ∙ goal in
      let j : q ≡ p = cc in
      let no : alone k s t p ≡ false = subst (λ (x : ℕ). alone k s t x ≡ false) j l.shared in
      cc)
      (λ h r.
      let i : Some (n + place dd (k.second row2)) ≡ Some p = sym (ap goal_of r) ∙ goal in
      let j : n + place dd (k.second row2) ≡ p = cc in
      let low = (sound_at n near p row ok.near_below e).0.1 in
      omega (arith, j, low))

  -- no row of new S refers to a row that stays alone
  stays_alone : (p : ℕ) (row : List Value) → row_of near p ≡ Some row → how k s t p row ≡ None → alone k s t p ≡ true → referred k ns p ≡ false
  stays_alone p row e is al =
      by_test (referred k ns p)
      (λ re.
      let f = referrer k 0 ns p (one_rise near (new_first k s t n dd near) ok.near_rise) re in
      let at = f.at in
      absurd (by_option (row_of near f.id)
      (λ none. let m = none_made f.id none in (let u : Some f.row ≡ None = sym at ∙ m in cc))
      (λ row2 e2. by_option (how k s t f.id row2)
      (λ none. let m = is_made f.id row2 None e2 none in (let u : Some f.row ≡ None = sym at ∙ m in cc))
      (λ h is2.
      let m : Some f.row ≡ Some (made row2 h) = sym at ∙ is_made f.id row2 (Some h) e2 is2 in
      let same : f.row ≡ made row2 h = cc in
      let g : goal_of (value_or (ref_b row2) h) ≡ Some p = ap goal_of (sym (key_made f.id row2 h e2)) ∙ ap (λ (x : List Value). goal_of (k.key x)) (sym same) ∙ f.goal in
      stays_case p row e is al f.id row2 h e2 is2 g))))
      (λ re. re)

  -- R is what new S and new T give, at each identifier
  pub kept_at : (p : ℕ) → row_of near p ≡ joined k ns nt p
  kept_at p =
      by_option (row_of near p)
      (λ none.
      let m = none_made p none in
      let x : joined_in k None (row_of nt p) (alone k ns nt p) nt ≡ None =
      by_test (referred k ns p)
      (λ re. ap (λ (u : Bool). joined_in k None (row_of nt p) u nt) (not_alone (is_there (row_of nt p)) (is_there (row_of ns p)) (referred k ns p) re))
      (λ re.
      let y : row_of (numbered n dd) p ≡ None = by_option (row_of (numbered n dd) p) (λ u. u) (λ v u. let yes = drawn_referred p v u in absurd (cc)) in
      let gone : row_of nt p ≡ None = snd_at p ∙ pick_gone _ _ _ _ _ (ap (map_cell k.second) none) (or_from _ _ re (ap is_there m)) y in
      ap (λ (c : Cell). joined_in k None c (alone k ns nt p) nt) gone ∙ none_joined k _ nt) in
      none ∙ sym (ap (λ (c : Cell). joined_in k c (row_of nt p) (alone k ns nt p) nt) m ∙ x))
      (λ row e. by_option (how k s t p row)
      (λ is.
      let c = from_stay k (row_of s p) (alone k s t p) p t (k.first row) (k.second row) is in
      let m = is_made p row None e is in
      let al = c.1.0 in
      let there = own_at p row e al in
      let re = stays_alone p row e is al in
      let al2 : alone k ns nt p ≡ true = is_alone (row_of nt p) (is_there (row_of ns p)) (referred k ns p) (k.second row) there (ap is_there m) re in
      let nf = row_equal _ _ c.1.1 in
      e ∙ sym (ap (λ (c : Cell). joined_in k c (row_of nt p) (alone k ns nt p) nt) m ∙ ap (λ (u : Bool). joined_in k None (row_of nt p) u nt) al2
      ∙ ap (map_cell (k.join k.null_first)) there ∙ ap (λ (x : List Value). Some (k.join x (k.second row))) (sym nf) ∙ ap Some (well.join_parts row (wide_at w near p row ok.near_wide e))))
      (λ h is.
      let m = is_made p row (Some h) e is in
      e ∙ sym (ap (λ (c : Cell). joined_in k c (row_of nt p) (alone k ns nt p) nt) m
      ∙ ap (λ (x : List Value). Some (k.join x (far_part k nt (k.key (made row h))))) (well.part_put (k.first row) (value_or (ref_b row) h) (long_first_of p row e))
      ∙ ap (λ (x : Value). Some (k.join (k.first row) (far_part k nt x))) (key_made p row h e)
      ∙ ap (λ (x : List Value). Some (k.join (k.first row) x)) (far_is p row h e is)
      ∙ ap Some (well.join_parts row (wide_at w near p row ok.near_wide e)))))
