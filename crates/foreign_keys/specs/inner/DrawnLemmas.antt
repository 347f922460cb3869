-- The list of drawn values: in it stands what needs an identifier, nothing else, each once.
use Rattle.std.proofs.Common.{◌≡◌, ℕ, ◌+◌, ◌<◌, ◌≤◌, ◌==◌, List, [], ◌∷◌, Bool, true, false, cond, length, Some, None, refl, ap, sym, ◌∙◌, subst, arith}
use Rattle.std.proofs.lemmas.Bool.Decides.{nat_tests}
use Rattle.std.proofs.lemmas.Bool.{eqb-true}
use Rattle.par_base.specs.declared.value.Value.{Value}
use Rattle.row_store.specs.Rows.{Rows, RiseFrom, row_of}
use Rattle.row_store.specs.inner.FoundRows.{later, own_row}
use Rattle.op_law.specs.Tables.{RowsWide}
use Rattle.op_law.specs.Sound.{ValuesSound, RowsSound}
use Rattle.row_parts.specs.RowCells.{by_test, by_option}
use Rattle.foreign_keys.specs.KeyParts.{FkParts, FkWell}
use Rattle.foreign_keys.specs.DrawnIds.{Values, numbered, add_once, has, place, drawn}
use Rattle.op_law.proofs.SoundLaws.{rows_more, wide_at}
use Rattle.par_base.specs.SameRows.{same_row}
use Rattle.par_base.specs.inner.SameLaws.{row_equal, row_same}
use Rattle.par_base.proofs.TestLaws.{apart_below}

-- each value stands there once
abbrev pub Distinct : List (List Value) → Type 0
Distinct [] = Unit {0}
Distinct (x ∷ xs) = (has xs x ≡ false) × Distinct xs

-- a value that is there has its place before the end
pub place_under : (d : List (List Value)) (v : List Value) → has d v ≡ true → place d v < length d
place_under [] v h = absurd (cc)
place_under (x ∷ xs) v h =
    by_test (same_row x v) (λ e. rw e (omega arith))
    (λ e. let h2 : has xs v ≡ true = rw e at h in let u = place_under xs v h2 in rw e (omega (arith, u)))

-- a value that isn't there has its place behind all
pub place_end : (d : Values) (v : List Value) → has d v ≡ false → place d v ≡ length d
place_end [] v h = refl
place_end (x ∷ xs) v h =
    by_test (same_row x v)
    (λ e. absurd (cc))
    (λ e. let h2 : has xs v ≡ false = rw e at h in let ih = place_end xs v h2 in rw (e, ih) (omega arith))

-- unequal rows are unequal the other way round
pub turned : (x y : List Value) → same_row x y ≡ false → same_row y x ≡ false
turned x y h = by_test (same_row y x) (λ e. let q = row_equal y x e in let u : same_row x y ≡ true = subst (λ (z : List Value). same_row x z ≡ true) (sym q) (row_same x) in cc) (λ e. e)

-- which values are there once one is added
pub has_add : (v : List Value) (d : List (List Value)) (w : List Value) → has (add_once v d) w ≡ cond (same_row v w) true (has d w)
has_add v [] w = refl
has_add v (x ∷ xs) w =
    by_test (same_row x v)
    (λ e. let q = row_equal x v e in rw e (by_test (same_row v w) (λ u. let a : same_row x w ≡ true = subst (λ (z : List Value). same_row z w ≡ true) (sym q) u in rw (a, u) refl) (λ u. rw u refl)))
    (λ e. let ih = has_add v xs w in rw (e, ih) (by_test (same_row x w) (λ a. by_test (same_row v w) (λ u. rw (a, u) refl) (λ u. rw (a, u) refl)) (λ a. rw a refl)))

-- an added value stands there once
pub distinct_add : (v : List Value) (d : List (List Value)) → Distinct d → Distinct (add_once v d)
distinct_add v [] h = (refl, tt)
distinct_add v (x ∷ xs) h =
    by_test (same_row x v) (λ e. rw e h)
    (λ e. let t = turned x v e in let a = has_add v xs x in rw e ((a ∙ rw t h.0), distinct_add v xs h.1))

-- where the value v is drawn for, at its number
pub numbered_at : (n : ℕ) (d : List (List Value)) (v : List Value) → has d v ≡ true → row_of (numbered n d) (n + place d v) ≡ Some v
numbered_at n [] v h = absurd (cc)
numbered_at n (x ∷ xs) v h =
    by_test (same_row x v)
    (λ e. let own : (n == (n + 0)) ≡ true = grind (arith, nat_tests) in let q = row_equal x v e in rw e (subst (λ (z : Bool). cond z (Some x) (row_of (numbered (n + 1) xs) (n + 0)) ≡ Some v) (sym own) (ap Some q)))
    (λ e.
    let h2 : has xs v ≡ true = rw e at h in
    let ih = numbered_at (n + 1) xs v h2 in
    let other = apart_below n (n + (place xs v + 1)) (omega arith) in
    let m : n + (place xs v + 1) ≡ (n + 1) + place xs v = omega arith in
    rw (e, other) (ap (λ (i : ℕ). row_of (numbered (n + 1) xs) i) m ∙ ih))

-- whose number it is
pub numbered_from : (n : ℕ) (d : List (List Value)) (q : ℕ) (v : List Value) → Distinct d → row_of (numbered n d) q ≡ Some v → (has d v ≡ true) × ((q ≡ n + place d v) × (n ≤ q))
numbered_from n [] q v dis at = absurd (cc)
numbered_from n (x ∷ xs) q v dis at =
    by_test (n == q)
    (λ e.
    let some : Some x ≡ Some v = rw e at at in
    let xv : x ≡ v = cc in
    let i : same_row x v ≡ true = subst (λ (z : List Value). same_row x z ≡ true) xv (row_same x) in
    let nq = eqb-true n q e in
    rw i (refl, (omega (arith, nq), omega (arith, nq))))
    (λ e.
    let at2 : row_of (numbered (n + 1) xs) q ≡ Some v = rw e at at in
    let ih = numbered_from (n + 1) xs q v dis.1 at2 in
    let h = ih.0 in
    let u = ih.1.0 in
    let l = ih.1.1 in
    let i : same_row x v ≡ false = by_test (same_row x v)
    (λ y. let z : has xs x ≡ true = subst (λ (c : List Value). has xs c ≡ true) (sym (row_equal x v y)) h in let no = dis.0 in absurd (cc))
    (λ y. y) in
    rw i (h, (omega (arith, u), omega (arith, l))))

module _ (k : FkParts) (needs : ℕ → List Value → Bool) where
  -- each value is drawn for once
  pub distinct : (seen : List (List Value)) (rows : Rows) → Distinct seen → Distinct (drawn k needs seen rows)
  distinct seen [] h = h
  distinct seen (r ∷ rs) h =
      by_test (needs r.0 r.1) (λ e. rw e (distinct (add_once (k.second r.1) seen) rs (distinct_add (k.second r.1) seen h))) (λ e. rw e (distinct seen rs h))

  -- a value that is drawn for stays so
  pub stays : (seen : List (List Value)) (rows : Rows) (v : List Value) → has seen v ≡ true → has (drawn k needs seen rows) v ≡ true
  stays seen [] v h = h
  stays seen (r ∷ rs) v h =
      by_test (needs r.0 r.1)
      (λ e. rw e (stays (add_once (k.second r.1) seen) rs v (has_add (k.second r.1) seen v ∙ by_test (same_row (k.second r.1) v) (λ u. rw u refl) (λ u. rw u h))))
      (λ e. rw e (stays seen rs v h))

  -- a row that needs a draw has it
  pub has_needed : (seen : List (List Value)) (rows : Rows) (p : ℕ) (row : List Value) → row_of rows p ≡ Some row → needs p row ≡ true → has (drawn k needs seen rows) (k.second row) ≡ true
  has_needed seen [] p row at need = absurd (cc)
  has_needed seen (r ∷ rs) p row at need =
      by_test (r.0 == p)
      (λ e.
      let found : Some r.1 ≡ Some row = rw e at at in
      let v : r.1 ≡ row = cc in
      let q = eqb-true r.0 p e in
      let n2 : needs r.0 r.1 ≡ true = ap (λ (i : ℕ). needs i r.1) q ∙ ap (λ (z : List Value). needs p z) v ∙ need in
      let c = has_add (k.second r.1) seen (k.second row) in
      let i : same_row (k.second r.1) (k.second row) ≡ true = subst (λ (z : List Value). same_row (k.second r.1) (k.second z) ≡ true) v (row_same (k.second r.1)) in
      rw n2 (stays (add_once (k.second r.1) seen) rs (k.second row) (c ∙ rw i refl)))
      (λ e. let at2 : row_of rs p ≡ Some row = rw e at at in has_needed (cond (needs r.0 r.1) (add_once (k.second r.1) seen) seen) rs p row at2 need)

  -- the need behind a drawn value
  pub record Needer (rows : Rows) (v : List Value) : Type 0 where
    pub id : ℕ
    pub row : List Value
    pub at : row_of rows id ≡ Some row
    pub need : needs id row ≡ true
    pub is : k.second row ≡ v

  -- behind a drawn value stands a row that needs it
  pub needer : (m : ℕ) (seen : List (List Value)) (rows : Rows) (v : List Value) → RiseFrom m rows → has (drawn k needs seen rows) v ≡ true → has seen v ≡ false → Needer rows v
  needer m seen [] v rise h out = absurd (cc)
  needer m seen (r ∷ rs) v rise h out =
      let in_rest : (seen2 : List (List Value)) → has (drawn k needs seen2 rs) v ≡ true → has seen2 v ≡ false → Needer (r ∷ rs) v =
      λ seen2 h2 out2.
      let f = needer (r.0 + 1) seen2 rs v rise.1 h2 out2 in
      record { id = f.id; row = f.row; at = later r rs f.id f.row rise.1 f.at; need = f.need; is = f.is } in
      by_test (needs r.0 r.1)
      (λ e.
      let h2 : has (drawn k needs (add_once (k.second r.1) seen) rs) v ≡ true = rw e at h in
      by_test (same_row (k.second r.1) v)
      (λ u. record { id = r.0; row = r.1; at = own_row r rs; need = e; is = row_equal _ _ u })
      (λ u. in_rest (add_once (k.second r.1) seen) h2 (has_add (k.second r.1) seen v ∙ rw u out)))
      (λ e. let h2 : has (drawn k needs seen rs) v ≡ true = rw e at h in in_rest seen h2 out)

-- numbered values rise
pub numbered_rise : (m n : ℕ) (xs : List (List Value)) → m ≤ n → RiseFrom m (numbered n xs)
numbered_rise m n [] h = tt
numbered_rise m n (x ∷ xs) h = (h, numbered_rise (n + 1) (n + 1) xs (omega arith))

-- each value is sound
abbrev EachSound : ℕ → List (List Value) → Type 0
EachSound m [] = Unit {0}
EachSound m (x ∷ xs) = ValuesSound m x × EachSound m xs

-- numbered sound values are sound rows
numbered_sound : (n m : ℕ) (xs : List (List Value)) → 1 ≤ n → n + length xs ≤ m → EachSound m xs → RowsSound m (numbered n xs)
numbered_sound n m [] one h b = tt
numbered_sound n m (x ∷ xs) one h b = (((one, omega (arith, h)), b.0), numbered_sound (n + 1) m xs (omega arith) (omega (arith, h)) b.1)

-- with a sound value more, each is sound
add_sound : (m : ℕ) (v : List Value) (xs : List (List Value)) → ValuesSound m v → EachSound m xs → EachSound m (add_once v xs)
add_sound m v [] b h = (b, tt)
add_sound m v (x ∷ xs) b h = by_test (same_row x v) (λ e. rw e h) (λ e. rw e (h.0, add_sound m v xs b h.1))

module _ (k : FkParts) where
  -- the drawn values are sound, as the rows are
  each_sound : (m : ℕ) (needs : ℕ → List Value → Bool) (seen : List (List Value)) (rows : Rows) → ((v : List Value) → ValuesSound m v → ValuesSound m (k.second v)) → EachSound m seen → RowsSound m rows → EachSound m (drawn k needs seen rows)
  each_sound m needs seen [] f h b = h
  each_sound m needs seen (r ∷ rs) f h b =
      by_test (needs r.0 r.1)
      (λ e. rw e (each_sound m needs (add_once (k.second r.1) seen) rs f (add_sound m (k.second r.1) seen (f r.1 b.0.1) h) b.1))
      (λ e. rw e (each_sound m needs seen rs f h b.1))

  -- the drawn rows may stand below any bound under which their identifiers are
  pub drawn_sound : (n m : ℕ) (needs : ℕ → List Value → Bool) (rows : Rows) → ((v : List Value) → ValuesSound m v → ValuesSound m (k.second v)) → n + length (drawn k needs [] rows) ≤ m → RowsSound n rows → RowsSound m (numbered n (drawn k needs [] rows))
  drawn_sound n m needs [] f h b = tt
  drawn_sound n m needs (r ∷ rs) f h b =
      let one = b.0.0.0 in
      let more = b.0.0.1 in
      numbered_sound n m (drawn k needs [] (r ∷ rs)) (omega (arith, one, more)) h (each_sound m needs [] (r ∷ rs) f tt (rows_more n m (omega (arith, h)) (r ∷ rs) b))

  -- nothing is drawn where no row needs it
  pub drawn_none : (m : ℕ) (needs : ℕ → List Value → Bool) (rows : Rows) → RiseFrom m rows → ((p : ℕ) (row : List Value) → row_of rows p ≡ Some row → needs p row ≡ false) → drawn k needs [] rows ≡ []
  drawn_none m needs [] rise h = refl
  drawn_none m needs (r ∷ rs) rise h =
      let no : needs r.0 r.1 ≡ false = h r.0 r.1 (own_row r rs) in
      rw no (drawn_none (r.0 + 1) needs rs rise.1 (λ p row at. h p row (later r rs p row rise.1 at)))

module _ (k : FkParts) (w a b z : ℕ) (well : FkWell k w a b z) (needs : ℕ → List Value → Bool) (near : Rows) (n : ℕ) where
  -- each drawn row is the T part of a row of the near side
  pub drawn_wide : (q : ℕ) (v : List Value) → RiseFrom 0 near → RowsWide w near → row_of (numbered n (drawn k needs [] near)) q ≡ Some v → length v ≡ b
  drawn_wide q v rise wide e =
      let f = numbered_from n (drawn k needs [] near) q v (distinct k needs [] near tt) e in
      let x : Needer k needs near v = needer k needs 0 [] near v rise f.0 refl in
      subst (λ (c : List Value). length c ≡ b) x.is (well.long_second x.row (wide_at w near x.id x.row wide x.at))

  -- nothing is drawn below n
  pub low_none : (q : ℕ) → q < n → row_of (numbered n (drawn k needs [] near)) q ≡ None
  low_none q h = by_option (row_of (numbered n (drawn k needs [] near)) q) (λ e. e)
      (λ v e. let u = (numbered_from n (drawn k needs [] near) q v (distinct k needs [] near tt) e).1.1 in absurd (omega (arith, u, h)))
