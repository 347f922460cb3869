-- Rows that stay where pairs change, of a part and of the whole, and entries that aren't changed.
use Rattle.std.proofs.Common.{◌≡◌, ℕ, ◌==◌, ◌⊎◌, [], ◌∷◌, filter, Bool, true, false, ◌&&◌, ◌||◌, not, refl, ap, sym, ◌∙◌}
use Rattle.std.proofs.lemmas.Bool.{and_parts, false≢true}
use mathlib.Core.Logic.{inl, inr}
use Rattle.row_store.specs.Rows.{Rows}
use Rattle.id_memory.specs.Pairs.{Pairs}
use Rattle.op_law.specs.Local.{rows_only}
use Rattle.row_parts.specs.RowCells.{by_test}
use Rattle.pair_rows.specs.Stays.{stands, staying}
use Rattle.pair_parts.specs.Parts.{memory_only}
use Rattle.cond_parts.specs.Backward.{BringsStill}
use Rattle.cond_parts.proofs.MemoryLemmas.{BringsIt, Each, both_ways, stands_rest, stands_whole}

-- what stands in an entry that passes one test stands in one that passes a weaker one
pub stands_more : (X Y : ℕ → Bool) (pick : ℕ × ℕ × ℕ → ℕ) (es : Pairs) (q : ℕ) → ((i : ℕ) → X i ≡ true → Y i ≡ true) → stands pick (memory_only X es) q ≡ true → stands pick (memory_only Y es) q ≡ true
stands_more X Y pick [] q h e = e
stands_more X Y pick (x ∷ xs) q h e =
    by_test (X x.0)
    (λ u.
    let other = h x.0 u in
    let here : stands pick (x ∷ memory_only X xs) q ≡ true = rw u at e in
    rw other (by_test (pick x == q) (λ v. rw v refl) (λ v. let rest : stands pick (memory_only X xs) q ≡ true = rw v at here in rw v (stands_more X Y pick xs q h rest))))
    (λ u.
    let rest : stands pick (memory_only X xs) q ≡ true = rw u at e in
    let ih = stands_more X Y pick xs q h rest in
    by_test (Y x.0)
    (λ w. rw w (by_test (pick x == q) (λ v. rw v refl) (λ v. rw v ih)))
    (λ w. rw w ih))

-- what stands in an entry stands in one that passes, or in one that doesn't
pub stands_either : (P : ℕ → Bool) (pick : ℕ × ℕ × ℕ → ℕ) (es : Pairs) (q : ℕ) → stands pick es q ≡ true → (stands pick (memory_only P es) q ≡ true) ⊎ (stands pick (memory_only (λ i. not (P i)) es) q ≡ true)
stands_either P pick [] q e = inl e
stands_either P pick (x ∷ xs) q e =
    by_test (pick x == q)
    (λ v. by_test (P x.0) (λ u. inl (rw u (rw v refl))) (λ u. inr (rw u (rw v refl))))
    (λ v.
    let rest : stands pick xs q ≡ true = rw v at e in
    elim (stands_either P pick xs q rest) [
      | inl one ↦ inl (by_test (P x.0) (λ u. rw u (rw v one)) (λ u. rw u one))
      | inr one ↦ inr (by_test (P x.0) (λ u. rw u one) (λ u. rw u (rw v one)))
    ])

-- rows that pass, among those that a test leaves
filter_rows : (P test small : ℕ → Bool) (rows : Rows) → ((q : ℕ) → P q ≡ true → small q ≡ test q) → filter (λ r. small r.0) (rows_only P rows) ≡ rows_only P (filter (λ r. test r.0) rows)
filter_rows P test small [] same = refl
filter_rows P test small (r ∷ rs) same =
    let rest = filter_rows P test small rs same in
    by_test (P r.0)
    (λ u.
    let here = same r.0 u in
    by_test (test r.0)
    (λ v. let own = here ∙ v in rw (u, v) (rw own (rw u (ap (λ (l : Rows). r ∷ l) rest))))
    (λ v. let own = here ∙ v in rw (u, v) (rw own rest)))
    (λ u. by_test (test r.0) (λ v. rw (u, v) (rw u rest)) (λ v. rw (u, v) rest))

-- rows that a test leaves where they pass
filter_all : (P test : ℕ → Bool) (rows : Rows) → ((q : ℕ) → P q ≡ true → test q ≡ true) → rows_only P (filter (λ r. test r.0) rows) ≡ rows_only P rows
filter_all P test [] all = refl
filter_all P test (r ∷ rs) all =
    let rest = filter_all P test rs all in
    by_test (P r.0)
    (λ u. let v = all r.0 u in rw (u, v) (rw u (ap (λ (l : Rows). r ∷ l) rest)))
    (λ u. by_test (test r.0) (λ v. rw (u, v) (rw u rest)) (λ v. rw (u, v) rest))

-- the old memory, and a new one that has the same entries where nothing is changed
module _ (C P : ℕ → Bool) (pick : ℕ × ℕ × ℕ → ℕ) (m pairs : Pairs) (in_part_of : (q : ℕ) → C q ≡ true → P q ≡ true)
    (same : (X : ℕ → Bool) → ((q : ℕ) → X q ≡ true → C q ≡ false) → memory_only X pairs ≡ memory_only X m)
    (still : BringsStill C P pick m) (brings : Each (BringsIt P pick) m) where
  -- what fails isn't changed
  abbrev Q : ℕ → Bool
  Q i = not (P i)

  abbrev Still : ℕ → Bool
  Still i = P i && not (C i)

  out_same : (q : ℕ) → Q q ≡ true → C q ≡ false
  out_same q e = by_test (C q) (λ u. let pass = in_part_of q u in let bad : not true ≡ true = rw pass at e in absurd (false≢true bad)) (λ u. u)

  still_same : (q : ℕ) → Still q ≡ true → C q ≡ false
  still_same q e = let parts = and_parts (P q) (not (C q)) e in by_test (C q) (λ u. let bad : not true ≡ true = rw u at parts.1 in absurd (false≢true bad)) (λ u. u)

  still_pass : (q : ℕ) → Still q ≡ true → P q ≡ true
  still_pass q e = (and_parts (P q) (not (C q)) e).0

  -- an old entry of a row that passes
  pub old_part : (q : ℕ) → P q ≡ true → stands pick (memory_only P m) q ≡ stands pick m q
  old_part q pass =
      both_ways (stands pick (memory_only P m) q) (stands pick m q) (stands_whole P pick m q)
      (λ e. elim (stands_either P pick m q e) [ inl one ↦ one | inr one ↦ stands_more Still P pick m q still_pass (still q pass one) ])

  -- and a new one
  pub new_part : (q : ℕ) → P q ≡ true → stands pick (memory_only P pairs) q ≡ stands pick pairs q
  new_part q pass =
      both_ways (stands pick (memory_only P pairs) q) (stands pick pairs q) (stands_whole P pick pairs q)
      (λ e.
      elim (stands_either P pick pairs q e) [
        | inl one ↦ one
        | inr one ↦
            let old = sym (ap (λ (es : Pairs). stands pick es q) (same Q out_same)) ∙ one in
            let kept = ap (λ (es : Pairs). stands pick es q) (same Still still_same) ∙ still q pass old in
            stands_more Still P pick pairs q still_pass kept
      ])

  -- THE ROWS OF THE PART STAY AS THOSE OF THE WHOLE
  pub stays_part : (rows : Rows) → staying pick (memory_only P m) (memory_only P pairs) (rows_only P rows) ≡ rows_only P (staying pick m pairs rows)
  stays_part rows =
      filter_rows P (λ i. not (stands pick m i) || stands pick pairs i) (λ i. not (stands pick (memory_only P m) i) || stands pick (memory_only P pairs) i) rows
      (λ q pass. ap (λ (b : Bool). not b || stands pick (memory_only P pairs) q) (old_part q pass) ∙ ap (λ (b : Bool). not (stands pick m q) || b) (new_part q pass))

  -- a row that doesn't pass stays
  rest_stays : (q : ℕ) → Q q ≡ true → (not (stands pick m q) || stands pick pairs q) ≡ true
  rest_stays q e =
      by_test (stands pick m q)
      (λ u.
      let out : P q ≡ false = by_test (P q) (λ v. let bad : not true ≡ true = rw v at e in absurd (false≢true bad)) (λ v. v) in
      let one = stands_rest P pick m q out brings ∙ u in
      let new = ap (λ (es : Pairs). stands pick es q) (same Q out_same) ∙ one in
      rw u (stands_whole Q pick pairs q new))
      (λ u. rw u refl)

  -- THE OTHERS STAY
  pub stays_rest : (rows : Rows) → rows_only Q (staying pick m pairs rows) ≡ rows_only Q rows
  stays_rest rows = filter_all Q (λ i. not (stands pick m i) || stands pick pairs i) rows rest_stays
