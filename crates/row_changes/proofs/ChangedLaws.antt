-- Look-ups in tables after changes.
use Rattle.std.specs.Prelude.{nat_lt}
use Rattle.std.proofs.Common.{◌≡◌, ℕ, suc, length, ◌+◌, ◌≤◌, ◌==◌, List, [], ◌∷◌, Bool, true, false, if◌then◌else◌, Option, Some, None, refl, ap, sym, ◌∙◌, arith}
use Rattle.std.proofs.lemmas.Bool.Decides.{nat_tests}
use Rattle.std.proofs.lemmas.Bool.{cases_order, eqb-true}
use mathlib.Core.Logic.{inl, inr}
use Rattle.par_base.proofs.TestLaws.{swap_tests}
use Rattle.par_base.specs.declared.value.Value.{Value}
use Rattle.row_store.specs.declared.change.Change.{Change}
use Rattle.row_store.specs.Rows.{Rows, RiseFrom, row_of}
use Rattle.row_store.specs.Changes.{AreOld, after, IsChanged}
use Rattle.row_store.specs.inner.FoundRows.{rise_more, none_under}
use Rattle.row_store.proofs.UndoLaws.{ext}
use Rattle.op_law.specs.Local.{rows_only, only}
use Rattle.op_rows.specs.Cells.{with_row}
use Rattle.op_law.proofs.OnlyLaws.{row_in, row_out, rise_only, by_test}
use Rattle.op_law.specs.Tables.{Tables, AllRise}
use Rattle.row_changes.specs.Changed.{put_row, changed, TableChanges, changed_tables, AreChangesOf}
use Rattle.row_changes.specs.Touched.{AllPass, EachPass}

with_rise : (n id : ℕ) (new : Option (List Value)) (rows : Rows) → n ≤ id → RiseFrom (id + 1) rows → RiseFrom n (with_row id new rows)
with_rise n id None rows h rise = rise_more n (id + 1) rows (omega arith) rise
with_rise n id (Some row) rows h rise = (h, rise)

pub put_rise : (n id : ℕ) (new : Option (List Value)) (rows : Rows) → n ≤ id → RiseFrom n rows → RiseFrom n (put_row id new rows)
put_rise n id new [] h rise = with_rise n id new [] h tt
put_rise n id new (r ∷ rs) h rise =
    elim (cases_order r.0 id) [
      | inl e ↦
          let no : nat_lt r.0 id ≡ false = grind (arith, nat_tests) in
          let same : (r.0 == id) ≡ true = grind (arith, nat_tests) in
          rw (no, same) (with_rise n id new rs h (rise_more (id + 1) (r.0 + 1) rs (omega arith) rise.1))
      | inr (inl k) ↦
          let yes : nat_lt r.0 id ≡ true = grind (arith, nat_tests) in
          rw yes (rise.0, put_rise (r.0 + 1) id new rs (omega arith) rise.1)
      | inr (inr k) ↦
          let no : nat_lt r.0 id ≡ false = grind (arith, nat_tests) in
          let other : (r.0 == id) ≡ false = grind (arith, nat_tests) in
          rw (no, other) (with_rise n id new (r ∷ rs) h (omega arith, rise.1))
    ]

with_at : (id : ℕ) (new : Option (List Value)) (rows : Rows) (q : ℕ) → row_of rows id ≡ None → row_of (with_row id new rows) q ≡ (if id == q then new else row_of rows q)
with_at id None rows q none = by_test (id == q) (λ e. rw e (ap (row_of rows) (sym (eqb-true id q e)) ∙ none)) (λ e. rw e refl)
with_at id (Some row) rows q none = refl

over : {A : Type 0} (a b : Bool) (x y z : A) → (a ≡ b) → (if b then y else z) ≡ (if b then y else (if a then x else z))
over true true x y z e = refl
over false false x y z e = refl
over true false x y z e = absurd (cc)
over false true x y z e = absurd (cc)

-- WHAT AN IDENTIFIER HAS AFTER A PUT
pub put_at : (n id : ℕ) (new : Option (List Value)) (rows : Rows) (q : ℕ) → RiseFrom n rows → row_of (put_row id new rows) q ≡ (if id == q then new else row_of rows q)
put_at n id new [] q rise = with_at id new [] q refl
put_at n id new (r ∷ rs) q rise =
    elim (cases_order r.0 id) [
      | inl e ↦
          let no : nat_lt r.0 id ≡ false = grind (arith, nat_tests) in
          let same : (r.0 == id) ≡ true = grind (arith, nat_tests) in
          let none = none_under (r.0 + 1) rs id rise.1 (omega arith) in
          let equal : (r.0 == q) ≡ (id == q) = ap (λ (k : ℕ). k == q) e in
          rw (no, same) (with_at id new rs q none ∙ over (r.0 == q) (id == q) (Some r.1) new (row_of rs q) equal)
      | inr (inl k) ↦
          let yes : nat_lt r.0 id ≡ true = grind (arith, nat_tests) in
          rw yes (rw (put_at (r.0 + 1) id new rs q rise.1) (swap_tests (r.0 == q) (id == q) (Some r.1) new (row_of rs q) (λ e. grind (arith, nat_tests))))
      | inr (inr k) ↦
          let no : nat_lt r.0 id ≡ false = grind (arith, nat_tests) in
          let other : (r.0 == id) ≡ false = grind (arith, nat_tests) in
          let none : row_of (r ∷ rs) id ≡ None = none_under (id + 1) (r ∷ rs) id (omega arith, rise.1) (omega arith) in
          rw (no, other) (with_at id new (r ∷ rs) q none)
    ]

pub changed_rise : (rows : Rows) (cs : List Change) → RiseFrom 0 rows → RiseFrom 0 (changed rows cs)
changed_rise rows [] rise = rise
changed_rise rows (c ∷ cs) rise = put_rise 0 c.id c.new (changed rows cs) (omega arith) (changed_rise rows cs rise)

-- WHAT AN IDENTIFIER HAS AFTER CHANGES
pub changed_at : (rows : Rows) (cs : List Change) (q : ℕ) → RiseFrom 0 rows → row_of (changed rows cs) q ≡ after cs q (row_of rows q)
changed_at rows [] q rise = refl
changed_at rows (c ∷ cs) q rise = put_at 0 c.id c.new (changed rows cs) q (changed_rise rows cs rise) ∙ ap (λ (row : Option (List Value)). if c.id == q then c.new else row) (changed_at rows cs q rise)

pub is_changed : (before : Rows) (cs : List Change) → RiseFrom 0 before → IsChanged before cs (changed before cs)
is_changed before cs rise = record { rises = changed_rise before cs rise; rows = λ q. changed_at before cs q rise }

-- there is no other table after them
pub changed_is : (before : Rows) (cs : List Change) (now : Rows) → RiseFrom 0 before → IsChanged before cs now → now ≡ changed before cs
changed_is before cs now rise is = ext 0 now (changed before cs) is.rises (changed_rise before cs rise) (λ q. is.rows q ∙ sym (changed_at before cs q rise))

-- others are left
pub after_other : (P : ℕ → Bool) (cs : List Change) (q : ℕ) (row : Option (List Value)) → AllPass P cs → P q ≡ false → after cs q row ≡ row
after_other P [] q row pass h = refl
after_other P (c ∷ cs) q row pass h =
    let rest = after_other P cs q row pass.1 h in
    by_test (c.id == q) (λ e. let same = ap P (eqb-true c.id q e) in absurd (cc)) (λ e. rw e rest)

-- a table restricted to identifiers that have all changes is changed in the same way
pub only_changed : (P : ℕ → Bool) (rows : Rows) (cs : List Change) → RiseFrom 0 rows → AllPass P cs → rows_only P (changed rows cs) ≡ changed (rows_only P rows) cs
only_changed P rows cs rise pass =
    let small = rise_only P 0 rows rise in
    ext 0 (rows_only P (changed rows cs)) (changed (rows_only P rows) cs) (rise_only P 0 (changed rows cs) (changed_rise rows cs rise)) (changed_rise (rows_only P rows) cs small)
    (λ q. by_test (P q)
    (λ e. row_in P (changed rows cs) q e ∙ changed_at rows cs q rise ∙ sym (ap (after cs q) (row_in P rows q e)) ∙ sym (changed_at (rows_only P rows) cs q small))
    (λ e. row_out P (changed rows cs) q e ∙ sym (row_out P rows q e) ∙ sym (after_other P cs q (row_of (rows_only P rows) q) pass e) ∙ sym (changed_at (rows_only P rows) cs q small)))

-- the old rows are the same there
pub only_old : (P : ℕ → Bool) (rows : Rows) (cs : List Change) → AllPass P cs → AreOld rows cs → AreOld (rows_only P rows) cs
only_old P rows [] pass old = tt
only_old P rows (c ∷ cs) pass old = (old.0 ∙ sym (row_in P rows c.id pass.0), only_old P rows cs pass.1 old.1)

-- where no identifier of the changes passes, nothing is changed
pub other_changed : (P Q : ℕ → Bool) (rows : Rows) (cs : List Change) → RiseFrom 0 rows → AllPass P cs → ((q : ℕ) → Q q ≡ true → P q ≡ false) → rows_only Q (changed rows cs) ≡ rows_only Q rows
other_changed P Q rows cs rise pass apart =
    ext 0 (rows_only Q (changed rows cs)) (rows_only Q rows) (rise_only Q 0 (changed rows cs) (changed_rise rows cs rise)) (rise_only Q 0 rows rise)
    (λ q. by_test (Q q)
    (λ e. row_in Q (changed rows cs) q e ∙ changed_at rows cs q rise ∙ after_other P cs q (row_of rows q) pass (apart q e) ∙ sym (row_in Q rows q e))
    (λ e. row_out Q (changed rows cs) q e ∙ sym (row_out Q rows q e)))

-- ---- of sides

-- changes of a side restricted to their identifiers
pub only_changes : (P : ℕ → Bool) (ts : Tables) (changes : TableChanges) → AllRise ts → EachPass P changes → only P (changed_tables ts changes) ≡ changed_tables (only P ts) changes
only_changes P [] changes rise pass = refl
only_changes P (t ∷ ts) [] rise pass = refl
only_changes P (t ∷ ts) (c ∷ cs) rise pass = let a = only_changed P t c rise.0 pass.0 in let b = only_changes P ts cs rise.1 pass.1 in cc

-- what no change names stays
pub other_changes : (P Q : ℕ → Bool) (ts : Tables) (changes : TableChanges) → AllRise ts → EachPass P changes → ((q : ℕ) → Q q ≡ true → P q ≡ false) → only Q (changed_tables ts changes) ≡ only Q ts
other_changes P Q [] changes rise pass apart = refl
other_changes P Q (t ∷ ts) [] rise pass apart = refl
other_changes P Q (t ∷ ts) (c ∷ cs) rise pass apart = let a = other_changed P Q t c rise.0 pass.0 apart in let b = other_changes P Q ts cs rise.1 pass.1 apart in cc

-- the old rows are the same in the part
pub only_fit : (P : ℕ → Bool) (ts : Tables) (changes : TableChanges) → EachPass P changes → AreChangesOf ts changes → AreChangesOf (only P ts) changes
only_fit P [] [] pass fit = tt
only_fit P [] (c ∷ cs) pass fit = absurd fit
only_fit P (t ∷ ts) [] pass fit = absurd fit
only_fit P (t ∷ ts) (c ∷ cs) pass fit = ((fit.0.0, only_old P t c pass.0 fit.0.1), only_fit P ts cs pass.1 fit.1)

pub changed_many : (ts : Tables) (changes : TableChanges) → length (changed_tables ts changes) ≡ length ts
changed_many [] changes = refl
changed_many (t ∷ ts) [] = refl
changed_many (t ∷ ts) (c ∷ cs) = ap suc (changed_many ts cs)
