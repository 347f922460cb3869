-- Changes that leave their rows, and those that don't.
use Rattle.std.proofs.Common.{◌≡◌, ℕ, ◌+◌, ◌<◌, ◌==◌, List, [], ◌∷◌, ◌++◌, true, false, Some, None, refl, ap, sym, ◌∙◌, subst, arith}
use Rattle.std.proofs.lemmas.Bool.{eqb-true, false≢true, ne_eqb}
use Rattle.par_base.specs.declared.value.Value.{Value}
use Rattle.par_base.specs.SameRows.{same_row}
use Rattle.par_base.specs.inner.SameLaws.{row_same}
use Rattle.row_store.specs.declared.change.Change.{Change}
use Rattle.row_store.specs.Rows.{Rows, row_of}
use Rattle.row_store.specs.Changes.{after, AreOld, ChangesRise}
use Rattle.op_law.specs.Identifiers.{has_id, put_id}
use Rattle.op_law.proofs.IdentifierLaws.{has_put}
use Rattle.row_changes.specs.Changed.{TableChanges}
use Rattle.row_changes.specs.Touched.{touched}
use Rattle.row_changes.proofs.TouchedLaws.{each_pass}
use Rattle.row_parts.specs.RowCells.{Cell, by_test}
use Rattle.id_closing.specs.Told.{changes_at, is_changed}
use Rattle.id_closing.proofs.ToldLaws.{named_passes, pass_at}
use Rattle.outer_closing.specs.Shared.{is_replaced, or_replaced, same_cells}

-- one that is there is there with more
or_true : (c : Change) (q : ℕ) → or_replaced c q true ≡ true
or_true c q = by_test (same_cells c.old c.new) (λ e. rw e refl) (λ e. rw e (by_test (c.id == q) (λ f. rw f refl) (λ f. rw f refl)))

-- with one change more
pub replaced_more : (cs : List Change) (c : Change) (q : ℕ) → is_replaced (cs ++ c ∷ []) q ≡ or_replaced c q (is_replaced cs q)
replaced_more [] c q = refl
replaced_more (d ∷ cs) c q =
    let rest = replaced_more cs c q in
    by_test (same_cells d.old d.new)
    (λ e. rw e rest)
    (λ e. rw e (by_test (d.id == q) (λ f. rw f (sym (or_true c q))) (λ f. rw f rest)))

-- a change that doesn't leave its row brings its identifier
pub puts_own : (c : Change) (q : ℕ) (ids : List ℕ) → same_cells c.old c.new ≡ false → has_id (put_id c.id ids) q ≡ or_replaced c q (has_id ids q)
puts_own c q ids e = rw e (has_put c.id ids q)

-- a row that is there again, with the same values
pub record LeavesRow (old : List Value) (now : Cell) : Type 0 where
  pub row : List Value
  pub is : now ≡ Some row
  pub same : same_row old row ≡ true

cells_same : (old : List Value) (new : Cell) → same_cells (Some old) new ≡ true → LeavesRow old new
cells_same old None e = absurd (false≢true e)
cells_same old (Some row) e = record { row = row; is = refl; same = e }

-- A ROW THAT ISN'T REPLACED is there after the changes
pub row_left : (rows : Rows) (cs : List Change) (q : ℕ) (old : List Value) → AreOld rows cs → is_replaced cs q ≡ false → row_of rows q ≡ Some old → LeavesRow old (after cs q (row_of rows q))
row_left rows [] q old are e at = record { row = old; is = at; same = row_same old }
row_left rows (c ∷ cs) q old are e at =
    by_test (c.id == q)
    (λ own.
    let was : c.old ≡ Some old = are.0 ∙ ap (λ (k : ℕ). row_of rows k) (eqb-true c.id q own) ∙ at in
    let same : same_cells c.old c.new ≡ true = by_test (same_cells c.old c.new) (λ u. u) (λ u. let bad : true ≡ false = rw own at (rw u at e) in absurd (false≢true (sym bad))) in
    let left = cells_same old c.new (subst (λ (o : Cell). same_cells o c.new ≡ true) was same) in
    rw own left)
    (λ other.
    let rest : is_replaced cs q ≡ false = by_test (same_cells c.old c.new) (λ u. rw u at e) (λ u. rw other at (rw u at e)) in
    rw other (row_left rows cs q old are.1 rest at))

-- changes of later identifiers don't replace it
before_all : (k : ℕ) (cs : List Change) (q : ℕ) → ChangesRise k cs → q < k → is_replaced cs q ≡ false
before_all k [] q rise low = refl
before_all k (c ∷ cs) q rise low =
    let from = rise.0 in
    let other = ne_eqb c.id q (λ e. absurd (omega (arith, from, low, e))) in
    let rest = before_all (c.id + 1) cs q rise.1 (omega (arith, from, low)) in
    by_test (same_cells c.old c.new) (λ u. rw u rest) (λ u. rw u (rw other rest))

-- and the other way round
pub left_row : (rows : Rows) (k : ℕ) (cs : List Change) (q : ℕ) (old row : List Value) → ChangesRise k cs → AreOld rows cs → row_of rows q ≡ Some old → after cs q (row_of rows q) ≡ Some row → same_row old row ≡ true → is_replaced cs q ≡ false
left_row rows k [] q old row rise are at new same = refl
left_row rows k (c ∷ cs) q old row rise are at new same =
    by_test (c.id == q)
    (λ own.
    let id = eqb-true c.id q own in
    let was : c.old ≡ Some old = are.0 ∙ ap (λ (k : ℕ). row_of rows k) id ∙ at in
    let is : c.new ≡ Some row = rw own at new in
    let alike : same_cells c.old c.new ≡ true = ap (λ (o : Cell). same_cells o c.new) was ∙ ap (λ (o : Cell). same_cells (Some old) o) is ∙ same in
    rw alike (before_all (c.id + 1) cs q rise.1 (omega (arith, id))))
    (λ other.
    let there : after cs q (row_of rows q) ≡ Some row = rw other at new in
    let rest = left_row rows (c.id + 1) cs q old row rise.1 are.1 at there same in
    by_test (same_cells c.old c.new) (λ u. rw u rest) (λ u. rw u (rw other rest)))

-- a replaced row is of an identifier that the changes name
replaced_changed : (cs : List Change) (q : ℕ) → is_replaced cs q ≡ true → is_changed cs q ≡ true
replaced_changed [] q e = e
replaced_changed (c ∷ cs) q e =
    by_test (c.id == q)
    (λ own. rw own refl)
    (λ other.
    let rest : is_replaced cs q ≡ true = by_test (same_cells c.old c.new) (λ u. rw u at e) (λ u. rw other at (rw u at e)) in
    rw other (replaced_changed cs q rest))

pub replaced_named : (near : TableChanges) (q : ℕ) → is_replaced (changes_at near 0) q ≡ true → has_id (touched near) q ≡ true
replaced_named near q e =
    named_passes (has_id (touched near)) (changes_at near 0) q (pass_at (has_id (touched near)) near 0 (each_pass near [] (has_id (touched near)) (λ x h. h))) (replaced_changed (changes_at near 0) q e)
