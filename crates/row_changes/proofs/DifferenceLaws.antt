-- The difference of two tables is that of what stands at the identifiers at which they may differ.
use Rattle.std.proofs.Common.{◌≡◌, ℕ, ◌+◌, ◌<◌, ◌≤◌, ◌==◌, List, [], ◌∷◌, Bool, true, false, not, Option, refl, ap, sym, ◌∙◌, arith}
use Rattle.std.proofs.lemmas.Bool.Decides.{nat_tests}
use Rattle.par_base.specs.declared.value.Value.{Value}
use Rattle.row_store.specs.declared.change.Change.{Change}
use Rattle.row_store.specs.Rows.{Rows, RiseFrom, row_of}
use Rattle.row_store.specs.Changes.{ChangesRise, AreOld, after}
use Rattle.row_store.proofs.UndoLaws.{ext}
use Rattle.op_law.specs.Tables.{Tables, AllRise}
use Rattle.op_law.specs.Local.{rows_only, only}
use Rattle.row_changes.specs.Changed.{TableChanges, changed, AreChangesOf, changed_tables}
use Rattle.row_changes.specs.Differences.{AllDiffer, IsDifference, AreDifferences}
use Rattle.row_changes.specs.Touched.{AllPass}
use Rattle.row_changes.proofs.ChangedLaws.{after_other, changed_at, changed_rise}
use Rattle.op_law.proofs.OnlyLaws.{by_test, first_table, other_tables, rise_only, row_in, row_out, same_rows}

first_after : (c : Change) (cs : List Change) (row : Option (List Value)) → after (c ∷ cs) c.id row ≡ c.new
first_after c cs row = let own : (c.id == c.id) ≡ true = grind (arith, nat_tests) in rw own refl

later_after : (c : Change) (cs : List Change) (q : ℕ) (row : Option (List Value)) → c.id < q → after (c ∷ cs) q row ≡ after cs q row
later_after c cs q row h = let other : (c.id == q) ≡ false = grind (arith, nat_tests) in rw other refl

-- where two tables are the same at identifiers that fail a test, changes from one to the other, none of which leaves its row, are of identifiers that pass
all_pass : (P : ℕ → Bool) (before now : Rows) (n : ℕ) (cs : List Change) → ChangesRise n cs → AreOld before cs → AllDiffer cs
    → ((q : ℕ) → n ≤ q → row_of now q ≡ after cs q (row_of before q)) → ((q : ℕ) → P q ≡ false → row_of before q ≡ row_of now q) → AllPass P cs
all_pass P before now n [] rise old differ made same = tt
all_pass P before now n (c ∷ cs) rise old differ made same = (
  by_test (P c.id) (λ e. e)
      (λ e. absurd (differ.0 (old.0 ∙ same c.id e ∙ made c.id rise.0 ∙ first_after c cs (row_of before c.id)))),
  all_pass P before now (c.id + 1) cs rise.1 old.1 differ.1
      (λ q h. made q (omega (arith, rise.0)) ∙ later_after c cs q (row_of before q) (omega arith)) same,
)

-- the changes of a part are of identifiers that pass
pub part_passes : (P : ℕ → Bool) (before now : Rows) (cs : List Change) → RiseFrom 0 before → IsDifference (rows_only P before) (rows_only P now) cs → AllPass P cs
part_passes P before now cs rise part =
    all_pass P (rows_only P before) (rows_only P now) 0 cs part.rise part.old part.differ
    (λ q h. ap (λ (rows : Rows). row_of rows q) (sym part.new) ∙ changed_at (rows_only P before) cs q (rise_only P 0 before rise))
    (λ q e. row_out P before q e ∙ sym (row_out P now q e))

-- old rows of the part are those of the whole
pub whole_old : (P : ℕ → Bool) (rows : Rows) (cs : List Change) → AllPass P cs → AreOld (rows_only P rows) cs → AreOld rows cs
whole_old P rows [] pass old = tt
whole_old P rows (c ∷ cs) pass old = (old.0 ∙ row_in P rows c.id pass.0, whole_old P rows cs pass.1 old.1)

-- what changes make of what passes they make of the whole, where what fails is the same
pub part_makes : (P : ℕ → Bool) (before now : Rows) (cs : List Change) → RiseFrom 0 before → RiseFrom 0 now
    → rows_only (λ id. not (P id)) before ≡ rows_only (λ id. not (P id)) now → AllPass P cs
    → changed (rows_only P before) cs ≡ rows_only P now → changed before cs ≡ now
part_makes P before now cs rise_b rise_n same pass made =
    let small = rise_only P 0 before rise_b in
    ext 0 (changed before cs) now (changed_rise before cs rise_b) rise_n
    (λ q. changed_at before cs q rise_b ∙ by_test (P q)
    (λ e. ap (after cs q) (sym (row_in P before q e)) ∙ sym (changed_at (rows_only P before) cs q small)
    ∙ ap (λ (rows : Rows). row_of rows q) made ∙ row_in P now q e)
    (λ e. after_other P cs q (row_of before q) pass e ∙ same_rows (λ id. not (P id)) before now q (ap not e) same))

-- THE DIFFERENCE OF WHAT PASSES IS THAT OF THE WHOLE, where what fails is the same
pub difference_of_part : (P : ℕ → Bool) (before now : Rows) (cs : List Change) → RiseFrom 0 before → RiseFrom 0 now
    → rows_only (λ id. not (P id)) before ≡ rows_only (λ id. not (P id)) now
    → IsDifference (rows_only P before) (rows_only P now) cs → IsDifference before now cs
difference_of_part P before now cs rise_b rise_n same part =
    let pass = part_passes P before now cs rise_b part in
    record {
      rise = part.rise;
      old = whole_old P before cs pass part.old;
      new = part_makes P before now cs rise_b rise_n same pass part.new;
      differ = part.differ;
    }

-- ---- of sides

pub differences_of_part : (P : ℕ → Bool) (before now : Tables) (cs : TableChanges) → AllRise before → AllRise now
    → only (λ id. not (P id)) before ≡ only (λ id. not (P id)) now
    → AreDifferences (only P before) (only P now) cs → AreDifferences before now cs
differences_of_part P [] [] [] rise_b rise_n same part = tt
differences_of_part P [] [] (c ∷ cs) rise_b rise_n same part = absurd part
differences_of_part P [] (u ∷ us) cs rise_b rise_n same part = absurd part
differences_of_part P (t ∷ ts) [] cs rise_b rise_n same part = absurd part
differences_of_part P (t ∷ ts) (u ∷ us) [] rise_b rise_n same part = absurd part
differences_of_part P (t ∷ ts) (u ∷ us) (c ∷ cs) rise_b rise_n same part = (
  difference_of_part P t u c rise_b.0 rise_n.0 (ap first_table same) part.0,
  differences_of_part P ts us cs rise_b.1 rise_n.1 (ap other_tables same) part.1,
)

-- the differences of two sides have the old rows of the one, and make the other of it
pub differences_fit : (before now : Tables) (cs : TableChanges) → AreDifferences before now cs → AreChangesOf before cs
differences_fit [] [] [] are = tt
differences_fit [] [] (c ∷ cs) are = absurd are
differences_fit [] (u ∷ us) cs are = absurd are
differences_fit (t ∷ ts) [] cs are = absurd are
differences_fit (t ∷ ts) (u ∷ us) [] are = absurd are
differences_fit (t ∷ ts) (u ∷ us) (c ∷ cs) are = ((are.0.rise, are.0.old), differences_fit ts us cs are.1)

pub differences_make : (before now : Tables) (cs : TableChanges) → AreDifferences before now cs → changed_tables before cs ≡ now
differences_make [] [] [] are = refl
differences_make [] [] (c ∷ cs) are = absurd are
differences_make [] (u ∷ us) cs are = absurd are
differences_make (t ∷ ts) [] cs are = absurd are
differences_make (t ∷ ts) (u ∷ us) [] are = absurd are
differences_make (t ∷ ts) (u ∷ us) (c ∷ cs) are = let a = are.0.new in let b = differences_make ts us cs are.1 in cc
