-- JOIN ON FK: parts of tables join as the whole.
use Rattle.std.proofs.Common.{◌≡◌, ℕ, List, Bool, true, Option, Some, None, refl, ap, sym, ◌∙◌}
use mathlib.Core.Logic.{inl, inr}
use Rattle.par_base.specs.declared.value.Value.{Value}
use Rattle.row_store.specs.Rows.{Rows, row_of}
use Rattle.op_law.specs.Tables.{Tables}
use Rattle.op_law.specs.Local.{rows_only, only}
use Rattle.op_law.proofs.OnlyLaws.{row_in, row_out}
use Rattle.row_parts.specs.RowCells.{Cell, map_cell, by_test}
use Rattle.op_tables.specs.SideTables.{first_table, second_table}
use Rattle.foreign_keys.specs.KeyParts.{FkParts}
use Rattle.foreign_keys.specs.References.{goal_of, at_goal}
use Rattle.op_fk_join.specs.Join.{joined_row, joined_here}
use Rattle.fk_footprints.specs.Closed.{BringsGoals}
use Rattle.fk_footprints.proofs.PartLemmas.{first_only, second_only}

-- two tables with the same row at a goal
pub at_same : (o : Option ℕ) (t u : Rows) → ((q : ℕ) → o ≡ Some q → row_of t q ≡ row_of u q) → at_goal t o ≡ at_goal u o
at_same None t u same = refl
at_same (Some q) t u same = same q refl

module _ (k : FkParts) (P : ℕ → Bool) (s t : Rows) (brings : BringsGoals k P s t) where
  -- the part has what the whole has where a row that passes refers
  pub goal_in : (p : ℕ) (v : List Value) → P p ≡ true → row_of s p ≡ Some v → at_goal (rows_only P t) (goal_of (k.key v)) ≡ at_goal t (goal_of (k.key v))
  goal_in p v e at =
      at_same (goal_of (k.key v)) (rows_only P t) t (λ q goal.
      elim (brings p v q e at goal) [
        | inl passed ↦ row_in P t q passed
        | inr none ↦ by_test (P q) (λ b. row_in P t q b) (λ b. row_out P t q b ∙ sym none)
      ])

  -- a row that passes joins as in the whole
  pub join_in : (p : ℕ) (c : Cell) → P p ≡ true → row_of s p ≡ c → joined_row k c (rows_only P t) ≡ joined_row k c t
  join_in p None e at = refl
  join_in p (Some v) e at = ap (map_cell (k.join (k.part v))) (goal_in p v e at)

-- a part of related tables is related
pub join_part : (k : FkParts) (P : ℕ → Bool) (st r : Tables) → BringsGoals k P (first_table st) (second_table st)
    → ((q : ℕ) → row_of (first_table r) q ≡ joined_here k (first_table st) (second_table st) q)
    → (q : ℕ) → row_of (first_table (only P r)) q ≡ joined_here k (first_table (only P st)) (second_table (only P st)) q
join_part k P st r brings related q =
    let s = first_table st in
    let t = second_table st in
    ap (λ (x : Rows). row_of x q) (first_only P r)
    ∙ by_test (P q)
    (λ e. row_in P (first_table r) q e ∙ related q ∙ sym (join_in k P s t brings q (row_of s q) e refl) ∙ ap (λ (c : Cell). joined_row k c (rows_only P t)) (sym (row_in P s q e)))
    (λ e. row_out P (first_table r) q e ∙ ap (λ (c : Cell). joined_row k c (rows_only P t)) (sym (row_out P s q e)))
    ∙ ap (λ (x : Rows). joined_here k x (rows_only P t) q) (sym (first_only P st)) ∙ ap (λ (x : Rows). joined_here k (first_table (only P st)) x q) (sym (second_only P st))
