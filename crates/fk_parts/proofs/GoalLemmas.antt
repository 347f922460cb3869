-- What closed identifiers show of a reference and of a row of T is what the whole shows.
use Rattle.std.proofs.Common.{◌≡◌, ℕ, List, Bool, true, not, ◌&&◌, Option, Some, None, refl, ap, sym, ◌∙◌}
use mathlib.Core.Logic.{inl, inr}
use Rattle.par_base.specs.declared.value.Value.{Value}
use Rattle.row_store.specs.Rows.{Rows, RiseFrom, row_of}
use Rattle.op_law.specs.Local.{rows_only}
use Rattle.op_law.proofs.OnlyLaws.{row_in, row_out}
use Rattle.row_parts.specs.RowCells.{Cell, is_there, by_test, by_option}
use Rattle.foreign_keys.specs.KeyParts.{FkParts}
use Rattle.foreign_keys.specs.References.{goal_of, at_goal, dangles, referred}
use Rattle.op_fk_decompose.specs.Decompose.{alone}
use Rattle.op_fk_decompose.specs.inner.DecomposeKept.{alone_none}
use Rattle.fk_footprints.specs.Closed.{BringsGoals}
use Rattle.fk_parts.specs.Closed.{IsClosed}
use Rattle.fk_parts.proofs.ReferLemmas.{part_referred}

-- two tables with the same row at a goal
pub at_same : (o : Option ℕ) (t u : Rows) → ((q : ℕ) → o ≡ Some q → row_of t q ≡ row_of u q) → at_goal t o ≡ at_goal u o
at_same None t u same = refl
at_same (Some q) t u same = same q refl

-- a reference dangles in both
pub dangles_same : (o : Option ℕ) (t u : Rows) → ((q : ℕ) → o ≡ Some q → row_of t q ≡ row_of u q) → dangles t o ≡ dangles u o
dangles_same None t u same = refl
dangles_same (Some q) t u same = ap (λ (c : Cell). not (is_there c)) (same q refl)

-- a row of T is alone in both of two pairs of tables that have the same there, and in which S refers to it alike
pub alone_same : (k : FkParts) (s t s2 t2 : Rows) (q : ℕ) → row_of s2 q ≡ row_of s q → row_of t2 q ≡ row_of t q → ((u : List Value) → row_of t q ≡ Some u → referred k s2 q ≡ referred k s q) → alone k s2 t2 q ≡ alone k s t q
alone_same k s t s2 t2 q one two refs = by_option (row_of t q)
    (λ none. alone_none k s2 t2 q (two ∙ none) ∙ sym (alone_none k s t q none))
    (λ u at.
    ap (λ (c : Cell). is_there c && (not (is_there (row_of s2 q)) && not (referred k s2 q))) two
    ∙ ap (λ (c : Cell). is_there (row_of t q) && (not (is_there c) && not (referred k s2 q))) one
    ∙ ap (λ (b : Bool). is_there (row_of t q) && (not (is_there (row_of s q)) && not b)) (refs u at))

module _ (k : FkParts) (P : ℕ → Bool) (s t : Rows) (brings : BringsGoals k P s t) where
  -- the part of T has what the whole has where a row that passes refers
  pub goal_row : (p : ℕ) (v : List Value) (q : ℕ) → P p ≡ true → row_of s p ≡ Some v → goal_of (k.key v) ≡ Some q → row_of (rows_only P t) q ≡ row_of t q
  goal_row p v q e at goal =
      elim (brings p v q e at goal) [
        | inl passed ↦ row_in P t q passed
        | inr none ↦ by_test (P q) (λ b. row_in P t q b) (λ b. row_out P t q b ∙ sym none)
      ]

  pub goal_in : (p : ℕ) (v : List Value) → P p ≡ true → row_of s p ≡ Some v → at_goal (rows_only P t) (goal_of (k.key v)) ≡ at_goal t (goal_of (k.key v))
  goal_in p v e at = at_same (goal_of (k.key v)) (rows_only P t) t (λ q goal. goal_row p v q e at goal)

  -- and dangles where the whole does
  pub dangles_in : (p : ℕ) (v : List Value) → P p ≡ true → row_of s p ≡ Some v → dangles (rows_only P t) (goal_of (k.key v)) ≡ dangles t (goal_of (k.key v))
  dangles_in p v e at = dangles_same (goal_of (k.key v)) (rows_only P t) t (λ q goal. goal_row p v q e at goal)

module _ (k : FkParts) (P : ℕ → Bool) (s t : Rows) (rise : RiseFrom 0 s) (closed : IsClosed k P s t) where
  -- the part of S refers to what passes as S does
  pub refs_in : (q : ℕ) (u : List Value) → P q ≡ true → row_of t q ≡ Some u → referred k (rows_only P s) q ≡ referred k s q
  refs_in q u e at = part_referred k P s q rise (λ x v out is goal. closed.witness q u x v e at out is goal)

  -- so what passes is alone in the part where it is in the whole
  pub alone_in : (q : ℕ) → P q ≡ true → alone k (rows_only P s) (rows_only P t) q ≡ alone k s t q
  alone_in q e = alone_same k s t (rows_only P s) (rows_only P t) q (row_in P s q e) (row_in P t q e) (λ u at. refs_in q u e at)
