-- DECOMPOSE ON FK: parts of tables are joined as the whole.
use Rattle.std.proofs.Common.{◌≡◌, ℕ, List, Bool, true, false, not, ◌&&◌, Some, None, refl, ap, sym, ◌∙◌}
use Rattle.par_base.specs.declared.value.Value.{Value}
use Rattle.row_store.specs.Rows.{Rows, row_of}
use Rattle.op_law.specs.Tables.{Tables}
use Rattle.op_law.specs.Local.{rows_only, only}
use Rattle.op_law.proofs.OnlyLaws.{row_in, row_out}
use Rattle.row_parts.specs.RowCells.{Cell, is_there, row_or, by_test, by_option}
use Rattle.op_tables.specs.SideTables.{first_table, second_table}
use Rattle.foreign_keys.specs.KeyParts.{FkParts}
use Rattle.foreign_keys.specs.References.{goal_of, referred, far_part}
use Rattle.op_fk_decompose.specs.Decompose.{alone, joined_in, joined}
use Rattle.op_fk_decompose.specs.inner.DecomposeKept.{alone_none, none_joined}
use Rattle.fk_footprints.specs.Closed.{BringsGoals}
use Rattle.fk_footprints.proofs.PartLemmas.{first_only, second_only}
use Rattle.fk_footprints.proofs.JoinPartLemmas.{at_same, goal_in}

module _ (k : FkParts) where
  -- two tables that have the same where a row of S refers give it the same T part
  pub far_same : (f : List Value) (t u : Rows) → ((q : ℕ) → goal_of (k.key f) ≡ Some q → row_of t q ≡ row_of u q) → far_part k t (k.key f) ≡ far_part k u (k.key f)
  far_same f t u same = ap (row_or k.null_second) (at_same (goal_of (k.key f)) t u same)

  -- so R has the same
  pub joined_same : (c there : Cell) (al : Bool) (t u : Rows) → ((v : List Value) → c ≡ Some v → far_part k t (k.key v) ≡ far_part k u (k.key v)) → joined_in k c there al t ≡ joined_in k c there al u
  joined_same (Some v) there al t u same = ap (λ (x : List Value). Some (k.join (k.part v) x)) (same v refl)
  joined_same None there true t u same = refl
  joined_same None there false t u same = refl

  -- a row of T is alone in both of two pairs of tables that have the same there, and in which S refers to it alike
  pub alone_same : (s t s2 t2 : Rows) (q : ℕ) → row_of s2 q ≡ row_of s q → row_of t2 q ≡ row_of t q → ((u : List Value) → row_of t q ≡ Some u → referred k s2 q ≡ referred k s q) → alone k s2 t2 q ≡ alone k s t q
  alone_same s t s2 t2 q one two refs = by_option (row_of t q)
      (λ none. alone_none k s2 t2 q (two ∙ none) ∙ sym (alone_none k s t q none))
      (λ u at.
      ap (λ (c : Cell). is_there c && (not (is_there (row_of s2 q)) && not (referred k s2 q))) two
      ∙ ap (λ (c : Cell). is_there (row_of t q) && (not (is_there c) && not (referred k s2 q))) one
      ∙ ap (λ (b : Bool). is_there (row_of t q) && (not (is_there (row_of s q)) && not b)) (refs u at))

module _ (k : FkParts) (P : ℕ → Bool) (s t : Rows) (goals : BringsGoals k P s t) (refs : (q : ℕ) (u : List Value) → P q ≡ true → row_of t q ≡ Some u → referred k (rows_only P s) q ≡ referred k s q) where
  -- the T part that a row of S that passes has
  pub far_in : (p : ℕ) (v : List Value) → P p ≡ true → row_of s p ≡ Some v → far_part k (rows_only P t) (k.key v) ≡ far_part k t (k.key v)
  far_in p v e at = ap (row_or k.null_second) (goal_in k P s t goals p v e at)

  -- what passes is alone in the part where it is in the whole
  pub alone_in : (q : ℕ) → P q ≡ true → alone k (rows_only P s) (rows_only P t) q ≡ alone k s t q
  alone_in q e = alone_same k s t (rows_only P s) (rows_only P t) q (row_in P s q e) (row_in P t q e) (λ u at. refs q u e at)

  -- and joined as in the whole
  pub joined_at_part : (q : ℕ) → P q ≡ true → joined k (rows_only P s) (rows_only P t) q ≡ joined k s t q
  joined_at_part q e =
      ap (λ (c : Cell). joined_in k c (row_of (rows_only P t) q) (alone k (rows_only P s) (rows_only P t) q) (rows_only P t)) (row_in P s q e)
      ∙ ap (λ (c : Cell). joined_in k (row_of s q) c (alone k (rows_only P s) (rows_only P t) q) (rows_only P t)) (row_in P t q e)
      ∙ ap (λ (b : Bool). joined_in k (row_of s q) (row_of t q) b (rows_only P t)) (alone_in q e)
      ∙ joined_same k (row_of s q) (row_of t q) (alone k s t q) (rows_only P t) t (λ v at. far_in q v e at)

  -- elsewhere the part joins nothing
  pub joined_out : (q : ℕ) → P q ≡ false → joined k (rows_only P s) (rows_only P t) q ≡ None
  joined_out q e =
      ap (λ (c : Cell). joined_in k c (row_of (rows_only P t) q) (alone k (rows_only P s) (rows_only P t) q) (rows_only P t)) (row_out P s q e)
      ∙ ap (λ (c : Cell). joined_in k None c (alone k (rows_only P s) (rows_only P t) q) (rows_only P t)) (row_out P t q e)
      ∙ none_joined k (alone k (rows_only P s) (rows_only P t) q) (rows_only P t)

-- a part of related tables is related
pub decompose_part : (k : FkParts) (P : ℕ → Bool) (st r : Tables) → BringsGoals k P (first_table st) (second_table st)
    → ((q : ℕ) (u : List Value) → P q ≡ true → row_of (second_table st) q ≡ Some u → referred k (rows_only P (first_table st)) q ≡ referred k (first_table st) q)
    → ((q : ℕ) → row_of (first_table r) q ≡ joined k (first_table st) (second_table st) q)
    → (q : ℕ) → row_of (first_table (only P r)) q ≡ joined k (first_table (only P st)) (second_table (only P st)) q
decompose_part k P st r goals refs related q =
    let s = first_table st in
    let t = second_table st in
    ap (λ (x : Rows). row_of x q) (first_only P r)
    ∙ by_test (P q)
    (λ e. row_in P (first_table r) q e ∙ related q ∙ sym (joined_at_part k P s t goals refs q e))
    (λ e. row_out P (first_table r) q e ∙ sym (joined_out k P s t goals refs q e))
    ∙ ap (λ (x : Rows). joined k x (rows_only P t) q) (sym (first_only P st)) ∙ ap (λ (x : Rows). joined k (first_table (only P st)) x q) (sym (second_only P st))
