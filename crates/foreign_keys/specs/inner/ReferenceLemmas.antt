-- References: who refers to an identifier.
use Rattle.std.proofs.Common.{◌≡◌, ℕ, ◌+◌, ◌==◌, List, [], ◌∷◌, true, Option, Some, None, refl, ap, ◌∙◌, subst}
use Rattle.std.proofs.lemmas.Bool.{eqb-true, eq-eqb}
use Rattle.par_base.specs.declared.value.Value.{Value}
use Rattle.par_base.specs.declared.value.Value.TheVariants.{Null, Int, Text, Reference}
use Rattle.row_store.specs.Rows.{Rows, RiseFrom, row_of}
use Rattle.row_store.specs.inner.FoundRows.{later, own_row}
use Rattle.op_law.specs.Sound.{IsBelow, ValueSound}
use Rattle.row_parts.specs.RowCells.{by_test}
use Rattle.foreign_keys.specs.KeyParts.{FkParts}
use Rattle.foreign_keys.specs.References.{goal_of, is_goal, referred}

-- a sound value refers below n
pub goal_below : (n : ℕ) (v : Value) (q : ℕ) → ValueSound n v → goal_of v ≡ Some q → IsBelow n q
goal_below n (Reference p) q b e = let same : p ≡ q = cc in subst (λ (i : ℕ). IsBelow n i) same b
goal_below n Null q b e = absurd (cc)
goal_below n (Int i) q b e = absurd (cc)
goal_below n (Text x) q b e = absurd (cc)

-- what passes the test of a goal is the goal
pub is_goal_of : (o : Option ℕ) (q : ℕ) → is_goal o q ≡ true → o ≡ Some q
is_goal_of None q h = absurd (cc)
is_goal_of (Some p) q h = ap Some (eqb-true p q h)

-- a goal passes its test
pub goal_is : (o : Option ℕ) (q : ℕ) → o ≡ Some q → is_goal o q ≡ true
goal_is o q e = rw e (eq-eqb q q refl)

-- a row of S that refers to q
pub record Referrer (k : FkParts) (s : Rows) (q : ℕ) : Type 0 where
  pub id : ℕ
  pub row : List Value
  pub at : row_of s id ≡ Some row
  pub goal : goal_of (k.key row) ≡ Some q

module _ (k : FkParts) where
  -- what a row of S refers to is referred to
  pub referred_by : (s : Rows) (p q : ℕ) (row : List Value) → row_of s p ≡ Some row → goal_of (k.key row) ≡ Some q → referred k s q ≡ true
  referred_by [] p q row at goal = absurd (cc)
  referred_by (r ∷ rs) p q row at goal =
      by_test (r.0 == p)
      (λ e.
      let some : Some r.1 ≡ Some row = rw e at at in
      let v : r.1 ≡ row = cc in
      let g : is_goal (goal_of (k.key r.1)) q ≡ true = goal_is _ q (ap (λ (z : List Value). goal_of (k.key z)) v ∙ goal) in
      rw g refl)
      (λ e.
      let at2 : row_of rs p ≡ Some row = rw e at at in
      let rest = referred_by rs p q row at2 goal in
      by_test (is_goal (goal_of (k.key r.1)) q) (λ g. rw g refl) (λ g. rw g rest))

  -- what is referred to has such a row
  pub referrer : (n : ℕ) (s : Rows) (q : ℕ) → RiseFrom n s → referred k s q ≡ true → Referrer k s q
  referrer n [] q rise h = absurd (cc)
  referrer n (r ∷ rs) q rise h =
      by_test (is_goal (goal_of (k.key r.1)) q)
      (λ g. record { id = r.0; row = r.1; at = own_row r rs; goal = is_goal_of _ q g })
      (λ g.
      let h2 : referred k rs q ≡ true = rw g at h in
      let f = referrer (r.0 + 1) rs q rise.1 h2 in
      record { id = f.id; row = f.row; at = later r rs f.id f.row rise.1 f.at; goal = f.goal })
