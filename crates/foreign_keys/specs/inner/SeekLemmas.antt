-- What is sought: nothing where no row has the goal, and one answer where all that have it agree.
use Rattle.std.proofs.Common.{◌≡◌, ℕ, ◌+◌, ◌==◌, List, [], ◌∷◌, Bool, true, false, cond, Option, Some, None, refl, ap, sym, ◌∙◌, subst, arith}
use Rattle.std.proofs.lemmas.Bool.{eqb-true}
use Rattle.par_base.specs.declared.value.Value.{Value}
use Rattle.row_store.specs.Rows.{Rows, RiseFrom, row_of}
use Rattle.row_store.specs.inner.FoundRows.{later, own_row}
use Rattle.op_rows.specs.inner.CellLemmas.{has_id, IdsRise, has_put, rise_put}
use Rattle.row_parts.specs.RowCells.{Cell, by_test}
use Rattle.foreign_keys.specs.KeyParts.{FkParts}
use Rattle.foreign_keys.specs.References.{goal_of, is_goal, referred}
use Rattle.foreign_keys.specs.Seeking.{put_goal, seek, first_led, out_at, goals_in}

-- neither of two tests that together fail holds
or_parts : (u v : Bool) → cond u true v ≡ false → (u ≡ false) × (v ≡ false)
or_parts true v e = absurd (cc)
or_parts false v e = (refl, e)

-- what is not there with a goal more is neither it nor was there
goal_has_id : (o : Option ℕ) (ids : List ℕ) (q : ℕ) → has_id (put_goal o ids) q ≡ false → (is_goal o q ≡ false) × (has_id ids q ≡ false)
goal_has_id None ids q h = (refl, h)
goal_has_id (Some p) ids q h = or_parts (p == q) (has_id ids q) (sym (has_put p ids q) ∙ h)

-- identifiers rise with a goal more
goal_rise : (o : Option ℕ) (ids : List ℕ) → IdsRise 0 ids → IdsRise 0 (put_goal o ids)
goal_rise None ids rise = rise
goal_rise (Some q) ids rise = rise_put 0 q ids (omega arith) rise

-- whether an identifier is among the goals
has_goal : (o : Option ℕ) (ids : List ℕ) (q : ℕ) → has_id (put_goal o ids) q ≡ cond (is_goal o q) true (has_id ids q)
has_goal None ids q = refl
has_goal (Some p) ids q = has_put p ids q

-- the goals of the foreign keys are the identifiers to which rows refer
pub goals_referred : (k : FkParts) (xs : Rows) (q : ℕ) → has_id (goals_in (λ id row. goal_of (k.key row)) xs) q ≡ referred k xs q
goals_referred k [] q = refl
goals_referred k (x ∷ xs) q =
    let goal : Option ℕ = goal_of (k.key x.1) in
    has_goal goal (goals_in (λ id row. goal_of (k.key row)) xs) q ∙ ap (λ (b : Bool). cond (is_goal goal q) true b) (goals_referred k xs q)

module _ (goal : ℕ → List Value → Option ℕ) (out : ℕ → Cell) where
  -- what is sought is what `out` gives for the least row that leads there
  pub seek_led : (xs : Rows) (q : ℕ) → seek goal out xs q ≡ out_at out (first_led goal xs q)
  seek_led [] q = refl
  seek_led (x ∷ xs) q = by_test (is_goal (goal x.0 x.1) q) (λ e. rw e refl) (λ e. rw e (seek_led xs q))

  -- nothing is found where no row leads to q
  pub seek_none : (m : ℕ) (xs : Rows) (q : ℕ) → RiseFrom m xs → ((p : ℕ) (v : List Value) → row_of xs p ≡ Some v → is_goal (goal p v) q ≡ false) → seek goal out xs q ≡ None
  seek_none m [] q rise h = refl
  seek_none m (x ∷ xs) q rise h =
      let no = h x.0 x.1 (own_row x xs) in
      rw no (seek_none (x.0 + 1) xs q rise.1 (λ p v at. h p v (later x xs p v rise.1 at)))

  -- where all rows that lead to q give one answer, it is found
  pub seek_some : (m : ℕ) (xs : Rows) (q : ℕ) (c : Cell) (p0 : ℕ) (v0 : List Value) → RiseFrom m xs
      → ((p : ℕ) (v : List Value) → row_of xs p ≡ Some v → is_goal (goal p v) q ≡ true → out p ≡ c)
      → row_of xs p0 ≡ Some v0 → is_goal (goal p0 v0) q ≡ true → seek goal out xs q ≡ c
  seek_some m [] q c p0 v0 rise h at g = absurd (cc)
  seek_some m (x ∷ xs) q c p0 v0 rise h at g =
      by_test (is_goal (goal x.0 x.1) q)
      (λ e. rw e (h x.0 x.1 (own_row x xs) e))
      (λ e. rw e (seek_some (x.0 + 1) xs q c p0 v0 rise.1 (λ p v at2 g2. h p v (later x xs p v rise.1 at2) g2)
      (by_test (x.0 == p0)
      (λ u.
      let some : Some x.1 ≡ Some v0 = rw u at at in
      let xv : x.1 ≡ v0 = cc in
      let i = eqb-true x.0 p0 u in
      let g3 : is_goal (goal x.0 x.1) q ≡ true = subst (λ (y : ℕ). is_goal (goal y x.1) q ≡ true) (sym i) (subst (λ (y : List Value). is_goal (goal p0 y) q ≡ true) (sym xv) g) in
      absurd (cc))
      (λ u. rw u at at)) g))

  -- nothing is found at what is no goal
  pub goals_out : (xs : Rows) (q : ℕ) → has_id (goals_in goal xs) q ≡ false → seek goal out xs q ≡ None
  goals_out [] q h = refl
  goals_out (x ∷ xs) q h =
      let f = goal_has_id (goal x.0 x.1) (goals_in goal xs) q h in
      let no = f.0 in
      rw no (goals_out xs q f.1)

-- the goals rise
pub goals_rise : (goal : ℕ → List Value → Option ℕ) (xs : Rows) → IdsRise 0 (goals_in goal xs)
goals_rise goal [] = tt
goals_rise goal (x ∷ xs) = goal_rise (goal x.0 x.1) (goals_in goal xs) (goals_rise goal xs)
