-- The least row that may be shared, and the cases of a new row read back.
use Rattle.std.proofs.Common.{◌≡◌, ℕ, ◌+◌, List, [], ◌∷◌, Bool, true, false, not, ◌&&◌, Option, Some, None, refl, subst}
use Rattle.par_base.specs.declared.value.Value.{Value}
use Rattle.par_base.specs.declared.value.Value.TheVariants.{Reference}
use Rattle.row_store.specs.Rows.{Rows, RiseFrom, row_of}
use Rattle.row_store.specs.inner.FoundRows.{later, own_row}
use Rattle.row_parts.specs.RowCells.{Cell, by_test}
use Rattle.foreign_keys.specs.KeyParts.{FkParts}
use Rattle.foreign_keys.specs.References.{far_part}
use Rattle.op_fk_decompose.specs.Decompose.{alone, least_in, how_in, draws_for}
use Rattle.par_base.specs.SameRows.{same_row}

-- a row of T that is shared: of value b, and not alone
pub record Least (k : FkParts) (s t rows : Rows) (b : List Value) (q : ℕ) : Type 0 where
  pub row : List Value
  pub at : row_of rows q ≡ Some row
  pub same : same_row row b ≡ true
  pub shared : alone k s t q ≡ false

-- both of two facts
both_of : (a b : Bool) → (a && not b) ≡ true → (a ≡ true) × (b ≡ false)
both_of true true h = absurd (cc)
both_of true false h = (refl, refl)
both_of false b h = absurd (cc)

module _ (k : FkParts) where
  -- the least row that has the value is shared
  pub least : (n : ℕ) (s t rows : Rows) (b : List Value) (q : ℕ) → RiseFrom n rows → least_in k s t rows b ≡ Some q → Least k s t rows b q
  least n s t [] b q rise e = absurd (cc)
  least n s t (r ∷ rs) b q rise e =
      by_test (same_row r.1 b && not (alone k s t r.0))
      (λ g.
      let some : Some r.0 ≡ Some q = rw g at e in
      let i : r.0 ≡ q = cc in
      let parts = both_of (same_row r.1 b) (alone k s t r.0) g in
      record { row = r.1; at = subst (λ (x : ℕ). row_of (r ∷ rs) x ≡ Some r.1) i (own_row r rs); same = parts.0; shared = subst (λ (x : ℕ). alone k s t x ≡ false) i parts.1 })
      (λ g.
      let e2 : least_in k s t rs b ≡ Some q = rw g at e in
      let f = least (r.0 + 1) s t rs b q rise.1 e2 in
      record { row = f.row; at = later r rs q f.row rise.1 f.at; same = f.same; shared = f.shared })

  -- the key is one that S had, or the reference of an alone row to itself
  pub from_keep : {X : Type 0} (c : Cell) (al : Bool) (p : ℕ) (t : Rows) (x y : List Value) (g : Value) → how_in k c al p t x y ≡ Some (Some g)
      → ((v : List Value) → c ≡ Some v → k.key v ≡ g → same_row y (far_part k t (k.key v)) ≡ true → X)
      → (c ≡ None → al ≡ true → Reference p ≡ g → X) → X
  from_keep (Some v) al p t x y g e f h =
      by_test (same_row y (far_part k t (k.key v)))
      (λ u. let e2 : Some (Some (k.key v)) ≡ Some (Some g) = rw u at e in f v refl (cc) u)
      (λ u. let e2 : Some None ≡ Some (Some g) = rw u at e in absurd (cc))
  from_keep None true p t x y g e f h =
      by_test (same_row x k.null_first)
      (λ u. let e2 : None ≡ Some (Some g) = rw u at e in absurd (cc))
      (λ u. let e2 : Some (Some (Reference p)) ≡ Some (Some g) = rw u at e in h refl refl (cc))
  from_keep None false p t x y g e f h = absurd (cc)

  -- an alone row stays without a row of S
  pub from_stay : (c : Cell) (al : Bool) (p : ℕ) (t : Rows) (x y : List Value) → how_in k c al p t x y ≡ None → (c ≡ None) × ((al ≡ true) × (same_row x k.null_first ≡ true))
  from_stay (Some v) al p t x y e = absurd (cc)
  from_stay None true p t x y e =
      by_test (same_row x k.null_first)
      (λ u. (refl, (refl, u)))
      (λ u. let e2 : Some (Some (Reference p)) ≡ None = rw u at e in absurd (cc))
  from_stay None false p t x y e = absurd (cc)

  -- an identifier is drawn for a value that no row of T has, and that isn't null
  pub from_need : (h : Option (Option Value)) (l : Option ℕ) (null : Bool) → draws_for k h l null ≡ true → (h ≡ Some None) × ((l ≡ None) × (null ≡ false))
  from_need None l null e = absurd (cc)
  from_need (Some (Some f)) l null e = absurd (cc)
  from_need (Some None) (Some q) null e = absurd (cc)
  from_need (Some None) None true e = absurd (cc)
  from_need (Some None) None false e = (refl, (refl, refl))
