-- The item at the place of a number, and another value there.
use Rattle.std.specs.List.{position}
use Rattle.std.specs.Option.{option_map_or}
use Rattle.std.proofs.Common.{◌≡◌, if◌then◌else◌, ℕ, ◌==◌, List, Bool, true, false, Option, Some, None, slice_index_or, slice_set, refl, ap, sym, ◌∙◌, subst}
use Rattle.std.proofs.lemmas.Bool.{eq-eqb, eqb-true}
use Rattle.version_graph.specs.Sets.{In}
use Rattle.op_law.proofs.OnlyLaws.{by_test}
use Rattle.version_model.specs.Kept.{value_of, numbers_in}
use Rattle.version_model.specs.declared.numbered.Numbered.{Numbered}
use Rattle.version_model.proofs.NumberedLaws.{numbers_set, replaced, unplaced, value_here}
use Rattle.kept_changes.proofs.ChangesLaws.{value_missing}

module _ {T : Type 0} where
  -- a listed number has a place
  pub has_place : (items : List (Numbered T)) (k : ℕ) → In k (numbers_in items) → position (λ (i : Numbered T). k == i.number) items ≡ None → ⊥
  has_place items k i none = value_missing items k i (unplaced items k none)

-- nothing is read under a number that has no place
pub unplaced_seen : {T V : Type 0} (f : T → V) (z : V) (items : List (Numbered T)) (k : ℕ) → position (λ (i : Numbered T). k == i.number) items ≡ None → option_map_or f (value_of items k) z ≡ z
unplaced_seen {T} f z items k none = ap (λ (o : Option T). option_map_or f o z) (unplaced items k none)

-- what is read under the numbers, where the item at the place of a number gets another value
module _ {T V : Type 0} (f : T → V) (z : V) (items : List (Numbered T)) (k at : ℕ) (x : Numbered T) (same : x ≡ slice_index_or items at x) (found : position (λ (i : Numbered T). k == i.number) items ≡ Some at) where
  -- before that
  pub read_here : option_map_or f (value_of items k) z ≡ f x.value
  read_here = ap (λ (o : Option T). option_map_or f o z) (value_here items k at x found) ∙ ap (λ (y : Numbered T). f y.value) (sym same)

  by_case : (b : Bool) (v : T) (o : Option T) → option_map_or f (if b then Some v else o) z ≡ (if b then f v else option_map_or f o z)
  by_case true v o = refl
  by_case false v o = refl

  read_put : (v : T) (n : ℕ) → option_map_or f (value_of (slice_set items at (record { number = x.number; value = v })) n) z ≡ (if n == k then f v else option_map_or f (value_of items n) z)
  read_put v n =
      ap (λ (y : Numbered T). option_map_or f (value_of (slice_set items at (record { number = y.number; value = v })) n) z) same
      ∙ ap (λ (o : Option T). option_map_or f o z) (replaced items k at v x found n)
      ∙ by_case (n == k) v (value_of items n)

  -- under the number itself
  pub put_here : (v : T) → option_map_or f (value_of (slice_set items at (record { number = x.number; value = v })) k) z ≡ f v
  put_here v = read_put v k ∙ ap (λ (b : Bool). if b then f v else option_map_or f (value_of items k) z) (eq-eqb k k refl)

  -- under another one
  pub put_other : (v : T) (n : ℕ) → (n == k) ≡ false → option_map_or f (value_of (slice_set items at (record { number = x.number; value = v })) n) z ≡ option_map_or f (value_of items n) z
  put_other v n e = read_put v n ∙ ap (λ (b : Bool). if b then f v else option_map_or f (value_of items n) z) e

  -- where the value is made of the old one
  pub put_made : (v : T) (make : V → V) → f v ≡ make (f x.value) → (n : ℕ)
      → option_map_or f (value_of (slice_set items at (record { number = x.number; value = v })) n) z ≡ (if n == k then make (option_map_or f (value_of items n) z) else option_map_or f (value_of items n) z)
  put_made v make is n =
      by_test (n == k)
      (λ e.
      let old : f x.value ≡ option_map_or f (value_of items n) z = sym read_here ∙ ap (λ (m : ℕ). option_map_or f (value_of items m) z) (sym (eqb-true n k e)) in
      read_put v n ∙ ap (λ (b : Bool). if b then f v else option_map_or f (value_of items n) z) e ∙ is ∙ ap make old
      ∙ sym (ap (λ (b : Bool). if b then make (option_map_or f (value_of items n) z) else option_map_or f (value_of items n) z) e))
      (λ e. put_other v n e ∙ sym (ap (λ (b : Bool). if b then make (option_map_or f (value_of items n) z) else option_map_or f (value_of items n) z) e))

  -- where each value stands in a relation to itself, and the new one to the old
  pub put_related : (R : V → V → Type 0) → ((w : V) → R w w) → (v : T) → R (f x.value) (f v) → (n : ℕ)
      → R (option_map_or f (value_of items n) z) (option_map_or f (value_of (slice_set items at (record { number = x.number; value = v })) n) z)
  put_related R all v is n =
      by_test (n == k)
      (λ e.
      let old : f x.value ≡ option_map_or f (value_of items n) z = sym read_here ∙ ap (λ (m : ℕ). option_map_or f (value_of items m) z) (sym (eqb-true n k e)) in
      let new : f v ≡ option_map_or f (value_of (slice_set items at (record { number = x.number; value = v })) n) z = sym (read_put v n ∙ ap (λ (b : Bool). if b then f v else option_map_or f (value_of items n) z) e) in
      subst (λ (w : V). R w (option_map_or f (value_of (slice_set items at (record { number = x.number; value = v })) n) z)) old (subst (λ (w : V). R (f x.value) w) new is))
      (λ e. subst (λ (w : V). R (option_map_or f (value_of items n) z) w) (sym (put_other v n e)) (all (option_map_or f (value_of items n) z)))

-- the numbers stay
pub put_numbers : {T : Type 0} (items : List (Numbered T)) (at : ℕ) (x : Numbered T) → x ≡ slice_index_or items at x → (v : T) → numbers_in (slice_set items at (record { number = x.number; value = v })) ≡ numbers_in items
put_numbers {T} items at x same v = ap (λ (y : Numbered T). numbers_in (slice_set items at (record { number = y.number; value = v }))) same ∙ numbers_set items at v x

-- two readings together
both_read : {T V W C : Type 0} (f : T → V) (z : V) (g : T → W) (w : W) (both : V → W → C) (o : Option T) → both (option_map_or f o z) (option_map_or g o w) ≡ option_map_or (λ (t : T). both (f t) (g t)) o (both z w)
both_read f z g w both None = refl
both_read f z g w both (Some t) = refl

-- what two readings together give stays under every number where the new value gives it too
pub put_both : {T V W C : Type 0} (f : T → V) (z : V) (g : T → W) (w : W) (both : V → W → C) (items : List (Numbered T)) (k at : ℕ) (x : Numbered T) → x ≡ slice_index_or items at x → position (λ (i : Numbered T). k == i.number) items ≡ Some at
    → (v : T) → both (f v) (g v) ≡ both (f x.value) (g x.value) → (n : ℕ)
    → both (option_map_or f (value_of (slice_set items at (record { number = x.number; value = v })) n) z) (option_map_or g (value_of (slice_set items at (record { number = x.number; value = v })) n) w) ≡ both (option_map_or f (value_of items n) z) (option_map_or g (value_of items n) w)
put_both {T} {V} {W} {C} f z g w both items k at x same found v e n =
    both_read f z g w both (value_of (slice_set items at (record { number = x.number; value = v })) n)
    ∙ put_related (λ (t : T). both (f t) (g t)) (both z w) items k at x same found (λ (a b : C). b ≡ a) (λ (a : C). refl) v e n
    ∙ sym (both_read f z g w both (value_of items n))
