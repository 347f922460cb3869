-- Values under numbers.
use Rattle.std.specs.Prelude.{◌<◌}
use Rattle.std.proofs.Common.{◌≡◌, ℕ, List, [], ◌∷◌, Bool, Option, Some, None, inl, inr, refl, sym, ap, ◌∙◌, subst, arith}
use Rattle.std.proofs.lemmas.Bool.{cases_eq, eq-eqb, ne_eqb}
use Rattle.std.proofs.lemmas.List.{reverse-reverse}
use mathlib.Core.List.{reverse}
use Rattle.version_graph.specs.Sets.{In}
use Rattle.version_graph.specs.Edges.{Rises}
use Rattle.version_graph.proofs.SetLaws.{in_map, origin}
use Rattle.version_graph.proofs.TableLaws.{rises_above}
use Rattle.version_graph.proofs.WalkStepLaws.{in_reverse}
use Rattle.version_model.specs.Kept.{latest_of, value_of, numbers_in}
use Rattle.version_model.specs.declared.numbered.Numbered.{Numbered}
use Rattle.version_model.proofs.HeadingLaws.{in_or_not}
use Rattle.version_model.proofs.NumberedLaws.{looked, value_of_first}
use Rattle.db_state.proofs.FieldLaws.{none_at}

module _ {T : Type 0} where
  -- a value that is found under a number
  pub record Found (items : List (Numbered T)) (n : ℕ) (found : Option T) : Type 0 where
    pub item : Numbered T
    pub listed : In item items
    pub number : item.number ≡ n
    pub value : found ≡ Some item.value

  -- who is listed has a value
  pub value_there : (items : List (Numbered T)) (n : ℕ) → In n (numbers_in items) → Found items n (value_of items n)
  value_there [] n i = absurd i
  value_there (x ∷ xs) n i =
      elim (cases_eq n x.number) as (λ _. Found (x ∷ xs) n (value_of (x ∷ xs) n)) [
        | inl same ↦ record { item = x; listed = inl refl; number = sym same; value = value_of_first x xs n ∙ ap (λ (b : Bool). looked b x (value_of xs n)) (eq-eqb n x.number same) }
        | inr other ↦
            let m = value_there xs n (elim i as (λ _. In n (numbers_in xs)) [ inl same ↦ absurd (other same) | inr j ↦ j ]) in
            record { item = m.item; listed = inr m.listed; number = m.number; value = value_of_first x xs n ∙ ap (λ (b : Bool). looked b x (value_of xs n)) (ne_eqb n x.number other) ∙ m.value }
      ]

  -- the items in the other order have the same numbers
  turned : (items : List (Numbered T)) (n : ℕ) → In n (numbers_in items) → In n (numbers_in (reverse items))
  turned items n i =
      let o = origin (λ (x : Numbered T). x.number) n items i in
      subst (λ (m : ℕ). In m (numbers_in (reverse items))) (sym o.2) (in_map (λ (x : Numbered T). x.number) o.0 (reverse items) (in_reverse o.0 items o.1))

  back : (items : List (Numbered T)) (x : Numbered T) → In x (reverse items) → In x items
  back items x i = subst (λ (l : List (Numbered T)). In x l) (reverse-reverse items) (in_reverse x (reverse items) i)

  pub latest_there : (items : List (Numbered T)) (n : ℕ) → In n (numbers_in items) → Found items n (latest_of items n)
  latest_there items n i =
      let m = value_there (reverse items) n (turned items n i) in
      record { item = m.item; listed = back items m.item m.listed; number = m.number; value = m.value }

  pub latest_none : (items : List (Numbered T)) (n : ℕ) → (In n (numbers_in items) → ⊥) → latest_of items n ≡ None
  latest_none items n none =
      none_at (reverse items) n (λ i. none (subst (λ (l : List (Numbered T)). In n (numbers_in l)) (reverse-reverse items) (turned (reverse items) n i)))

  -- in an ascending list a number stands once
  once : (k : ℕ) (items : List (Numbered T)) (x y : Numbered T) → Rises k (numbers_in items) → In x items → In y items → x.number ≡ y.number → x ≡ y
  once k [] x y rise i j same = absurd i
  once k (z ∷ zs) x y rise (inl i) (inl j) same = i ∙ sym j
  once k (z ∷ zs) x y rise (inl i) (inr j) same =
      let above : z.number < y.number = rises_above z.number (numbers_in zs) rise.1 y.number (in_map (λ (w : Numbered T). w.number) y zs j) in
      let here = ap (λ (w : Numbered T). w.number) i in
      absurd (omega (arith, above, here, same))
  once k (z ∷ zs) x y rise (inr i) (inl j) same =
      let above : z.number < x.number = rises_above z.number (numbers_in zs) rise.1 x.number (in_map (λ (w : Numbered T). w.number) x zs i) in
      let here = ap (λ (w : Numbered T). w.number) j in
      absurd (omega (arith, above, here, same))
  once k (z ∷ zs) x y rise (inr i) (inr j) same = once z.number zs x y rise.1 i j same

  -- and has one value
  pub latest_is : (items : List (Numbered T)) (n : ℕ) → Rises 0 (numbers_in items) → latest_of items n ≡ value_of items n
  latest_is items n rise =
      in_or_not n (numbers_in items) (latest_of items n ≡ value_of items n)
      (λ i.
      let a = latest_there items n i in
      let b = value_there items n i in
      a.value ∙ ap (λ (x : Numbered T). Some x.value) (once 0 items a.item b.item rise a.listed b.listed (a.number ∙ sym b.number)) ∙ sym b.value)
      (λ none. latest_none items n none ∙ sym (none_at items n none))
