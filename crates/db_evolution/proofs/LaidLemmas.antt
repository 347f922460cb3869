-- Numbered values, laid over others.
use Rattle.std.specs.Option.{IsSome}
use Rattle.std.proofs.Common.{◌≡◌, ℕ, ◌==◌, List, [], ◌∷◌, Bool, true, false, Option, Some, None, inl, inr, refl, sym, ap, ◌∙◌, subst}
use Rattle.std.proofs.lemmas.Bool.{eq-eqb, eqb-true, false≢true}
use mathlib.Core.List.{reverse}
use Rattle.version_graph.specs.Sets.{In, Distinct}
use Rattle.version_graph.proofs.SetLaws.{in_append, in_map, origin}
use Rattle.version_graph.proofs.WalkStepLaws.{in_reverse}
use Rattle.version_model.specs.Kept.{latest_of, renewed, value_of, numbers_in}
use Rattle.version_model.specs.Making.{Has}
use Rattle.version_model.specs.declared.numbered.Numbered.{Numbered}
use Rattle.version_model.proofs.AscendingLaws.{reverse_first}
use Rattle.version_model.proofs.MakingLaws.{value_over}
use Rattle.version_model.proofs.NumberedLaws.{either, looked, value_of_first}
use Rattle.db_state.proofs.FieldLaws.{none_at}
use Rattle.db_evolution.specs.News.{IsLaidOver}

-- an item of a list that is turned round is one of it
module _ {X : Type 0} where
  pub of_reverse : (x : X) (xs : List X) → In x (reverse xs) → In x xs
  of_reverse x [] i = i
  of_reverse x (y ∷ xs) i =
      elim (in_append x (reverse xs) (y ∷ []) (subst (λ (l : List X). In x l) (reverse_first y xs) i)) as (λ _. In x (y ∷ xs)) [
        | inl j ↦ inr (of_reverse x xs j)
        | inr j ↦ elim j as (λ _. In x (y ∷ xs)) [ inl same ↦ inl same | inr none ↦ absurd none ]
      ]

-- ---- values under numbers

-- an item under a number, and its value
pub record Stands {T : Type 0} (items : List (Numbered T)) (n : ℕ) : Type 0 where
  pub item : Numbered T
  pub lists : In item items
  pub number : n ≡ item.number
  pub value : value_of items n ≡ Some item.value

module _ {T : Type 0} where
  stands_one : (x : Numbered T) (xs : List (Numbered T)) (n : ℕ) (b : Bool) → (n == x.number) ≡ b → (In n (numbers_in xs) → Stands xs n) → In n (numbers_in (x ∷ xs)) → Stands (x ∷ xs) n
  stands_one x xs n true is more i = record { item = x; lists = inl refl; number = eqb-true n x.number is; value = value_of_first x xs n ∙ ap (λ (b : Bool). looked b x (value_of xs n)) is }
  stands_one x xs n false is more (inl same) = absurd (false≢true (sym is ∙ eq-eqb n x.number same))
  stands_one x xs n false is more (inr j) =
      let m = more j in
      record { item = m.item; lists = inr m.lists; number = m.number; value = value_of_first x xs n ∙ ap (λ (b : Bool). looked b x (value_of xs n)) is ∙ m.value }

  -- a value stands under each number that is listed
  pub stands_at : (xs : List (Numbered T)) (n : ℕ) → In n (numbers_in xs) → Stands xs n
  stands_at [] n i = absurd i
  stands_at (x ∷ xs) n i = stands_one x xs n (n == x.number) refl (stands_at xs n) i

  -- and so does a last one
  pub last_at : (xs : List (Numbered T)) (n : ℕ) → In n (numbers_in xs) → Stands (reverse xs) n
  last_at xs n i =
      let x = origin (λ (y : Numbered T). y.number) n xs i in
      stands_at (reverse xs) n (subst (λ (k : ℕ). In k (numbers_in (reverse xs))) (sym x.2) (in_map (λ (y : Numbered T). y.number) x.0 (reverse xs) (in_reverse x.0 xs x.1)))

  or_none : (o : Option T) → either o None ≡ o
  or_none None = refl
  or_none (Some x) = refl

  last_one : (x : Numbered T) (xs : List (Numbered T)) (n : ℕ) (b : Bool) → (In x.number (numbers_in xs) → ⊥) → (n == x.number) ≡ b → either (value_of xs n) (looked b x None) ≡ looked b x (value_of xs n)
  last_one x xs n true once is = ap (λ (o : Option T). either o (Some x.value)) (none_at xs n (λ i. once (subst (λ (k : ℕ). In k (numbers_in xs)) (eqb-true n x.number is) i)))
  last_one x xs n false once is = or_none (value_of xs n)

  -- where no number stands twice, the last value under one is the first
  pub found_back : (xs : List (Numbered T)) → Distinct (numbers_in xs) → (n : ℕ) → latest_of xs n ≡ value_of xs n
  found_back [] once n = refl
  found_back (x ∷ xs) once n =
      ap (λ (l : List (Numbered T)). value_of l n) (reverse_first x xs) ∙ value_over (reverse xs) (x ∷ []) n
      ∙ ap (λ (o : Option T). either o (value_of (x ∷ []) n)) (found_back xs once.1 n)
      ∙ ap (λ (o : Option T). either (value_of xs n) o) (value_of_first x [] n)
      ∙ last_one x xs n (n == x.number) once.0 refl ∙ sym (value_of_first x xs n)

  still : (o : Option T) → renewed o None ≡ o
  still None = refl
  still (Some x) = refl

  over_some : (x : T) (o : Option T) → IsSome o → renewed (Some x) o ≡ o
  over_some x None h = absurd (false≢true h)
  over_some x (Some y) h = refl

  module _ (items newer all : List (Numbered T)) (over : IsLaidOver items newer all) (n : ℕ) where
    -- a newer value is found
    pub over_newer : Distinct (numbers_in newer) → In n (numbers_in newer) → In n (numbers_in items) → value_of all n ≡ value_of newer n
    over_newer once i j =
        let x = stands_at items n j in
        let y = stands_at newer n i in
        over.values n ∙ ap (λ (o : Option T). renewed o (latest_of newer n)) x.value ∙ ap (λ (o : Option T). renewed (Some x.item.value) o) (found_back newer once n ∙ y.value) ∙ sym y.value

    -- where there is none, the older one is
    pub over_older : Distinct (numbers_in newer) → (In n (numbers_in newer) → ⊥) → value_of all n ≡ value_of items n
    over_older once none = over.values n ∙ ap (λ (o : Option T). renewed (value_of items n) o) (found_back newer once n ∙ none_at newer n none) ∙ still (value_of items n)

    -- what was made last is found
    pub over_made : In n (numbers_in items) → Has newer n → value_of all n ≡ latest_of newer n
    over_made j has =
        let x = stands_at items n j in
        over.values n ∙ ap (λ (o : Option T). renewed o (latest_of newer n)) x.value ∙ over_some x.item.value (latest_of newer n) has
