-- Values under numbers, and newer ones over them.
use Rattle.std.specs.Option.{option_map_or}
use Rattle.std.proofs.Common.{◌≡◌, ℕ, ◌+◌, ◌<◌, ◌==◌, take, get_or, length, List, [], ◌∷◌, ◌++◌, Bool, true, false, cond, filter, map, Option, Some, inl, inr, refl, sym, ap, ◌∙◌, subst}
use Rattle.std.proofs.lemmas.Bool.{eq-eqb, eqb-true}
use Rattle.std.proofs.lemmas.List.{map-append, take_more}
use Rattle.version_graph.specs.Edges.{Rises, is_in}
use Rattle.version_graph.specs.Sets.{Distinct, In}
use Rattle.version_graph.proofs.TableLaws.{in_filter, rises_apart}
use Rattle.db_state.specs.declared.parts.Parts.{Parts}
use Rattle.write_plans.specs.Calls.{stored_in}
use Rattle.write_plans.specs.declared.tree.Tree.{Tree}
use Rattle.version_graph.proofs.SetLaws.{in_append, in_of_test}
use Rattle.version_model.specs.Kept.{value_of, numbers_in}
use Rattle.version_model.specs.declared.numbered.Numbered.{Numbered}
use Rattle.version_model.proofs.NumberedLaws.{looked, value_of_first}
use Rattle.db_state.proofs.FieldLaws.{none_at}

module _ {T : Type 0} where
  -- the value under a listed number is that of an item
  pub item_at : (items : List (Numbered T)) (n : ℕ) → In n (numbers_in items) → (i : Numbered T) × In i items × (value_of items n ≡ Some i.value) × (i.number ≡ n)
  item_at [] n h = absurd h
  item_at (x ∷ xs) n h =
      (elim (n == x.number) as (λ b. (n == x.number) ≡ b → (i : Numbered T) × In i (x ∷ xs) × (value_of (x ∷ xs) n ≡ Some i.value) × (i.number ≡ n)) [
        | true ↦ λ is. (x, inl refl, value_of_first x xs n ∙ ap (λ b. looked b x (value_of xs n)) is, sym (eqb-true n x.number is))
        | false ↦ λ is.
            let later : In n (numbers_in xs) = elim h as (λ _. In n (numbers_in xs)) [ inl same ↦ (let clash : true ≡ false = sym (eq-eqb n x.number same) ∙ is in absurd (let none : ⊥ = cc in none)) | inr k ↦ k ] in
            let m = item_at xs n later in
            (m.0, inr m.1, value_of_first x xs n ∙ ap (λ b. looked b x (value_of xs n)) is ∙ m.2, m.3)
      ]) refl

-- ---- what is seen of the values

module _ {T V : Type 0} (see : T → V) where
  -- each value is seen beside its number
  abbrev told : List (Numbered T) → List (ℕ × V)
  told items = map (λ (i : Numbered T). (i.number, see i.value)) items

  abbrev held : (ℕ → V) → List ℕ → List (ℕ × V)
  held f ns = map (λ n. (n, f n)) ns

  module _ (f : ℕ → V) where
    pub told_numbers : (items : List (Numbered T)) (ns : List ℕ) → told items ≡ held f ns → numbers_in items ≡ ns
    told_numbers [] [] is = refl
    told_numbers [] (n ∷ ns) is = absurd (let none : ⊥ = cc in none)
    told_numbers (x ∷ xs) [] is = absurd (let none : ⊥ = cc in none)
    told_numbers (x ∷ xs) (n ∷ ns) is =
        let head : (x.number, see x.value) ≡ (n, f n) = cc in
        let tail : told xs ≡ held f ns = cc in
        let first : x.number ≡ n = ap (λ (p : ℕ × V). p.0) head in
        ap (λ (k : ℕ). k ∷ numbers_in xs) first ∙ ap (λ (l : List ℕ). n ∷ l) (told_numbers xs ns tail)

    pub told_values : (items : List (Numbered T)) (ns : List ℕ) → told items ≡ held f ns → (i : Numbered T) → In i items → see i.value ≡ f i.number
    told_values [] ns is i h = absurd h
    told_values (x ∷ xs) [] is i h = absurd (let none : ⊥ = cc in none)
    told_values (x ∷ xs) (n ∷ ns) is i (inl same) =
        let head : (x.number, see x.value) ≡ (n, f n) = cc in
        subst (λ (y : Numbered T). see y.value ≡ f y.number) (sym same) (ap (λ (p : ℕ × V). p.1) head ∙ ap f (sym (ap (λ (p : ℕ × V). p.0) head)))
    told_values (x ∷ xs) (n ∷ ns) is i (inr h) =
        let tail : told xs ≡ held f ns = cc in
        told_values xs ns tail i h

    -- the first value of a listed number, and of another one
    pub seen_told : (items : List (Numbered T)) (ns : List ℕ) → told items ≡ held f ns → (n : ℕ) → In n ns → (none : V) → option_map_or see (value_of items n) none ≡ f n
    seen_told items ns is n h none =
        let m = item_at items n (subst (λ (l : List ℕ). In n l) (sym (told_numbers items ns is)) h) in
        ap (λ (o : Option T). option_map_or see o none) m.2 ∙ told_values items ns is m.0 m.1 ∙ ap f m.3

    pub seen_untold : (items : List (Numbered T)) (ns : List ℕ) → told items ≡ held f ns → (n : ℕ) → (In n ns → ⊥) → (none : V) → option_map_or see (value_of items n) none ≡ none
    seen_untold items ns is n out none = ap (λ (o : Option T). option_map_or see o none) (none_at items n (λ h. out (subst (λ (l : List ℕ). In n l) (told_numbers items ns is) h)))

-- ---- stored tables of a tree

filter_passes : (test : ℕ → Bool) (n : ℕ) (ns : List ℕ) → In n (filter test ns) → test n ≡ true
filter_passes test n [] i = absurd i
filter_passes test n (k ∷ ks) i = (elim (test k) as (λ b. test k ≡ b → In n (cond b (k ∷ filter test ks) (filter test ks)) → test n ≡ true) [
  | true ↦ λ is j. elim j as (λ _. test n ≡ true) [ inl same ↦ ap test same ∙ is | inr more ↦ filter_passes test n ks more ]
  | false ↦ λ is j. filter_passes test n ks j
]) refl i

pub stored_beside : {O : Type 0} (d : Parts O) (tree : Tree) (t : ℕ) → In t (stored_in d tree) → In t tree.tables
stored_beside d tree t i = in_of_test t tree.tables (filter_passes (λ u. is_in u tree.tables) t (numbers_in d.stored) i)

filter_apart : (test : ℕ → Bool) (ns : List ℕ) → Distinct ns → Distinct (filter test ns)
filter_apart test [] apart = tt
filter_apart test (k ∷ ks) apart =
    let rest = filter_apart test ks apart.1 in
    elim (test k) as (λ b. Distinct (cond b (k ∷ filter test ks) (filter test ks))) [ true ↦ ((λ i. apart.0 (in_filter test k ks i)), rest) | false ↦ rest ]

pub stored_apart : {O : Type 0} (d : Parts O) (tree : Tree) → Rises 0 (numbers_in d.stored) → Distinct (stored_in d tree)
stored_apart d tree rises = filter_apart (λ u. is_in u tree.tables) (numbers_in d.stored) (rises_apart 0 (numbers_in d.stored) rises)

-- ---- one more

module _ {T : Type 0} (P : ℕ → T → Type 0) (ns : List ℕ) (i : ℕ) (within : i < length ns) where
  abbrev AreMade : List ℕ → List (Numbered T) → Type 0
  AreMade ns items = (numbers_in items ≡ ns) × ((x : Numbered T) → In x items → P x.number x.value)

  -- what is true of the value under each of some numbers is true of those of one number more
  pub one_more : (items : List (Numbered T)) (value : T) → AreMade (take i ns) items → P (get_or ns i 0) value → AreMade (take (i + 1) ns) (items ++ record { number = get_or ns i 0; value = value } ∷ [])
  one_more items value are new =
      let item : Numbered T = record { number = get_or ns i 0; value = value } in (
        map-append (λ (x : Numbered T). x.number) items (item ∷ []) ∙ ap (λ (l : List ℕ). l ++ get_or ns i 0 ∷ []) are.0 ∙ sym (take_more ns i 0 within),
        λ x j.
            elim (in_append x items (item ∷ []) j) as (λ _. P x.number x.value) [
              | inl k ↦ are.1 x k
              | inr (inl same) ↦ subst (λ (y : Numbered T). P y.number y.value) (sym same) new
              | inr (inr none) ↦ absurd none
            ],
      )
