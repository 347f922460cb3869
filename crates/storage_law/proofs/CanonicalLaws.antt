-- What is stored of a state stands for it, and nothing else does.
use Rattle.std.specs.Prelude.{◌⊎◌, ◌==◌, ◌&&◌, ◌||◌}
use Rattle.std.specs.List.{list_any}
use Rattle.std.proofs.Common.{◌≡◌, ℕ, List, [], ◌∷◌, Bool, true, false, not, inl, inr, refl, sym, ap, ◌∙◌, subst, arith}
use Rattle.std.proofs.lemmas.Bool.{and_from, and_parts, cond-false, cond-true, eq-eqb, false_from_ne_true, false≢true, ne_eqb}
use Rattle.version_graph.specs.Sets.{In}
use Rattle.version_graph.specs.Edges.{AreEdges, is_in, numbers}
use Rattle.version_graph.specs.Forest.{Link, crossing, forest, link}
use Rattle.version_graph.specs.declared.parts.Placed.{Placed}
use Rattle.version_graph.proofs.SetLaws.{each_at, each_of, in_of_test, is_in_true}
use Rattle.version_graph.proofs.WalkLaws.{IsForest, is_forest}
use Rattle.op_law.specs.Tables.{Heading}
use Rattle.op_law.specs.Meaning.{Meaning}
use Rattle.layout_rules.specs.Layouts.{IsStored}
use Rattle.layout_rules.proofs.ChangeLaws.{number_lives}
use Rattle.layout_rules.specs.Moves.{SameOperators}
use Rattle.version_model.specs.States.{State, headings}
use Rattle.version_model.specs.Sound.{IsSound}
use Rattle.version_model.specs.Steps.{IsRelated}
use Rattle.version_model.proofs.HeadingLaws.{in_or_not}
use Rattle.storage_law.specs.Storage.{Storage, Stands, StandsOver, aux_of, stored_way}
use Rattle.storage_law.specs.Canonical.{SameStored, auxes_of, is_made, is_taken, storage_of, stored_of}
use Rattle.layout_rules.proofs.LinkLaws.{number_listed}
use Rattle.storage_law.proofs.LinkLaws.{same_test}

-- ---- the tests of stored tables

any_true : {X : Type 0} (test : X → Bool) (xs : List X) (x : X) → In x xs → test x ≡ true → list_any test xs ≡ true
any_true test [] x i is = absurd i
any_true {X} test (y ∷ ys) x (inl same) is = ap (λ (b : Bool). (b || list_any test ys)) (ap test (sym same) ∙ is)
any_true test (y ∷ ys) x (inr i) is = elim (test y) as (λ b. (b || list_any test ys) ≡ true) [ true ↦ refl | false ↦ any_true test ys x i is ]

any_found : {X : Type 0} (test : X → Bool) (xs : List X) → list_any test xs ≡ true → (x : X) × In x xs × (test x ≡ true)
any_found test [] h = absurd (false≢true h)
any_found {X} test (y ∷ ys) h =
    (elim (test y) as (λ b. test y ≡ b → (b || list_any test ys) ≡ true → (x : X) × In x (y ∷ ys) × (test x ≡ true)) [
      | true ↦ λ is k. (y, inl refl, is)
      | false ↦ λ is k. let r = any_found test ys k in (r.0, inr r.1, r.2)
    ]) refl h

module _ {O : Type 0} (side : Link O → List ℕ) (es : List (Link O)) (layout : List ℕ) (t : ℕ) where
  abbrev on_side : Link O → Bool
  on_side e = is_in e.number layout && is_in t (side e)

  side_true : (e : Link O) × In e es × In e.number layout × In t (side e) → list_any on_side es ≡ true
  side_true m = any_true on_side es m.0 m.1 (and_from (is_in m.0.number layout) (is_in t (side m.0)) (is_in_true m.0.number layout m.2) (is_in_true t (side m.0) m.3))

  side_found : list_any on_side es ≡ true → (e : Link O) × In e es × In e.number layout × In t (side e)
  side_found h =
      let m = any_found on_side es h in
      let b = and_parts (is_in m.0.number layout) (is_in t (side m.0)) m.2 in
      (m.0, m.1, in_of_test m.0.number layout b.0, in_of_test t (side m.0) b.1)

module _ {O : Type 0} (es : List (Link O)) (layout : List ℕ) (t : ℕ) where
  abbrev stores : Bool
  stores = is_made es layout t && not (is_taken es layout t)

  stored_true : IsStored es layout t → stores ≡ true
  stored_true k =
      and_from (is_made es layout t) (not (is_taken es layout t)) (side_true (λ (e : Link O). e.targets) es layout t k.made)
      (ap not (false_from_ne_true (is_taken es layout t) (λ is. k.free (side_found (λ (e : Link O). e.sources) es layout t is))))

  stored_found : stores ≡ true → IsStored es layout t
  stored_found h =
      let b = and_parts (is_made es layout t) (not (is_taken es layout t)) h in
      record {
        made = side_found (λ (e : Link O). e.targets) es layout t b.0;
        free = λ k. false≢true (sym (ap not (side_true (λ (e : Link O). e.sources) es layout t k)) ∙ b.1);
      }

  -- a table is stored or not
  pub stored_or_not : IsStored es layout t ⊎ (IsStored es layout t → ⊥)
  stored_or_not =
      (elim stores as (λ b. stores ≡ b → IsStored es layout t ⊎ (IsStored es layout t → ⊥)) [
        | true ↦ λ is. inl (stored_found is)
        | false ↦ λ is. inr (λ k. false≢true (sym is ∙ stored_true k))
      ]) refl

  stored_is : (s : State) → IsStored es layout t → stored_of es layout s t ≡ s.tables t
  stored_is s k = cond-true stores (s.tables t) [] (stored_true k)

  stored_none : (s : State) → (IsStored es layout t → ⊥) → stored_of es layout s t ≡ []
  stored_none s none = cond-false stores (s.tables t) [] (false_from_ne_true stores (λ is. none (stored_found is)))

-- ---- the parts of a state

-- a pair is related from either side
pub either_way : {O : Type 0} (meaning : O → Meaning) (heading : ℕ → Heading) (s : State) (x y : Bool) (e : Link O) → IsRelated meaning heading s (crossing x e) → IsRelated meaning heading s (crossing y e)
either_way meaning heading s false false e r = r
either_way meaning heading s true true e r = r
either_way meaning heading s false true e r = record { fits = r.fits; related = r.related; source_of = r.target_of; target_of = r.source_of }
either_way meaning heading s true false e r = record { fits = r.fits; related = r.related; source_of = r.target_of; target_of = r.source_of }

module _ {O : Type 0} (meaning : O → Meaning) (layout : List ℕ) (s : State) where
  aux_at : (es : List (Link O)) → IsForest es → (e : Link O) → In e es → auxes_of meaning es layout s e.number ≡ aux_of meaning s (stored_way layout e)
  aux_at [] forest e i = absurd i
  aux_at (f ∷ fs) forest e (inl h) =
      subst (λ (y : Link O). auxes_of meaning (f ∷ fs) layout s y.number ≡ aux_of meaning s (stored_way layout y)) (sym h)
      (cond-true (f.number == f.number) (aux_of meaning s (stored_way layout f)) (auxes_of meaning fs layout s f.number) (eq-eqb f.number f.number refl))
  aux_at (f ∷ fs) forest e (inr i) =
      let less = forest.0.newest e.number (inr (number_listed fs e i)) in
      cond-false (e.number == f.number) (aux_of meaning s (stored_way layout f)) (auxes_of meaning fs layout s e.number) (ne_eqb e.number f.number (λ same. omega arith))
      ∙ aux_at fs forest.1 e i

  aux_none : (es : List (Placed O)) (n : ℕ) → (In n (numbers es) → ⊥) → auxes_of meaning (forest es) layout s n ≡ []
  aux_none [] n none = refl
  aux_none (e ∷ es) n none =
      cond-false (n == e.number) (aux_of meaning s (stored_way layout (link es e))) (auxes_of meaning (forest es) layout s n) (ne_eqb n e.number (λ same. none (inl same)))
      ∙ aux_none es n (λ i. none (inr i))

-- WHAT IS STORED OF A SOUND STATE STANDS FOR IT
pub sound_stands : {O : Type 0} (meaning : O → Meaning) (es : List (Placed O)) → AreEdges es → (s : State) → IsSound meaning es s → (layout : List ℕ) → Stands meaning es (storage_of meaning es layout s) s
sound_stands {O} meaning es edges s sound layout = record {
  edges = each_of (λ (e : Link O). StandsOver meaning (headings es) (storage_of meaning es layout s) s (stored_way layout e)) (forest es) (λ e i. record {
    related = either_way meaning (headings es) s false (is_in e.number layout) e (each_at (λ (f : Link O). IsRelated meaning (headings es) s (crossing false f)) (forest es) e i sound.related);
    aux = aux_at meaning layout s (forest es) (is_forest es edges) e i;
    memory = refl;
  });
  stored = λ t k. stored_is (forest es) layout t s k;
  no_more = record {
    stored = λ t none. stored_none (forest es) layout t s none;
    aux = aux_none meaning layout s es;
    memories = sound.alone.memories;
  };
}

-- ---- one state, one layout

module _ {O : Type 0} (es : List (Link O)) (layout other : List ℕ) (same : SameOperators layout other) (t : ℕ) where
  pub stored_too : IsStored es layout t → IsStored es other t
  stored_too k = record {
    made = (k.made.0, k.made.1, (same k.made.0.number).0 k.made.2, k.made.3);
    free = λ j. k.free (j.0, j.1, (same j.0.number).1 j.2, j.3);
  }

module _ {O : Type 0} (meaning : O → Meaning) (es : List (Placed O)) (s : State) (p q : Storage) (same : SameOperators p.layout q.layout) (first : Stands meaning es p s) (second : Stands meaning es q s) where
  same_stored : (t : ℕ) → p.stored t ≡ q.stored t
  same_stored t =
      elim (stored_or_not (forest es) p.layout t) as (λ _. p.stored t ≡ q.stored t) [
        | inl k ↦ first.stored t k ∙ sym (second.stored t (stored_too (forest es) p.layout q.layout same t k))
        | inr none ↦ first.no_more.stored t none ∙ sym (second.no_more.stored t (λ k. none (stored_too (forest es) q.layout p.layout (λ n. ((same n).1, (same n).0)) t k)))
      ]

  over : (x : Storage) → Stands meaning es x s → (f : Link O) → In f (forest es) → StandsOver meaning (headings es) x s (stored_way x.layout f)
  over x st f i = each_at (λ (e : Link O). StandsOver meaning (headings es) x s (stored_way x.layout e)) (forest es) f i st.edges

  same_aux : (n : ℕ) → p.aux n ≡ q.aux n
  same_aux n =
      in_or_not n (numbers es) (p.aux n ≡ q.aux n)
      (λ i.
      let l = number_lives es n i in
      let side = same_test l.0.number p.layout q.layout (same l.0.number) in
      subst (λ (k : ℕ). p.aux k ≡ q.aux k) (sym l.2)
      ((over p first l.0 l.1).aux ∙ ap (λ (x : Bool). aux_of meaning s (crossing x l.0)) side ∙ sym (over q second l.0 l.1).aux))
      (λ none. first.no_more.aux n none ∙ sym (second.no_more.aux n none))

  same_memory : (n : ℕ) → p.memory n ≡ q.memory n
  same_memory n =
      in_or_not n (numbers es) (p.memory n ≡ q.memory n)
      (λ i. let l = number_lives es n i in subst (λ (k : ℕ). p.memory k ≡ q.memory k) (sym l.2) ((over p first l.0 l.1).memory ∙ sym (over q second l.0 l.1).memory))
      (λ none. first.no_more.memories n none ∙ sym (second.no_more.memories n none))

  -- ONE LAYOUT AND ONE STATE HAVE THE SAME PARTS
  pub parts_are_one : SameStored p q
  parts_are_one = record { stored = same_stored; aux = same_aux; memories = same_memory }
