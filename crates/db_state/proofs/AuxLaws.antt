-- The auxiliary tables of live operators.
use Rattle.std.proofs.Common.{◌≡◌, ℕ, ◌+◌, ◌<◌, ◌≤◌, take, get_or, List, [], ◌∷◌, ◌++◌, length, Bool, false, map, Option, Some, None, inl, inr, sym, ap, ◌∙◌, subst}
use Rattle.std.proofs.lemmas.List.{map-append, take_all, take_more}
use Rattle.version_graph.specs.Sets.{In}
use Rattle.version_graph.specs.Edges.{AreEdges, edge_of, is_in, sources_at}
use Rattle.version_graph.specs.Forest.{Crossing, Link, crossing, forest, step_told}
use Rattle.version_graph.specs.declared.parts.Placed.{Placed}
use Rattle.version_graph.specs.declared.parts.Step.{Step}
use Rattle.version_graph.proofs.SetLaws.{in_append}
use Rattle.op_law.specs.Calls.{tables_of}
use Rattle.op_law.specs.Meaning.{Meaning, PairState}
use Rattle.op_law.specs.Premises.{SomePair}
use Rattle.op_law.specs.declared.side.Aux.{Aux}
use Rattle.version_model.specs.Calls.{IsCrossing, IsTold}
use Rattle.version_model.specs.States.{State, headings}
use Rattle.version_model.specs.Steps.{pair_in, directed}
use Rattle.version_model.specs.declared.numbered.Numbered.{Numbered}
use Rattle.version_model.proofs.ToldLaws.{some_is, told_is}
use Rattle.storage_law.specs.Storage.{stored_way}
use Rattle.storage_law.proofs.CanonicalLaws.{either_way}
use Rattle.db_state.specs.Calls.{AreAuxesOf, IsAuxOf, IsRelatedAt}
use Rattle.db_state.proofs.FoundLaws.{crosses, few_on}

module _ {O : Type 0} (es : List (Placed O)) (edges : AreEdges es) where
  -- a live operator doesn't lack its edge or its sources
  found_told : (p : Crossing O) (step : Step) → IsCrossing es p → step_told p ≡ step → IsTold es step None → ⊥
  found_told p step c tells (inl none) = let clash : Some c.edge ≡ None = sym c.live ∙ ap (λ (s : Step). edge_of es s.operator) tells ∙ none in absurd (let no : ⊥ = cc in no)
  found_told p step c tells (inr none) = let clash : Some _ ≡ None = sym c.sources ∙ ap (λ (s : Step). sources_at es s.operator) tells ∙ none in absurd (let no : ⊥ = cc in no)

  -- what a step tells of is the crossing from the stored side
  pub way_is : (layout : List ℕ) (n : ℕ) (back : Bool) → back ≡ is_in n layout → (o : Option (Crossing O)) → IsTold es (record { operator = n; backward = back }) o → (e : Link O) → In e (forest es) → e.number ≡ n → o ≡ Some (stored_way layout e)
  way_is layout n back is None t e i number =
      let tells : step_told (stored_way layout e) ≡ record { operator = n; backward = back } = ap (λ (k : ℕ). record { operator = k; backward = is_in k layout }) number ∙ ap (λ (b : Bool). record { operator = n; backward = b }) (sym is) in
      absurd (found_told (stored_way layout e) (record { operator = n; backward = back }) (crosses es edges e i (is_in e.number layout)) tells t)
  way_is layout n back is (Some q) t e i number =
      let tells : step_told (stored_way layout e) ≡ record { operator = n; backward = back } = ap (λ (k : ℕ). record { operator = k; backward = is_in k layout }) number ∙ ap (λ (b : Bool). record { operator = n; backward = b }) (sym is) in
      ap (λ (x : Crossing O). Some x) (told_is es (record { operator = n; backward = back }) (stored_way layout e) q (crosses es edges e i (is_in e.number layout)) tells t)

-- ---- from the stored side

module _ {O : Type 0} (meaning : O → Meaning) (es : List (Placed O)) (layout : List ℕ) (s : State) (n : ℕ) (over : Crossing O) (known : IsRelatedAt meaning es s n)
    (is : (e : Link O) → In e (forest es) → e.number ≡ n → Some over ≡ Some (stored_way layout e)) where
  pub over_is : over ≡ stored_way layout known.over
  over_is = some_is over (stored_way layout known.over) (is known.over known.lives known.number)

  pub near_few : length over.near ≤ 2
  near_few = subst (λ (p : Crossing O). length p.near ≤ 2) (sym over_is) (few_on known.over known.sides (is_in known.over.number layout)).0

  pub far_few : length over.far ≤ 2
  far_few = subst (λ (p : Crossing O). length p.far ≤ 2) (sym over_is) (few_on known.over known.sides (is_in known.over.number layout)).1

  -- the auxiliary tables of its pair may be asked for
  pub some_pair : (pair : PairState) → pair ≡ pair_in s over → SomePair (directed over.backward (meaning over.operator)) pair
  some_pair pair same =
      let p = stored_way layout known.over in
      let here : SomePair (directed p.backward (meaning p.operator)) (pair_in s p) = record {
        hs = map (headings es) p.near;
        ht = map (headings es) p.far;
        pair = either_way meaning (headings es) s false (is_in known.over.number layout) known.over known.related;
      } in
      subst (λ (x : PairState). SomePair (directed over.backward (meaning over.operator)) x) (sym same) (subst (λ (q : Crossing O). SomePair (directed q.backward (meaning q.operator)) (pair_in s q)) (sym over_is) here)

-- ---- operator by operator

module _ {O : Type 0} (meaning : O → Meaning) (es : List (Placed O)) (layout : List ℕ) (s : State) where
  -- one operator more
  pub one_aux_more : (ns : List ℕ) (i : ℕ) (auxes : List (Numbered Aux)) (value : Aux) → i < length ns → AreAuxesOf meaning es layout s (take i ns) auxes → IsAuxOf meaning es layout s (get_or ns i 0) (tables_of value)
      → AreAuxesOf meaning es layout s (take (i + 1) ns) (auxes ++ record { number = get_or ns i 0; value = value } ∷ [])
  one_aux_more ns i auxes value within so_far here =
      let new : Numbered Aux = record { number = get_or ns i 0; value = value } in
      record {
        numbers = map-append (λ (x : Numbered Aux). x.number) auxes (new ∷ []) ∙ ap (λ (l : List ℕ). l ++ get_or ns i 0 ∷ []) so_far.numbers ∙ sym (take_more ns i 0 within);
        values = λ x j. elim (in_append x auxes (new ∷ []) j) as (λ _. IsAuxOf meaning es layout s x.number (tables_of x.value)) [
          | inl k ↦ so_far.values x k
          | inr k ↦ elim k as (λ _. IsAuxOf meaning es layout s x.number (tables_of x.value)) [
            | inl same ↦ subst (λ (y : Numbered Aux). IsAuxOf meaning es layout s y.number (tables_of y.value)) (sym same) here
            | inr k ↦ absurd k
          ]
        ];
      }

  pub all_auxes : (ns : List ℕ) (i : ℕ) (auxes : List (Numbered Aux)) → length ns ≤ i → AreAuxesOf meaning es layout s (take i ns) auxes → AreAuxesOf meaning es layout s ns auxes
  all_auxes ns i auxes all so_far = subst (λ (l : List ℕ). AreAuxesOf meaning es layout s l auxes) (take_all i ns all) so_far
