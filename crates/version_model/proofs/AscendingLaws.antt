-- The operators of a graph by ascending number, each that of a live edge.
use Rattle.std.specs.Prelude.{slice_get}
use Rattle.std.proofs.Common.{◌≡◌, ℕ, zero, suc, inl, inr, true, false, List, [], ◌∷◌, ◌++◌, Option, Some, None, option_map, map, length, refl, sym, ap, ◌∙◌, subst}
use Rattle.std.proofs.lemmas.List.{length-reverse, map-append, reverse-append}
use Rattle.std.proofs.lemmas.Option.{slice_get-map}
use mathlib.Core.List.{reverse}
use Rattle.version_graph.specs.Sets.{Each}
use Rattle.version_graph.specs.Edges.{AreEdges}
use Rattle.version_graph.specs.Forest.{Crossing, Link, crossing, forest, step_told}
use Rattle.version_graph.specs.declared.parts.Placed.{Placed}
use Rattle.version_graph.specs.declared.parts.Step.{Step}
use Rattle.version_graph.proofs.SetLaws.{each_append, each_more}
use Rattle.version_model.specs.Calls.{IsCrossing, IsTold}
use Rattle.version_model.specs.Making.{ascending}
use Rattle.version_model.proofs.CrossingLaws.{crossings_live}
use Rattle.version_model.proofs.ToldLaws.{told_is}

module _ {X : Type 0} where
  pub reverse_first : (x : X) (xs : List X) → reverse (x ∷ xs) ≡ reverse xs ++ x ∷ []
  reverse_first x xs = reverse-append (x ∷ []) xs

  each_reverse : (P : X → Type 0) (xs : List X) → Each P xs → Each P (reverse xs)
  each_reverse P [] h = tt
  each_reverse P (x ∷ xs) h = subst (λ (l : List X). Each P l) (sym (reverse_first x xs)) (each_append P (reverse xs) (x ∷ []) (each_reverse P xs h.1) (h.0, tt))

  each_got : (P : X → Type 0) (xs : List X) (i : ℕ) (x : X) → slice_get xs i ≡ Some x → Each P xs → P x
  each_got P [] i x got h = let clash : None ≡ Some x = got in cc
  each_got P (y ∷ ys) zero x got h = let same : y ≡ x = cc in subst P same h.0
  each_got P (y ∷ ys) (suc i) x got h = each_got P ys i x got h.1

  map_reverse : {Y : Type 0} (f : X → Y) (xs : List X) → map f (reverse xs) ≡ reverse (map f xs)
  map_reverse f [] = refl
  map_reverse f (x ∷ xs) =
      ap (map f) (reverse_first x xs) ∙ map-append f (reverse xs) (x ∷ []) ∙ ap (λ (l : List _). l ++ f x ∷ []) (map_reverse f xs)
      ∙ sym (reverse-append (f x ∷ []) (map f xs))

  mapped_some : {Y : Type 0} (f : X → Y) (o : Option X) (y : Y) → option_map f o ≡ Some y → (x : X) × (o ≡ Some x) × (f x ≡ y)
  mapped_some f None y h = let clash : None ≡ Some y = h in cc
  mapped_some f (Some x) y h = (x, refl, cc)

module _ {O : Type 0} where
  pub length_forest : (es : List (Placed O)) → length (forest es) ≡ length es
  length_forest [] = refl
  length_forest (e ∷ es) = ap suc (length_forest es)

  pub length_ascending : (es : List (Placed O)) → length (ascending es) ≡ length es
  length_ascending es = length-reverse (forest es) ∙ length_forest es

  same_numbers : (es : List (Placed O)) → map (λ (f : Link O). f.number) (forest es) ≡ map (λ (e : Placed O). e.number) es
  same_numbers [] = refl
  same_numbers (e ∷ es) = ap (λ (l : List ℕ). e.number ∷ l) (same_numbers es)

  numbers_ascend : (es : List (Placed O)) → map (λ (f : Link O). f.number) (ascending es) ≡ map (λ (e : Placed O). e.number) (reverse es)
  numbers_ascend es = map_reverse (λ (f : Link O). f.number) (forest es) ∙ ap (λ (l : List ℕ). reverse l) (same_numbers es) ∙ sym (map_reverse (λ (e : Placed O). e.number) es)

  -- the edge at the same place has the operator's number
  pub edge_there : (es : List (Placed O)) (place : ℕ) (f : Link O) (found : Option (Placed O)) → slice_get (ascending es) place ≡ Some f → found ≡ slice_get (reverse es) place → (e : Placed O) × (found ≡ Some e) × (e.number ≡ f.number)
  edge_there es place f found here is =
      let number : option_map (λ (e : Placed O). e.number) (slice_get (reverse es) place) ≡ Some f.number =
      sym (slice_get-map (λ (e : Placed O). e.number) (reverse es) place) ∙ ap (λ (l : List ℕ). slice_get l place) (sym (numbers_ascend es))
      ∙ slice_get-map (λ (f : Link O). f.number) (ascending es) place ∙ ap (option_map (λ (f : Link O). f.number)) here in
      let got = mapped_some (λ (e : Placed O). e.number) (slice_get (reverse es) place) f.number number in
      (got.0, is ∙ got.1, got.2)

  pub crosses_there : (es : List (Placed O)) → AreEdges es → (place : ℕ) (f : Link O) → slice_get (ascending es) place ≡ Some f → IsCrossing es (crossing false f)
  crosses_there es edges place f here =
      each_got (λ (g : Link O). IsCrossing es (crossing false g)) (ascending es) place f here
      (each_reverse (λ (g : Link O). IsCrossing es (crossing false g)) (forest es)
      (each_more (λ (g : Link O). IsCrossing es (crossing true g) × IsCrossing es (crossing false g)) (λ (g : Link O). IsCrossing es (crossing false g)) (λ g c. c.1) (forest es) (crossings_live es edges)))

  -- a step that was told from the crossing of a live edge tells of it
  told_some : (es : List (Placed O)) (step : Step) (p : Crossing O) (o : Option (Crossing O)) → IsCrossing es p → step_told p ≡ step → IsTold es step o → o ≡ Some p
  told_some es step p (Some q) c tells t = ap (λ (x : Crossing O). Some x) (told_is es step p q c tells t)
  told_some es step p None c tells (inl none) =
      let number : p.number ≡ step.operator = ap (λ (s : Step). s.operator) tells in
      let clash : None ≡ Some c.edge = sym none ∙ ap (λ (n : ℕ). Rattle.version_graph.specs.Edges.edge_of es n) (sym number) ∙ c.live in
      cc
  told_some es step p None c tells (inr none) =
      let number : p.number ≡ step.operator = ap (λ (s : Step). s.operator) tells in
      let clash : None ≡ Some _ = sym none ∙ ap (λ (n : ℕ). Rattle.version_graph.specs.Edges.sources_at es n) (sym number) ∙ c.sources in
      cc

  -- the way over the operator at a place
  pub way_there : (es : List (Placed O)) → AreEdges es → (place : ℕ) (f : Link O) → slice_get (ascending es) place ≡ Some f → (e : Placed O) → Some e ≡ slice_get (reverse es) place → (o : Option (Crossing O)) → IsTold es (record { operator = e.number; backward = false }) o → o ≡ Some (crossing false f)
  way_there es edges place f here e found o t =
      let there = edge_there es place f (Some e) here found in
      let same : e ≡ there.0 = cc in
      let number : f.number ≡ e.number = sym there.2 ∙ ap (λ (x : Placed O). x.number) (sym same) in
      told_some es (record { operator = e.number; backward = false }) (crossing false f) o (crosses_there es edges place f here) (ap (λ (n : ℕ). record { operator = n; backward = false }) number) t

  pub some_there : (es : List (Placed O)) (place : ℕ) (f : Link O) → slice_get (ascending es) place ≡ Some f → None ≡ slice_get (reverse es) place → ⊥
  some_there es place f here none =
      let there = edge_there es place f None here none in
      let clash : None ≡ Some there.0 = there.1 in
      cc
