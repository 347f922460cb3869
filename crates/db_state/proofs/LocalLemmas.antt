-- Operators that treat each identifier by itself, one after another.
use Rattle.std.specs.Prelude.{◌<◌, ◌==◌}
use Rattle.std.proofs.Common.{◌≡◌, ℕ, ◌+◌, List, [], ◌∷◌, true, false, length, take, get_or, Some, None, inl, inr, refl, sym, ap, ◌∙◌, subst}
use Rattle.std.proofs.lemmas.Bool.{eqb-true}
use Rattle.std.proofs.lemmas.List.{take_more}
use Rattle.version_graph.specs.Sets.{In}
use Rattle.version_graph.specs.Edges.{AreEdges, edge_of}
use Rattle.version_graph.specs.Forest.{Link, forest, link}
use Rattle.version_graph.specs.declared.parts.Placed.{Placed}
use Rattle.version_graph.proofs.SetLaws.{in_append}
use Rattle.version_graph.proofs.TakenLaws.{found_passes}
use Rattle.op_law.specs.Meaning.{Meaning}
use Rattle.version_model.proofs.ToldLaws.{some_is}
use Rattle.db_state.specs.Parts.{AreLocalAt}
use Rattle.db_state.proofs.FoundLaws.{crosses}

module _ {O : Type 0} (meaning : O → Meaning) (es : List (Placed O)) where
  -- what a number's edge says holds of the live operator of that number
  pub local_there : AreEdges es → (n : ℕ) (x : Placed O) → Some x ≡ edge_of es n → (meaning x.edge.operator).is_local ≡ true → (e : Link O) → In e (forest es) → e.number ≡ n → (meaning e.operator).is_local ≡ true
  local_there edges n x found local e at number =
      let c = crosses es edges e at false in
      let same : x ≡ c.edge = some_is x c.edge (found ∙ sym (ap (λ (k : ℕ). edge_of es k) number) ∙ c.live) in
      subst (λ (o : O). (meaning o).is_local ≡ true) (ap (λ (y : Placed O). y.edge.operator) same ∙ sym c.operator) local

  -- there is an edge of each live operator
  pub edge_there : AreEdges es → (n : ℕ) → None ≡ edge_of es n → (e : Link O) → In e (forest es) → e.number ≡ n → ⊥
  edge_there edges n none e at number =
      let c = crosses es edges e at false in
      let clash : None ≡ Some c.edge = none ∙ sym (ap (λ (k : ℕ). edge_of es k) number) ∙ c.live in
      (let no : ⊥ = cc in no)

  linked : (fs : List (Placed O)) (x : Placed O) → In x fs → (e : Link O) × In e (forest fs) × (e.number ≡ x.number) × (e.operator ≡ x.edge.operator)
  linked [] x i = absurd i
  linked (f ∷ fs) x (inl same) = (link fs f, inl refl, ap (λ (y : Placed O). y.number) (sym same), ap (λ (y : Placed O). y.edge.operator) (sym same))
  linked (f ∷ fs) x (inr i) = let l = linked fs x i in (l.0, inr l.1, l.2, l.3)

  -- what a number's live operator is, its edge says
  pub there_local : (n : ℕ) (x : Placed O) → Some x ≡ edge_of es n → AreLocalAt meaning es (n ∷ []) → (meaning x.edge.operator).is_local ≡ true
  there_local n x found local =
      let p = found_passes (λ (f : Placed O). n == f.number) es x (sym found) in
      let l = linked es x p.0 in
      let number : l.0.number ≡ n = l.2 ∙ sym (eqb-true n x.number p.1) in
      subst (λ (o : O). (meaning o).is_local ≡ true) l.3 (local l.0 l.1 (inl number))

  -- one of some operators
  pub one_local : (ns : List ℕ) (n : ℕ) → In n ns → AreLocalAt meaning es ns → AreLocalAt meaning es (n ∷ [])
  one_local ns n i all e at (inl same) = all e at (subst (λ (k : ℕ). In k ns) (sym same) i)
  one_local ns n i all e at (inr none) = absurd none

  -- one operator more
  pub local_more : (ns : List ℕ) (i : ℕ) → i < length ns → AreLocalAt meaning es (take i ns) → ((e : Link O) → In e (forest es) → e.number ≡ get_or ns i 0 → (meaning e.operator).is_local ≡ true) → AreLocalAt meaning es (take (i + 1) ns)
  local_more ns i within so_far here e at mine =
      elim (in_append e.number (take i ns) (get_or ns i 0 ∷ []) (subst (λ (l : List ℕ). In e.number l) (take_more ns i 0 within) mine)) as (λ _. (meaning e.operator).is_local ≡ true) [
        | inl k ↦ so_far e at k
        | inr k ↦ elim k as (λ _. (meaning e.operator).is_local ≡ true) [ inl same ↦ here e at same | inr none ↦ absurd none ]
      ]
