-- What evolutions and drops leave is finished; and what a drop takes.
use Rattle.std.proofs.Common.{◌≡◌, ℕ, suc, ◌+◌, ◌≤◌, List, [], ◌∷◌, ◌++◌, Bool, true, false, cond, refl, sym, ap, ◌∙◌, subst, length, arith, inl, inr}
use Rattle.std.specs.Prelude.{◌==◌, ◌⊎◌}
use Rattle.std.proofs.lemmas.Bool.{cond-false, eq-eqb, eqb-true, ne_eqb}
use Rattle.std.proofs.lemmas.List.{map-append}
use Rattle.version_graph.specs.Sets.{In, Each}
use Rattle.version_graph.specs.Tables.{TableVersion}
use Rattle.version_graph.specs.Edges.{AreEdges, Drawn, IsGraph, is_in, numbers, set_after, version_sets, working}
use Rattle.version_graph.specs.Evolve.{evolved, grown, placed_next}
use Rattle.version_graph.specs.Dropped.{doomed, dropped, other_versions, staying}
use Rattle.version_graph.specs.Finished.{HasBelow, IsFinished, way}
use Rattle.version_graph.specs.declared.parts.Edge.{Edge}
use Rattle.version_graph.specs.declared.parts.Placed.{Placed}
use Rattle.version_graph.proofs.SetLaws.{each_at, each_more, each_of, in_left, in_of_test, in_right, is_in_true}
use Rattle.version_graph.proofs.StayLaws.{edges_stay, fewer_numbers, working_stays}
use Rattle.version_graph.proofs.FinishLemmas.{from_parent, more_below, newest_below, newest_way, not_older, older_way, way_from, way_step}

-- ---- evolutions

module _ {O : Type 0} where
  -- a further edge has all that the one before it stands on above it
  way_kept : (es : List (Placed O)) (o t : ℕ) (edges : List (Edge O)) (n : ℕ) → In n (way es o) → In n (way (grown es o o t edges) (o + length edges))
  way_kept es o t [] n i = subst (λ (k : ℕ). In n (way es k)) (let e : o ≡ o + 0 = omega arith in e) i
  way_kept es o t (e ∷ edges) n i =
      let new = placed_next o o t e in
      let here = subst (λ (l : List ℕ). In n l) (sym (newest_way new es)) (inr i) in
      let same : o + 1 + length edges ≡ o + suc (length edges) = omega arith in
      subst (λ (k : ℕ). In n (way (grown es o o t (e ∷ edges)) k)) same (way_kept (new ∷ es) (o + 1) (t + length e.targets) edges n here)

  -- an operator is an old one, or the last new one has it above it
  old_or_above : (es : List (Placed O)) (p o t : ℕ) (edges : List (Edge O)) (n : ℕ) → In n (numbers (grown es p o t edges)) → In n (numbers es) ⊎ In n (way (grown es p o t edges) (o + length edges))
  old_or_above es p o t [] n i = inl i
  old_or_above es p o t (e ∷ edges) n i =
      let new = placed_next p o t e in
      let all = grown es p o t (e ∷ edges) in
      let same : o + 1 + length edges ≡ o + suc (length edges) = omega arith in
      elim (old_or_above (new ∷ es) (o + 1) (o + 1) (t + length e.targets) edges n i) as (λ _. In n (numbers es) ⊎ In n (way all (o + suc (length edges)))) [
        | inl j ↦ elim j as (λ _. In n (numbers es) ⊎ In n (way all (o + suc (length edges)))) [
          | inl is ↦ inr (subst (λ (k : ℕ). In n (way all k)) same (way_kept (new ∷ es) (o + 1) (t + length e.targets) edges n (subst (λ (l : List ℕ). In n l) (sym (newest_way new es)) (inl is))))
          | inr k ↦ inl k
        ]
        | inr k ↦ inr (subst (λ (m : ℕ). In n (way all m)) same k)
      ]

  -- new edges leave the ways from old working sets
  old_way : (es : List (Placed O)) (p o t : ℕ) (edges : List (Edge O)) (w : ℕ) → w ≤ o → way (grown es p o t edges) w ≡ way es w
  old_way es p o t [] w less = refl
  old_way es p o t (e ∷ edges) w less =
      let new = placed_next p o t e in
      old_way (new ∷ es) (o + 1) (o + 1) (t + length e.targets) edges w (omega arith) ∙ older_way new es w (λ same. omega arith)

  -- AN EVOLUTION OF A FINISHED GRAPH LEAVES ONE
  pub evolved_finished : (g : Drawn O) (name : List ℕ) (w : ℕ) (edges : List (Edge O)) → IsGraph g → IsFinished g → IsFinished (evolved g name w edges)
  evolved_finished g name w edges graph finished =
      let all = grown g.edges w g.last_operator g.last_table edges in
      let last = g.last_operator + length edges in
      let old = version_sets g.versions in
      let sets = map-append (λ (v : List ℕ × ℕ). v.1) g.versions ((name, last) ∷ []) in
      subst (λ (l : List ℕ). Each (HasBelow all l) (numbers all)) (sym sets)
      (each_of (HasBelow all (old ++ last ∷ [])) (numbers all) (λ n i.
      elim (old_or_above g.edges w g.last_operator g.last_table edges n i) as (λ _. HasBelow all (old ++ last ∷ []) n) [
        | inl j ↦
            let h = each_at (HasBelow g.edges old) (numbers g.edges) n j finished in
            let less = each_at (λ k. k ≤ g.last_operator) (numbers g.edges) h.0 (way_from g.edges h.0 n h.2) graph.operators in
            (h.0, in_left h.0 old (last ∷ []) h.1, subst (λ (l : List ℕ). In n l) (sym (old_way g.edges w g.last_operator g.last_table edges h.0 less)) h.2)
        | inr k ↦ (last, in_right last old (last ∷ []) (inl refl), k)
      ]))

  -- ---- drops

  staying_below : (es : List (Placed O)) (sets : List ℕ) → AreEdges es → Each (HasBelow (staying sets es) sets) (numbers (staying sets es))
  staying_below [] sets edges = tt
  staying_below (e ∷ es) sets edges =
      let kept = staying (e.parent ∷ sets) es in
      (elim (is_in e.number sets) as (λ c. is_in e.number sets ≡ c → AreEdges (cond c (e ∷ kept) (staying sets es)) → Each (HasBelow (cond c (e ∷ kept) (staying sets es)) sets) (numbers (cond c (e ∷ kept) (staying sets es)))) [
        | true ↦ λ is stay.
            let i = in_of_test e.number sets is in
            (newest_below e kept sets i, each_more (HasBelow kept (e.parent ∷ sets)) (HasBelow (e ∷ kept) sets) (λ n h. from_parent e kept sets n stay i h) (numbers kept) (staying_below es (e.parent ∷ sets) edges.1))
        | false ↦ λ is stay. staying_below es sets edges.1
      ]) refl (edges_stay (e ∷ es) sets edges)

  -- A DROP LEAVES A FINISHED GRAPH
  pub dropped_finished : (g : Drawn O) (name : List ℕ) → IsGraph g → IsFinished (dropped g name)
  dropped_finished g name graph = staying_below g.edges (version_sets (other_versions g.versions name)) graph.edges

  -- ---- what stays is what has a name at or below it

  pub stays_below : (es : List (Placed O)) (sets : List ℕ) (n : ℕ) → AreEdges es → In n (numbers (staying sets es)) → HasBelow es sets n
  stays_below [] sets n edges i = absurd i
  stays_below (e ∷ es) sets n edges i =
      (elim (is_in e.number sets) as (λ c. is_in e.number sets ≡ c → In n (numbers (cond c (e ∷ staying (e.parent ∷ sets) es) (staying sets es))) → HasBelow (e ∷ es) sets n) [
        | true ↦ λ is j.
            let kept = in_of_test e.number sets is in
            elim j as (λ _. HasBelow (e ∷ es) sets n) [
              | inl same ↦ subst (λ (k : ℕ). HasBelow (e ∷ es) sets k) (sym same) (newest_below e es sets kept)
              | inr k ↦ from_parent e es sets n edges kept (stays_below es (e.parent ∷ sets) n edges.1 k)
            ]
        | false ↦ λ is j. more_below e es sets n edges (stays_below es sets n edges.1 j)
      ]) refl i

  pub below_stays : (es : List (Placed O)) (sets : List ℕ) (n : ℕ) → HasBelow es sets n → In n (numbers (staying sets es))
  below_stays [] sets n h = h.2
  below_stays (e ∷ es) sets n h =
      let w = h.0 in
      let kept = e ∷ staying (e.parent ∷ sets) es in
      (elim (w == e.number) as (λ b. (w == e.number) ≡ b → In n (cond b (e.number ∷ way es e.parent) (way es w)) → In n (numbers (cond (is_in e.number sets) kept (staying sets es)))) [
        | true ↦ λ same i.
            let test = is_in_true e.number sets (subst (λ (k : ℕ). In k sets) (eqb-true w e.number same) h.1) in
            subst (λ (c : Bool). In n (numbers (cond c kept (staying sets es)))) (sym test)
            (elim i as (λ _. In n (e.number ∷ numbers (staying (e.parent ∷ sets) es))) [ inl is ↦ inl is | inr j ↦ inr (below_stays es (e.parent ∷ sets) n (e.parent, inl refl, j)) ])
        | false ↦ λ other i.
            elim (is_in e.number sets) as (λ c. In n (numbers (cond c kept (staying sets es)))) [
              | true ↦ inr (below_stays es (e.parent ∷ sets) n (w, inr h.1, i))
              | false ↦ below_stays es sets n (w, h.1, i)
            ]
      ]) refl (subst (λ (l : List ℕ). In n l) (way_step e es w) h.2)

  -- EACH WORKING SET THAT STAYS IS AS IT WAS
  pub sets_stay : (es : List (Placed O)) (sets : List ℕ) → AreEdges es → (w : ℕ) → In w (numbers (staying sets es)) → working (staying sets es) w ≡ working es w
  sets_stay [] sets edges w i = refl
  sets_stay (e ∷ es) sets edges w i =
      let kept = staying (e.parent ∷ sets) es in
      (elim (is_in e.number sets) as (λ c. In w (numbers (cond c (e ∷ kept) (staying sets es))) → working (cond c (e ∷ kept) (staying sets es)) w ≡ cond (w == e.number) (set_after (working es e.parent) e) (working es w)) [
        | true ↦ λ j. (elim (w == e.number) as (λ b. (w == e.number) ≡ b → cond b (set_after (working kept e.parent) e) (working kept w) ≡ cond b (set_after (working es e.parent) e) (working es w)) [
          | true ↦ λ is. ap (λ (s : List TableVersion). set_after s e) (working_stays es e.parent (e.parent ∷ sets) (inl refl))
          | false ↦ λ other. elim j as (λ _. working kept w ≡ working es w) [
            | inl same ↦
                let clash : true ≡ false = sym (eq-eqb w e.number same) ∙ other in
                cc
            | inr k ↦ sets_stay es (e.parent ∷ sets) edges.1 w k
          ]
        ]) refl
        | false ↦ λ j.
            let other = ne_eqb w e.number (λ same. not_older e es edges (subst (λ (k : ℕ). In k (numbers es)) same (fewer_numbers es sets w j))) in
            sets_stay es sets edges.1 w j ∙ sym (cond-false (w == e.number) (set_after (working es e.parent) e) (working es w) other)
      ]) i

  -- ---- what is taken is what doesn't stay

  pub taken_goes : (es : List (Placed O)) (sets : List ℕ) (n : ℕ) → AreEdges es → In n (doomed sets es) → In n (numbers es) × (In n (numbers (staying sets es)) → ⊥)
  taken_goes [] sets n edges i = absurd i
  taken_goes (e ∷ es) sets n edges i =
      (elim (is_in e.number sets) as (λ c. In n (cond c (doomed (e.parent ∷ sets) es) (e.number ∷ doomed sets es)) → In n (e.number ∷ numbers es) × (In n (numbers (cond c (e ∷ staying (e.parent ∷ sets) es) (staying sets es))) → ⊥)) [
        | true ↦ λ j.
            let more = taken_goes es (e.parent ∷ sets) n edges.1 j in
            (inr more.0, λ k. elim k as (λ _. ⊥) [ inl same ↦ not_older e es edges (subst (λ (m : ℕ). In m (numbers es)) same more.0) | inr l ↦ more.1 l ])
        | false ↦ λ j. elim j as (λ _. In n (e.number ∷ numbers es) × (In n (numbers (staying sets es)) → ⊥)) [
          | inl same ↦ (inl same, λ k. not_older e es edges (subst (λ (m : ℕ). In m (numbers es)) same (fewer_numbers es sets n k)))
          | inr l ↦ let more = taken_goes es sets n edges.1 l in (inr more.0, more.1)
        ]
      ]) i

  pub goes_taken : (es : List (Placed O)) (sets : List ℕ) (n : ℕ) → In n (numbers es) → (In n (numbers (staying sets es)) → ⊥) → In n (doomed sets es)
  goes_taken [] sets n i out = i
  goes_taken (e ∷ es) sets n i out =
      (elim (is_in e.number sets) as (λ c. (In n (numbers (cond c (e ∷ staying (e.parent ∷ sets) es) (staying sets es))) → ⊥) → In n (cond c (doomed (e.parent ∷ sets) es) (e.number ∷ doomed sets es))) [
        | true ↦ λ gone. elim i as (λ _. In n (doomed (e.parent ∷ sets) es)) [ inl same ↦ absurd (gone (inl same)) | inr j ↦ goes_taken es (e.parent ∷ sets) n j (λ k. gone (inr k)) ]
        | false ↦ λ gone. elim i as (λ _. In n (e.number ∷ doomed sets es)) [ inl same ↦ inl same | inr j ↦ inr (goes_taken es sets n j gone) ]
      ]) out
