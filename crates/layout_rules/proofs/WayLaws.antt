-- The two passes of the way to storage reach what they are to reach.
use Rattle.std.specs.Prelude.{◌&&◌, ◌⊎◌}
use Rattle.std.proofs.Common.{◌≡◌, ℕ, zero, suc, List, [], ◌∷◌, ◌++◌, Bool, true, false, not, cond, inl, inr, refl, sym, ◌∙◌, subst}
use Rattle.std.proofs.lemmas.Bool.{and_from, and_parts, cond-true, false≢true}
use Rattle.version_graph.specs.Sets.{In, Within}
use Rattle.version_graph.specs.Edges.{is_in}
use Rattle.version_graph.specs.Forest.{Link, forest}
use Rattle.version_graph.proofs.SetLaws.{in_append, in_left, in_of_test, in_right, is_in_true}
use Rattle.version_graph.proofs.WalkLaws.{IsForest, link_targets, sources_older, targets_apart}
use Rattle.layout_rules.specs.Layouts.{IsMade, IsValid}
use Rattle.layout_rules.specs.Passes.{meet}
use Rattle.layout_rules.specs.Ways.{Reads, ReadsFrom}
use Rattle.layout_rules.specs.inner.Reached.{down_from, up_from}
use Rattle.layout_rules.proofs.LinkLaws.{maker_in, source_made}
use Rattle.layout_rules.proofs.NeededLaws.{meet_at, meet_true}
use Rattle.layout_rules.proofs.LookupLaws.{not_off, not_on}

module _ {O : Type 0} (layout : List ℕ) where
  abbrev ups : Link O → List ℕ → Bool
  ups x ts = not (is_in x.number layout) && meet x.targets ts

  abbrev downs : Link O → List ℕ → Bool
  downs x ts = is_in x.number layout && meet x.sources ts

  -- ---- up

  pub up_more : (es : List (Link O)) (ts : List ℕ) → Within ts (up_from layout es ts)
  up_more [] ts t i = i
  up_more (x ∷ es) ts t i =
      elim (ups x ts) as (λ b. In t (cond b (up_from layout es (ts ++ x.sources)) (up_from layout es ts))) [
        | true ↦ up_more es (ts ++ x.sources) t (in_left t ts x.sources i)
        | false ↦ up_more es ts t i
      ]

  -- what is reached up was there, or is made by an older operator
  up_older : (es : List (Link O)) → IsForest es → (ts : List ℕ) (t : ℕ) → In t (up_from layout es ts) → In t ts ⊎ In t (link_targets es)
  up_older [] forest ts t i = inl i
  up_older (x ∷ es) forest ts t i =
      (elim (ups x ts) as (λ b. In t (cond b (up_from layout es (ts ++ x.sources)) (up_from layout es ts)) → In t ts ⊎ In t (link_targets (x ∷ es))) [
        | true ↦ λ j. elim (up_older es forest.1 (ts ++ x.sources) t j) as (λ _. In t ts ⊎ In t (link_targets (x ∷ es))) [
          | inl k ↦ elim (in_append t ts x.sources k) as (λ _. In t ts ⊎ In t (link_targets (x ∷ es))) [
            | inl l ↦ inl l
            | inr l ↦ inr (in_right t x.targets (link_targets es) (sources_older es x forest.0 t l))
          ]
          | inr k ↦ inr (in_right t x.targets (link_targets es) k)
        ]
        | false ↦ λ j. elim (up_older es forest.1 ts t j) as (λ _. In t ts ⊎ In t (link_targets (x ∷ es))) [ inl k ↦ inl k | inr k ↦ inr (in_right t x.targets (link_targets es) k) ]
      ]) i

  up_first : (x : Link O) (es : List (Link O)) → IsForest (x ∷ es) → (ts : List ℕ) (t u : ℕ) → (In x.number layout → ⊥) → In t x.targets → In u x.sources → (b : Bool) → ups x ts ≡ b
      → In t (cond b (up_from layout es (ts ++ x.sources)) (up_from layout es ts)) → In u (cond b (up_from layout es (ts ++ x.sources)) (up_from layout es ts))
  up_first x es forest ts t u out a c true is i = up_more es (ts ++ x.sources) u (in_right u ts x.sources c)
  up_first x es forest ts t u out a c false is i =
      elim (up_older es forest.1 ts t i) as (λ _. In u (up_from layout es ts)) [
        | inl j ↦ absurd (false≢true (sym is ∙ and_from (not (is_in x.number layout)) (meet x.targets ts) (not_on (is_in x.number layout) (λ h. out (in_of_test x.number layout h))) (meet_true t x.targets ts a j)))
        | inr j ↦ absurd (forest.0.fresh t a j)
      ]

  pub up_closed : (es : List (Link O)) → IsForest es → (ts : List ℕ) (e : Link O) (t u : ℕ) → In e es → (In e.number layout → ⊥) → In t e.targets → In u e.sources → In t (up_from layout es ts) → In u (up_from layout es ts)
  up_closed [] forest ts e t u i out a c j = absurd i
  up_closed (x ∷ es) forest ts e t u (inl same) out a c j =
      up_first x es forest ts t u (λ h. out (subst (λ (y : Link O). In y.number layout) (sym same) h)) (subst (λ (y : Link O). In t y.targets) same a) (subst (λ (y : Link O). In u y.sources) same c) (ups x ts) refl j
  up_closed (x ∷ es) forest ts e t u (inr i) out a c j =
      (elim (ups x ts) as (λ b. In t (cond b (up_from layout es (ts ++ x.sources)) (up_from layout es ts)) → In u (cond b (up_from layout es (ts ++ x.sources)) (up_from layout es ts))) [
        | true ↦ λ k. up_closed es forest.1 (ts ++ x.sources) e t u i out a c k
        | false ↦ λ k. up_closed es forest.1 ts e t u i out a c k
      ]) j

  -- what holds of tables and goes over to sources holds of all that is reached
  pub up_holds : (P : ℕ → Type 0) (es : List (Link O)) → ((e : Link O) (t u : ℕ) → In e es → (In e.number layout → ⊥) → In t e.targets → In u e.sources → P t → P u) → (ts : List ℕ) → ((t : ℕ) → In t ts → P t) → (t : ℕ) → In t (up_from layout es ts) → P t
  up_holds P [] step ts h t i = h t i
  up_holds P (x ∷ es) step ts h t i =
      let later = λ (e : Link O) (t u : ℕ) (j : In e es). step e t u (inr j) in
      (elim (ups x ts) as (λ b. ups x ts ≡ b → In t (cond b (up_from layout es (ts ++ x.sources)) (up_from layout es ts)) → P t) [
        | true ↦ λ is. (
            let p = and_parts (not (is_in x.number layout)) (meet x.targets ts) is in
            let m = meet_at x.targets ts p.1 in
            up_holds P es later (ts ++ x.sources) (λ u j. elim (in_append u ts x.sources j) as (λ _. P u) [
              | inl k ↦ h u k
              | inr k ↦ step x m.0 u (inl refl) (λ has. not_off (is_in x.number layout) p.0 (is_in_true x.number layout has)) m.1 k (h m.0 m.2)
            ]) t)
        | false ↦ λ is. up_holds P es later ts h t
      ]) refl i

  -- ---- down

  pub down_more : (es : List (Link O)) (ts : List ℕ) → Within ts (down_from layout es ts)
  down_more [] ts t i = i
  down_more (x ∷ es) ts t i =
      elim (downs x (down_from layout es ts)) as (λ b. In t (cond b (down_from layout es ts ++ x.targets) (down_from layout es ts))) [
        | true ↦ in_left t (down_from layout es ts) x.targets (down_more es ts t i)
        | false ↦ down_more es ts t i
      ]

  -- what is reached down was there, or is made in the layout
  pub down_made : (es : List (Link O)) (ts : List ℕ) (t : ℕ) → In t (down_from layout es ts) → In t ts ⊎ IsMade es layout t
  down_made [] ts t i = inl i
  down_made (x ∷ es) ts t i =
      let older : In t (down_from layout es ts) → In t ts ⊎ IsMade (x ∷ es) layout t = λ j. elim (down_made es ts t j) as (λ _. In t ts ⊎ IsMade (x ∷ es) layout t) [ inl k ↦ inl k | inr m ↦ inr (m.0, inr m.1, m.2, m.3) ] in
      (elim (downs x (down_from layout es ts)) as (λ b. downs x (down_from layout es ts) ≡ b → In t (cond b (down_from layout es ts ++ x.targets) (down_from layout es ts)) → In t ts ⊎ IsMade (x ∷ es) layout t) [
        | true ↦ λ is j. elim (in_append t (down_from layout es ts) x.targets j) as (λ _. In t ts ⊎ IsMade (x ∷ es) layout t) [
          | inl k ↦ older k
          | inr k ↦ inr (x, inl refl, in_of_test x.number layout (and_parts (is_in x.number layout) (meet x.sources (down_from layout es ts)) is).0, k)
        ]
        | false ↦ λ is j. older j
      ]) refl i

  -- the newest operator adds its own targets alone
  down_last : (x : Link O) (es : List (Link O)) (ts : List ℕ) (t : ℕ) → In t (down_from layout (x ∷ es) ts) → In t (down_from layout es ts) ⊎ In t x.targets
  down_last x es ts t i =
      (elim (downs x (down_from layout es ts)) as (λ b. In t (cond b (down_from layout es ts ++ x.targets) (down_from layout es ts)) → In t (down_from layout es ts) ⊎ In t x.targets) [
        | true ↦ λ j. in_append t (down_from layout es ts) x.targets j
        | false ↦ λ j. inl j
      ]) i

  down_step : (x : Link O) (es : List (Link O)) (ts : List ℕ) → Within (down_from layout es ts) (down_from layout (x ∷ es) ts)
  down_step x es ts t i =
      elim (downs x (down_from layout es ts)) as (λ b. In t (cond b (down_from layout es ts ++ x.targets) (down_from layout es ts))) [ true ↦ in_left t (down_from layout es ts) x.targets i | false ↦ i ]

  pub down_closed : (es : List (Link O)) → IsForest es → (ts : List ℕ) (e : Link O) (t u : ℕ) → In e es → In e.number layout → In t e.sources → In u e.targets → In t (down_from layout es ts) → In u (down_from layout es ts)
  down_closed [] forest ts e t u i has a c j = absurd i
  down_closed (x ∷ es) forest ts e t u (inl same) has a c j =
      let mine = subst (λ (y : Link O). In t y.sources) same a in
      elim (down_last x es ts t j) as (λ _. In u (down_from layout (x ∷ es) ts)) [
        | inl k ↦
            let is = and_from (is_in x.number layout) (meet x.sources (down_from layout es ts)) (is_in_true x.number layout (subst (λ (y : Link O). In y.number layout) same has)) (meet_true t x.sources (down_from layout es ts) mine k) in
            subst (λ (l : List ℕ). In u l) (sym (cond-true (downs x (down_from layout es ts)) (down_from layout es ts ++ x.targets) (down_from layout es ts) is)) (in_right u (down_from layout es ts) x.targets (subst (λ (y : Link O). In u y.targets) same c))
        | inr k ↦ absurd (targets_apart es x forest.0 t k mine)
      ]
  down_closed (x ∷ es) forest ts e t u (inr i) has a c j =
      elim (down_last x es ts t j) as (λ _. In u (down_from layout (x ∷ es) ts)) [
        | inl k ↦ down_step x es ts u (down_closed es forest.1 ts e t u i has a c k)
        | inr k ↦ absurd (forest.0.fresh t k (source_made es e t forest.1 i a))
      ]

  pub down_holds : (P : ℕ → Type 0) (es : List (Link O)) → ((e : Link O) (t u : ℕ) → In e es → In e.number layout → In t e.sources → In u e.targets → P t → P u) → (ts : List ℕ) → ((t : ℕ) → In t ts → P t) → (t : ℕ) → In t (down_from layout es ts) → P t
  down_holds P [] step ts h t i = h t i
  down_holds P (x ∷ es) step ts h t i =
      let older = down_holds P es (λ e t u j. step e t u (inr j)) ts h in
      (elim (downs x (down_from layout es ts)) as (λ b. downs x (down_from layout es ts) ≡ b → In t (cond b (down_from layout es ts ++ x.targets) (down_from layout es ts)) → P t) [
        | true ↦ λ is j. elim (in_append t (down_from layout es ts) x.targets j) as (λ _. P t) [
          | inl k ↦ older t k
          | inr k ↦
              let p = and_parts (is_in x.number layout) (meet x.sources (down_from layout es ts)) is in
              let m = meet_at x.sources (down_from layout es ts) p.1 in
              step x m.0 t (inl refl) (in_of_test x.number layout p.0) m.1 k (older m.0 m.2)
        ]
        | false ↦ λ is j. older t j
      ]) refl i

-- ---- both passes

module _ {O : Type 0} (es : List (Link O)) (forest : IsForest es) (layout : List ℕ) (valid : IsValid es layout) (t : ℕ) where
  abbrev pub reached : List ℕ
  reached = down_from layout es (up_from layout es (t ∷ []))

  -- one table further
  pub reads_on : (k : ℕ) (a b : ℕ) (e : Link O) (c : ℕ) → Reads es layout k a b → In e es → ReadsFrom es layout b e c → Reads es layout (suc k) a c
  reads_on zero a b e c same i from = (e, c, i, subst (λ (x : ℕ). ReadsFrom es layout x e c) (sym same) from, refl)
  reads_on (suc k) a b e c r i from = (r.0, r.1, r.2, r.3, reads_on k r.1 b e c r.4 i from)

  abbrev IsRead : ℕ → Type 0
  IsRead u = (k : ℕ) × Reads es layout k t u

  pub reached_read : (u : ℕ) → In u reached → IsRead u
  reached_read u i =
      down_holds layout IsRead es (λ e a b j has c d r. (suc r.0, reads_on r.0 t a e b r.1 j (inr ((valid.makers e j has a c, c, has), d)))) (up_from layout es (t ∷ []))
      (up_holds layout IsRead es (λ e a b j out c d r. (suc r.0, reads_on r.0 t a e b r.1 j (inl ((c, out), d)))) (t ∷ []) (λ a j. elim j as (λ _. IsRead a) [ inl same ↦ (zero, sym same) | inr none ↦ absurd none ])) u i

  reached_from : (a b : ℕ) (e : Link O) → In e es → ReadsFrom es layout a e b → In a reached → In b reached
  reached_from a b e i (inl up) j =
      elim (down_made layout es (up_from layout es (t ∷ [])) a j) as (λ _. In b reached) [
        | inl k ↦ down_more layout es (up_from layout es (t ∷ [])) b (up_closed layout es forest (t ∷ []) e a b i up.0.1 up.0.0 up.1 k)
        | inr m ↦ absurd (up.0.1 (maker_in es layout e a forest i up.0.0 m))
      ]
  reached_from a b e i (inr down) j = down_closed layout es forest (up_from layout es (t ∷ [])) e a b i down.0.2 down.0.1 down.1 j

  read_reached : (k : ℕ) (a u : ℕ) → Reads es layout k a u → In a reached → In u reached
  read_reached zero a u same i = subst (λ (x : ℕ). In x reached) same i
  read_reached (suc k) a u r i = read_reached k r.1 u r.4 (reached_from a r.1 r.0 r.2 r.3 i)

  pub all_reached : (k u : ℕ) → Reads es layout k t u → In u reached
  all_reached k u r = read_reached k t u r (down_more layout es (up_from layout es (t ∷ [])) t (up_more layout es (t ∷ []) t (inl refl)))
