-- Each pass finds the near tables of its operators right.
use Rattle.std.proofs.Common.{◌≡◌, ℕ, List, [], ◌∷◌, ◌++◌, inl, inr, sym, ap, subst, arith}
use Rattle.std.proofs.lemmas.Bool.{cases_eq}
use Rattle.row_store.specs.Rows.{Rows}
use Rattle.version_graph.specs.Sets.{In}
use Rattle.version_graph.specs.Forest.{Link}
use Rattle.version_graph.proofs.WalkLaws.{IsForest, link_targets}
use Rattle.layout_rules.proofs.LinkLaws.{in_or_out, same_link, source_made, taker_newer, target_link}
use Rattle.storage_law.proofs.OrderLaws.{behind_older, near_in, near_out, older_behind, taken_or}
use Rattle.db_state.specs.Covered.{Covers, CoversItself}
use Rattle.db_state.specs.inner.Passes.{IsDownTo, IsUpTo, Settles}

module _ {O : Type 0} (es : List (Link O)) (forest : IsForest es) (layout ns : List ℕ) (covers : CoversItself es layout ns) (tables : ℕ → Rows) where
  abbrev Right : (ℕ → Rows) → ℕ → Type 0
  Right rows t = rows t ≡ tables t

  -- ---- down

  -- the targets of the next operator down are stored, or taken by a newer one
  pub near_down : (xs : List (Link O)) (e : Link O) (fs : List (Link O)) → es ≡ xs ++ e ∷ fs → (rows : ℕ → Rows) → IsDownTo es layout ns tables (e ∷ fs) rows → In e es → In e.number layout → In e.number ns → (t : ℕ) → In t e.targets → Right rows t
  near_down xs e fs is rows down at has mine t i =
      elim (taken_or es layout t) as (λ _. Right rows t) [
        | inl k ↦
            let less = taker_newer es e k.0 t forest at k.1 i k.3 in
            let out : In k.0 (e ∷ fs) → ⊥ = λ j. elim j as (λ _. ⊥) [
              | inl same ↦ (let n = ap (λ (y : Link O). y.number) same in omega (arith, n, less))
              | inr l ↦ (let older = behind_older xs e fs (subst (λ (l : List (Link O)). IsForest l) is forest) k.0 l in omega (arith, older, less))
            ] in
            down.sources k.0 k.1 out k.2 (covers e at mine t (near_in layout e t has i) k.0 k.1 (inr ((e, at, has, i), k.3, k.2))) t k.3
        | inr none ↦ down.stored t (record { made = (e, at, has, i); free = none })
      ]

  -- the next operator down was passed, where it is to be
  pub down_step : (e : Link O) (fs : List (Link O)) (rows new : ℕ → Rows) (reached : List ℕ) → In e es → IsDownTo es layout ns tables (e ∷ fs) rows → Settles tables reached rows new → (In e.number layout → In e.number ns → reached ≡ e.sources) → IsDownTo es layout ns tables fs new
  down_step e fs rows new reached at down settles passed = record {
    stored = λ t k. settles.kept t (down.stored t k);
    sources = λ f i out has mine t j. elim (cases_eq f.number e.number) as (λ _. Right new t) [
      | inl same ↦ (
          let is : f ≡ e = same_link es f e forest i at same in
          let all = passed (subst (λ (y : Link O). In y.number layout) is has) (subst (λ (y : Link O). In y.number ns) is mine) in
          settles.right t (subst (λ (l : List ℕ). In t l) (sym all) (subst (λ (y : Link O). In t y.sources) is j)))
      | inr other ↦ settles.kept t (down.sources f i (λ k. elim k as (λ _. ⊥) [ inl is ↦ other (ap (λ (y : Link O). y.number) is) | inr l ↦ out l ]) has mine t j)
    ];
  }

  -- ---- up

  -- where no operator is left down, what is made in the layout and covered is right
  pub turned : (rows : ℕ → Rows) → IsDownTo es layout ns tables [] rows → IsUpTo es layout ns tables [] rows
  turned rows down = record {
    made = λ t m c. elim (taken_or es layout t) as (λ _. Right rows t) [
      | inl k ↦ down.sources k.0 k.1 (λ none. none) k.2 (c k.0 k.1 (inr (m, k.3, k.2))) t k.3
      | inr none ↦ down.stored t (record { made = m; free = none })
    ];
    targets = λ f i. absurd i;
  }

  -- the sources of the next operator up are made in the layout, or by an older one
  pub near_up : (xs : List (Link O)) (e : Link O) (fs : List (Link O)) → es ≡ xs ++ e ∷ fs → (rows : ℕ → Rows) → IsUpTo es layout ns tables fs rows → In e es → (In e.number layout → ⊥) → In e.number ns → (t : ℕ) → In t e.sources → Right rows t
  near_up xs e fs is rows up at off mine t i =
      let g = target_link es t (source_made es e t forest at i) in
      let over = covers e at mine t (near_out layout e t off i) in
      elim (in_or_out g.0.number layout) as (λ _. Right rows t) [
        | inl has ↦ up.made t (g.0, g.1, has, g.2) over
        | inr out ↦
            let less = taker_newer es g.0 e t forest g.1 at g.2 i in
            let older = older_behind xs e fs (subst (λ (l : List (Link O)). IsForest l) is forest) g.0 (subst (λ (l : List (Link O)). In g.0 l) is g.1) less in
            up.targets g.0 older out (over g.0 g.1 (inl (g.2, out))) t g.2
      ]

  -- the next operator up was passed, where it is to be
  pub up_step : (e : Link O) (fs : List (Link O)) (rows new : ℕ → Rows) (reached : List ℕ) → IsUpTo es layout ns tables fs rows → Settles tables reached rows new → ((In e.number layout → ⊥) → In e.number ns → reached ≡ e.targets) → IsUpTo es layout ns tables (e ∷ fs) new
  up_step e fs rows new reached up settles passed = record {
    made = λ t m c. settles.kept t (up.made t m c);
    targets = λ f i off mine t j. elim i as (λ _. Right new t) [
      | inl is ↦ (
          let all = passed (subst (λ (y : Link O). In y.number layout → ⊥) is off) (subst (λ (y : Link O). In y.number ns) is mine) in
          settles.right t (subst (λ (l : List ℕ). In t l) (sym all) (subst (λ (y : Link O). In t y.targets) is j)))
      | inr k ↦ settles.kept t (up.targets f k off mine t j)
    ];
  }

-- at the end each covered table is right
pub all_right : {O : Type 0} (es : List (Link O)) (layout ns : List ℕ) (tables rows : ℕ → Rows) → IsUpTo es layout ns tables es rows → (t : ℕ) → In t (link_targets es) → Covers es layout ns t → rows t ≡ tables t
all_right es layout ns tables rows up t i c =
    let g = target_link es t i in
    elim (in_or_out g.0.number layout) as (λ _. rows t ≡ tables t) [
      | inl has ↦ up.made t (g.0, g.1, has, g.2) c
      | inr out ↦ up.targets g.0 g.1 out (c g.0 g.1 (inl (g.2, out))) t g.2
    ]
