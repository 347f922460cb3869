-- One half of the entries while rows are placed: one entry more.
use Rattle.std.proofs.Common.{◌≡◌, ℕ, ◌+◌, ◌<◌, ◌≤◌, ◌==◌, ◌⊎◌, List, [], ◌∷◌, ◌++◌, true, false, ◌&&◌, refl, ap, sym, ◌∙◌, subst, arith}
use mathlib.Core.Logic.{inl, inr}
use Rattle.std.proofs.lemmas.Bool.{eqb-true, eq-eqb, ne_eqb}
use Rattle.par_base.specs.declared.value.Value.{Value}
use Rattle.row_store.specs.Rows.{Rows}
use Rattle.row_store.specs.inner.FoundRows.{below_more}
use Rattle.id_memory.specs.Pairs.{Pairs}
use Rattle.row_parts.specs.RowCells.{by_test}
use Rattle.pair_rows.specs.Given.{Got}
use Rattle.outer_law.specs.Entries.{with_half, with_half_alone}
use Rattle.outer_law.proofs.StillLaws.{above_zero}
use Rattle.outer_law.proofs.SubsetLaws.{two_counted}
use Rattle.outer_law.proofs.HalfLaws.{count_more, count_same, Own, HalfReady, Took}

module _ (pick other : ℕ × ℕ × ℕ → ℕ) where
  module _ (old : Rows) (m kept : Pairs) where
    -- two old entries of one half
    two_own : (p q id : ℕ) → p < q → Own pick m p id → Own pick m q id → 2 ≤ with_half pick id m
    two_own p q id h one two =
        let a = one.half in
        let b = two.half in
        let own = eq-eqb id id refl in
        two_counted (λ e. pick e == id) m p q one.one one.other two.one two.other h one.at two.at (ap (λ (i : ℕ). i == id) a ∙ own) (ap (λ (i : ℕ). i == id) b ∙ own)

    -- the half of a later row is another one, where it is in one old entry only
    other_half : (taken : Pairs) (next p q id got_id : ℕ) → p < q → Own pick m q id → id < next → with_half pick id m ≡ 1 → with_half pick id taken ≡ 0
        → (Own pick m p got_id ⊎ ((1 ≤ with_half pick got_id taken) ⊎ (next ≤ got_id))) → (got_id == id) ≡ false
    other_half taken next p q id got_id h own high once none (inl was) =
        ne_eqb got_id id (λ e.
        let same : Own pick m p id = subst (λ (i : ℕ). Own pick m p i) e was in
        let two = two_own p q id h same own in
        absurd (omega (arith, once, two)))
    other_half taken next p q id got_id h own high once none (inr (inl some)) =
        ne_eqb got_id id (λ e.
        let here : 1 ≤ with_half pick id taken = subst (λ (i : ℕ). 1 ≤ with_half pick i taken) e some in
        absurd (omega (arith, here, none)))
    other_half taken next p q id got_id h own high once none (inr (inr new)) = ne_eqb got_id id (λ e. absurd (omega (arith, e, new, high)))

    -- an entry with both halves
    pub full_step : (rows shared : Rows) (taken : Pairs) (next k later : ℕ) (x : List Value) (g : Got) (more : Rows) (e : ℕ × ℕ × ℕ) → HalfReady pick other old rows shared m kept taken next k → ((p id : ℕ) → Own pick m p id → id < next) → 1 ≤ next
        → Took pick other x rows shared taken (Own pick m e.0) next g more → g.next ≤ later → k ≤ e.0 → pick e ≡ g.id → 1 ≤ other e → HalfReady pick other old g.rows more m kept (taken ++ e ∷ []) later (e.0 + 1)
    full_step rows shared taken next k later x g more e ready olds pos took h above is full =
        let low = took.low in
        let high = took.high in
        let rises = took.rises in
        let test_other : (other e == 0) ≡ false = ne_eqb (other e) 0 (λ q. absurd (omega (arith, q, full))) in
        let same_alone : (id : ℕ) → with_half_alone pick other id (taken ++ e ∷ []) ≡ with_half_alone pick other id taken =
        λ id. count_same (λ e. pick e == id && other e == 0) taken e (by_test (pick e == id) (λ q. rw (q, test_other) refl) (λ q. rw q refl)) in
        let at_least : (id : ℕ) → with_half pick id taken ≤ with_half pick id (taken ++ e ∷ []) =
        λ id. by_test (pick e == id)
        (λ q. let c = count_more (λ e. pick e == id) taken e q in omega (arith, c))
        (λ q. let c = count_same (λ e. pick e == id) taken e q in omega (arith, c)) in
        record {
          rise = took.rise;
          below = below_more g.rows g.next later h took.below;
          keeps = λ id row at. took.keeps id row (ready.keeps id row at);
          found = took.shares;
          common = λ y id at.
              elim (took.new y id at) [
                | inl was ↦
                    let before = ready.common y id was in
                    let a = same_alone id in
                    let b = before.1 in
                    let c = before.2 in
                    let d = at_least id in
                    (before.0, a ∙ b, omega (arith, c, d))
                | inr new ↦
                    let a = same_alone id in
                    let b : with_half_alone pick other id taken ≡ 0 = subst (λ (i : ℕ). with_half_alone pick other i taken ≡ 0) (sym new) took.common in
                    let own = eq-eqb id id refl in
                    let yes : (pick e == id) ≡ true = ap (λ (i : ℕ). i == id) (is ∙ sym new) ∙ own in
                    let c = count_more (λ e. pick e == id) taken e yes in
                    (omega (arith, low, new), a ∙ b, omega (arith, c))
              ];
          none = same_alone 0 ∙ ready.none;
          alone = λ id some.
              let a = same_alone id in
              by_test (pick e == id)
              (λ q.
              let same = sym is ∙ eqb-true (pick e) id q in
              let zero_count : with_half_alone pick other id taken ≡ 0 = subst (λ (i : ℕ). with_half_alone pick other i taken ≡ 0) same took.common in
              absurd (omega (arith, a, some, zero_count)))
              (λ q.
              let c = count_same (λ e. pick e == id) taken e q in
              let before = ready.alone id (omega (arith, a, some)) in
              omega (arith, c, before));
          under = λ id one within.
              let no : (pick e == id) ≡ false = ne_eqb (pick e) id (λ q. absurd (omega (arith, q, is, high, h, within))) in
              count_same (λ e. pick e == id) taken e no ∙ ready.under id one (omega (arith, rises, h, within));
          free = λ p id to absent own one.
              let before = ready.free p id (omega (arith, to, above)) absent own one in (
                same_alone id ∙ before.0,
                λ once.
                    let zero_count = before.1 once in
                    let away = other_half taken next e.0 p id g.id (omega (arith, to)) own (olds p id own) once zero_count took.origin in
                    let no : (pick e == id) ≡ false = ap (λ (i : ℕ). i == id) is ∙ away in
                    count_same (λ e. pick e == id) taken e no ∙ zero_count,
              );
        }

    -- an entry with this half alone
    pub alone_step : (rows shared : Rows) (taken : Pairs) (next k : ℕ) (x : List Value) (g : Got) (e : ℕ × ℕ × ℕ) → HalfReady pick other old rows shared m kept taken next k → ((p id : ℕ) → Own pick m p id → id < next) → 1 ≤ next
        → Took pick other x rows shared taken (λ id. Own pick m e.0 id × (with_half pick id m ≡ 1)) next g shared → with_half pick g.id taken ≡ 0 → k ≤ e.0 → pick e ≡ g.id → other e ≡ 0 → HalfReady pick other old g.rows shared m kept (taken ++ e ∷ []) g.next (e.0 + 1)
    alone_step rows shared taken next k x g e ready olds pos took unused above is lone =
        let low = took.low in
        let high = took.high in
        let rises = took.rises in
        let not_there : (id : ℕ) → 1 ≤ with_half pick id taken → (pick e == id) ≡ false =
        λ id some. ne_eqb (pick e) id (λ q.
        let here : 1 ≤ with_half pick g.id taken = subst (λ (i : ℕ). 1 ≤ with_half pick i taken) (sym q ∙ is) some in
        absurd (omega (arith, here, unused))) in
        let same_half : (id : ℕ) → (pick e == id) ≡ false → with_half pick id (taken ++ e ∷ []) ≡ with_half pick id taken = λ id q. count_same (λ e. pick e == id) taken e q in
        let same_alone : (id : ℕ) → (pick e == id) ≡ false → with_half_alone pick other id (taken ++ e ∷ []) ≡ with_half_alone pick other id taken =
        λ id q. count_same (λ e. pick e == id && other e == 0) taken e (rw q refl) in
        record {
          rise = took.rise;
          below = took.below;
          keeps = λ id row at. took.keeps id row (ready.keeps id row at);
          found = took.shares;
          common = λ y id at.
              let before = ready.common y id at in
              let no = not_there id before.2 in
              let a = same_half id no in
              let b = before.2 in
              (before.0, same_alone id no ∙ before.1, omega (arith, a, b));
          none =
              let no : (pick e == 0) ≡ false = ne_eqb (pick e) 0 (λ q. absurd (omega (arith, q, is, low))) in
              same_alone 0 no ∙ ready.none;
          alone = λ id some.
              by_test (pick e == id)
              (λ q.
              let c = count_more (λ e. pick e == id) taken e q in
              let same = sym is ∙ eqb-true (pick e) id q in
              let zero_count : with_half pick id taken ≡ 0 = subst (λ (i : ℕ). with_half pick i taken ≡ 0) same unused in
              omega (arith, c, zero_count))
              (λ q.
              let a = same_alone id q in
              let c = same_half id q in
              let before = ready.alone id (omega (arith, a, some)) in
              omega (arith, c, before));
          under = λ id one within.
              let no : (pick e == id) ≡ false = ne_eqb (pick e) id (λ q. absurd (omega (arith, q, is, high, within))) in
              same_half id no ∙ ready.under id one (omega (arith, rises, within));
          free = λ p id to absent own one.
              let before = ready.free p id (omega (arith, to, above)) absent own one in
              let under = olds p id own in
              let away : (g.id == id) ≡ false =
              elim took.origin [
                | inl was ↦ ne_eqb g.id id (λ q.
                    let same : Own pick m e.0 id = subst (λ (i : ℕ). Own pick m e.0 i) q was.0 in
                    let once : with_half pick id m ≡ 1 = subst (λ (i : ℕ). with_half pick i m ≡ 1) q was.1 in
                    let two = two_own e.0 p id (omega (arith, to)) same own in
                    absurd (omega (arith, once, two)))
                | inr (inl some) ↦ absurd (omega (arith, some, unused))
                | inr (inr new) ↦ ne_eqb g.id id (λ q. absurd (omega (arith, q, new, under)))
              ] in
              let no : (pick e == id) ≡ false = ap (λ (i : ℕ). i == id) is ∙ away in
              (same_alone id no ∙ before.0, λ once. same_half id no ∙ before.1 once);
        }

    -- an entry in which this half is absent
    pub absent_step : (rows shared : Rows) (taken : Pairs) (next k later : ℕ) (e : ℕ × ℕ × ℕ) → HalfReady pick other old rows shared m kept taken next k → 1 ≤ next → next ≤ later → k ≤ e.0 → pick e ≡ 0 → 1 ≤ other e → HalfReady pick other old rows shared m kept (taken ++ e ∷ []) later (e.0 + 1)
    absent_step rows shared taken next k later e ready pos h above is full =
        let test_other : (other e == 0) ≡ false = ne_eqb (other e) 0 (λ q. absurd (omega (arith, q, full))) in
        let same_alone : (id : ℕ) → with_half_alone pick other id (taken ++ e ∷ []) ≡ with_half_alone pick other id taken =
        λ id. count_same (λ e. pick e == id && other e == 0) taken e (by_test (pick e == id) (λ q. rw (q, test_other) refl) (λ q. rw q refl)) in
        let same_half : (id : ℕ) → 1 ≤ id → with_half pick id (taken ++ e ∷ []) ≡ with_half pick id taken =
        λ id one. count_same (λ e. pick e == id) taken e (ne_eqb (pick e) id (λ q. absurd (omega (arith, q, is, one)))) in
        record {
          rise = ready.rise;
          below = below_more rows next later h ready.below;
          keeps = ready.keeps;
          found = ready.found;
          common = λ y id at.
              let before = ready.common y id at in
              let a = same_half id before.0 in
              let b = before.2 in
              (before.0, same_alone id ∙ before.1, omega (arith, a, b));
          none = same_alone 0 ∙ ready.none;
          alone = λ id some.
              let a = same_alone id in
              by_test (id == 0)
              (λ q.
              let zero_count = ready.none in
              let gone : with_half_alone pick other id taken ≡ 0 = subst (λ (i : ℕ). with_half_alone pick other i taken ≡ 0) (sym (eqb-true id 0 q)) zero_count in
              absurd (omega (arith, a, some, gone)))
              (λ q.
              let one = above_zero id q in
              let c = same_half id one in
              let before = ready.alone id (omega (arith, a, some)) in
              omega (arith, c, before));
          under = λ id one within. same_half id one ∙ ready.under id one (omega (arith, h, within));
          free = λ p id to absent own one.
              let before = ready.free p id (omega (arith, to, above)) absent own one in
              (same_alone id ∙ before.0, λ once. same_half id one ∙ before.1 once);
        }

  -- rows to come are above a greater number, too
  pub ready_later : (old rows shared : Rows) (m kept taken : Pairs) (next k l : ℕ) → k ≤ l → HalfReady pick other old rows shared m kept taken next k → HalfReady pick other old rows shared m kept taken next l
  ready_later old rows shared m kept taken next k l h ready = record {
    rise = ready.rise;
    below = ready.below;
    keeps = ready.keeps;
    found = ready.found;
    common = ready.common;
    none = ready.none;
    alone = ready.alone;
    under = ready.under;
    free = λ p id to absent own one. ready.free p id (omega (arith, h, to)) absent own one;
  }
