-- The rows of each identifier, one after another.
use Rattle.std.specs.Prelude.{◌<◌, ◌≤◌}
use Rattle.std.proofs.Common.{◌≡◌, ℕ, zero, suc, ◌+◌, [], ◌∷◌, ◌++◌, inl, inr, refl, sym, ap, ◌∙◌, arith}
use Rattle.std.proofs.lemmas.Bool.{cases_eq}
use Rattle.std.proofs.lemmas.List.{append-nil}
use Rattle.row_store.specs.Rows.{AreBelow, RiseFrom, Rows}
use Rattle.row_store.specs.inner.FoundRows.{below_more, rise_more}
use Rattle.op_law.specs.Local.{rows_only}
use Rattle.op_law.specs.Sound.{RowsSound}
use Rattle.op_law.specs.Tables.{RowsWide}
use Rattle.db_state.proofs.PartLaws.{rows_twice}
use Rattle.db_check.proofs.OnlyLemmas.{below_just, just, none_other, only_append, rise_just, sound_only, wide_only}

rise_append : (a b : ℕ) (xs ys : Rows) → a ≤ b → RiseFrom a xs → AreBelow xs b → RiseFrom b ys → RiseFrom a (xs ++ ys)
rise_append a b [] ys h rise below more = rise_more a b ys h more
rise_append a b (r ∷ rs) ys h rise below more = (rise.0, rise_append (r.0 + 1) b rs ys (omega (arith, below.0)) rise.1 below.1 more)

below_append : (n : ℕ) (xs ys : Rows) → AreBelow xs n → AreBelow ys n → AreBelow (xs ++ ys) n
below_append n [] ys below more = more
below_append n (r ∷ rs) ys below more = (below.0, below_append n rs ys below.1 more)

wide_append : (w : ℕ) (xs ys : Rows) → RowsWide w xs → RowsWide w ys → RowsWide w (xs ++ ys)
wide_append w [] ys wide more = more
wide_append w (r ∷ rs) ys wide more = (wide.0, wide_append w rs ys wide.1 more)

sound_append : (n : ℕ) (xs ys : Rows) → RowsSound n xs → RowsSound n ys → RowsSound n (xs ++ ys)
sound_append n [] ys sound more = more
sound_append n (r ∷ rs) ys sound more = (sound.0, sound_append n rs ys sound.1 more)

-- a table for each identifier
module _ (g : ℕ → Rows) where
  -- of each identifier below n the rows that its own table has of it
  abbrev pub gather : ℕ → Rows
  gather zero = []
  gather (suc n) = gather n ++ rows_only (just n) (g n)

  pub gather_above : (n id : ℕ) → n ≤ id → rows_only (just id) (gather n) ≡ []
  gather_above zero id h = refl
  gather_above (suc n) id h =
      only_append (just id) (gather n) (rows_only (just n) (g n))
      ∙ ap (λ (l : Rows). l ++ rows_only (just id) (rows_only (just n) (g n))) (gather_above n id (omega (arith, h)))
      ∙ none_other id n (λ same. omega (arith, same, h)) (g n)

  pub gather_below : (n id : ℕ) → id < n → rows_only (just id) (gather n) ≡ rows_only (just id) (g id)
  gather_below zero id h = absurd (omega (arith, h))
  gather_below (suc n) id h =
      only_append (just id) (gather n) (rows_only (just n) (g n))
      ∙ elim (cases_eq id n) as (λ _. rows_only (just id) (gather n) ++ rows_only (just id) (rows_only (just n) (g n)) ≡ rows_only (just id) (g id)) [
        | inl same ↦
            ap (λ (l : Rows). l ++ rows_only (just id) (rows_only (just n) (g n))) (gather_above n id (omega (arith, same)))
            ∙ ap (λ (k : ℕ). rows_only (just id) (rows_only (just k) (g k))) (sym same) ∙ rows_twice (just id) (g id)
        | inr other ↦
            ap (λ (l : Rows). rows_only (just id) (gather n) ++ l) (none_other id n other (g n))
            ∙ append-nil (rows_only (just id) (gather n)) ∙ gather_below n id (omega (arith, other, h))
      ]

  pub gather_rises : ((id : ℕ) → RiseFrom 0 (g id)) → (n : ℕ) → RiseFrom 0 (gather n) × AreBelow (gather n) n
  gather_rises rise zero = (tt, tt)
  gather_rises rise (suc n) =
      let before = gather_rises rise n in (
        rise_append 0 n (gather n) (rows_only (just n) (g n)) (omega arith) before.0 before.1 (rise_just n 0 (g n) (rise n)),
        below_append (suc n) (gather n) (rows_only (just n) (g n)) (below_more (gather n) n (suc n) (omega arith) before.1) (below_just n (g n)),
      )

  pub gather_wide : (w : ℕ) → ((id : ℕ) → RowsWide w (g id)) → (n : ℕ) → RowsWide w (gather n)
  gather_wide w wide zero = tt
  gather_wide w wide (suc n) = wide_append w (gather n) (rows_only (just n) (g n)) (gather_wide w wide n) (wide_only (just n) w (g n) (wide n))

  pub gather_sound : (k : ℕ) → ((id : ℕ) → RowsSound k (g id)) → (n : ℕ) → RowsSound k (gather n)
  gather_sound k sound zero = tt
  gather_sound k sound (suc n) = sound_append k (gather n) (rows_only (just n) (g n)) (gather_sound k sound n) (sound_only (just n) k (g n) (sound n))

  pub gather_none : ((id : ℕ) → g id ≡ []) → (n : ℕ) → gather n ≡ []
  gather_none none zero = refl
  gather_none none (suc n) = let before = gather_none none n in let here = ap (rows_only (just n)) (none n) in cc
