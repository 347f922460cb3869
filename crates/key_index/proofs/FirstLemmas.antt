-- The least identifier with a key is that of the first row with it.
use Rattle.std.proofs.Common.{◌≡◌, ℕ, ◌+◌, ◌==◌, List, [], ◌∷◌, Bool, true, false, true≢false, cond, Option, Some, None, refl, ap, sym, ◌∙◌, subst, arith}
use Rattle.par_base.specs.declared.value.Value.{Value}
use Rattle.par_base.specs.SameRows.{same_row}
use Rattle.par_base.specs.inner.SameLaws.{row_equal, row_same}
use Rattle.row_store.specs.Rows.{Rows, RiseFrom, row_of}
use Rattle.row_store.specs.inner.FoundRows.{own_row, from_at, later}
use Rattle.key_index.specs.Found.{IsLeastFrom, first_with}

module _ (key : List Value) where
  -- what is found behind a row that hasn't the key
  behind_at : (b : Bool) (n l : ℕ) (r : ℕ × List Value) (rs : Rows) → (r.0 == l) ≡ b → RiseFrom n (r ∷ rs) → same_row r.1 key ≡ false → IsLeastFrom (r ∷ rs) key n (Some l) → IsLeastFrom rs key (r.0 + 1) (Some l)
  behind_at true n l r rs own rise other is =
      let here : Some r.1 ≡ Some key = rw own at is.1 in
      let value : r.1 ≡ key = cc in
      let same : same_row r.1 key ≡ true = subst (λ (x : List Value). same_row r.1 x ≡ true) value (row_same r.1) in
      absurd (true≢false (sym same ∙ other))
  behind_at false n l r rs apart rise other is =
      let there : row_of rs l ≡ Some key = rw apart at is.1 in
      (from_at (r.0 + 1) rs l key rise.1 there, there, λ id low at. is.2 id (omega (arith, low, rise.0)) (later r rs id key rise.1 at))

  behind : (n : ℕ) (r : ℕ × List Value) (rs : Rows) (found : Option ℕ) → RiseFrom n (r ∷ rs) → same_row r.1 key ≡ false → IsLeastFrom (r ∷ rs) key n found → IsLeastFrom rs key (r.0 + 1) found
  behind n r rs None rise other none = λ id low at. none id (omega (arith, low, rise.0)) (later r rs id key rise.1 at)
  behind n r rs (Some l) rise other is = behind_at (r.0 == l) n l r rs refl rise other is

  -- where the first row has the key, it is found
  here : (n : ℕ) (r : ℕ × List Value) (rs : Rows) (found : Option ℕ) → RiseFrom n (r ∷ rs) → same_row r.1 key ≡ true → IsLeastFrom (r ∷ rs) key n found → found ≡ Some r.0
  here n r rs None rise same none = absurd (none r.0 rise.0 (own_row r rs ∙ ap Some (row_equal r.1 key same)))
  here n r rs (Some l) rise same is =
      let low = is.2 r.0 rise.0 (own_row r rs ∙ ap Some (row_equal r.1 key same)) in
      let high = from_at r.0 (r ∷ rs) l key (omega arith, rise.1) is.1 in
      let at : l ≡ r.0 = omega (arith, low, high) in
      ap Some at

  first_by : (b : Bool) (n : ℕ) (r : ℕ × List Value) (rs : Rows) (found : Option ℕ) → same_row r.1 key ≡ b → RiseFrom n (r ∷ rs) → IsLeastFrom (r ∷ rs) key n found → (IsLeastFrom rs key (r.0 + 1) found → found ≡ first_with rs key) → found ≡ cond b (Some r.0) (first_with rs key)
  first_by true n r rs found same rise is rest = here n r rs found rise same is
  first_by false n r rs found other rise is rest = rest (behind n r rs found rise other is)

  pub first_is_least : (n : ℕ) (rows : Rows) (found : Option ℕ) → RiseFrom n rows → IsLeastFrom rows key n found → found ≡ first_with rows key
  first_is_least n [] None rise is = refl
  first_is_least n [] (Some l) rise is = let there : None ≡ Some key = is.1 in absurd (cc)
  first_is_least n (r ∷ rs) found rise is = first_by (same_row r.1 key) n r rs found refl rise is (first_is_least (r.0 + 1) rs found rise.1)
