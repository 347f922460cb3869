-- What INSERT, UPDATE and DELETE leave at an identifier.
use Rattle.std.specs.Prelude.{nat_lt, slice_get}
use Rattle.std.specs.Option.{option_map, option_and_then}
use Rattle.std.proofs.Common.{◌≡◌, ◌∙◌, ℕ, zero, suc, ◌+◌, ◌-◌, ◌==◌, List, [], ◌∷◌, Bool, true, false, not, if◌then◌else◌, cond, Option, Some, None, refl, ap, arith}
use Rattle.std.proofs.lemmas.Bool.Decides.{nat_tests}
use Rattle.std.proofs.lemmas.Bool.{cases_order}
use mathlib.Core.Logic.{inl, inr}
use Rattle.par_base.specs.declared.value.Value.{Value}
use Rattle.expr_lang.specs.Terms.{Term}
use Rattle.row_store.specs.Rows.{Rows, RiseFrom, AreBelow, row_of}
use Rattle.row_store.specs.inner.FoundRows.{none_under}
use Rattle.ordinary_table.specs.Shown.{meets}
use Rattle.ordinary_table.specs.Written.{SetTerm, numbered, inserted, updated_row, updated, deleted}
use Rattle.ordinary_table.proofs.KeptLaws.{rises_deleted}

row_of_numbered : (next : ℕ) (new : List (List Value)) (id : ℕ) → row_of (numbered next new) id ≡ (if nat_lt id next then None else slice_get new (id - next))
unfolding numbered
row_of_numbered next [] id =
    let M : Bool → Type 0 = λ b. None ≡ (if b then None else slice_get {X = List Value} [] (id - next)) in
    elim (nat_lt id next) as (λ b. M b) [ true ↦ refl | false ↦ refl ]
row_of_numbered next (row ∷ new) id =
    elim (cases_order next id) [
      | inl e ↦
          let same : (next == id) ≡ true = grind (arith, nat_tests) in
          let high : nat_lt id next ≡ false = grind (arith, nat_tests) in
          let first : id - next ≡ zero = omega arith in
          rw (same, high, first) refl
      | inr (inl h) ↦
          let other : (next == id) ≡ false = grind (arith, nat_tests) in
          let high : nat_lt id next ≡ false = grind (arith, nat_tests) in
          let behind : nat_lt id (next + 1) ≡ false = grind (arith, nat_tests) in
          let further : id - next ≡ suc (id - (next + 1)) = omega arith in
          rw (other, high, further, row_of_numbered (next + 1) new id, behind) refl
      | inr (inr h) ↦
          let other : (next == id) ≡ false = grind (arith, nat_tests) in
          let low : nat_lt id next ≡ true = grind (arith, nat_tests) in
          let before : nat_lt id (next + 1) ≡ true = grind (arith, nat_tests) in
          rw (other, low, row_of_numbered (next + 1) new id, before) refl
    ]

pub row_of_inserted : (rows : Rows) (new : List (List Value)) (next id : ℕ) → AreBelow rows next → row_of (inserted rows new next) id ≡ (if nat_lt id next then row_of rows id else slice_get new (id - next))
row_of_inserted [] new next id below = row_of_numbered next new id
row_of_inserted (r ∷ rs) new next id below =
    let rest = row_of_inserted rs new next id below.1 in
    elim (cases_order r.0 id) [
      | inl e ↦
          let same : (r.0 == id) ≡ true = grind (arith, nat_tests) in
          let low : nat_lt id next ≡ true = grind (arith, nat_tests, below.0) in
          rw (same, low) refl
      | inr (inl h) ↦ let other : (r.0 == id) ≡ false = grind (arith, nat_tests) in rw (other, rest) refl
      | inr (inr h) ↦ let other : (r.0 == id) ≡ false = grind (arith, nat_tests) in rw (other, rest) refl
    ]

pub row_of_updated : (rows : Rows) (sets : List SetTerm) (condition : Option (Term ℕ)) (id : ℕ) → row_of (updated rows sets condition) id ≡ option_map (λ row. updated_row sets condition (id, row)) (row_of rows id)
row_of_updated [] sets condition id = refl
row_of_updated (r ∷ rs) sets condition id =
    elim (cases_order r.0 id) [
      | inl e ↦
          let same : (r.0 == id) ≡ true = grind (arith, nat_tests) in
          rw same (ap (λ (p : ℕ). Some (updated_row sets condition (p, r.1))) e)
      | inr (inl h) ↦ let other : (r.0 == id) ≡ false = grind (arith, nat_tests) in rw other (row_of_updated rs sets condition id)
      | inr (inr h) ↦ let other : (r.0 == id) ≡ false = grind (arith, nat_tests) in rw other (row_of_updated rs sets condition id)
    ]

abbrev kept_at : Option (Term ℕ) → ℕ → List Value → Option (List Value)
kept_at condition id row = if meets condition (id, row) then None else Some row

row_of_cons : (b : Bool) (r : ℕ × List Value) (rs : Rows) (id : ℕ) → (r.0 == id) ≡ false → row_of (cond b (r ∷ rs) rs) id ≡ row_of rs id
row_of_cons true r rs id other = rw other refl
row_of_cons false r rs id other = refl

pub row_of_deleted : (n : ℕ) (rows : Rows) (condition : Option (Term ℕ)) (id : ℕ) → RiseFrom n rows → row_of (deleted rows condition) id ≡ option_and_then (kept_at condition id) (row_of rows id)
row_of_deleted n [] condition id rise = refl
row_of_deleted n (r ∷ rs) condition id rise =
    elim (cases_order r.0 id) [
      | inl e ↦
          let same : (r.0 == id) ≡ true = grind (arith, nat_tests) in
          let gone : row_of (deleted rs condition) id ≡ None = none_under (r.0 + 1) (deleted rs condition) id (rises_deleted (r.0 + 1) rs condition rise.1) (omega arith) in
          let M : Bool → Type 0 = λ b. row_of (cond (not b) (r ∷ deleted rs condition) (deleted rs condition)) id ≡ (if b then None else Some r.1) in
          let own : M (meets condition r) = elim (meets condition r) as (λ b. M b) [ true ↦ gone | false ↦ rw same refl ] in
          rw same (own ∙ ap (λ (p : ℕ). kept_at condition p r.1) e)
      | inr (inl h) ↦
          let other : (r.0 == id) ≡ false = grind (arith, nat_tests) in
          row_of_cons (not (meets condition r)) r (deleted rs condition) id other ∙ rw other (row_of_deleted (r.0 + 1) rs condition id rise.1)
      | inr (inr h) ↦
          let other : (r.0 == id) ≡ false = grind (arith, nat_tests) in
          row_of_cons (not (meets condition r)) r (deleted rs condition) id other ∙ rw other (row_of_deleted (r.0 + 1) rs condition id rise.1)
    ]
