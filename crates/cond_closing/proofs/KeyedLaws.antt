-- The least row with some values, by keys.
use Rattle.std.proofs.Common.{◌≡◌, ℕ, ◌+◌, ◌≤◌, ◌==◌, [], ◌∷◌, List, true, Option, Some, None, ap, sym, ◌∙◌, subst, arith}
use Rattle.std.proofs.lemmas.Bool.{false≢true}
use Rattle.par_base.specs.declared.value.Value.{Value}
use Rattle.par_base.specs.SameRows.{same_row}
use Rattle.par_base.specs.inner.SameLaws.{row_same}
use Rattle.row_store.specs.Rows.{Rows, RiseFrom, row_of}
use Rattle.row_store.specs.inner.FoundRows.{from_at}
use Rattle.op_law.proofs.OnlyLaws.{by_test}
use Rattle.key_index.specs.Found.{IsLeastFrom}
use Rattle.pair_rows.specs.Given.{least}
use Rattle.pair_rows.specs.Getting.{least_found}

-- no row with these values is before it
pub least_low : (n : ℕ) (rows : Rows) (x : List Value) (g id : ℕ) → RiseFrom n rows → least rows x ≡ Some g → row_of rows id ≡ Some x → g ≤ id
least_low n [] x g id rise is at = absurd (cc)
least_low n (r ∷ rs) x g id rise is at =
    by_test (same_row r.1 x)
    (λ yes_it.
    let some : Some r.0 ≡ Some g = rw yes_it at is in
    let number : r.0 ≡ g = cc in
    subst (λ (k : ℕ). k ≤ id) number (from_at r.0 (r ∷ rs) id x (omega arith, rise.1) at))
    (λ no_it.
    by_test (r.0 == id)
    (λ here.
    let some : Some r.1 ≡ Some x = rw here at at in
    let value : r.1 ≡ x = cc in
    let same : same_row r.1 x ≡ true = subst (λ (v : List Value). same_row r.1 v ≡ true) value (row_same r.1) in
    absurd (false≢true (sym no_it ∙ same)))
    (λ other.
    let rest : least rs x ≡ Some g = rw no_it at is in
    let there : row_of rs id ≡ Some x = rw other at at in
    least_low (r.0 + 1) rs x g id rise.1 rest there))

-- and that is what a look-up answers
pub least_is : (rows : Rows) (x : List Value) (g : ℕ) → RiseFrom 0 rows → least rows x ≡ Some g → IsLeastFrom rows x 0 (Some g)
least_is rows x g rise is = (omega arith, least_found 0 rows x g rise is, λ id low at. least_low 0 rows x g id rise is at)

-- a look-up has one answer
pub least_one : (rows : Rows) (key : List Value) (o : Option ℕ) (g : ℕ) → IsLeastFrom rows key 0 o → IsLeastFrom rows key 0 (Some g) → o ≡ Some g
least_one rows key None g none is = absurd (none g is.0 is.1)
least_one rows key (Some w) g one is = let same : w ≡ g = omega (arith, one.2 g is.0 is.1, is.2 w one.0 one.1) in ap Some same
