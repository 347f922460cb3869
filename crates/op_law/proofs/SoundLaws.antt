-- What is sound stays sound while identifiers are drawn.
use Rattle.std.proofs.Common.{◌≡◌, ℕ, ◌≤◌, ◌==◌, List, [], ◌∷◌, length, Some, subst, arith}
use Rattle.std.proofs.lemmas.Bool.{eqb-true}
use Rattle.par_base.specs.declared.value.Value.{Value}
use Rattle.par_base.specs.declared.value.Value.TheVariants.{Null, Int, Text, Reference}
use Rattle.row_store.specs.Rows.{Rows, AreBelow, row_of}
use Rattle.id_memory.specs.Pairs.{Pairs}
use Rattle.op_law.specs.Tables.{Tables, RowsWide}
use Rattle.op_law.specs.Sound.{IsBelow, ValueSound, ValuesSound, RowsSound, TablesSound, PairsSound}
use Rattle.op_law.proofs.OnlyLaws.{by_test}

pub below_more : (n k : ℕ) → n ≤ k → (id : ℕ) → IsBelow n id → IsBelow k id
below_more n k h id b = (b.0, omega arith)

pub value_more : (n k : ℕ) → n ≤ k → (v : Value) → ValueSound n v → ValueSound k v
value_more n k h Null b = tt
value_more n k h (Int number) b = b
value_more n k h (Text text) b = b
value_more n k h (Reference id) b = below_more n k h id b

pub values_more : (n k : ℕ) → n ≤ k → (vs : List Value) → ValuesSound n vs → ValuesSound k vs
values_more n k h [] b = tt
values_more n k h (v ∷ vs) b = (value_more n k h v b.0, values_more n k h vs b.1)

pub rows_more : (n k : ℕ) → n ≤ k → (rs : Rows) → RowsSound n rs → RowsSound k rs
rows_more n k h [] b = tt
rows_more n k h (r ∷ rs) b = ((below_more n k h r.0 b.0.0, values_more n k h r.1 b.0.1), rows_more n k h rs b.1)

pub tables_more : (n k : ℕ) → n ≤ k → (ts : Tables) → TablesSound n ts → TablesSound k ts
tables_more n k h [] b = tt
tables_more n k h (t ∷ ts) b = (rows_more n k h t b.0, tables_more n k h ts b.1)

pub pairs_more : (n k : ℕ) → n ≤ k → (es : Pairs) → PairsSound n es → PairsSound k es
pairs_more n k h [] b = tt
pairs_more n k h (e ∷ es) b = ((below_more n k h e.0 b.0.0, omega arith, omega arith), pairs_more n k h es b.1)

-- ---- rows of sound tables

-- sound rows are below the next identifier
pub below_sound : (n : ℕ) (rows : Rows) → RowsSound n rows → AreBelow rows n
below_sound n [] sound = tt
below_sound n (r ∷ rs) sound = (sound.0.0.1, below_sound n rs sound.1)

-- a row of a table may stand where the table may
pub sound_at : (n : ℕ) (rows : Rows) (id : ℕ) (row : List Value) → RowsSound n rows → row_of rows id ≡ Some row → IsBelow n id × ValuesSound n row
sound_at n [] id row sound at = absurd (cc)
sound_at n (r ∷ rs) id row sound at =
    by_test (r.0 == id)
    (λ e.
    let some : Some r.1 ≡ Some row = rw e at at in
    let is : r.1 ≡ row = cc in
    (subst (λ (i : ℕ). IsBelow n i) (eqb-true r.0 id e) sound.0.0, subst (λ (z : List Value). ValuesSound n z) is sound.0.1))
    (λ e. let at2 : row_of rs id ≡ Some row = rw e at at in sound_at n rs id row sound.1 at2)

-- and has as many values as each row of the table
pub wide_at : (w : ℕ) (rows : Rows) (id : ℕ) (row : List Value) → RowsWide w rows → row_of rows id ≡ Some row → length row ≡ w
wide_at w [] id row wide at = absurd (cc)
wide_at w (r ∷ rs) id row wide at =
    by_test (r.0 == id)
    (λ e. let some : Some r.1 ≡ Some row = rw e at at in let is : r.1 ≡ row = cc in subst (λ (z : List Value). length z ≡ w) is wide.0)
    (λ e. let at2 : row_of rs id ≡ Some row = rw e at at in wide_at w rs id row wide.1 at2)
