-- Keys that are added in the order of a table.
use Rattle.std.proofs.Common.{◌≡◌, ℕ, zero, suc, ◌+◌, ◌<◌, ◌≤◌, List, [], ◌∷◌, ◌++◌, length, get_or, sym, subst, arith}
use Rattle.par_base.specs.declared.value.Value.{Value}
use Rattle.row_store.specs.Rows.{Rows, RiseFrom, AreBelow}
use Rattle.key_index.specs.Tables.{AreWithin, key_in, keys_in}

keys_in_rise : (columns : List ℕ) (n : ℕ) (rows : Rows) → RiseFrom n rows → RiseFrom n (keys_in columns rows)
keys_in_rise columns n [] rise = tt
keys_in_rise columns n (r ∷ rs) rise = (rise.0, keys_in_rise columns (r.0 + 1) rs rise.1)

first_least : (n : ℕ) (xs ys : Rows) (r : ℕ × List Value) → RiseFrom n (xs ++ r ∷ ys) → n ≤ r.0
first_least n [] ys r rise = rise.0
first_least n (x ∷ xs) ys r rise = omega (arith, rise.0, first_least (x.0 + 1) xs ys r rise.1)

-- rows in front of another are below it
pub below_first : (n : ℕ) (xs ys : Rows) (r : ℕ × List Value) → RiseFrom n (xs ++ r ∷ ys) → AreBelow xs r.0
below_first n [] ys r rise = tt
below_first n (x ∷ xs) ys r rise = (omega (arith, first_least (x.0 + 1) xs ys r rise.1), below_first (x.0 + 1) xs ys r rise.1)

-- the keys that were made are below the next row
pub below_next : (columns : List ℕ) (made left rest rows : Rows) (row : ℕ × List Value) → RiseFrom 0 rows → made ++ keys_in columns left ≡ keys_in columns rows → left ≡ row ∷ rest → AreBelow made row.0
below_next columns made left rest rows row rise all next =
    let parts : made ++ (row.0, key_in columns row.1) ∷ keys_in columns rest ≡ keys_in columns rows = subst (λ (rs : Rows). made ++ keys_in columns rs ≡ keys_in columns rows) next all in
    below_first 0 made (keys_in columns rest) (row.0, key_in columns row.1) (subst (RiseFrom 0) (sym parts) (keys_in_rise columns 0 rows rise))

pub within_at : (columns : List ℕ) (n k d : ℕ) → AreWithin columns n → k < length columns → get_or columns k d < n
within_at [] n k d within h = absurd (omega arith)
within_at (column ∷ columns) n zero d within h = within.0
within_at (column ∷ columns) n (suc k) d within h = within_at columns n k d within.1 (omega arith)
