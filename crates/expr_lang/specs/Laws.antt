-- What resolving keeps, means and refuses.
use Rattle.std.specs.Prelude.{◌≡◌, ℕ, true, List, length, Ok}
use Rattle.std.specs.List.{find}
use Rattle.par_base.specs.declared.value.Value.{Value}
use Rattle.expr_lang.specs.Terms.{Term, columns_in}
use Rattle.expr_lang.specs.Val.{val, fits_row}
use Rattle.expr_lang.specs.Resolved.{resolved, refused_name, is_missing, val_by_name}

-- a resolved expression fits each row with as many values as there are columns
abbrev pub ResolvedFits : Type 0
ResolvedFits =
    (columns : List (List ℕ)) (t : Term (List ℕ)) (e : Term ℕ)
    → resolved columns t ≡ Ok e → fits_row e (length columns) ≡ true

-- at each row it has the value that the text has by names
abbrev pub ResolvedMeans : Type 0
ResolvedMeans =
    (columns : List (List ℕ)) (row : List Value) (t : Term (List ℕ)) (e : Term ℕ)
    → resolved columns t ≡ Ok e → val e row ≡ val_by_name columns row t

-- of the names that a text reads, the first that no column has is refused, where there is one
abbrev pub FirstMissingRefused : Type 0
FirstMissingRefused =
    (columns : List (List ℕ)) (t : Term (List ℕ))
    → refused_name (resolved columns t) ≡ find (is_missing columns) (columns_in t)
