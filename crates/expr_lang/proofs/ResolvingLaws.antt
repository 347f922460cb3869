-- What resolving keeps, means and refuses, by induction on the expression.
use Rattle.std.proofs.Common.{◌≡◌, ℕ, ◌+◌, ◌<◌, true, false, not, List, [], ◌∷◌, length, get_or, Some, None, Option, Ok, Err, Result, IfOk, suc, zero, ◌||◌, refl, sym, ◌∙◌, ap, arith, cond, unwrap_or}
use Rattle.std.proofs.lemmas.Bool.{lt-ltb}
use Rattle.std.proofs.lemmas.List.Folds.{find-append}
use Rattle.std.proofs.lemmas.List.Quantifiers.{position-Some}
use Rattle.std.specs.Prelude.{slice_get}
use Rattle.std.specs.List.{find, list_any, position_from}
use Rattle.std.specs.Option.{option_or}
use Rattle.std.specs.Str.{bytes_eq}
use Rattle.par_base.specs.declared.value.Value.{Value}
use Rattle.par_base.specs.declared.value.Value.TheVariants.{Null}
use Rattle.expr_lang.specs.declared.tree.UnaryOp.{UnaryOp}
use Rattle.expr_lang.specs.declared.tree.BinaryOp.{BinaryOp}
use Rattle.expr_lang.specs.Terms.{Term, Literal, Column, Unary, Binary, columns_in}
use Rattle.expr_lang.specs.Operations.{unary_of, binary_of}
use Rattle.expr_lang.specs.Val.{val, fits_row}
use Rattle.expr_lang.specs.Resolved.{place_of, column_at, unary_at, binary_at, resolved, is_missing, refused_name, value_named, val_by_name}
use Rattle.expr_lang.proofs.Places.{place_of-from}

-- a place is below the number of columns
place_of-within : (columns : List (List ℕ)) (name : List ℕ) (place : ℕ) → place_of columns name ≡ Some place → place < length columns
unfolding place_of
place_of-within columns name place found = (position-Some (bytes_eq name) columns place [] found).0

-- a place that was found fits
column_fits : (name : List ℕ) (width : ℕ) (o : Option ℕ) → ((place : ℕ) → o ≡ Some place → place < width) → IfOk (column_at name o) (λ e. fits_row e width ≡ true)
unfolding fits_row
column_fits name width None within = tt
column_fits name width (Some place) within = lt-ltb place width (within place refl)

-- an operator at an operand that fits, fits
unary_fits : (op : UnaryOp) (width : ℕ) (r : Result (Term ℕ) (List ℕ)) → IfOk r (λ e. fits_row e width ≡ true) → IfOk (unary_at op r) (λ e. fits_row e width ≡ true)
unfolding fits_row
unary_fits op width (Ok t) fits = fits
unary_fits op width (Err name) fits = tt

-- an operator between operands that fit, fits
binary_fits : (op : BinaryOp) (width : ℕ) (r s : Result (Term ℕ) (List ℕ)) → IfOk r (λ e. fits_row e width ≡ true) → IfOk s (λ e. fits_row e width ≡ true) → IfOk (binary_at op r s) (λ e. fits_row e width ≡ true)
unfolding fits_row
binary_fits op width (Ok t) (Ok u) left right = rw (left, right)
binary_fits op width (Ok t) (Err name) left right = tt
binary_fits op width (Err name) s left right = tt

-- a resolved expression fits the rows of the columns
pub resolved-fits : (columns : List (List ℕ)) (t : Term (List ℕ)) → IfOk (resolved columns t) (λ e. fits_row e (length columns) ≡ true)
unfolding resolved fits_row
resolved-fits columns (Literal v) = refl
resolved-fits columns (Column name) = column_fits name (length columns) (place_of columns name) (place_of-within columns name)
resolved-fits columns (Unary op t) = unary_fits op (length columns) (resolved columns t) (resolved-fits columns t)
resolved-fits columns (Binary op t u) =
    binary_fits op (length columns) (resolved columns t) (resolved columns u) (resolved-fits columns t) (resolved-fits columns u)

-- the value under a name is the one at the first place whose column has the name
value_named-first : (columns : List (List ℕ)) (row : List Value) (name : List ℕ) (place : ℕ) → place < length columns → bytes_eq name (get_or columns place []) ≡ true → ((k : ℕ) → k < place → bytes_eq name (get_or columns k []) ≡ false) → unwrap_or (slice_get row place) Null ≡ value_named columns row name
value_named-first [] row name place within here before = absurd (omega (arith, within))
value_named-first (column ∷ columns) [] name place within here before = refl
value_named-first (column ∷ columns) (value ∷ row) name zero within here before = rw here
value_named-first (column ∷ columns) (value ∷ row) name (suc place) within here before =
    rw (before 0 (omega arith)) (value_named-first columns row name place (omega arith) here (λ k less. before (suc k) (omega arith)))

-- the value at the place of a name is the value under the name
place_of-value : (columns : List (List ℕ)) (row : List Value) (name : List ℕ) (place : ℕ) → place_of columns name ≡ Some place → unwrap_or (slice_get row place) Null ≡ value_named columns row name
unfolding place_of
place_of-value columns row name place found =
    let at = position-Some (bytes_eq name) columns place [] found in
    value_named-first columns row name place at.0 at.1 at.2

-- a place that was found means its name
column_means : (name : List ℕ) (row : List Value) (w : Value) (o : Option ℕ) → ((place : ℕ) → o ≡ Some place → unwrap_or (slice_get row place) Null ≡ w) → IfOk (column_at name o) (λ e. val e row ≡ w)
unfolding val
column_means name row w None same = tt
column_means name row w (Some place) same = same place refl

-- an operator means what it means at its operand
unary_means : (op : UnaryOp) (row : List Value) (v : Value) (r : Result (Term ℕ) (List ℕ)) → IfOk r (λ e. val e row ≡ v) → IfOk (unary_at op r) (λ e. val e row ≡ unary_of op v)
unfolding val
unary_means op row v (Ok t) same = ap (unary_of op) same
unary_means op row v (Err name) same = tt

-- an operator means what it means between its operands
binary_means : (op : BinaryOp) (row : List Value) (v w : Value) (r s : Result (Term ℕ) (List ℕ)) → IfOk r (λ e. val e row ≡ v) → IfOk s (λ e. val e row ≡ w) → IfOk (binary_at op r s) (λ e. val e row ≡ binary_of op v w)
unfolding val
binary_means op row v w (Ok t) (Ok u) left right = ap (λ x. binary_of op x (val u row)) left ∙ ap (binary_of op v) right
binary_means op row v w (Ok t) (Err name) left right = tt
binary_means op row v w (Err name) s left right = tt

-- a resolved expression has the value that the text has by names
pub resolved-means : (columns : List (List ℕ)) (row : List Value) (t : Term (List ℕ)) → IfOk (resolved columns t) (λ e. val e row ≡ val_by_name columns row t)
unfolding resolved val val_by_name
resolved-means columns row (Literal v) = refl
resolved-means columns row (Column name) =
    column_means name row (value_named columns row name) (place_of columns name) (place_of-value columns row name)
resolved-means columns row (Unary op t) =
    unary_means op row (val_by_name columns row t) (resolved columns t) (resolved-means columns row t)
resolved-means columns row (Binary op t u) =
    binary_means op row (val_by_name columns row t) (val_by_name columns row u) (resolved columns t) (resolved columns u) (resolved-means columns row t) (resolved-means columns row u)

-- the search finds a place exactly where some column has the name
position_from-missing : (columns : List (List ℕ)) (name : List ℕ) (at : ℕ) → refused_name (column_at name (position_from (bytes_eq name) at columns)) ≡ find (is_missing columns) (name ∷ [])
position_from-missing [] name at = refl
position_from-missing (column ∷ columns) name at =
    elim (bytes_eq name column) as (λ b. refused_name (column_at name (cond b (Some at) (position_from (bytes_eq name) (at + 1) columns))) ≡ cond (not (b || list_any (bytes_eq name) columns)) (Some name) None) [
      | true ↦ refl
      | false ↦ position_from-missing columns name (at + 1)
    ]

-- an operator refuses what its operand refuses
unary-refused : (op : UnaryOp) (r : Result (Term ℕ) (List ℕ)) → refused_name (unary_at op r) ≡ refused_name r
unary-refused op (Ok t) = refl
unary-refused op (Err name) = refl

-- an operator refuses what its left operand refuses, or else its right one
binary-refused : (op : BinaryOp) (r s : Result (Term ℕ) (List ℕ)) → refused_name (binary_at op r s) ≡ option_or (refused_name r) (refused_name s)
binary-refused op (Ok t) (Ok u) = refl
binary-refused op (Ok t) (Err name) = refl
binary-refused op (Err name) s = refl

-- the first name that no column has is refused
pub resolved-refused : (columns : List (List ℕ)) (t : Term (List ℕ)) → refused_name (resolved columns t) ≡ find (is_missing columns) (columns_in t)
unfolding resolved
resolved-refused columns (Literal v) = refl
resolved-refused columns (Column name) = rw (place_of-from columns name) (position_from-missing columns name 0)
resolved-refused columns (Unary op t) = unary-refused op (resolved columns t) ∙ resolved-refused columns t
resolved-refused columns (Binary op t u) =
    binary-refused op (resolved columns t) (resolved columns u)
    ∙ ap (λ o. option_or o (refused_name (resolved columns u))) (resolved-refused columns t)
    ∙ ap (option_or (find (is_missing columns) (columns_in t))) (resolved-refused columns u)
    ∙ sym (find-append (is_missing columns) (columns_in t) (columns_in u))
