-- Names, and the places that stand for them.
use Rattle.std.specs.Prelude.{◌≡◌, ℕ, Bool, not, ◌||◌, List, ◌∷◌, nat_le, ◌==◌, if◌then◌else◌, Option, Some, None, Result, Ok, Err, ⊤}
use Rattle.std.specs.List.{position, find, list_any}
use Rattle.std.specs.Str.{bytes_eq}
use Rattle.par_base.specs.declared.fault.Fault.{Fault}
use Rattle.par_base.specs.declared.fault.Fault.TheVariants.{Refused, Memory}
use Rattle.par_base.specs.declared.value.Value.{Value}
use Rattle.par_base.specs.declared.value.Value.TheVariants.{Null}
use Rattle.expr_lang.specs.declared.tree.Expr.{Expr}
use Rattle.expr_lang.specs.declared.tree.UnaryOp.{UnaryOp}
use Rattle.expr_lang.specs.declared.tree.BinaryOp.{BinaryOp}
use Rattle.expr_lang.specs.Terms.{Term, Literal, Column, Unary, Binary, expr_term, references_in}
use Rattle.expr_lang.specs.Operations.{unary_of, binary_of}

-- the position of the first column with this name
unfoldable pub place_of : List (List ℕ) → List ℕ → Option ℕ
place_of columns name = position (bytes_eq name) columns

-- the column at a place, or the name that has none
abbrev pub column_at : List ℕ → Option ℕ → Result (Term ℕ) (List ℕ)
column_at name (Some place) = Ok (Column place)
column_at name None = Err name

-- an operator at a resolved operand, or the operand's refusal
abbrev pub unary_at : UnaryOp → Result (Term ℕ) (List ℕ) → Result (Term ℕ) (List ℕ)
unary_at op (Ok t) = Ok (Unary op t)
unary_at op (Err name) = Err name

-- an operator between resolved operands; the refusal of the left one comes first
abbrev pub binary_at :
    BinaryOp → Result (Term ℕ) (List ℕ) → Result (Term ℕ) (List ℕ) → Result (Term ℕ) (List ℕ)
binary_at op (Err name) r = Err name
binary_at op (Ok t) (Err name) = Err name
binary_at op (Ok t) (Ok u) = Ok (Binary op t u)

-- the expression with a place for each name, or the first name from the left that is no column
unfoldable pub resolved : List (List ℕ) → Term (List ℕ) → Result (Term ℕ) (List ℕ)
resolved columns (Literal v) = Ok (Literal v)
resolved columns (Column name) = column_at name (place_of columns name)
resolved columns (Unary op t) = unary_at op (resolved columns t)
resolved columns (Binary op t u) = binary_at op (resolved columns t) (resolved columns u)

-- the answer is the resolved expression or the refused name, unless memory ran out
abbrev pub Resolves : List (List ℕ) → Term (List ℕ) → Result Expr (Fault (List ℕ)) → Type 0
Resolves columns t (Ok e) = resolved columns t ≡ Ok (expr_term e)
Resolves columns t (Err (Refused name)) = resolved columns t ≡ Err name
Resolves columns t (Err (Memory memory)) = ⊤

-- the name is none of the columns'
abbrev pub is_missing : List (List ℕ) → List ℕ → Bool
is_missing columns name = not (list_any (bytes_eq name) columns)

-- the refused name, where there is one
abbrev pub refused_name : Result (Term ℕ) (List ℕ) → Option (List ℕ)
refused_name (Ok t) = None
refused_name (Err name) = Some name

-- no row may have this identifier: it is 0, or isn't below the next one
abbrev pub is_unknown : ℕ → ℕ → Bool
is_unknown next id = id == 0 || nat_le next id

-- the first reference literal to an unknown identifier
unfoldable pub first_unknown_id : {C : Type 0} → ℕ → Term C → Option ℕ
first_unknown_id next t = find (is_unknown next) (references_in t)

-- the value under the first column with this name
abbrev pub value_named : List (List ℕ) → List Value → List ℕ → Value
value_named (column ∷ columns) (value ∷ row) name =
    if bytes_eq name column then value else value_named columns row name
value_named _ _ name = Null

-- the value of an expression by names, at a row whose columns have these names
unfoldable pub val_by_name : List (List ℕ) → List Value → Term (List ℕ) → Value
val_by_name columns row (Literal v) = v
val_by_name columns row (Column name) = value_named columns row name
val_by_name columns row (Unary op t) = unary_of op (val_by_name columns row t)
val_by_name columns row (Binary op t u) =
    binary_of op (val_by_name columns row t) (val_by_name columns row u)
