-- The operators of expressions, by the tokens that say them.
use Rattle.std.specs.Prelude.{ℕ, List, [], ◌∷◌, codes, bytes_eq, Option, Some, None, if◌then◌else◌}
use Rattle.expr_lang.specs.declared.tree.BinaryOp.{BinaryOp}
use Rattle.expr_lang.specs.declared.tree.BinaryOp.TheVariants.{Or, And, Equal, NotEqual, Less, LessOrEqual, Greater, GreaterOrEqual, Add, Subtract, Concat, Multiply, Divide, Remainder}
use Rattle.bidel_expr.specs.Lexemes.{Lexeme, word, symbol, keyword}
use Rattle.bidel_expr.specs.declared.levels.Level.{Level}
use Rattle.bidel_expr.specs.declared.levels.Level.TheVariants.{Disjunction, Conjunction, Sum, Product}

-- the operator of a symbol, by a table
abbrev pub look_up : List (List ℕ × BinaryOp) → List ℕ → Option BinaryOp
look_up [] s = None
look_up (entry ∷ table) s = if bytes_eq entry.0 s then Some entry.1 else look_up table s

-- the symbols of comparisons
abbrev pub comparisons : List (List ℕ × BinaryOp)
comparisons = (codes "=", Equal) ∷ (codes "<>", NotEqual) ∷ (codes "<", Less) ∷ (codes "<=", LessOrEqual) ∷ (codes ">", Greater) ∷ (codes ">=", GreaterOrEqual) ∷ []

-- the symbols of sums
abbrev pub sums : List (List ℕ × BinaryOp)
sums = (codes "+", Add) ∷ (codes "-", Subtract) ∷ (codes "||", Concat) ∷ []

-- the symbols of products
abbrev pub products : List (List ℕ × BinaryOp)
products = (codes "*", Multiply) ∷ (codes "/", Divide) ∷ (codes "%", Remainder) ∷ []

-- OR
abbrev pub or_of : Lexeme → Option BinaryOp
or_of (word w) = if bytes_eq (codes "or") w then Some Or else None
or_of _ = None

-- AND
abbrev pub and_of : Lexeme → Option BinaryOp
and_of (word w) = if bytes_eq (codes "and") w then Some And else None
and_of _ = None

-- NOT
abbrev pub not_of : Lexeme → Option (Unit {0})
not_of = keyword (codes "not")

-- IS of IS NULL and IS NOT NULL
abbrev pub is_of : Lexeme → Option (Unit {0})
is_of = keyword (codes "is")

-- a comparison
abbrev pub compare_of : Lexeme → Option BinaryOp
compare_of (symbol s) = look_up comparisons s
compare_of _ = None

-- an operator of a sum
abbrev pub sum_of : Lexeme → Option BinaryOp
sum_of (symbol s) = look_up sums s
sum_of _ = None

-- an operator of a product
abbrev pub product_of : Lexeme → Option BinaryOp
product_of (symbol s) = look_up products s
product_of _ = None

-- the operators between the operands of a level
abbrev pub op_of : Level → Lexeme → Option BinaryOp
op_of Disjunction = or_of
op_of Conjunction = and_of
op_of Sum = sum_of
op_of Product = product_of
