-- The canonical text of expressions.
use Rattle.std.specs.Prelude.{ℕ, List, [], ◌∷◌, ◌++◌, Bool, true, false, ◌||◌, codes, if◌then◌else◌}
use Rattle.par_base.specs.declared.value.Value.{Value}
use Rattle.par_base.specs.declared.value.Value.TheVariants.{Null, Int, Text, Reference}
use Rattle.par_base.specs.Literals.{literal_of}
use Rattle.expr_lang.specs.Terms.{Literal, Column, Unary, Binary}
use Rattle.expr_lang.specs.declared.tree.UnaryOp.{UnaryOp}
use Rattle.expr_lang.specs.declared.tree.UnaryOp.TheVariants.{Not, Negate, IsNull, IsNotNull}
use Rattle.expr_lang.specs.declared.tree.BinaryOp.{BinaryOp}
use Rattle.expr_lang.specs.declared.tree.BinaryOp.TheVariants.{Or, And, Equal, NotEqual, Less, LessOrEqual, Greater, GreaterOrEqual, Add, Subtract, Concat, Multiply, Divide, Remainder}
use Rattle.statements.specs.Views.{Tree}

-- the word or sign between two operands
abbrev pub operator_sign : BinaryOp → List ℕ
operator_sign Or = codes "OR"
operator_sign And = codes "AND"
operator_sign Equal = codes "="
operator_sign NotEqual = codes "<>"
operator_sign Less = codes "<"
operator_sign LessOrEqual = codes "<="
operator_sign Greater = codes ">"
operator_sign GreaterOrEqual = codes ">="
operator_sign Add = codes "+"
operator_sign Subtract = codes "-"
operator_sign Concat = codes "||"
operator_sign Multiply = codes "*"
operator_sign Divide = codes "/"
operator_sign Remainder = codes "%"

-- whether an expression is an operation
abbrev pub is_operation : Tree → Bool
is_operation (Literal v) = false
is_operation (Column name) = false
is_operation (Unary op a) = true
is_operation (Binary op a b) = true

-- whether a value is an integer
abbrev pub is_integer : Value → Bool
is_integer Null = false
is_integer (Int n) = true
is_integer (Text bytes) = false
is_integer (Reference id) = false

-- whether an expression is an integer literal
abbrev pub is_integer_literal : Tree → Bool
is_integer_literal (Literal v) = is_integer v
is_integer_literal (Column name) = false
is_integer_literal (Unary op a) = false
is_integer_literal (Binary op a b) = false

-- whether an operand stands in parentheses: an operation, an integer literal behind a prefix `-`
abbrev pub needs_parentheses : UnaryOp → Tree → Bool
needs_parentheses Not a = is_operation a
needs_parentheses Negate a = is_operation a || is_integer_literal a
needs_parentheses IsNull a = is_operation a
needs_parentheses IsNotNull a = is_operation a

-- a text, in parentheses or without
abbrev pub grouped : Bool → List ℕ → List ℕ
grouped b written = if b then 40 ∷ (written ++ 41 ∷ []) else written

-- an operation on an operand that has a text
abbrev pub unary_text : UnaryOp → List ℕ → List ℕ
unary_text Not operand = codes "NOT " ++ operand
unary_text Negate operand = 45 ∷ operand
unary_text IsNull operand = operand ++ codes " IS NULL"
unary_text IsNotNull operand = operand ++ codes " IS NOT NULL"

-- an operation on two operands that have texts
abbrev pub binary_text : BinaryOp → List ℕ → List ℕ → List ℕ
binary_text op left right = left ++ 32 ∷ (operator_sign op ++ 32 ∷ right)

-- an expression: an operand that is an operation stands in parentheses
unfoldable pub expression_text : Tree → List ℕ
expression_text (Literal v) = literal_of v
expression_text (Column name) = name
expression_text (Unary op a) = unary_text op (grouped (needs_parentheses op a) (expression_text a))
expression_text (Binary op a b) =
    binary_text op (grouped (is_operation a) (expression_text a))
    (grouped (is_operation b) (expression_text b))
