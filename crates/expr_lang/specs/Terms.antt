-- Expressions as trees without memory: what contracts compare and speak of.
use Rattle.std.specs.Prelude.{ℕ, List, [], ◌∷◌, ◌++◌}
use Rattle.par_base.specs.declared.value.Value.{Value}
use Rattle.par_base.specs.declared.value.Value.TheVariants.{Null, Int, Text, Reference}
use Rattle.expr_lang.specs.declared.tree.UnaryOp.{UnaryOp}
use Rattle.expr_lang.specs.declared.tree.BinaryOp.{BinaryOp}
use Rattle.expr_lang.specs.declared.tree.ExprText.{ExprText}
use Rattle.expr_lang.specs.declared.tree.ExprText.TheVariants as «text»
use Rattle.expr_lang.specs.declared.tree.Expr.{Expr}
use Rattle.expr_lang.specs.declared.tree.Expr.TheVariants as «expr»

-- an expression over columns of one kind: names, or places in a row
pub data Term (C : Type 0) : Type 0 where
  Literal : Value → Term C
  Column : C → Term C
  Unary : UnaryOp → Term C → Term C
  Binary : BinaryOp → Term C → Term C → Term C

-- the tree of an expression as it was written, with the bytes of its names
abbrev pub text_term : ExprText → Term (List ℕ)
text_term («text».Literal v) = Literal v
text_term («text».Column name) = Column name
text_term («text».Unary' op p e) = Unary op (text_term e)
text_term («text».Binary' op p a q b) = Binary op (text_term a) (text_term b)

-- the tree of an expression over places
abbrev pub expr_term : Expr → Term ℕ
expr_term («expr».Literal v) = Literal v
expr_term («expr».Column place) = Column place
expr_term («expr».Unary' op p e) = Unary op (expr_term e)
expr_term («expr».Binary' op p a q b) = Binary op (expr_term a) (expr_term b)

-- the columns that an expression reads, from the left
abbrev pub columns_in : {C : Type 0} → Term C → List C
columns_in (Literal v) = []
columns_in (Column c) = c ∷ []
columns_in (Unary op t) = columns_in t
columns_in (Binary op t u) = columns_in t ++ columns_in u

-- the number of a value that is a reference
abbrev pub reference_in : Value → List ℕ
reference_in Null = []
reference_in (Int z) = []
reference_in (Text bytes) = []
reference_in (Reference id) = id ∷ []

-- the numbers of the reference literals of an expression, from the left
abbrev pub references_in : {C : Type 0} → Term C → List ℕ
references_in (Literal v) = reference_in v
references_in (Column c) = []
references_in (Unary op t) = references_in t
references_in (Binary op t u) = references_in t ++ references_in u
