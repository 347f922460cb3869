-- Expressions: which tokens spell which tree, and reading them.
use Rattle.std.specs.Prelude.{◌≤◌, ◌+◌, ℕ, zero, suc, List, Bool, if◌then◌else◌}
use Rattle.expr_lang.specs.Terms.{Term, Literal as LiteralTerm, Column, Unary as UnaryTerm, Binary}
use Rattle.expr_lang.specs.declared.tree.UnaryOp.{UnaryOp}
use Rattle.expr_lang.specs.declared.tree.UnaryOp.TheVariants.{Not, Negate, IsNull, IsNotNull}
use Rattle.phrases.specs.Phrases.{Nothing, Seq, OneOf, Either}
use Rattle.phrases.specs.Reading.{Read, and_then, one_at, done, done_unless, either, is, or, none}
use Rattle.phrases.specs.Chains.{Item, Chain, chain, joined, opens}
use Rattle.phrases.specs.Levels.{Prefix, prefix_at, Unary, unary_at, Grouped, grouped_at}
use Rattle.bidel_expr.specs.Lexemes.{Lexeme, name_of, negative_of, unsigned_of}
use Rattle.bidel_expr.specs.Literals.{open_of, close_of, minus_of, null_of}
use Rattle.bidel_expr.specs.Operators.{or_of, and_of, not_of, is_of, compare_of, sum_of, product_of, op_of}
use Rattle.bidel_expr.specs.declared.levels.Level.{Level}
use Rattle.bidel_expr.specs.declared.levels.Level.TheVariants.{Disjunction, Conjunction, Sum, Product}

-- an expression as it was written
abbrev pub Tree : Type 0
Tree = Term (List ℕ)

-- which tokens spell which expression
abbrev pub Spelling : Type 1
Spelling = List Lexeme → Tree → Type 0

-- how many operators an expression has
abbrev pub cost : Tree → ℕ
cost (LiteralTerm v) = 0
cost (Column name) = 0
cost (UnaryTerm op a) = cost a + 1
cost (Binary op a b) = cost a + cost b + 1

-- 1 at an opening parenthesis
abbrev pub weight : Lexeme → ℕ
weight t = if is open_of t then 1 else 0

-- ---- the grammar, each rule by the phrase of the next one

-- expr = conj { OR conj }
abbrev pub ExprRule : Spelling → Spelling
ExprRule C = Chain Binary or_of C

-- conj = neg { AND neg }
abbrev pub ConjRule : Spelling → Spelling
ConjRule N = Chain Binary and_of N

-- neg = NOT neg | comp
abbrev pub NegRule : Spelling → Spelling
NegRule C = Prefix (UnaryTerm Not) not_of C

-- [ NOT ] NULL
abbrev pub NullTest : List Lexeme → UnaryOp → Type 0
NullTest = Either (Seq (OneOf not_of) λ _. Seq (OneOf null_of) λ _. Nothing IsNotNull) (Seq (OneOf null_of) λ _. Nothing IsNull)

-- a comparison of the sum a with another, a test of it for null, or the sum alone
abbrev pub CompTail : Spelling → Tree → Spelling
CompTail S a = Either (Seq (OneOf compare_of) λ op. Seq S λ b. Nothing (Binary op a b)) (Either (Seq (OneOf is_of) λ _. Seq NullTest λ op. Nothing (UnaryTerm op a)) (Nothing a))

-- comp = sum [ ( "=" | "<>" | "<" | "<=" | ">" | ">=" ) sum | IS [ NOT ] NULL ]
abbrev pub CompRule : Spelling → Spelling
CompRule S = Seq S (CompTail S)

-- sum = product { ( "+" | "-" | "||" ) product }
abbrev pub SumRule : Spelling → Spelling
SumRule P = Chain Binary sum_of P

-- product = unary { ( "*" | "/" | "%" ) unary }
abbrev pub ProductRule : Spelling → Spelling
ProductRule U = Chain Binary product_of U

-- unary = "-" unary | primary, and a "-" before a number is the sign of a literal
abbrev pub UnaryRule : Spelling → Spelling
UnaryRule P = Unary (UnaryTerm Negate) LiteralTerm minus_of negative_of P

-- literal | name, where the sign of a literal belongs to the unary
abbrev pub Atom : Spelling
Atom = Either (Seq (OneOf unsigned_of) λ v. Nothing (LiteralTerm v)) (Seq (OneOf name_of) λ name. Nothing (Column name))

-- primary = literal | name | "(" expr ")"
abbrev pub PrimaryRule : Spelling → Spelling
PrimaryRule E = Grouped open_of close_of Atom E

-- all levels above a primary
abbrev pub Levels : Spelling → Spelling
Levels P = ExprRule (ConjRule (NegRule (CompRule (SumRule (ProductRule (UnaryRule P))))))

-- a primary in which parentheses nest at most so deep
abbrev pub PrimaryIn : ℕ → Spelling
PrimaryIn zero = Atom
PrimaryIn (suc depth) = PrimaryRule (Levels (PrimaryIn depth))

-- an expression with so many operators and opening parentheses at most, however deep they nest
pub record IsExpr (operators parentheses : ℕ) (ts : List Lexeme) (e : Tree) : Type 0 where
  pub depth : ℕ
  pub spelled : Levels (PrimaryIn depth) ts e
  pub few : cost e ≤ operators
  pub open' : opens weight ts ≤ parentheses

-- the most operators and the most opening parentheses of an expression
abbrev pub most_operators : ℕ
most_operators = 128

abbrev pub most_parentheses : ℕ
most_parentheses = 256

abbrev pub Expression : Spelling
Expression = IsExpr most_operators most_parentheses

-- the tokens that may continue an expression
abbrev pub expression_goes : Lexeme → Bool
expression_goes = or (is or_of) (or (is and_of) (or (is compare_of) (or (is is_of) (or (is sum_of) (or (is product_of) none)))))

-- ---- reading, from the atom up, each rule by the reading of a primary

-- a name or a literal without a sign
abbrev pub atom_at : List Lexeme → Read Lexeme Tree
atom_at = either (is name_of) (and_then (one_at name_of) λ name. done (Column name)) (and_then (one_at unsigned_of) λ v. done (LiteralTerm v))

-- it leaves the limits as they are
abbrev pub atom_item : Item Lexeme Tree
atom_item ops parens = and_then atom_at λ e. done (e, ops, parens)

-- a "-" is a sign where a number follows it
unfoldable pub unary_item : Item Lexeme Tree → Item Lexeme Tree
unary_item prim = unary_at (UnaryTerm Negate) LiteralTerm minus_of negative_of prim

-- unaries and the operators between them
unfoldable pub product_item : Item Lexeme Tree → Item Lexeme Tree
product_item prim = chain Binary product_of (unary_item prim)

-- products and the operators between them
unfoldable pub sum_item : Item Lexeme Tree → Item Lexeme Tree
sum_item prim = chain Binary sum_of (product_item prim)

-- [ NOT ] NULL
abbrev pub null_test_at : List Lexeme → Read Lexeme UnaryOp
null_test_at = either (is not_of) (and_then (one_at not_of) λ _. and_then (one_at null_of) λ _. done IsNotNull) (and_then (one_at null_of) λ _. done IsNull)

-- what may follow a first sum
unfoldable pub comp_tail : Item Lexeme Tree → Tree → Item Lexeme Tree
comp_tail sum a zero parens = done_unless (or (is compare_of) (is is_of)) (a, 0, parens)
comp_tail sum a (suc ops) parens =
    either (is compare_of) (and_then (one_at compare_of) λ op. and_then (sum ops parens) λ x. done (Binary op a x.0, x.1, x.2))
    (either (is is_of) (and_then (one_at is_of) λ _. and_then null_test_at λ op. done (UnaryTerm op a, ops, parens))
    (done (a, suc ops, parens)))

-- a sum and what follows it
unfoldable pub comp_item : Item Lexeme Tree → Item Lexeme Tree
comp_item prim ops parens = and_then (sum_item prim ops parens) λ x. comp_tail (sum_item prim) x.0 x.1 x.2

-- NOT, as long as operators may come
unfoldable pub neg_item : Item Lexeme Tree → Item Lexeme Tree
neg_item prim = prefix_at (UnaryTerm Not) not_of (comp_item prim)

-- AND between them
unfoldable pub conj_item : Item Lexeme Tree → Item Lexeme Tree
conj_item prim = chain Binary and_of (neg_item prim)

-- OR between them
unfoldable pub expr_item : Item Lexeme Tree → Item Lexeme Tree
expr_item prim = chain Binary or_of (conj_item prim)

-- a primary in which parentheses nest at most so deep
unfoldable pub primary_item : ℕ → Item Lexeme Tree
primary_item zero = atom_item
primary_item (suc depth) = grouped_at open_of close_of atom_item (expr_item (primary_item depth))

-- as many parentheses as open may nest
abbrev pub expression_at : List Lexeme → Read Lexeme Tree
expression_at = and_then (expr_item (primary_item most_parentheses) most_operators most_parentheses) λ x. done x.0

-- what stands between the operators of a level
abbrev pub operand_item : Level → Item Lexeme Tree → Item Lexeme Tree
operand_item Disjunction = conj_item
operand_item Conjunction = neg_item
operand_item Sum = product_item
operand_item Product = unary_item

-- a level
abbrev pub level_item : Level → Item Lexeme Tree → Item Lexeme Tree
level_item Disjunction = expr_item
level_item Conjunction = conj_item
level_item Sum = sum_item
level_item Product = product_item

-- the operands of a level behind the first one
abbrev pub further_item : Level → Tree → Item Lexeme Tree → Item Lexeme Tree
further_item level first prim ops parens = joined Binary (op_of level) (operand_item level prim) ops first ops parens
