-- What the canonical texts say.
use Rattle.std.specs.Prelude.{◌≡◌, ℕ, List, true, length, Result, Ok, Err, ⊤}
use Rattle.par_base.specs.declared.fault.Fault.{Fault}
use Rattle.par_base.specs.declared.fault.Fault.TheVariants.{Refused, Memory}
use Rattle.bidel_lex.specs.declared.tokens.Token.{Token}
use Rattle.bidel_lex.specs.declared.tokens.Lexed.TheVariants as lexed
use Rattle.bidel_lex.specs.Tokens.{HasTokens, AreTokens}
use Rattle.bidel_expr.specs.Lexemes.{Lexeme}
use Rattle.bidel_expr.specs.Expressions.{Expression}
use Rattle.statements.specs.declared.statement.OpText.{OpText}
use Rattle.statements.specs.Views.{Tree, OpView, op_view, StatementView, statement_view}
use Rattle.bidel_parser.specs.declared.parsed.Parsed.{Parsed}
use Rattle.bidel_parser.specs.declared.parsed.Parsed.TheVariants.{Whole, More, Nothing}
use Rattle.bidel_parser.specs.declared.parsed.Syntax.{Syntax}
use Rattle.bidel_parser.specs.Operators.{Operator}
use Rattle.bidel_parser.specs.Statements.{IsStatement}
use Rattle.bidel_parser.specs.Parsing.{Parses, ParsesOperator}
use Rattle.bidel_text.specs.ExpressionText.{expression_text}
use Rattle.bidel_text.specs.OperatorText.{operator_text}
use Rattle.bidel_text.specs.StatementText.{statement_text}
use Rattle.bidel_text.specs.Said.{Says}

-- ---- what a text says

-- an expression that the grammar spells is what its canonical text says
abbrev pub ExpressionsAreSaid : Type 0
ExpressionsAreSaid =
    (e : Tree) (ts : List Lexeme) → Expression ts e → Says Expression (expression_text e) e

-- an operator that the grammar spells is what its canonical text says
abbrev pub OperatorsAreSaid : Type 0
OperatorsAreSaid =
    (o : OpView) (ts : List Lexeme) → Operator ts o → Says Operator (operator_text o) o

-- a statement that the grammar spells is what its canonical text says
abbrev pub StatementsAreSaid : Type 0
StatementsAreSaid =
    (s : StatementView) (ts : List Lexeme) → IsStatement ts s
    → Says IsStatement (statement_text s) s

-- ---- what reading it gives

-- the answer of reading some tokens as an operator is this operator, where memory is found
abbrev pub IsOperatorBack : OpView → Result OpText (Fault Syntax) → Type 0
IsOperatorBack o (Ok read) = op_view read ≡ o
IsOperatorBack o (Err (Refused syntax)) = ⊥
IsOperatorBack o (Err (Memory memory)) = ⊤

-- the tokens of its canonical text are read as the same operator
pub record OperatorBack (o : OpView) : Type 0 where
  pub tokens : List Token
  pub found : HasTokens true (operator_text o) 0 tokens lexed.End
  pub are : AreTokens (operator_text o) tokens
  pub back : (answer : Result OpText (Fault Syntax))
      → ParsesOperator (operator_text o) tokens answer → IsOperatorBack o answer

-- an operator that the grammar spells is read back from its canonical text
abbrev pub OperatorsComeBack : Type 0
OperatorsComeBack = (o : OpView) (ts : List Lexeme) → Operator ts o → OperatorBack o

-- the answer of parsing so many tokens is this statement of all of them, where memory is found
abbrev pub IsStatementBack : StatementView → ℕ → Result Parsed (Fault Syntax) → Type 0
IsStatementBack s size (Ok (Whole read used)) = (statement_view read ≡ s) × (used ≡ size)
IsStatementBack s size (Ok More) = ⊥
IsStatementBack s size (Ok Nothing) = ⊥
IsStatementBack s size (Err (Refused syntax)) = ⊥
IsStatementBack s size (Err (Memory memory)) = ⊤

-- the tokens of its canonical text are parsed as the same statement
pub record StatementBack (s : StatementView) : Type 0 where
  pub tokens : List Token
  pub found : HasTokens true (statement_text s) 0 tokens lexed.End
  pub are : AreTokens (statement_text s) tokens
  pub back : (answer : Result Parsed (Fault Syntax))
      → Parses (statement_text s) tokens true answer → IsStatementBack s (length tokens) answer

-- a statement that the grammar spells is parsed back from its canonical text
abbrev pub StatementsComeBack : Type 0
StatementsComeBack =
    (s : StatementView) (ts : List Lexeme) → IsStatement ts s → StatementBack s
