-- What the parser answers, by the grammar alone.
use Rattle.std.specs.Prelude.{◌≡◌, ◌<◌, ◌≤◌, ◌+◌, ◌⊎◌, ℕ, List, [], ◌∷◌, Bool, true, false, length, drop, take, Result, Ok, Err, ⊤}
use Rattle.par_base.specs.declared.fault.Fault.{Fault}
use Rattle.par_base.specs.declared.fault.Fault.TheVariants.{Refused, Memory}
use Rattle.bidel_lex.specs.declared.tokens.Token.{Token}
use Rattle.phrases.specs.Phrases.{Begins}
use Rattle.phrases.specs.Fronts as fronts
use Rattle.bidel_parser.specs.declared.parsed.Parsed.{Parsed}
use Rattle.bidel_parser.specs.declared.parsed.Parsed.TheVariants.{Whole, More, Nothing}
use Rattle.bidel_parser.specs.declared.parsed.Syntax.{Syntax}
use Rattle.bidel_expr.specs.Lexemes.{Lexeme, lexemes}
use Rattle.statements.specs.declared.statement.OpText.{OpText}
use Rattle.statements.specs.Views.{StatementView, statement_view, OpView, op_view}
use Rattle.bidel_parser.specs.Operators.{Operator}
use Rattle.bidel_parser.specs.Statements.{IsStatement, Script, stays_open}

-- the first tokens, so many, spell the statement, and what follows fixes its end
abbrev pub IsFront : Bool → List Lexeme → StatementView → ℕ → Type 0
IsFront = fronts.IsFront stays_open IsStatement

-- no first tokens are a statement whose end is fixed
abbrev pub NoFront : Bool → List Lexeme → Type 0
NoFront = fronts.NoFront stays_open IsStatement

-- the fault stands at the first token that no script has after those before it, or after the last token
abbrev pub FirstFault : List Lexeme → ℕ → Type 0
FirstFault = fronts.FirstFault IsStatement

-- where the first of these tokens starts, and the end of the bytes where there is none
abbrev pub start_of : ℕ → List Token → ℕ
start_of size [] = size
start_of size (token ∷ tokens) = token.start

-- the first fault: at a token, or after the last one where the input has ended, and its place in the bytes
pub record IsFault (bytes : List ℕ) (tokens : List Token) (ended : Bool) (at : ℕ) : Type 0 where
  pub token : ℕ
  pub first : FirstFault (lexemes bytes tokens) token
  pub within : (token < length tokens) ⊎ ((ended ≡ true) × (token ≡ length tokens) × (0 < length tokens))
  pub place : at ≡ start_of (length bytes) (drop token tokens)

-- what is answered of these tokens of the bytes, where `ended` says that no tokens come after them
abbrev pub Parses : List ℕ → List Token → Bool → Result Parsed (Fault Syntax) → Type 0
Parses bytes tokens ended (Ok (Whole statement used)) = IsFront ended (lexemes bytes tokens) (statement_view statement) used
Parses bytes tokens ended (Ok More) = (ended ≡ false) × NoFront ended (lexemes bytes tokens) × Begins Script (lexemes bytes tokens)
Parses bytes tokens ended (Ok Nothing) = (ended ≡ true) × (tokens ≡ [])
Parses bytes tokens ended (Err (Refused syntax)) = NoFront ended (lexemes bytes tokens) × IsFault bytes tokens ended syntax.at
Parses bytes tokens ended (Err (Memory memory)) = ⊤

-- ---- all the tokens together, as one operator

-- they spell no operator
abbrev pub NoOperator : List Lexeme → Type 0
NoOperator ts = (o : OpView) → Operator ts o → ⊥

-- the fault of tokens that spell none: at the first token that no operator has behind those
-- before it, or after the last byte
pub record IsOperatorFault (bytes : List ℕ) (tokens : List Token) (at : ℕ) : Type 0 where
  pub token : ℕ
  pub within : token ≤ length tokens
  pub begins : Begins Operator (take token (lexemes bytes tokens))
  pub first : token < length tokens → Begins Operator (take (token + 1) (lexemes bytes tokens)) → ⊥
  pub place : at ≡ start_of (length bytes) (drop token tokens)

-- what is answered of these tokens of the bytes, of which none is left over
abbrev pub ParsesOperator : List ℕ → List Token → Result OpText (Fault Syntax) → Type 0
ParsesOperator bytes tokens (Ok operator) = Operator (lexemes bytes tokens) (op_view operator)
ParsesOperator bytes tokens (Err (Refused syntax)) =
    NoOperator (lexemes bytes tokens) × IsOperatorFault bytes tokens syntax.at
ParsesOperator bytes tokens (Err (Memory memory)) = ⊤
