-- The texts of a statement are said by its tokens.
use Rattle.std.specs.Prelude.{◌≡◌, ◌≤◌, ◌-◌, ℕ, Bool, List, length, take, Some}
use Rattle.std.specs.List.{All, Contains}
use Rattle.bidel_lex.specs.declared.tokens.Token.{Token}
use Rattle.bidel_expr.specs.Lexemes.{lexeme, lexemes, text_of}
use Rattle.statements.specs.Views.{StatementView}
use Rattle.statements.specs.Texts.{StatementTexts, TextsWithin}
use Rattle.bidel_parser.specs.Parsing.{IsFront}

-- a text that one of these tokens says, and that isn't longer than the token
pub record IsSaid (bytes : List ℕ) (tokens : List Token) (value : List ℕ) : Type 0 where
  pub token : Token
  pub among : Contains tokens token
  pub says : text_of (lexeme bytes token) ≡ Some value
  pub within : length value ≤ token.end - token.start

-- each text of a statement is the value of one of its tokens, and no longer
abbrev pub TextsAreSaid : Type 0
TextsAreSaid = (bytes : List ℕ) (tokens : List Token) (ended : Bool) (statement : StatementView) (used : ℕ) → IsFront ended (lexemes bytes tokens) statement used
    → StatementTexts (IsSaid bytes (take used tokens)) statement

-- where each token of a statement has at most n bytes, so has each of its texts, which are UTF-8, and its integers have 64 bits
abbrev pub TextsAreWithin : Type 0
TextsAreWithin = (bytes : List ℕ) (tokens : List Token) (ended : Bool) (statement : StatementView) (used n : ℕ) → IsFront ended (lexemes bytes tokens) statement used
    → All (λ token. token.end - token.start ≤ n) (take used tokens) → TextsWithin n statement
