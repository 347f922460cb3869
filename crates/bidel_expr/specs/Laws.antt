-- What tokens say, whatever the bytes are.
use Rattle.std.specs.Prelude.{◌≡◌, ◌++◌, ℕ, List, drop, true, Some, IsUtf8, slice_range}
use Rattle.std.specs.Str.Parse.{AllDigits, digits_value}
use Rattle.bidel_lex.specs.declared.tokens.Token.{Token}
use Rattle.par_base.specs.declared.value.Value.TheVariants.{Text}
use Rattle.par_base.specs.Literals.{literal_of}
use Rattle.bidel_lex.specs.declared.tokens.TokenKind.TheVariants as kind
use Rattle.bidel_lex.specs.declared.tokens.Lexed.TheVariants as lexed
use Rattle.bidel_lex.specs.Next.{next_of}
use Rattle.bidel_lex.specs.Tokens.{AreTokens}
use Rattle.phrases.specs.Reading.{none}
use Rattle.phrases.specs.Reads.{Reads}
use Rattle.bidel_expr.specs.Lexemes.{lexeme, lexemes, value_after, text_of, number_of, reference_of}
use Rattle.bidel_expr.specs.Literals.{Names, Literal, Tuple, names_at, literal_at, tuple_at}
use Rattle.bidel_expr.specs.Expressions.{Expression, expression_goes, expression_at}

-- what tokens say stays as bytes come
abbrev pub LexemesStay : Type 0
LexemesStay = (bytes more : List ℕ) (tokens : List Token) → AreTokens bytes tokens → lexemes (bytes ++ more) tokens ≡ lexemes bytes tokens

-- the tokens from a place on are tokens, and say what they said
abbrev pub RestIsTokens : Type 0
RestIsTokens = (bytes : List ℕ) (tokens : List Token) (at : ℕ) → AreTokens bytes tokens
    → AreTokens bytes (drop at tokens) × (lexemes bytes (drop at tokens) ≡ drop at (lexemes bytes tokens))

-- the value of decimal digits is what they write
abbrev pub DigitsHaveValue : Type 0
DigitsHaveValue = (digits : List ℕ) → AllDigits 10 digits → value_after 0 digits ≡ digits_value 10 digits

-- a text token of the bytes is written as the literal text of its value
abbrev pub TextsHaveValue : Type 0
TextsHaveValue = (bytes : List ℕ) (token : Token) → next_of bytes token.start true ≡ lexed.Token token → token.kind ≡ kind.Text
    → (value : List ℕ) × IsUtf8 value × (slice_range bytes token.start token.end ≡ literal_of (Text value)) × (text_of (lexeme bytes token) ≡ Some value)

-- a number token of the bytes has the value of its digits
abbrev pub NumbersHaveValue : Type 0
NumbersHaveValue = (bytes : List ℕ) (token : Token) → next_of bytes token.start true ≡ lexed.Token token → token.kind ≡ kind.Number
    → number_of (lexeme bytes token) ≡ Some (digits_value 10 (slice_range bytes token.start token.end))

-- a reference token of the bytes has the value of the digits behind its first byte
abbrev pub ReferencesHaveValue : Type 0
ReferencesHaveValue = (bytes : List ℕ) (token : Token) → next_of bytes token.start true ≡ lexed.Token token → token.kind ≡ kind.Reference
    → reference_of (lexeme bytes token) ≡ Some (digits_value 10 (drop 1 (slice_range bytes token.start token.end)))

-- names, literals and lists of them are read as their grammar says, whatever follows
abbrev pub NamesAreRead : Type 0
NamesAreRead = Reads none Names names_at

abbrev pub LiteralsAreRead : Type 0
LiteralsAreRead = Reads none Literal literal_at

abbrev pub TuplesAreRead : Type 0
TuplesAreRead = Reads none Tuple tuple_at

-- expressions are read as their grammar says, before a token that continues none
abbrev pub ExpressionsAreRead : Type 0
ExpressionsAreRead = Reads expression_goes Expression expression_at
