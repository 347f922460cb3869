-- How a token of each kind is written.
use Rattle.std.specs.Prelude.{◌≡◌, ◌==◌, ◌&&◌, ◌||◌, ◌-◌, ◌^◌, ◌≤◌, ◌<◌, ◌++◌, ℕ, Bool, true, false, List, [], ◌∷◌, length, slice_index, if◌then◌else◌}
use Rattle.std.specs.List.{AllPass}
use Rattle.std.specs.Str.{IsUtf8}
use Rattle.std.specs.Str.Parse.{IsNumeral, digits_value}
use Rattle.bidel_lex.specs.declared.tokens.TokenKind.{TokenKind}
use Rattle.bidel_lex.specs.declared.tokens.TokenKind.TheVariants.{Word, Number, Reference, Text, Symbol}
use Rattle.bidel_lex.specs.Classes.{is_digit, is_lone_symbol, is_word_byte, is_word_start}

-- 1 to 64 word bytes, the first of which is no digit
abbrev pub IsWord : List ℕ → Type 0
IsWord [] = ⊥
IsWord (first ∷ rest) = (is_word_start first ≡ true) × AllPass is_word_byte rest × (length rest < 64)

-- one decimal digit or more, of at most a value
abbrev pub IsNumber : ℕ → List ℕ → Type 0
IsNumber limit text = IsNumeral 10 text × (digits_value 10 text ≤ limit)

-- `#` and digits
abbrev pub IsReference : List ℕ → Type 0
IsReference [] = ⊥
IsReference (first ∷ digits) = (first ≡ 35) × IsNumber (2 ^ 64 - 1) digits

-- each quote doubled
unfoldable pub doubled : List ℕ → List ℕ
doubled [] = []
doubled (b ∷ bytes) = if b == 39 then 39 ∷ 39 ∷ doubled bytes else b ∷ doubled bytes

-- well-formed UTF-8 with each quote doubled, between quotes
pub record IsText (text : List ℕ) : Type 0 where
  pub body : List ℕ
  pub utf8 : IsUtf8 body
  pub quoted : text ≡ 39 ∷ (doubled body ++ 39 ∷ [])

-- `- < >` and those that no further byte makes longer; `<=`, `<>`, `>=` and `||`
abbrev pub is_symbol : List ℕ → Bool
is_symbol [] = false
is_symbol (a ∷ []) = is_lone_symbol a || a == 45 || a == 60 || a == 62
is_symbol (a ∷ b ∷ []) = (a == 60 && (b == 61 || b == 62)) || (a == 62 && b == 61) || (a == 124 && b == 124)
is_symbol (a ∷ b ∷ c ∷ more) = false

-- these bytes are a token of a kind
abbrev pub Spells : TokenKind → List ℕ → Type 0
Spells Word text = IsWord text
Spells Number text = IsNumber (2 ^ 63) text
Spells Reference text = IsReference text
Spells Text text = IsText text
Spells Symbol text = is_symbol text ≡ true

-- a byte that belongs to a token before it, or is a fault of it; `-` after `-` makes a comment of both
abbrev pub goes_on : TokenKind → List ℕ → ℕ → Bool
goes_on Word text b = is_word_byte b
goes_on Number text b = is_digit b
goes_on Reference text b = is_digit b
goes_on Text text b = b == 39
goes_on Symbol text b = is_symbol (text ++ b ∷ []) || (slice_index text 0 == 45 && b == 45)

-- no byte belongs to a token after this symbol
abbrev pub is_closed : TokenKind → List ℕ → Bool
is_closed Word text = false
is_closed Number text = false
is_closed Reference text = false
is_closed Text text = false
is_closed Symbol text = is_lone_symbol (slice_index text 0) || length text == 2

-- what may stand after a token: a byte that doesn't belong to it, or the end of the input
abbrev pub CanFollow : TokenKind → List ℕ → Bool → List ℕ → Type 0
CanFollow kind text ended [] = (ended || is_closed kind text) ≡ true
CanFollow kind text ended (b ∷ rest) = goes_on kind text b ≡ false
