-- Tokens with what is written in them, and the kinds of one token that the grammar names.
use Rattle.std.specs.Prelude.{◌≡◌, ◌≤◌, ℕ, pos, neg_ℤ, ◌+◌, ◌-◌, ◌*◌, ◌^◌, ◌&&◌, List, [], ◌∷◌, take, drop, length, map, slice_range, codes, bytes_eq, nat_le, Bool, false, Option, Some, None, if◌then◌else◌}
use Rattle.std.specs.Str.{is_utf8}
use Rattle.par_base.specs.Names.{folded, is_name}
use Rattle.par_base.specs.declared.value.Value.{Value}
use Rattle.par_base.specs.declared.value.Value.TheVariants.{Null, Int, Text, Reference}
use Rattle.par_base.specs.Literals.{undoubled}
use Rattle.bidel_lex.specs.declared.tokens.Token.{Token}
use Rattle.bidel_lex.specs.declared.tokens.TokenKind.{TokenKind}
use Rattle.bidel_lex.specs.declared.tokens.TokenKind.TheVariants as kind

-- a token and what is written in it: a word in lower case, a number, the number of a reference, a text, a symbol
pub data Lexeme : Type 0 where
  word : List ℕ → Lexeme
  number : ℕ → Lexeme
  reference : ℕ → Lexeme
  «text» : List ℕ → Lexeme
  symbol : List ℕ → Lexeme

-- the value of digits and one more digit
abbrev pub value_with : ℕ → ℕ → ℕ
value_with value digit = 10 * value + (digit - 48)

-- the value of decimal digits behind digits with a value
unfoldable pub value_after : ℕ → List ℕ → ℕ
value_after value [] = value
value_after value (digit ∷ digits) = value_after (value_with value digit) digits

-- the number, where it is at most so much
abbrev pub IsCapped : ℕ → ℕ → Option ℕ → Type 0
IsCapped most n None = nat_le n most ≡ false
IsCapped most n (Some m) = (m ≡ n) × (m ≤ most)

-- what stands between the quotes of a text
abbrev pub between : List ℕ → List ℕ
between bytes = take (length bytes - 2) (drop 1 bytes)

-- what a token of a kind says, that is written in these bytes
abbrev pub lexeme_of : TokenKind → List ℕ → Lexeme
lexeme_of kind.Word bytes = word (map folded bytes)
lexeme_of kind.Number bytes = number (value_after 0 bytes)
lexeme_of kind.Reference bytes = reference (value_after 0 (drop 1 bytes))
lexeme_of kind.Text bytes = «text» (undoubled false (between bytes))
lexeme_of kind.Symbol bytes = symbol bytes

-- what a token of the bytes says
abbrev pub lexeme : List ℕ → Token → Lexeme
lexeme bytes token = lexeme_of token.kind (slice_range bytes token.start token.end)

-- what the tokens of the bytes say, in order
abbrev pub lexemes : List ℕ → List Token → List Lexeme
lexemes bytes tokens = map (lexeme bytes) tokens

-- ---- one token

-- this reserved word
abbrev pub keyword : List ℕ → Lexeme → Option (Unit {0})
keyword reserved (word w) = if bytes_eq reserved w then Some tt else None
keyword reserved _ = None

-- this symbol
abbrev pub sign : List ℕ → Lexeme → Option (Unit {0})
sign written (symbol s) = if bytes_eq written s then Some tt else None
sign written _ = None

-- a name: a word that is not reserved
abbrev pub name_of : Lexeme → Option (List ℕ)
name_of (word w) = if is_name w then Some w else None
name_of _ = None

-- a number, of at most 2^63
abbrev pub number_of : Lexeme → Option ℕ
number_of (number n) = if nat_le n (2 ^ 63) then Some n else None
number_of _ = None

-- a number that is an integer behind a minus sign
abbrev pub negative_of : Lexeme → Option Value
negative_of (number n) = if nat_le n (2 ^ 63) then Some (Int (neg_ℤ (pos n))) else None
negative_of _ = None

-- the number of a reference, of at most 2^64 - 1
abbrev pub reference_of : Lexeme → Option ℕ
reference_of (reference n) = if nat_le n (2 ^ 64 - 1) then Some n else None
reference_of _ = None

-- the bytes of a text in UTF-8
abbrev pub text_of : Lexeme → Option (List ℕ)
text_of («text» bytes) = if is_utf8 bytes then Some bytes else None
text_of _ = None

-- a literal without a sign: NULL, a number, a text, a reference
abbrev pub unsigned_of : Lexeme → Option Value
unsigned_of (word w) = if bytes_eq (codes "null") w then Some Null else None
unsigned_of (number n) = if nat_le n (2 ^ 63 - 1) then Some (Int (pos n)) else None
unsigned_of («text» bytes) = if is_utf8 bytes then Some (Text bytes) else None
unsigned_of (reference n) = if nat_le n (2 ^ 64 - 1) then Some (Reference n) else None
unsigned_of (symbol s) = None

-- whether a token of f comes next, and one of g behind it
abbrev pub starts_both : (Lexeme → Bool) → (Lexeme → Bool) → List Lexeme → Bool
starts_both f g [] = false
starts_both f g (t ∷ []) = false
starts_both f g (t ∷ u ∷ ts) = f t && g u
