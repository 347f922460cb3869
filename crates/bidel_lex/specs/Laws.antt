-- What holds of the answers whatever the bytes are.
use Rattle.std.specs.Prelude.{◌≡◌, ◌≢◌, ◌≤◌, ◌<◌, ◌+◌, ◌++◌, ◌↔◌, ℕ, Bool, true, false, List, drop, length, slice_range, take}
use Rattle.std.specs.List.{All}
use Rattle.bidel_lex.specs.declared.tokens.Token.{Token}
use Rattle.bidel_lex.specs.declared.tokens.Lexed.{Lexed}
use Rattle.bidel_lex.specs.declared.tokens.Lexed.TheVariants as lexed
use Rattle.bidel_lex.specs.Blanks.{Blanks, EndBlanks}
use Rattle.bidel_lex.specs.Next.{IsWithin, next_of}
use Rattle.bidel_lex.specs.Spelled.{CanFollow, Spells}
use Rattle.bidel_lex.specs.Tokens.{AreTokens, HasTokens}

-- tokens and faults lie within the bytes, from the place on
abbrev pub Within : Type 0
Within = (bytes : List ℕ) (from : ℕ) (ended : Bool)
    → IsWithin (length bytes) from ended (next_of bytes from ended)

-- what is found in bytes that may go on, `More` aside, is found however they go on
abbrev pub Stable : Type 0
Stable = (bytes more : List ℕ) (from : ℕ) (ended : Bool)
    → next_of bytes from false ≢ lexed.More → next_of (bytes ++ more) from ended ≡ next_of bytes from false

-- a token that ends at a place or behind it, a fault that isn't before the place, or neither
abbrev pub IsBehind : ℕ → Lexed → Type 0
IsBehind place (lexed.Token token) = place ≤ token.end
IsBehind place (lexed.BadToken at) = place ≤ at
IsBehind place lexed.More = Unit {0}
IsBehind place lexed.End = Unit {0}

-- what is found only as more bytes come ends behind those before
abbrev pub EndsBehind : Type 0
EndsBehind = (bytes more : List ℕ) (from : ℕ) (ended : Bool) → from ≤ length bytes
    → next_of bytes from false ≡ lexed.More → IsBehind (length bytes) (next_of (bytes ++ more) from ended)

-- two ways for the bytes to go on to their end, with different answers
pub record CanChange (bytes : List ℕ) (from : ℕ) : Type 0 where
  pub one : List ℕ
  pub other : List ℕ
  pub one_bytes : All (λ b. b < 256) one
  pub other_bytes : All (λ b. b < 256) other
  pub differ : next_of (bytes ++ one) from true ≢ next_of (bytes ++ other) from true

-- `More` comes exactly where bytes may follow and could change the answer
abbrev pub MoreExactly : Type 0
MoreExactly = (bytes : List ℕ) (from : ℕ) (ended : Bool) → from ≤ length bytes
    → (next_of bytes from ended ≡ lexed.More) ↔ ((ended ≡ false) × CanChange bytes from)

-- a token is found again from its own start
abbrev pub Again : Type 0
Again = (bytes : List ℕ) (from : ℕ) (ended : Bool) (token : Token)
    → next_of bytes from ended ≡ lexed.Token token → next_of bytes token.start ended ≡ lexed.Token token

-- from a place on: what may stand between tokens, a token of a kind, and bytes that don't make it longer
pub record HasToken (bytes : List ℕ) (from : ℕ) (ended : Bool) (token : Token) : Type 0 where
  pub gap : List ℕ
  pub text : List ℕ
  pub rest : List ℕ
  pub split : drop from bytes ≡ gap ++ (text ++ rest)
  pub blank : Blanks gap
  pub spells : Spells token.kind text
  pub follows : CanFollow token.kind text ended rest
  pub start : token.start ≡ from + length gap
  pub end : token.end ≡ token.start + length text

-- a token is found exactly where there is one
abbrev pub TokenExactly : Type 0
TokenExactly = (bytes : List ℕ) (from : ℕ) (ended : Bool) (token : Token)
    → (next_of bytes from ended ≡ lexed.Token token) ↔ HasToken bytes from ended token

-- `End` comes exactly at the end of the input, where nothing but white space and comments is left
abbrev pub EndExactly : Type 0
EndExactly = (bytes : List ℕ) (from : ℕ) (ended : Bool)
    → (next_of bytes from ended ≡ lexed.End) ↔ ((ended ≡ true) × EndBlanks (drop from bytes))

-- a fault stands at the first byte that shows it: the bytes before it could go on to another answer
abbrev pub FaultsAreFirst : Type 0
FaultsAreFirst = (bytes : List ℕ) (from : ℕ) (ended : Bool) (at : ℕ)
    → next_of bytes from ended ≡ lexed.BadToken at → next_of (take at bytes) from false ≡ lexed.More

-- a token is written as its kind says
abbrev pub Spelled : Type 0
Spelled = (bytes : List ℕ) (from : ℕ) (ended : Bool) (token : Token)
    → next_of bytes from ended ≡ lexed.Token token → Spells token.kind (slice_range bytes token.start token.end)

-- tokens found one after the other are tokens of the bytes, also where the bytes may go on
abbrev pub Listed : Type 0
Listed = (bytes : List ℕ) (from : ℕ) (ended : Bool) (tokens : List Token) (last : Lexed)
    → HasTokens ended bytes from tokens last → AreTokens bytes tokens
