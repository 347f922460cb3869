-- What stands behind the tokens of some bytes, and how far bytes are known.
use Rattle.std.specs.Prelude.{◌≡◌, ◌≤◌, ◌<◌, ◌↔◌, ◌==◌, ◌&&◌, ◌+◌, ℕ, min, not, Bool, true, false, List, [], ◌∷◌, take, drop, length, slice_get, Option, Some, None, if◌then◌else◌}
use Rattle.bidel_lex.specs.Classes.{is_space}
use Rattle.bidel_lex.specs.Next.{next_of}
use Rattle.bidel_lex.specs.Tokens.{HasTokens, is_token}
use Rattle.bidel_lex.specs.declared.tokens.Token.{Token}
use Rattle.bidel_lex.specs.declared.tokens.Lexed.{Lexed}
use Rattle.bidel_lex.specs.declared.tokens.Lexed.TheVariants as lexed
use Rattle.bidel_lex.specs.declared.tokens.Lexed.TheVariants.{More, End, BadToken}
use Rattle.bidel_script.specs.declared.tokens.Tail.{Tail}

-- whether a comment begins so
abbrev pub begins_comment : ℕ → List ℕ → Bool
begins_comment b [] = false
begins_comment b (c ∷ bytes) = b == 45 && c == 45

-- the place of the first byte that is neither white space nor of a comment, from a place on where a comment is open or isn't
unfoldable pub first_byte : Bool → ℕ → List ℕ → ℕ
first_byte inside at [] = at
first_byte true at (b ∷ bytes) = first_byte (not (b == 10)) (at + 1) bytes
first_byte false at (b ∷ bytes) =
    if begins_comment b bytes then first_byte true (at + 1) bytes else (if is_space b then first_byte false (at + 1) bytes else at)

-- whether a comment is open behind the white space and comments in front, where one is open before them or isn't
unfoldable pub is_open_behind : Bool → List ℕ → Bool
is_open_behind inside [] = inside
is_open_behind true (b ∷ bytes) = is_open_behind (not (b == 10)) bytes
is_open_behind false (b ∷ bytes) =
    if begins_comment b bytes then is_open_behind true bytes else (if is_space b then is_open_behind false bytes else false)

-- the end of the last token
abbrev pub last_end : ℕ → List Token → ℕ
last_end from [] = from
last_end from (token ∷ tokens) = last_end token.end tokens

-- where what is behind the last token begins; nothing is behind it at the end of the input
abbrev pub begun_at : List ℕ → ℕ → Lexed → ℕ
begun_at bytes from End = length bytes
begun_at bytes from _ = first_byte false from (drop from bytes)

-- these are all tokens of the bytes, and this is behind the last one; `ended` says that no bytes come after these
pub record AreAll (bytes : List ℕ) (ended : Bool) (tokens : List Token) (tail : Tail) : Type 0 where
  pub found : HasTokens ended bytes 0 tokens tail.last
  pub begun : tail.begun ≡ begun_at bytes (last_end 0 tokens) tail.last

-- whether no more tokens come: the input has ended, or a byte continues no token
abbrev pub is_over : Lexed → Bool
is_over More = false
is_over _ = true

-- where some tokens begin, or what is behind them where there are none
abbrev pub begin_of : Tail → List Token → ℕ
begin_of tail [] = tail.begun
begin_of tail (token ∷ tokens) = token.start

-- how many bytes show the token: those up to its end, and the next one where that could have continued it
abbrev pub shown_end : List ℕ → Token → ℕ
shown_end bytes token = if is_token (next_of (take token.end bytes) token.start false) then token.end else min (token.end + 1) (length bytes)

-- how many bytes show what is behind the tokens
abbrev pub tail_end : List ℕ → Lexed → ℕ
tail_end bytes (BadToken at) = min (at + 1) (length bytes)
tail_end bytes _ = length bytes

-- how many bytes show a token, or what is behind the tokens where there is none
abbrev pub known_of : List ℕ → Tail → Option Token → ℕ
known_of bytes tail (Some token) = shown_end bytes token
known_of bytes tail None = tail_end bytes tail.last

-- how many bytes show the token at a place, or what is behind the tokens
abbrev pub known_end : List ℕ → Tail → List Token → ℕ → ℕ
known_end bytes tail tokens at = known_of bytes tail (slice_get tokens at)

-- what is behind the last token is none, and a byte that continues no token is one of the bytes, or behind the last one
pub record Fits (bytes : List ℕ) (tail : Tail) : Type 0 where
  pub none : is_token tail.last ≡ false
  pub within : (at : ℕ) → tail.last ≡ BadToken at → at ≤ length bytes

-- a place, or that of a byte that continues no token, where that comes first
abbrev pub earlier : ℕ → Lexed → ℕ
earlier at (BadToken bad) = min bad at
earlier at _ = at

-- of a token behind which bytes follow, exactly so many first bytes show it
abbrev pub TokensAreKnown : Type 0
TokensAreKnown = (bytes : List ℕ) (token : Token) (n : ℕ) → next_of bytes token.start true ≡ lexed.Token token → token.end < length bytes → n ≤ length bytes
    → (next_of (take n bytes) token.start false ≡ lexed.Token token) ↔ (shown_end bytes token ≤ n)
