-- Lists of tokens.
use Rattle.std.specs.Prelude.{◌≡◌, ◌≤◌, ℕ, Bool, true, false, List, [], ◌∷◌}
use Rattle.bidel_lex.specs.declared.tokens.Token.{Token}
use Rattle.bidel_lex.specs.declared.tokens.Lexed.{Lexed}
use Rattle.bidel_lex.specs.declared.tokens.Lexed.TheVariants as lexed
use Rattle.bidel_lex.specs.Next.{next_of}

-- no token, or a first one that doesn't start before a place
abbrev pub StartFrom : ℕ → List Token → Type 0
StartFrom place [] = Unit {0}
StartFrom place (token ∷ tokens) = place ≤ token.start

-- each is the token that all of the bytes have at its start, and none starts before the one before it ends
abbrev pub AreTokens : List ℕ → List Token → Type 0
AreTokens bytes [] = Unit {0}
AreTokens bytes (token ∷ tokens) = (next_of bytes token.start true ≡ lexed.Token token) × StartFrom token.end tokens × AreTokens bytes tokens

-- whether an answer is a token
abbrev pub is_token : Lexed → Bool
is_token (lexed.Token token) = true
is_token lexed.More = false
is_token lexed.End = false
is_token (lexed.BadToken at) = false

-- from a place on these tokens are found, each from the end of the one before it, and then this last answer,
-- which is none
abbrev pub HasTokens : Bool → List ℕ → ℕ → List Token → Lexed → Type 0
HasTokens ended bytes from [] last = (next_of bytes from ended ≡ last) × (is_token last ≡ false)
HasTokens ended bytes from (token ∷ tokens) last = (next_of bytes from ended ≡ lexed.Token token) × HasTokens ended bytes token.end tokens last
