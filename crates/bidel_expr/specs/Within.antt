-- Tokens that lie within the bytes.
use Rattle.std.specs.Prelude.{ℕ, List, [], ◌∷◌, Bool, true, ◌&&◌, nat_le}
use Rattle.bidel_lex.specs.declared.tokens.Token.{Token}

-- each token ends within so many bytes, and not before its start
abbrev pub are_within : ℕ → List Token → Bool
are_within size [] = true
are_within size (token ∷ tokens) = (nat_le token.start token.end && nat_le token.end size) && are_within size tokens
