-- Tokens found one after the other are tokens of the bytes.
use Rattle.std.proofs.Common.{◌≡◌, ◌≤◌, ◌<◌, ℕ, Bool, true, false, List, [], ◌∷◌, length, sym, ap, ◌∙◌, append-nil}
use Rattle.bidel_lex.specs.declared.tokens.Token.{Token}
use Rattle.bidel_lex.specs.declared.tokens.Lexed.{Lexed}
use Rattle.bidel_lex.specs.declared.tokens.Lexed.TheVariants as lexed
use Rattle.bidel_lex.specs.Next.{next_of}
use Rattle.bidel_lex.specs.Tokens.{HasTokens, StartFrom}
use Rattle.bidel_lex.specs.Laws.{Listed}
use Rattle.bidel_lex.proofs.Again.{again}
use Rattle.bidel_lex.proofs.StableLaws.{stable}
use Rattle.bidel_lex.proofs.WithinLaws.{within_along}

-- a token is found at the end of the input too
found_at_end : (bytes : List ℕ) (from : ℕ) (ended : Bool) (token : Token)
    → next_of bytes from ended ≡ lexed.Token token → next_of bytes from true ≡ lexed.Token token
found_at_end bytes from true token e = e
found_at_end bytes from false token e =
    ap (λ (l : List ℕ). next_of l from true) (sym (append-nil bytes)) ∙ stable bytes [] from true (λ m. cc) ∙ e

next_starts : (bytes : List ℕ) (from : ℕ) (ended : Bool) (tokens : List Token) (last : Lexed)
    → HasTokens ended bytes from tokens last → StartFrom from tokens
next_starts bytes from ended [] last f = tt
next_starts bytes from ended (token ∷ tokens) last f =
    let place : (from ≤ token.start) × (token.start < token.end) × (token.end ≤ length bytes) = within_along bytes from ended (lexed.Token token) f.0 in place.0

pub listed : Listed
listed bytes from ended [] last f = tt
listed bytes from ended (token ∷ tokens) last f = (
  found_at_end bytes token.start ended token (again bytes from ended token f.0),
  next_starts bytes token.end ended tokens last f.1,
  listed bytes token.end ended tokens last f.1,
)
