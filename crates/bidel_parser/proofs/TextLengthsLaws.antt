-- Texts are no longer than the tokens that say them.
use Rattle.std.proofs.Common.{◌≡◌, ◌≤◌, ◌-◌, ◌∷◌, [], ℕ, List, Bool, true, false, cond, ap, length, take, drop, length-drop, refl, subst, arith}
use Rattle.std.specs.Prelude.{Some, None, slice_range, ◌==◌, ◌&&◌, IsUtf8}
use Rattle.std.specs.Str.{is_utf8}
use Rattle.std.specs.List.{All, Contains}
use Rattle.std.proofs.lemmas.Str.{IsUtf8-from_is_utf8}
use Rattle.std.proofs.lemmas.List.{length-take, take-map}
use Rattle.std.proofs.lemmas.List.Elements.{All-map, All-same, All-weaker, All-contains_itself}
use Rattle.par_base.specs.Literals.{undoubled}
use Rattle.bidel_lex.specs.declared.tokens.Token.{Token}
use Rattle.bidel_lex.specs.declared.tokens.TokenKind.{TokenKind}
use Rattle.bidel_lex.specs.declared.tokens.TokenKind.TheVariants as kind
use Rattle.bidel_expr.specs.Lexemes.{Lexeme, word, number, reference, «text», symbol, lexeme, lexeme_of, lexemes, between, text_of}
use Rattle.statements.specs.Texts.{IsTextWithin}
use Rattle.bidel_parser.specs.Texts.{IsSaid, TextsAreSaid, TextsAreWithin}
use Rattle.bidel_parser.proofs.TextLaws.{LexemeTexts, statement-texts}

-- quotes are only left out
undoubled_shorter : (after : Bool) (bytes : List ℕ) → length (undoubled after bytes) ≤ length bytes
unfolding undoubled
undoubled_shorter after [] = omega arith
undoubled_shorter after (b ∷ bytes) = by (after && b == 39) (undoubled_shorter false bytes) (undoubled_shorter (b == 39) bytes)
  where
    by : (t : Bool) → length (undoubled false bytes) ≤ length bytes → length (undoubled (b == 39) bytes) ≤ length bytes
        → length (cond t (undoubled false bytes) (b ∷ undoubled (b == 39) bytes)) ≤ length (b ∷ bytes)
    by true left kept = omega (arith, left)
    by false left kept = omega (arith, kept)

-- bytes in UTF-8 are the text that they are
same_text : (b : Bool) (bytes value : List ℕ) → cond b (Some bytes) None ≡ Some value → bytes ≡ value
same_text true bytes value h = cc
same_text false bytes value h = cc

-- a text has at most as many bytes as are written
written_longer : (k : TokenKind) (written value : List ℕ) → text_of (lexeme_of k written) ≡ Some value → length value ≤ length written
written_longer kind.Word written value h = cc
written_longer kind.Number written value h = cc
written_longer kind.Reference written value h = cc
written_longer kind.Text written value h =
    let same : undoubled false (between written) ≡ value = same_text (is_utf8 (undoubled false (between written))) (undoubled false (between written)) value h in
    omega (arith, ap length same, undoubled_shorter false (between written), length-take (length written - 2) (drop 1 written), length-drop 1 written)
written_longer kind.Symbol written value h = cc

-- and so at most as many as the token
token_longer : (bytes : List ℕ) (token : Token) (value : List ℕ) → text_of (lexeme bytes token) ≡ Some value → length value ≤ token.end - token.start
token_longer bytes token value h =
    omega (arith, written_longer token.kind (slice_range bytes token.start token.end) value h, length-take (token.end - token.start) (drop token.start bytes))

-- what holds of the text of each of the first tokens
front_texts : (P : List ℕ → Type 0) (bytes : List ℕ) (tokens : List Token) (used : ℕ) → All (λ token. LexemeTexts P (lexeme bytes token)) (take used tokens)
    → All (LexemeTexts P) (take used (lexemes bytes tokens))
front_texts P bytes tokens used h = All-same (LexemeTexts P) _ _ (take-map (lexeme bytes) used tokens) (All-map (LexemeTexts P) (lexeme bytes) (take used tokens) h)

pub texts_are_said : TextsAreSaid
texts_are_said bytes tokens ended statement used f =
    let P : List ℕ → Type 0 = IsSaid bytes (take used tokens) in
    (statement-texts P).holds (take used (lexemes bytes tokens)) statement f.spelled (front_texts P bytes tokens used
    (All-weaker (Contains (take used tokens)) (λ token. LexemeTexts P (lexeme bytes token)) said (take used tokens) (All-contains_itself (take used tokens))))
  where
    said : (token : Token) → Contains (take used tokens) token → LexemeTexts (IsSaid bytes (take used tokens)) (lexeme bytes token)
    said token at value says = record { token = token; among = at; says = says; within = token_longer bytes token value says }

-- what a token says is UTF-8
said_is_text : (t : Lexeme) (value : List ℕ) → text_of t ≡ Some value → IsUtf8 value
said_is_text (word w) value h = cc
said_is_text (number n) value h = cc
said_is_text (reference n) value h = cc
said_is_text («text» written) value h = by (is_utf8 written) refl h
  where
    by : (b : Bool) → is_utf8 written ≡ b → cond b (Some written) None ≡ Some value → IsUtf8 value
    by true is e = let same : written ≡ value = cc in subst IsUtf8 same (IsUtf8-from_is_utf8 written is)
    by false is e = cc
said_is_text (symbol s) value h = cc

pub texts_are_within : TextsAreWithin
texts_are_within bytes tokens ended statement used n f short =
    let P : List ℕ → Type 0 = IsTextWithin n in
    (statement-texts P).holds (take used (lexemes bytes tokens)) statement f.spelled (front_texts P bytes tokens used
    (All-weaker (λ token. token.end - token.start ≤ n) (λ token. LexemeTexts P (lexeme bytes token)) (λ token le value says. (omega (arith, le, token_longer bytes token value says), said_is_text (lexeme bytes token) value says)) (take used tokens) short))
