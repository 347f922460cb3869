-- The tokens of some bytes.
use Rattle.std.proofs.Common.{◌≡◌, ◌≤◌, ◌-◌, ℕ, zero, suc, List, [], ◌∷◌, ◌++◌, Bool, true, false, refl, sym, ap, ◌∙◌, take, drop, length, length-drop, arith}
use Rattle.std.proofs.lemmas.List.{drop-map, take_all}
use Rattle.bidel_lex.specs.declared.tokens.Token.{Token}
use Rattle.bidel_lex.specs.declared.tokens.Lexed.{Lexed}
use Rattle.bidel_lex.specs.declared.tokens.Lexed.TheVariants as lexed
use Rattle.bidel_lex.specs.Next.{next_of}
use Rattle.bidel_lex.specs.Tokens.{AreTokens, HasTokens, is_token}
use Rattle.bidel_lex.proofs.WithinLaws.{within_along}
use Rattle.bidel_lex.proofs.ListedLaws.{listed}
use Rattle.bidel_expr.specs.Lexemes.{lexeme, lexemes}
use Rattle.bidel_parser.specs.Parsing.{IsFault, start_of}
use Rattle.bidel_script.specs.declared.tokens.Tail.{Tail}
use Rattle.bidel_script.specs.Tails.{AreAll, last_end, begun_at, first_byte, is_over}

pub same_token : (a b : Token) → lexed.Token a ≡ lexed.Token b → a ≡ b
same_token a b h = cc

-- a token is no last answer
not_last : (token : Token) (last : Lexed) → lexed.Token token ≡ last → is_token last ≡ false → ⊥
not_last token last h k = let bad = ap is_token h ∙ k in cc

-- the bytes have one list of tokens, and one answer behind it
pub tokens_are_one : (ended : Bool) (bytes : List ℕ) (from : ℕ) (one other : List Token) (last last2 : Lexed)
    → HasTokens ended bytes from one last → HasTokens ended bytes from other last2 → (one ≡ other) × (last ≡ last2)
tokens_are_one ended bytes from [] [] last last2 h k = (refl, sym h.0 ∙ k.0)
tokens_are_one ended bytes from [] (u ∷ us) last last2 h k = absurd (not_last u last (sym k.0 ∙ h.0) h.1)
tokens_are_one ended bytes from (t ∷ ts) [] last last2 h k = absurd (not_last t last2 (sym h.0 ∙ k.0) k.1)
tokens_are_one ended bytes from (t ∷ ts) (u ∷ us) last last2 h k =
    let first : t ≡ u = same_token t u (sym h.0 ∙ k.0) in
    let rest = tokens_are_one ended bytes t.end ts us last last2 h.1 (rw (ap (λ (x : Token). x.end) first) k.1) in
    (ap (λ (x : Token). x ∷ ts) first ∙ ap (λ (xs : List Token). u ∷ xs) rest.0, rest.1)

tail_is : (one other : Tail) → one.last ≡ other.last → one.begun ≡ other.begun → one ≡ other
tail_is one other h k = λ i. record { last = h i; begun = k i }

-- and one tail
pub all_are_one : (bytes : List ℕ) (ended : Bool) (one other : List Token) (tail tail2 : Tail)
    → AreAll bytes ended one tail → AreAll bytes ended other tail2 → (one ≡ other) × (tail ≡ tail2)
all_are_one bytes ended one other tail tail2 h k =
    let same = tokens_are_one ended bytes 0 one other tail.last tail2.last h.found k.found in (
      same.0,
      tail_is tail tail2 same.1
          (h.begun ∙ ap (λ (l : List Token). begun_at bytes (last_end 0 l) tail.last) same.0 ∙ ap (begun_at bytes (last_end 0 other)) same.1 ∙ sym k.begun),
    )

-- all tokens of the bytes are tokens of them
pub all_are_tokens : (bytes : List ℕ) (ended : Bool) (tokens : List Token) (tail : Tail) → AreAll bytes ended tokens tail → AreTokens bytes tokens
all_are_tokens bytes ended tokens tail h = listed bytes 0 ended tokens tail.last h.found

-- bytes that have come to their end want no more
pub wants_none : (bytes : List ℕ) (from : ℕ) (tokens : List Token) (last : Lexed) → HasTokens true bytes from tokens last → last ≡ lexed.More → ⊥
wants_none bytes from [] last h e = let bad : true ≡ false = within_along bytes from true lexed.More (h.0 ∙ e) in cc
wants_none bytes from (t ∷ ts) last h e = wants_none bytes t.end ts last h.1 e

-- bytes that may go on have no end
pub ends_not : (bytes : List ℕ) (from : ℕ) (tokens : List Token) (last : Lexed) → HasTokens false bytes from tokens last → last ≡ lexed.End → ⊥
ends_not bytes from [] last h e = let bad : false ≡ true = within_along bytes from false lexed.End (h.0 ∙ e) in cc
ends_not bytes from (t ∷ ts) last h e = ends_not bytes t.end ts last h.1 e

-- later tokens of the bytes are tokens of the bytes
pub are_tokens_drop : (bytes : List ℕ) (n : ℕ) (tokens : List Token) → AreTokens bytes tokens → AreTokens bytes (drop n tokens)
are_tokens_drop bytes zero tokens h = h
are_tokens_drop bytes (suc n) [] h = tt
are_tokens_drop bytes (suc n) (t ∷ ts) h = are_tokens_drop bytes n ts h.2

-- tokens start within the bytes
pub start_within : (bytes : List ℕ) (tokens : List Token) → AreTokens bytes tokens → start_of (length bytes) tokens ≤ length bytes
start_within bytes [] h = omega arith
start_within bytes (t ∷ ts) h = let w = within_along bytes t.start true (lexed.Token t) h.0 in omega (arith, w.1, w.2)

-- a fault of the grammar is at a byte or behind the last one
pub fault_within : (bytes : List ℕ) (tokens : List Token) (ended : Bool) (at : ℕ) → AreTokens bytes tokens → IsFault bytes tokens ended at → at ≤ length bytes
fault_within bytes tokens ended at h f =
    omega (arith, f.place, start_within bytes (drop f.token tokens) (are_tokens_drop bytes f.token tokens h))

-- what later tokens say
pub lexemes-drop : (bytes : List ℕ) (n : ℕ) (tokens : List Token) → lexemes bytes (drop n tokens) ≡ drop n (lexemes bytes tokens)
lexemes-drop bytes n tokens = sym (drop-map (lexeme bytes) n tokens)

-- what wants more isn't over, and what isn't over wants more
pub more_open : (last : Lexed) → last ≡ lexed.More → is_over last ≡ false
more_open last e = ap is_over e

pub over_not : (last : Lexed) → is_token last ≡ false → is_over last ≡ false → last ≡ lexed.More
over_not (lexed.Token t) h k = cc
over_not lexed.More h k = refl
over_not lexed.End h k = cc
over_not (lexed.BadToken at) h k = cc

-- the tokens that are left
pub rest_is : (tokens : List Token) (done : ℕ) → take (length tokens - done) (drop done tokens) ≡ drop done tokens
rest_is tokens done = take_all (length tokens - done) (drop done tokens) (omega (arith, length-drop done tokens))

-- the end of the last token
pub last_end-push : (from : ℕ) (tokens : List Token) (token : Token) → last_end from (tokens ++ token ∷ []) ≡ token.end
last_end-push from [] token = refl
last_end-push from (t ∷ ts) token = last_end-push t.end ts token

-- a byte that continues no token lies within the bytes, or behind the last one
pub bad_within : (bytes : List ℕ) (from : ℕ) (ended : Bool) (last : Lexed) (at : ℕ) → next_of bytes from ended ≡ last → last ≡ lexed.BadToken at → at ≤ length bytes
bad_within bytes from ended last at h e = (within_along bytes from ended (lexed.BadToken at) (h ∙ e)).1

-- where what isn't the end begins
pub begun_other : (bytes : List ℕ) (from end : ℕ) (last : Lexed) → from ≡ end → (last ≡ lexed.End → ⊥) → first_byte false from (drop from bytes) ≡ begun_at bytes end last
begun_other bytes from end (lexed.Token t) e n = ap (λ (k : ℕ). first_byte false k (drop k bytes)) e
begun_other bytes from end lexed.More e n = ap (λ (k : ℕ). first_byte false k (drop k bytes)) e
begun_other bytes from end lexed.End e n = absurd (n refl)
begun_other bytes from end (lexed.BadToken at) e n = ap (λ (k : ℕ). first_byte false k (drop k bytes)) e
