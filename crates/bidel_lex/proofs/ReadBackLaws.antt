-- A token is found where there is one, and `End` where nothing is left.
use Rattle.std.proofs.Common.{◌≡◌, ◌+◌, ◌==◌, ℕ, Bool, true, false, List, [], ◌∷◌, ◌++◌, length, drop, cond, refl, sym, ap, ◌∙◌, arith, append_assoc, append-nil, length-append}
use Rattle.std.specs.List.{AllPass}
use Rattle.std.proofs.lemmas.List.Elements.{All-head, All-tail}
use Rattle.bidel_lex.specs.declared.tokens.Token.{Token}
use Rattle.bidel_lex.specs.declared.tokens.TokenKind.{TokenKind}
use Rattle.bidel_lex.specs.declared.tokens.TokenKind.TheVariants as kind
use Rattle.bidel_lex.specs.declared.tokens.Lexed.TheVariants as lexed
use Rattle.bidel_lex.specs.declared.next.Part.TheVariants.{Blank, Comment}
use Rattle.bidel_lex.specs.declared.next.Turn.TheVariants.{Go}
use Rattle.bidel_lex.specs.Blanks.{Blanks, comment, EndBlanks, finished, is_inner, last_comment, nothing, space}
use Rattle.bidel_lex.specs.Spelled.{Spells}
use Rattle.bidel_lex.specs.Next.{after_turn, first_of, first_turn, lexed_at, next_of, step_of, turn_at}
use Rattle.bidel_lex.specs.Laws.{EndExactly, HasToken, TokenExactly}
use Rattle.bidel_lex.proofs.FoundLaws.{end_found, token_found}
use Rattle.bidel_lex.proofs.Runs.{number_reads, Reads, reference_reads, symbol_reads, word_reads}
use Rattle.bidel_lex.proofs.TextRuns.{text_reads}
use Rattle.bidel_lex.proofs.ByteTests.{space_first}

spelled_reads : (k : TokenKind) (text : List ℕ) → Spells k text → Reads k text
spelled_reads kind.Word text h = word_reads text h
spelled_reads kind.Number text h = number_reads text h
spelled_reads kind.Reference text h = reference_reads text h
spelled_reads kind.Text text h = text_reads text h
spelled_reads kind.Symbol text h = symbol_reads text h

inner_is : (b : ℕ) → is_inner b ≡ true → b == 10 ≡ false
inner_is b h = grind arith

-- within a comment
skip_inner : (ended : Bool) (at : ℕ) (inside rest : List ℕ) → AllPass is_inner inside
    → lexed_at ended Comment at (inside ++ rest) ≡ lexed_at ended Comment (at + length inside) rest
unfolding lexed_at turn_at
skip_inner ended at [] rest h = let e : at ≡ at + length {A = ℕ} [] = omega arith in ap (λ n. lexed_at ended Comment n rest) e
skip_inner ended at (b ∷ inside) rest h =
    let n : at + 1 + length inside ≡ at + length (b ∷ inside) = omega arith in
    ap (λ c. after_turn (Go (cond c Blank Comment)) (λ next. lexed_at ended next (at + 1) (inside ++ rest))) (inner_is b (All-head (λ b. is_inner b ≡ true) b inside h))
    ∙ skip_inner ended (at + 1) inside rest (All-tail (λ b. is_inner b ≡ true) b inside h) ∙ ap (λ n. lexed_at ended Comment n rest) n

comment_opens : (ended : Bool) (at : ℕ) (bytes : List ℕ) → lexed_at ended Blank at (45 ∷ 45 ∷ bytes) ≡ lexed_at ended Comment (at + 1 + 1) bytes
unfolding lexed_at turn_at first_of step_of
comment_opens ended at bytes = refl

comment_closes : (ended : Bool) (at : ℕ) (bytes : List ℕ) → lexed_at ended Comment at (10 ∷ bytes) ≡ lexed_at ended Blank (at + 1) bytes
unfolding lexed_at turn_at
comment_closes ended at bytes = refl

space_skipped : (ended : Bool) (at b : ℕ) (bytes : List ℕ) → first_turn at (first_of b) ≡ Go Blank → lexed_at ended Blank at (b ∷ bytes) ≡ lexed_at ended Blank (at + 1) bytes
unfolding lexed_at turn_at
space_skipped ended at b bytes e = ap (λ t. after_turn t (λ next. lexed_at ended next (at + 1) bytes)) e

-- what may stand between tokens
skip_blanks : (ended : Bool) (at : ℕ) (gap rest : List ℕ) → Blanks gap → lexed_at ended Blank at (gap ++ rest) ≡ lexed_at ended Blank (at + length gap) rest
skip_blanks ended at gap rest nothing = let e : at ≡ at + length {A = ℕ} [] = omega arith in ap (λ n. lexed_at ended Blank n rest) e
skip_blanks ended at gap rest (space b more e h) =
    let n : at + 1 + length more ≡ at + length (b ∷ more) = omega arith in
    space_skipped ended at b (more ++ rest) (ap (first_turn at) (space_first b e)) ∙ skip_blanks ended (at + 1) more rest h ∙ ap (λ n. lexed_at ended Blank n rest) n
skip_blanks ended at gap rest (comment inside more p h) =
    let n : at + 1 + 1 + length inside + 1 + length more ≡ at + length (45 ∷ 45 ∷ (inside ++ 10 ∷ more)) = omega (arith, length-append inside (10 ∷ more)) in
    comment_opens ended at ((inside ++ 10 ∷ more) ++ rest)
    ∙ ap (lexed_at ended Comment (at + 1 + 1)) (append_assoc inside (10 ∷ more) rest)
    ∙ skip_inner ended (at + 1 + 1) inside (10 ∷ (more ++ rest)) p
    ∙ comment_closes ended (at + 1 + 1 + length inside) (more ++ rest)
    ∙ skip_blanks ended (at + 1 + 1 + length inside + 1) more rest h
    ∙ ap (λ n. lexed_at ended Blank n rest) n

token_given : (bytes : List ℕ) (from : ℕ) (ended : Bool) (token : Token) → HasToken bytes from ended token → next_of bytes from ended ≡ lexed.Token token
unfolding next_of
token_given bytes from ended token h =
    let e : from + length h.gap + length h.text ≡ token.end = omega (arith, h.end, h.start) in
    let s : from + length h.gap ≡ token.start = sym h.start in
    ap (lexed_at ended Blank from) h.split
    ∙ skip_blanks ended from h.gap (h.text ++ h.rest) h.blank
    ∙ spelled_reads token.kind h.text h.spells ended (from + length h.gap) h.rest h.follows
    ∙ (λ i. lexed.Token (record { kind = token.kind; start = s i; end = e i }))

pub token_exactly : TokenExactly
token_exactly bytes from ended token = (token_found bytes from ended token, token_given bytes from ended token)

blanks_end : (at : ℕ) (bytes : List ℕ) → EndBlanks bytes → lexed_at true Blank at bytes ≡ lexed.End
unfolding lexed_at
blanks_end at bytes (finished h) = ap (lexed_at true Blank at) (sym (append-nil bytes)) ∙ skip_blanks true at bytes [] h
blanks_end at bytes (last_comment gap inside h p e) =
    ap (lexed_at true Blank at) e ∙ skip_blanks true at gap (45 ∷ 45 ∷ inside) h ∙ comment_opens true (at + length gap) inside
    ∙ ap (lexed_at true Comment (at + length gap + 1 + 1)) (sym (append-nil inside)) ∙ skip_inner true (at + length gap + 1 + 1) inside [] p

end_given : (bytes : List ℕ) (from : ℕ) (ended : Bool) → ended ≡ true → EndBlanks (drop from bytes) → next_of bytes from ended ≡ lexed.End
unfolding next_of
end_given bytes from true e h = blanks_end from (drop from bytes) h
end_given bytes from false e h = absurd cc

pub end_exactly : EndExactly
end_exactly bytes from ended = (end_found bytes from ended, λ h. end_given bytes from ended h.0 h.1)
