-- What is found in bytes behind others is what is found in them alone, so many bytes later.
use Rattle.std.proofs.Common.{◌≡◌, ◌+◌, ◌++◌, ℕ, List, [], ◌∷◌, Bool, true, false, refl, ap, ◌∙◌, drop, length, arith}
use Rattle.std.specs.Prelude.{◌==◌, Option, Some, None, if◌then◌else◌}
use Rattle.std.proofs.Math.Seq.{drop-append-add}
use Rattle.bidel_lex.specs.declared.tokens.Token.{Token}
use Rattle.bidel_lex.specs.declared.tokens.TokenKind.{TokenKind}
use Rattle.bidel_lex.specs.declared.tokens.TokenKind.TheVariants as kind
use Rattle.bidel_lex.specs.declared.tokens.Lexed.{Lexed}
use Rattle.bidel_lex.specs.declared.tokens.Lexed.TheVariants as lexed
use Rattle.bidel_lex.specs.declared.unfinished.Unfinished.{Unfinished}
use Rattle.bidel_lex.specs.declared.unfinished.Step.{Step}
use Rattle.bidel_lex.specs.declared.unfinished.Step.TheVariants as step
use Rattle.bidel_lex.specs.declared.next.Part.{Part}
use Rattle.bidel_lex.specs.declared.next.Part.TheVariants.{Blank, Comment, Open}
use Rattle.bidel_lex.specs.declared.next.First.{First}
use Rattle.bidel_lex.specs.declared.next.First.TheVariants as first
use Rattle.bidel_lex.specs.declared.next.Turn.{Turn}
use Rattle.bidel_lex.specs.declared.next.Turn.TheVariants.{Go, Stop}
use Rattle.bidel_lex.specs.Next.{after_turn, answer_at_end, first_of, first_turn, found, kind_of, lexed_at, next_of, over_as, step_of, step_turn, turn_at}
use Rattle.bidel_lex.specs.Tokens.{is_token}

-- ---- so many bytes later

abbrev pub moved_token : ℕ → Token → Token
moved_token k token = record { kind = token.kind; start = k + token.start; end = k + token.end }

abbrev pub moved_last : ℕ → Lexed → Lexed
moved_last k (lexed.Token token) = lexed.Token (moved_token k token)
moved_last k lexed.More = lexed.More
moved_last k lexed.End = lexed.End
moved_last k (lexed.BadToken at) = lexed.BadToken (k + at)

abbrev moved_part : ℕ → Part → Part
moved_part k Blank = Blank
moved_part k Comment = Comment
moved_part k (Open start token) = Open (k + start) token

abbrev moved_turn : ℕ → Turn → Turn
moved_turn k (Go part) = Go (moved_part k part)
moved_turn k (Stop answer) = Stop (moved_last k answer)

-- ---- reading

first_moved : (k at : ℕ) (f : First) → first_turn (k + at) f ≡ moved_turn k (first_turn at f)
first_moved k at first.Space = refl
first_moved k at first.Alone = let e : k + at + 1 ≡ k + (at + 1) = omega arith in ap (λ (n : ℕ). Stop (found kind.Symbol (k + at) n)) e
first_moved k at (first.Opens token) = refl
first_moved k at first.Fault = refl

over_moved : (k start at : ℕ) (o : Option TokenKind) → over_as o (k + start) (k + at) ≡ moved_last k (over_as o start at)
over_moved k start at (Some a) = refl
over_moved k start at None = refl

step_moved : (k start at : ℕ) (token : Unfinished) (s : Step) → step_turn (k + start) token (k + at) s ≡ moved_turn k (step_turn start token at s)
step_moved k start at token (step.Longer next) = refl
step_moved k start at token step.Last = let e : k + at + 1 ≡ k + (at + 1) = omega arith in ap (λ (n : ℕ). Stop (found kind.Symbol (k + start) n)) e
step_moved k start at token step.Comment = refl
step_moved k start at token step.Over = ap (λ (l : Lexed). Stop l) (over_moved k start at (kind_of token))
step_moved k start at token step.Fault = refl

comment_moved : (k : ℕ) (feed : Bool) → Go (if feed then Blank else Comment) ≡ moved_turn k (Go (if feed then Blank else Comment))
comment_moved k true = refl
comment_moved k false = refl

turn_moved : (k : ℕ) (part : Part) (at b : ℕ) → turn_at (moved_part k part) (k + at) b ≡ moved_turn k (turn_at part at b)
unfolding turn_at
turn_moved k Blank at b = first_moved k at (first_of b)
turn_moved k Comment at b = comment_moved k (b == 10)
turn_moved k (Open start token) at b = step_moved k start at token (step_of token b)

end_moved : (k at : ℕ) (part : Part) → answer_at_end (moved_part k part) (k + at) ≡ moved_last k (answer_at_end part at)
end_moved k at Blank = refl
end_moved k at Comment = refl
end_moved k at (Open start token) = over_moved k start at (kind_of token)

after_moved : (k : ℕ) (ended : Bool) (at : ℕ) (bytes : List ℕ) → ((next : Part) → lexed_at ended (moved_part k next) (k + (at + 1)) bytes ≡ moved_last k (lexed_at ended next (at + 1) bytes))
    → (t : Turn) → after_turn (moved_turn k t) (λ next. lexed_at ended next (k + at + 1) bytes) ≡ moved_last k (after_turn t (λ next. lexed_at ended next (at + 1) bytes))
after_moved k ended at bytes rest (Go next) = let e : k + at + 1 ≡ k + (at + 1) = omega arith in ap (λ (n : ℕ). lexed_at ended (moved_part k next) n bytes) e ∙ rest next
after_moved k ended at bytes rest (Stop answer) = refl

lexed_moved : (k : ℕ) (ended : Bool) (part : Part) (at : ℕ) (bytes : List ℕ) → lexed_at ended (moved_part k part) (k + at) bytes ≡ moved_last k (lexed_at ended part at bytes)
unfolding lexed_at
lexed_moved k true part at [] = end_moved k at part
lexed_moved k false part at [] = refl
lexed_moved k ended part at (b ∷ bytes) =
    ap (λ (t : Turn). after_turn t (λ next. lexed_at ended next (k + at + 1) bytes)) (turn_moved k part at b)
    ∙ after_moved k ended at bytes (λ next. lexed_moved k ended next (at + 1) bytes) (turn_at part at b)

pub next_moved : (u y : List ℕ) (from : ℕ) (ended : Bool) → next_of (u ++ y) (length u + from) ended ≡ moved_last (length u) (next_of y from ended)
unfolding next_of
next_moved u y from ended = ap (lexed_at ended Blank (length u + from)) (drop-append-add u y from) ∙ lexed_moved (length u) ended Blank from (drop from y)

pub token_moved : (k : ℕ) (last : Lexed) → is_token (moved_last k last) ≡ is_token last
token_moved k (lexed.Token t) = refl
token_moved k lexed.More = refl
token_moved k lexed.End = refl
token_moved k (lexed.BadToken at) = refl
