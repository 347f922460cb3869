-- One byte more, and what it can come to.
use Rattle.std.proofs.Common.{◌≡◌, ◌+◌, ◌<◌, ◌≤◌, ℕ, Bool, true, false, List, ◌∷◌, length, drop, get_or, cond, Option, None, Some, refl, ap, ◌∙◌, sym, arith, drop-cons, add-one}
use Rattle.std.proofs.lemmas.List.{drop_all}
use Rattle.bidel_lex.specs.declared.tokens.TokenKind.{TokenKind}
use Rattle.bidel_lex.specs.declared.tokens.Lexed.{Lexed}
use Rattle.bidel_lex.specs.declared.tokens.Lexed.TheVariants as lexed
use Rattle.bidel_lex.specs.declared.unfinished.Unfinished.{Unfinished}
use Rattle.bidel_lex.specs.declared.unfinished.Step.{Step}
use Rattle.bidel_lex.specs.declared.unfinished.Step.TheVariants as step
use Rattle.bidel_lex.specs.declared.next.Part.{Part}
use Rattle.bidel_lex.specs.declared.next.Part.TheVariants.{Blank, Comment, Open}
use Rattle.bidel_lex.specs.declared.next.First.{First}
use Rattle.bidel_lex.specs.declared.next.First.TheVariants.{Space, Alone, Opens, Fault}
use Rattle.bidel_lex.specs.declared.next.Turn.{Turn}
use Rattle.bidel_lex.specs.declared.next.Turn.TheVariants.{Go, Stop}
use Rattle.bidel_lex.specs.Next.{after_turn, answer_at_end, first_of, first_turn, kind_of, lexed_at, over_as, step_of, step_turn, turn_at}

drop_at_place : (at : ℕ) (bytes : List ℕ) → at < length bytes → drop at bytes ≡ get_or bytes at 0 ∷ drop (at + 1) bytes
drop_at_place at bytes h = rw (add-one, drop-cons bytes at 0) refl

lexed_at-step : (ended : Bool) (part : Part) (at : ℕ) (bytes : List ℕ) → at < length bytes
    → lexed_at ended part at (drop at bytes) ≡ after_turn (turn_at part at (get_or bytes at 0)) (λ next. lexed_at ended next (at + 1) (drop (at + 1) bytes))
unfolding lexed_at
lexed_at-step ended part at bytes h = ap (lexed_at ended part at) (drop_at_place at bytes h)

-- reading goes on after the byte at a place
pub lexing_goes : (ended : Bool) (part next : Part) (at : ℕ) (bytes : List ℕ) → at < length bytes
    → turn_at part at (get_or bytes at 0) ≡ Go next
    → lexed_at ended next (at + 1) (drop (at + 1) bytes) ≡ lexed_at ended part at (drop at bytes)
lexing_goes ended part next at bytes h t =
    sym (lexed_at-step ended part at bytes h ∙ ap (λ (r : Turn). after_turn r (λ next. lexed_at ended next (at + 1) (drop (at + 1) bytes))) t)

-- reading stops at the byte at a place
pub lexing_stops : (ended : Bool) (part : Part) (at : ℕ) (bytes : List ℕ) (answer : Lexed) → at < length bytes
    → turn_at part at (get_or bytes at 0) ≡ Stop answer → answer ≡ lexed_at ended part at (drop at bytes)
lexing_stops ended part at bytes answer h t =
    sym (lexed_at-step ended part at bytes h ∙ ap (λ (r : Turn). after_turn r (λ next. lexed_at ended next (at + 1) (drop (at + 1) bytes))) t)

-- no byte is left
pub lexing_ends : (ended : Bool) (part : Part) (at : ℕ) (bytes : List ℕ) → length bytes ≤ at
    → lexed_at ended part at (drop at bytes) ≡ cond ended (answer_at_end part at) lexed.More
unfolding lexed_at
lexing_ends ended part at bytes h = ap (lexed_at ended part at) (drop_all at bytes h)

pub ruleset turns = (lexing_goes, lexing_stops, lexing_ends)

-- what the bytes before a place come to can be the beginning of a token that starts there
abbrev pub Begins : Part → ℕ → ℕ → Type 0
Begins Blank at start = start ≡ at
Begins Comment at start = ⊥
Begins (Open from token) at start = start ≡ from

-- an unfinished token has a byte
abbrev pub IsReady : Part → ℕ → Type 0
IsReady Blank at = Unit {0}
IsReady Comment at = Unit {0}
IsReady (Open start token) at = start < at

-- no token that is found from here on starts before this place
abbrev pub least_start : Part → ℕ → ℕ
least_start Blank at = at
least_start Comment at = at
least_start (Open start token) at = start

-- what a part can come to by a byte
abbrev pub CanGo : Part → ℕ → Part → Type 0
CanGo part at Blank = Unit {0}
CanGo part at Comment = Unit {0}
CanGo part at (Open start token) = Begins part at start

-- the answers at a byte
abbrev pub CanStop : Part → ℕ → Lexed → Type 0
CanStop part at (lexed.Token token) = Begins part at token.start × (IsReady part at → token.start < token.end) × (token.end ≤ at + 1)
CanStop part at (lexed.BadToken place) = place ≡ at
CanStop part at lexed.More = ⊥
CanStop part at lexed.End = ⊥

abbrev pub CanTurn : Part → ℕ → Turn → Type 0
CanTurn part at (Go next) = CanGo part at next
CanTurn part at (Stop answer) = CanStop part at answer

can_turn_first : (at : ℕ) (f : First) → CanTurn Blank at (first_turn at f)
can_turn_first at Space = tt
can_turn_first at Alone = (refl, λ _. omega arith, omega arith)
can_turn_first at (Opens token) = refl
can_turn_first at Fault = refl

can_be_over : (start at : ℕ) (token : Unfinished) (kind : Option TokenKind) → CanStop (Open start token) at (over_as kind start at)
can_be_over start at token None = refl
can_be_over start at token (Some kind) = (refl, λ h. h, omega arith)

can_turn_step : (start at : ℕ) (token : Unfinished) (s : Step) → CanTurn (Open start token) at (step_turn start token at s)
can_turn_step start at token (step.Longer next) = refl
can_turn_step start at token step.Last = (refl, λ h. omega (arith, h), omega arith)
can_turn_step start at token step.Comment = tt
can_turn_step start at token step.Over = can_be_over start at token (kind_of token)
can_turn_step start at token step.Fault = refl

can_leave_comment : (at : ℕ) (c : Bool) → CanTurn Comment at (Go (cond c Blank Comment))
can_leave_comment at true = tt
can_leave_comment at false = tt

pub can_turn : (part : Part) (at b : ℕ) → CanTurn part at (turn_at part at b)
unfolding turn_at
can_turn Blank at b = can_turn_first at (first_of b)
can_turn Comment at b = can_leave_comment at _
can_turn (Open start token) at b = can_turn_step start at token (step_of token b)

pub ready_after : (part next : Part) (at : ℕ) → CanGo part at next → IsReady part at → IsReady next (at + 1)
ready_after part Blank at g r = tt
ready_after part Comment at g r = tt
ready_after Blank (Open start token) at g r = omega arith
ready_after Comment (Open start token) at g r = absurd g
ready_after (Open from was) (Open start token) at g r = omega arith

pub least_after : (part next : Part) (at from : ℕ) → CanGo part at next → IsReady part at → from ≤ least_start part at → from ≤ least_start next (at + 1)
least_after Blank Blank at from g r h = omega arith
least_after Blank Comment at from g r h = omega arith
least_after Blank (Open start token) at from g r h = omega arith
least_after Comment Blank at from g r h = omega arith
least_after Comment Comment at from g r h = omega arith
least_after Comment (Open start token) at from g r h = absurd g
least_after (Open s was) Blank at from g r h = omega arith
least_after (Open s was) Comment at from g r h = omega arith
least_after (Open s was) (Open start token) at from g r h = omega arith
