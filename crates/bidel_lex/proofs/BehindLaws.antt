-- What is found only as more bytes come ends behind those before.
use Rattle.std.proofs.Common.{◌≡◌, ◌+◌, ◌≤◌, ℕ, Bool, true, false, List, [], ◌∷◌, ◌++◌, drop, length, Option, None, Some, sym, subst, arith, length-drop}
use Rattle.std.proofs.lemmas.List.{drop-append-le}
use Rattle.bidel_lex.specs.declared.tokens.TokenKind.{TokenKind}
use Rattle.bidel_lex.specs.declared.tokens.Lexed.{Lexed}
use Rattle.bidel_lex.specs.declared.tokens.Lexed.TheVariants as lexed
use Rattle.bidel_lex.specs.declared.unfinished.Unfinished.{Unfinished}
use Rattle.bidel_lex.specs.declared.unfinished.Step.{Step}
use Rattle.bidel_lex.specs.declared.unfinished.Step.TheVariants as step
use Rattle.bidel_lex.specs.declared.next.Part.{Part}
use Rattle.bidel_lex.specs.declared.next.Part.TheVariants.{Blank, Comment, Open}
use Rattle.bidel_lex.specs.declared.next.First.{First}
use Rattle.bidel_lex.specs.declared.next.First.TheVariants.{Space, Alone, Opens, Fault}
use Rattle.bidel_lex.specs.declared.next.Turn.{Turn}
use Rattle.bidel_lex.specs.declared.next.Turn.TheVariants.{Go, Stop}
use Rattle.bidel_lex.specs.Next.{after_turn, answer_at_end, first_of, first_turn, kind_of, lexed_at, next_of, over_as, step_of, step_turn, turn_at}
use Rattle.bidel_lex.specs.Laws.{EndsBehind, IsBehind}

behind_less : (m n : ℕ) (answer : Lexed) → m ≤ n → IsBehind n answer → IsBehind m answer
behind_less m n (lexed.Token token) le h = omega (arith, le, h)
behind_less m n (lexed.BadToken bad) le h = omega (arith, le, h)
behind_less m n lexed.More le h = tt
behind_less m n lexed.End le h = tt

-- ---- one byte

-- reading goes on, or stops with such an answer
abbrev TurnsBehind : ℕ → Turn → Type 0
TurnsBehind n (Go part) = Unit {0}
TurnsBehind n (Stop answer) = IsBehind n answer

over_behind : (kind : Option TokenKind) (start at : ℕ) → IsBehind at (over_as kind start at)
over_behind None start at = omega arith
over_behind (Some kind) start at = omega arith

first_behind : (at : ℕ) (first : First) → TurnsBehind at (first_turn at first)
first_behind at Space = tt
first_behind at Alone = omega arith
first_behind at (Opens token) = tt
first_behind at Fault = omega arith

step_behind : (start : ℕ) (token : Unfinished) (at : ℕ) (s : Step) → TurnsBehind at (step_turn start token at s)
step_behind start token at (step.Longer next) = tt
step_behind start token at step.Last = omega arith
step_behind start token at step.Comment = tt
step_behind start token at step.Over = over_behind (kind_of token) start at
step_behind start token at step.Fault = omega arith

turn_behind : (part : Part) (at b : ℕ) → TurnsBehind at (turn_at part at b)
unfolding turn_at
turn_behind Blank at b = first_behind at (first_of b)
turn_behind Comment at b = tt
turn_behind (Open start token) at b = step_behind start token at (step_of token b)

-- ---- all bytes

end_behind : (part : Part) (at : ℕ) → IsBehind at (answer_at_end part at)
end_behind Blank at = tt
end_behind Comment at = tt
end_behind (Open start token) at = over_behind (kind_of token) start at

-- an answer ends behind the place from which it is read
reads_behind : (ended : Bool) (part : Part) (at : ℕ) (bytes : List ℕ) → IsBehind at (lexed_at ended part at bytes)
unfolding lexed_at
reads_behind true part at [] = end_behind part at
reads_behind false part at [] = tt
reads_behind ended part at (b ∷ bytes) =
    elim (turn_at part at b) as (λ t. TurnsBehind at t → IsBehind at (after_turn t (λ next. lexed_at ended next (at + 1) bytes))) [
      | Go next ↦ λ h. behind_less at (at + 1) (lexed_at ended next (at + 1) bytes) (omega arith) (reads_behind ended next (at + 1) bytes)
      | Stop answer ↦ λ h. h
    ] (turn_behind part at b)

more_behind : (n : ℕ) (answer : Lexed) → answer ≡ lexed.More → IsBehind n answer
more_behind n answer e = subst (IsBehind n) (sym e) tt

-- behind the first bytes, where those want more
lexed_behind : (ended : Bool) (part : Part) (at : ℕ) (bytes more : List ℕ) → lexed_at false part at bytes ≡ lexed.More → IsBehind (at + length bytes) (lexed_at ended part at (bytes ++ more))
unfolding lexed_at
lexed_behind ended part at [] more h = behind_less (at + length {A = ℕ} []) at (lexed_at ended part at more) (omega arith) (reads_behind ended part at more)
lexed_behind ended part at (b ∷ bytes) more h =
    elim (turn_at part at b) as (λ t. after_turn t (λ next. lexed_at false next (at + 1) bytes) ≡ lexed.More
    → IsBehind (at + length (b ∷ bytes)) (after_turn t (λ next. lexed_at ended next (at + 1) (bytes ++ more)))) [
      | Go next ↦ λ k. behind_less (at + length (b ∷ bytes)) (at + 1 + length bytes) (lexed_at ended next (at + 1) (bytes ++ more)) (omega arith) (lexed_behind ended next (at + 1) bytes more k)
      | Stop answer ↦ λ k. more_behind (at + length (b ∷ bytes)) answer k
    ] h

pub ends_behind : EndsBehind
unfolding next_of
ends_behind bytes more from ended le h =
    subst (λ (l : List ℕ). IsBehind (length bytes) (lexed_at ended Blank from l)) (sym (drop-append-le from bytes more le))
    (behind_less (length bytes) (from + length (drop from bytes)) (lexed_at ended Blank from (drop from bytes ++ more)) (omega (arith, le, length-drop from bytes))
    (lexed_behind ended Blank from (drop from bytes) more h))
