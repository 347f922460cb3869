-- A token is found again from its own start.
use Rattle.std.proofs.Common.{◌≡◌, ◌+◌, ℕ, Bool, true, false, List, [], ◌∷◌, ◌⊎◌, inl, inr, drop, Option, None, Some, refl, sym, ap, ◌∙◌, subst, drop-drop}
use Rattle.bidel_lex.specs.declared.tokens.Token.{Token}
use Rattle.bidel_lex.specs.declared.tokens.TokenKind.{TokenKind}
use Rattle.bidel_lex.specs.declared.tokens.Lexed.{Lexed}
use Rattle.bidel_lex.specs.declared.tokens.Lexed.TheVariants as lexed
use Rattle.bidel_lex.specs.declared.next.Part.{Part}
use Rattle.bidel_lex.specs.declared.next.Part.TheVariants.{Blank, Comment, Open}
use Rattle.bidel_lex.specs.declared.next.Turn.TheVariants.{Go, Stop}
use Rattle.bidel_lex.specs.Next.{after_turn, kind_of, lexed_at, next_of, over_as, turn_at}
use Rattle.bidel_lex.specs.Laws.{Again}
use Rattle.bidel_lex.proofs.Turns.{Begins, CanGo, CanStop, CanTurn, can_turn}

-- the token began before this place, or it is found from its start on
abbrev FoundAgain : Bool → Part → ℕ → List ℕ → Token → Type 0
FoundAgain ended part at whole token = Begins part at token.start ⊎ (next_of whole token.start ended ≡ lexed.Token token)

same_token : (t token : Token) → lexed.Token t ≡ lexed.Token token → t ≡ token
same_token t token e = cc

over_again : (kind : Option TokenKind) (start at : ℕ) (token : Token) → over_as kind start at ≡ lexed.Token token → token.start ≡ start
over_again None start at token e = absurd cc
over_again (Some kind) start at token e = sym (ap (λ (t : Token). t.start) (same_token _ token e))

end_again : (ended : Bool) (part : Part) (at : ℕ) (whole : List ℕ) (token : Token) → lexed_at ended part at [] ≡ lexed.Token token
    → FoundAgain ended part at whole token
unfolding lexed_at
end_again false part at whole token h = absurd cc
end_again true Blank at whole token h = absurd cc
end_again true Comment at whole token h = absurd cc
end_again true (Open start was) at whole token h = inl (over_again (kind_of was) start at token h)

begins_before : (part : Part) (at start begin : ℕ) → Begins part at start → begin ≡ start → Begins part at begin
begins_before part at start begin g e = let P : ℕ → Type 0 = λ n. Begins part at n in subst P (sym e) g

-- a token that began where blanks end is found there
goes_again : (ended : Bool) (part next : Part) (at : ℕ) (whole bytes : List ℕ) (token : Token) → drop (at + 1) whole ≡ bytes
    → CanGo part at next → lexed_at ended next (at + 1) bytes ≡ lexed.Token token → FoundAgain ended next (at + 1) whole token
    → FoundAgain ended part at whole token
unfolding next_of
goes_again ended part next at whole bytes token d g h (inr again) = inr again
goes_again ended part Blank at whole bytes token d g h (inl began) = inr (
    ap (λ n. next_of whole n ended) began ∙ ap (lexed_at ended Blank (at + 1)) d ∙ h)
goes_again ended part Comment at whole bytes token d g h (inl began) = absurd began
goes_again ended part (Open start was) at whole bytes token d g h (inl began) = inl (begins_before part at start token.start g began)

stops_again : (part : Part) (at : ℕ) (answer : Lexed) (token : Token) → CanStop part at answer → answer ≡ lexed.Token token
    → Begins part at token.start
stops_again part at (lexed.Token t) token g h = begins_before part at t.start token.start g.0 (sym (ap (λ (t : Token). t.start) (same_token t token h)))
stops_again part at (lexed.BadToken place) token g h = absurd cc
stops_again part at lexed.More token g h = absurd g
stops_again part at lexed.End token g h = absurd g

pub drop_after : (at b : ℕ) (whole bytes : List ℕ) → drop at whole ≡ b ∷ bytes → drop (at + 1) whole ≡ bytes
drop_after at b whole bytes d = sym (drop-drop 1 at whole) ∙ ap (λ (l : List ℕ). drop 1 l) d

lexed_again : (ended : Bool) (part : Part) (at : ℕ) (whole bytes : List ℕ) (token : Token) → drop at whole ≡ bytes
    → lexed_at ended part at bytes ≡ lexed.Token token → FoundAgain ended part at whole token
unfolding lexed_at
lexed_again ended part at whole [] token d h = end_again ended part at whole token h
lexed_again ended part at whole (b ∷ bytes) token d h =
    let after : drop (at + 1) whole ≡ bytes = drop_after at b whole bytes d in
    elim (turn_at part at b) as (λ t. CanTurn part at t → after_turn t (λ next. lexed_at ended next (at + 1) bytes) ≡ lexed.Token token → FoundAgain ended part at whole token) [
      | Go next ↦ λ g k. goes_again ended part next at whole bytes token after g k (lexed_again ended next (at + 1) whole bytes token after k)
      | Stop answer ↦ λ g k. inl (stops_again part at answer token g k)
    ] (can_turn part at b) h

pub again : Again
unfolding next_of
again bytes from ended token e =
    elim (lexed_again ended Blank from bytes (drop from bytes) token refl e) [
      | inl began ↦ ap (λ n. next_of bytes n ended) began ∙ e
      | inr found ↦ found
    ]
