-- A fault shows at its place, and not before.
use Rattle.std.proofs.Common.{◌≡◌, ◌+◌, ◌-◌, ◌≤◌, ℕ, suc, Bool, true, false, List, [], ◌∷◌, drop, take, Option, None, Some, refl, ap, ◌∙◌, subst, arith}
use Rattle.std.proofs.lemmas.List.{drop-take}
use Rattle.bidel_lex.specs.declared.tokens.TokenKind.{TokenKind}
use Rattle.bidel_lex.specs.declared.tokens.Lexed.{Lexed}
use Rattle.bidel_lex.specs.declared.tokens.Lexed.TheVariants as lexed
use Rattle.bidel_lex.specs.declared.next.Part.{Part}
use Rattle.bidel_lex.specs.declared.next.Part.TheVariants.{Blank, Comment, Open}
use Rattle.bidel_lex.specs.declared.next.Turn.TheVariants.{Go, Stop}
use Rattle.bidel_lex.specs.Next.{after_turn, kind_of, lexed_at, next_of, over_as, turn_at}
use Rattle.bidel_lex.specs.Laws.{FaultsAreFirst}
use Rattle.bidel_lex.proofs.Turns.{CanStop, CanTurn, can_turn}

-- the fault isn't before this place, and the bytes up to it don't show it
record FaultFrom (part : Part) (at : ℕ) (bytes : List ℕ) (place : ℕ) : Type 0 where
  least : at ≤ place
  hidden : lexed_at false part at (take (place - at) bytes) ≡ lexed.More

fault_here : (part : Part) (at : ℕ) (bytes : List ℕ) (place : ℕ) → place ≡ at → FaultFrom part at bytes place
unfolding lexed_at
fault_here part at bytes place e =
    let n : 0 ≡ place - at = omega arith in
    let P : ℕ → Type 0 = λ n. lexed_at false part at (take n bytes) ≡ lexed.More in
    record { least = omega arith; hidden = subst P n refl }

same_place : (a b : ℕ) → lexed.BadToken a ≡ lexed.BadToken b → b ≡ a
same_place a b e = cc

over_fault : (k : Option TokenKind) (start at place : ℕ) → over_as k start at ≡ lexed.BadToken place → place ≡ at
over_fault None start at place e = same_place at place e
over_fault (Some k) start at place e = absurd cc

end_fault : (ended : Bool) (part : Part) (at place : ℕ) → lexed_at ended part at [] ≡ lexed.BadToken place → place ≡ at
unfolding lexed_at
end_fault false part at place e = absurd cc
end_fault true Blank at place e = absurd cc
end_fault true Comment at place e = absurd cc
end_fault true (Open start token) at place e = over_fault (kind_of token) start at place e

stop_fault : (part : Part) (at place : ℕ) (answer : Lexed) → CanStop part at answer → answer ≡ lexed.BadToken place → place ≡ at
stop_fault part at place (lexed.Token token) g e = absurd cc
stop_fault part at place (lexed.BadToken p) g e = same_place p place e ∙ g
stop_fault part at place lexed.More g e = absurd g
stop_fault part at place lexed.End g e = absurd g

fault_later : (part next : Part) (at b : ℕ) (bytes : List ℕ) (place : ℕ) → turn_at part at b ≡ Go next → FaultFrom next (at + 1) bytes place → FaultFrom part at (b ∷ bytes) place
unfolding lexed_at
fault_later part next at b bytes place e f =
    let l : at + 1 ≤ place = f.least in
    let n : suc (place - (at + 1)) ≡ place - at = omega arith in
    let P : ℕ → Type 0 = λ n. lexed_at false part at (take n (b ∷ bytes)) ≡ lexed.More in
    record {
      least = omega arith;
      hidden = subst P n (ap (λ t. after_turn t (λ next. lexed_at false next (at + 1) (take (place - (at + 1)) bytes))) e ∙ f.hidden);
    }

fault_from : (ended : Bool) (part : Part) (at : ℕ) (bytes : List ℕ) (place : ℕ) → lexed_at ended part at bytes ≡ lexed.BadToken place → FaultFrom part at bytes place
unfolding lexed_at
fault_from ended part at [] place h = fault_here part at [] place (end_fault ended part at place h)
fault_from ended part at (b ∷ bytes) place h =
    elim (turn_at part at b) as (λ t. turn_at part at b ≡ t → CanTurn part at t → after_turn t (λ next. lexed_at ended next (at + 1) bytes) ≡ lexed.BadToken place → FaultFrom part at (b ∷ bytes) place) [
      | Go next ↦ λ e g k. fault_later part next at b bytes place e (fault_from ended next (at + 1) bytes place k)
      | Stop answer ↦ λ e g k. fault_here part at (b ∷ bytes) place (stop_fault part at place answer g k)
    ] refl (can_turn part at b) h

pub faults_are_first : FaultsAreFirst
unfolding next_of
faults_are_first bytes from ended at h =
    let f : FaultFrom Blank from (drop from bytes) at = fault_from ended Blank from (drop from bytes) at h in
    let l : from ≤ at = f.least in
    let n : at ≡ from + (at - from) = omega arith in
    ap (λ n. lexed_at false Blank from (drop from (take n bytes))) n ∙ ap (lexed_at false Blank from) (drop-take from (at - from) bytes) ∙ f.hidden
