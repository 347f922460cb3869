-- Answers lie within the bytes.
use Rattle.std.proofs.Common.{inl, inr, sym, ◌≡◌, ◌+◌, ◌<◌, ◌≤◌, ℕ, Bool, true, false, List, [], ◌∷◌, length, drop, Option, None, Some, refl, subst, arith, length-drop}
use Rattle.std.proofs.lemmas.Bool.{cases_lt}
use Rattle.std.proofs.lemmas.List.{drop_all}
use Rattle.bidel_lex.specs.declared.tokens.TokenKind.{TokenKind}
use Rattle.bidel_lex.specs.declared.tokens.Lexed.{Lexed}
use Rattle.bidel_lex.specs.declared.tokens.Lexed.TheVariants as lexed
use Rattle.bidel_lex.specs.declared.next.Part.{Part}
use Rattle.bidel_lex.specs.declared.next.Part.TheVariants.{Blank, Comment, Open}
use Rattle.bidel_lex.specs.declared.next.Turn.TheVariants.{Go, Stop}
use Rattle.bidel_lex.specs.Next.{after_turn, IsWithin, kind_of, lexed_at, next_of, over_as, turn_at}
use Rattle.bidel_lex.specs.Laws.{Within}
use Rattle.bidel_lex.proofs.Turns.{Begins, CanStop, CanTurn, can_turn, IsReady, least_after, least_start, ready_after}

over_within : (kind : Option TokenKind) (start at from : ℕ) → from ≤ start → start < at → IsWithin at from true (over_as kind start at)
over_within None start at from h r = (omega arith, omega arith, λ e. cc)
over_within (Some kind) start at from h r = (h, r, omega arith)

end_within : (ended : Bool) (part : Part) (at from : ℕ) → from ≤ least_start part at → IsReady part at
    → IsWithin at from ended (lexed_at ended part at [])
unfolding lexed_at
end_within false part at from h r = refl
end_within true Blank at from h r = refl
end_within true Comment at from h r = refl
end_within true (Open start token) at from h r = over_within (kind_of token) start at from h r

begins_from : (part : Part) (at from start : ℕ) → Begins part at start → from ≤ least_start part at → from ≤ start
begins_from Blank at from start g h = omega arith
begins_from Comment at from start g h = absurd g
begins_from (Open s token) at from start g h = omega arith

least_within : (part : Part) (at from : ℕ) → from ≤ least_start part at → IsReady part at → from ≤ at
least_within Blank at from h r = h
least_within Comment at from h r = h
least_within (Open s token) at from h r = omega arith

stop_within : (ended : Bool) (part : Part) (at from size : ℕ) (answer : Lexed) → CanStop part at answer
    → from ≤ least_start part at → IsReady part at → at < size → IsWithin size from ended answer
stop_within ended part at from size (lexed.Token token) g h r k = (begins_from part at from token.start g.0 h, g.1 r, omega (arith, g.2))
stop_within ended part at from size (lexed.BadToken place) g h r k =
    let l : from ≤ at = least_within part at from h r in (omega arith, omega arith, λ _. omega arith)
stop_within ended part at from size lexed.More g h r k = absurd g
stop_within ended part at from size lexed.End g h r k = absurd g

pub lexed_within : (ended : Bool) (part : Part) (at from size : ℕ) (bytes : List ℕ) → from ≤ least_start part at → IsReady part at
    → at + length bytes ≡ size → IsWithin size from ended (lexed_at ended part at bytes)
unfolding lexed_at
lexed_within ended part at from size [] h r e =
    let P : ℕ → Type 0 = λ n. IsWithin n from ended (lexed_at ended part at []) in
    let k : at ≡ size = omega arith in subst P k (end_within ended part at from h r)
lexed_within ended part at from size (b ∷ bytes) h r e =
    elim (turn_at part at b) as (λ t. CanTurn part at t → IsWithin size from ended (after_turn t (λ next. lexed_at ended next (at + 1) bytes))) [
      | Go next ↦ λ g. lexed_within ended next (at + 1) from size bytes (least_after part next at from g r h) (ready_after part next at g r) (omega arith)
      | Stop answer ↦ λ g. stop_within ended part at from size answer g h r (omega arith)
    ] (can_turn part at b)

nothing_within : (ended : Bool) (at size from : ℕ) → IsWithin size from ended (lexed_at ended Blank at [])
unfolding lexed_at
nothing_within true at size from = refl
nothing_within false at size from = refl

pub within : Within
unfolding next_of
within bytes from ended =
    elim (cases_lt (length bytes) from) [
      | inl out ↦ (
          let none : drop from bytes ≡ [] = drop_all from bytes (omega arith) in
          let P : List ℕ → Type 0 = λ l. IsWithin (length bytes) from ended (lexed_at ended Blank from l) in
          subst P (sym none) (nothing_within ended from (length bytes) from))
      | inr h ↦ lexed_within ended Blank from from (length bytes) (drop from bytes) (omega arith) tt (omega (arith, length-drop from bytes))
    ]

-- the same of an answer that is shown to be the one
pub within_along : (bytes : List ℕ) (from : ℕ) (ended : Bool) (answer : Lexed) → next_of bytes from ended ≡ answer
    → IsWithin (length bytes) from ended answer
within_along bytes from ended answer e = let P : Lexed → Type 0 = λ a. IsWithin (length bytes) from ended a in subst P e (within bytes from ended)
