-- Answers stay as the bytes go on.
use Rattle.std.proofs.Common.{inl, inr, arith, length, ◌≡◌, ◌≢◌, ◌+◌, ℕ, Bool, false, List, [], ◌∷◌, ◌++◌, drop, refl, ap, ◌∙◌}
use Rattle.std.proofs.lemmas.List.{drop-append-le, drop_all}
use Rattle.std.proofs.lemmas.Bool.{cases_lt}
use Rattle.bidel_lex.specs.declared.tokens.Lexed.TheVariants as lexed
use Rattle.bidel_lex.specs.declared.next.Part.{Part}
use Rattle.bidel_lex.specs.declared.next.Part.TheVariants.{Blank}
use Rattle.bidel_lex.specs.declared.next.Turn.TheVariants.{Go, Stop}
use Rattle.bidel_lex.specs.Next.{after_turn, lexed_at, next_of, turn_at}
use Rattle.bidel_lex.specs.Laws.{Stable}

lexed_stable : (ended : Bool) (part : Part) (at : ℕ) (bytes more : List ℕ) → lexed_at false part at bytes ≢ lexed.More
    → lexed_at ended part at (bytes ++ more) ≡ lexed_at false part at bytes
unfolding lexed_at
lexed_stable ended part at [] more h = absurd (h refl)
lexed_stable ended part at (b ∷ bytes) more h =
    elim (turn_at part at b) as (λ t. after_turn t (λ next. lexed_at false next (at + 1) bytes) ≢ lexed.More
    → after_turn t (λ next. lexed_at ended next (at + 1) (bytes ++ more)) ≡ after_turn t (λ next. lexed_at false next (at + 1) bytes)) [
      | Go next ↦ λ k. lexed_stable ended next (at + 1) bytes more k
      | Stop answer ↦ λ k. refl
    ] h

nothing_stable : (at : ℕ) (bytes : List ℕ) → bytes ≡ [] → lexed_at false Blank at bytes ≡ lexed.More
unfolding lexed_at
nothing_stable at bytes e = ap (lexed_at false Blank at) e

pub stable : Stable
unfolding next_of
stable bytes more from ended k =
    elim (cases_lt (length bytes) from) [
      | inl out ↦ absurd (k (nothing_stable from (drop from bytes) (drop_all from bytes (omega arith))))
      | inr h ↦ ap (lexed_at ended Blank from) (drop-append-le from bytes more h) ∙ lexed_stable ended Blank from (drop from bytes) more k
    ]
