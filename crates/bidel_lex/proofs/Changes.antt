-- `More` comes exactly where the answer can change.
use Rattle.std.proofs.Common.{◌≡◌, ◌≢◌, ◌+◌, ◌^◌, ◌-◌, ◌≤◌, ◌<◌, ℕ, Bool, true, false, List, [], ◌∷◌, ◌++◌, length, drop, None, Some, cond, nat_lt, refl, sym, ap, ◌∙◌, subst, arith, append-nil, lit<}
use Rattle.std.specs.List.{All}
use Rattle.std.proofs.lemmas.List.{drop-append-le}
use Rattle.std.proofs.lemmas.List.Elements.{All-cons, All-nil}
use Rattle.bidel_lex.specs.declared.tokens.TokenKind.{TokenKind}
use Rattle.bidel_lex.specs.declared.tokens.TokenKind.TheVariants as kind
use Rattle.bidel_lex.specs.declared.tokens.Lexed.{Lexed}
use Rattle.bidel_lex.specs.declared.tokens.Lexed.TheVariants as lexed
use Rattle.bidel_lex.specs.declared.texts.Wanted.{Wanted}
use Rattle.bidel_lex.specs.declared.texts.Wanted.TheVariants.{Character, Last, LastTwo, LastThree, AfterE0, AfterED, AfterF0, AfterF4}
use Rattle.bidel_lex.specs.declared.unfinished.Unfinished.{Unfinished}
use Rattle.bidel_lex.specs.declared.unfinished.Unfinished.TheVariants.{Word, Number, Hash, Reference, Text, Quote, Minus, Less, Greater, Bar}
use Rattle.bidel_lex.specs.declared.unfinished.Step.TheVariants as step
use Rattle.bidel_lex.specs.declared.next.Part.{Part}
use Rattle.bidel_lex.specs.declared.next.Part.TheVariants.{Blank, Comment, Open}
use Rattle.bidel_lex.specs.declared.next.Turn.{Turn}
use Rattle.bidel_lex.specs.declared.next.Turn.TheVariants.{Go, Stop}
use Rattle.bidel_lex.specs.Words.{number_with, reference_with, value_with}
use Rattle.bidel_lex.specs.Next.{after_turn, answer_at_end, first_of, found, kind_of, lexed_at, next_of, step_of, step_turn, turn_at}
use Rattle.bidel_lex.specs.Laws.{CanChange, MoreExactly}
use Rattle.bidel_lex.proofs.StableLaws.{stable}
use Rattle.bidel_lex.proofs.Turns.{CanStop, CanTurn, can_turn}
use Rattle.bidel_lex.proofs.WithinLaws.{within_along}

-- some bytes that change the answer at the end of the input
record Change (part : Part) (at : ℕ) (bytes : List ℕ) : Type 0 where
  more : List ℕ
  are_bytes : All (λ b. b < 256) more
  differ : lexed_at true part at bytes ≢ lexed_at true part at (bytes ++ more)

one_byte : (b : ℕ) → b < 256 → All (λ b. b < 256) (b ∷ [])
one_byte b h = All-cons (λ b. b < 256) b [] h (All-nil (λ b. b < 256))

two_bytes : (a b : ℕ) → a < 256 → b < 256 → All (λ b. b < 256) (a ∷ b ∷ [])
two_bytes a b h k = All-cons (λ b. b < 256) a (b ∷ []) h (one_byte b k)

-- where a token ends or a fault is
place_of : Lexed → ℕ
place_of (lexed.Token token) = token.end
place_of (lexed.BadToken at) = at
place_of lexed.More = 0
place_of lexed.End = 0

other_end : (a b : TokenKind) (start at : ℕ) → found a start at ≢ found b start (at + 1)
unfolding place_of
other_end a b start at e = let p : at ≡ at + 1 = ap place_of e in omega arith

other_place : (at : ℕ) → lexed.BadToken at ≢ lexed.BadToken (at + 1)
unfolding place_of
other_place at e = let p : at ≡ at + 1 = ap place_of e in omega arith

word_differs : (start at : ℕ) (size : ℕ) → found kind.Word start at ≢ lexed_at true (Open start (Word size)) at (97 ∷ [])
unfolding lexed_at turn_at step_of kind_of
word_differs start at size =
    elim (nat_lt size 64) as (λ c. found kind.Word start at ≢ after_turn (step_turn start (Word size) at (cond c (step.Longer (Word (size + 1))) step.Fault)) (λ next. answer_at_end next (at + 1))) [
      | true ↦ other_end kind.Word kind.Word start at
      | false ↦ λ e. cc
    ]

number_differs : (start at : ℕ) (value : ℕ) → found kind.Number start at ≢ lexed_at true (Open start (Number value)) at (48 ∷ [])
unfolding lexed_at turn_at step_of kind_of
number_differs start at value =
    elim (value_with value 48 (2 ^ 63)) as (λ v. found kind.Number start at ≢ after_turn (step_turn start (Number value) at (number_with v)) (λ next. answer_at_end next (at + 1))) [
      | Some more ↦ other_end kind.Number kind.Number start at
      | None ↦ λ e. cc
    ]

reference_differs : (start at : ℕ) (value : ℕ) → found kind.Reference start at ≢ lexed_at true (Open start (Reference value)) at (48 ∷ [])
unfolding lexed_at turn_at step_of kind_of
reference_differs start at value =
    elim (value_with value 48 (2 ^ 64 - 1)) as (λ v. found kind.Reference start at ≢ after_turn (step_turn start (Reference value) at (reference_with v)) (λ next. answer_at_end next (at + 1))) [
      | Some more ↦ other_end kind.Reference kind.Reference start at
      | None ↦ λ e. cc
    ]

text_change : (start at : ℕ) (wanted : Wanted) → Change (Open start (Text wanted)) at []
unfolding lexed_at turn_at step_of kind_of
text_change start at Character = record { more = 97 ∷ []; are_bytes = one_byte 97 (lit< tt); differ = other_place at }
text_change start at Last = record { more = 128 ∷ []; are_bytes = one_byte 128 (lit< tt); differ = other_place at }
text_change start at LastTwo = record { more = 128 ∷ []; are_bytes = one_byte 128 (lit< tt); differ = other_place at }
text_change start at LastThree = record { more = 128 ∷ []; are_bytes = one_byte 128 (lit< tt); differ = other_place at }
text_change start at AfterE0 = record { more = 160 ∷ []; are_bytes = one_byte 160 (lit< tt); differ = other_place at }
text_change start at AfterED = record { more = 128 ∷ []; are_bytes = one_byte 128 (lit< tt); differ = other_place at }
text_change start at AfterF0 = record { more = 144 ∷ []; are_bytes = one_byte 144 (lit< tt); differ = other_place at }
text_change start at AfterF4 = record { more = 128 ∷ []; are_bytes = one_byte 128 (lit< tt); differ = other_place at }

open_change : (start at : ℕ) (token : Unfinished) → Change (Open start token) at []
unfolding lexed_at turn_at step_of kind_of
open_change start at (Word size) = record { more = 97 ∷ []; are_bytes = one_byte 97 (lit< tt); differ = word_differs start at size }
open_change start at (Number value) = record { more = 48 ∷ []; are_bytes = one_byte 48 (lit< tt); differ = number_differs start at value }
open_change start at Hash = record { more = 48 ∷ []; are_bytes = one_byte 48 (lit< tt); differ = λ e. cc }
open_change start at (Reference value) = record { more = 48 ∷ []; are_bytes = one_byte 48 (lit< tt); differ = reference_differs start at value }
open_change start at (Text wanted) = text_change start at wanted
open_change start at Quote = record { more = 39 ∷ []; are_bytes = one_byte 39 (lit< tt); differ = λ e. cc }
open_change start at Minus = record { more = 45 ∷ []; are_bytes = one_byte 45 (lit< tt); differ = λ e. cc }
open_change start at Less = record { more = 61 ∷ []; are_bytes = one_byte 61 (lit< tt); differ = other_end kind.Symbol kind.Symbol start at }
open_change start at Greater = record { more = 61 ∷ []; are_bytes = one_byte 61 (lit< tt); differ = other_end kind.Symbol kind.Symbol start at }
open_change start at Bar = record { more = 124 ∷ []; are_bytes = one_byte 124 (lit< tt); differ = λ e. cc }

change_at : (part : Part) (at : ℕ) → Change part at []
unfolding lexed_at turn_at first_of
change_at Blank at = record { more = 40 ∷ []; are_bytes = one_byte 40 (lit< tt); differ = λ e. cc }
change_at Comment at = record { more = 10 ∷ 40 ∷ []; are_bytes = two_bytes 10 40 (lit< tt) (lit< tt); differ = λ e. cc }
change_at (Open start token) at = open_change start at token

stop_is_not_more : (part : Part) (at : ℕ) (answer : Lexed) → CanStop part at answer → answer ≡ lexed.More → ⊥
stop_is_not_more part at (lexed.Token token) g e = cc
stop_is_not_more part at (lexed.BadToken place) g e = cc
stop_is_not_more part at lexed.More g e = g
stop_is_not_more part at lexed.End g e = g

-- a change after one more byte
change_after : (part next : Part) (at b : ℕ) (bytes : List ℕ) → turn_at part at b ≡ Go next → Change next (at + 1) bytes → Change part at (b ∷ bytes)
unfolding lexed_at
change_after part next at b bytes t c =
    let P : Turn → Type 0 = λ t. after_turn t (λ next. lexed_at true next (at + 1) bytes) ≢ after_turn t (λ next. lexed_at true next (at + 1) (bytes ++ c.more)) in
    record { more = c.more; are_bytes = c.are_bytes; differ = subst P (sym t) c.differ }

lexed_change : (part : Part) (at : ℕ) (bytes : List ℕ) → lexed_at false part at bytes ≡ lexed.More → Change part at bytes
unfolding lexed_at
lexed_change part at [] h = change_at part at
lexed_change part at (b ∷ bytes) h =
    elim (turn_at part at b) as (λ t. turn_at part at b ≡ t → CanTurn part at t → after_turn t (λ next. lexed_at false next (at + 1) bytes) ≡ lexed.More → Change part at (b ∷ bytes)) [
      | Go next ↦ λ e g k. change_after part next at b bytes e (lexed_change next (at + 1) bytes k)
      | Stop answer ↦ λ e g k. absurd (stop_is_not_more part at answer g k)
    ] refl (can_turn part at b) h

change_from : (bytes : List ℕ) (from : ℕ) → from ≤ length bytes → Change Blank from (drop from bytes) → CanChange bytes from
unfolding next_of
change_from bytes from h c =
    record {
      one = [];
      other = c.more;
      one_bytes = λ k d l. absurd (omega arith);
      other_bytes = c.are_bytes;
      differ = λ e. c.differ (ap (λ (l : List ℕ). next_of l from true) (sym (append-nil bytes)) ∙ e ∙ ap (lexed_at true Blank from) (drop-append-le from bytes c.more h));
    }

-- an answer that stays is no change
no_change : (bytes : List ℕ) (from : ℕ) → from ≤ length bytes → next_of bytes from false ≢ lexed.More → CanChange bytes from → ⊥
no_change bytes from h k c = c.differ (stable bytes c.one from true k ∙ sym (stable bytes c.other from true k))

more_or_not : (bytes : List ℕ) (from : ℕ) (answer : Lexed) → from ≤ length bytes → next_of bytes from false ≡ answer → CanChange bytes from → answer ≡ lexed.More
more_or_not bytes from (lexed.Token token) h e c = absurd (no_change bytes from h (λ m. cc) c)
more_or_not bytes from (lexed.BadToken place) h e c = absurd (no_change bytes from h (λ m. cc) c)
more_or_not bytes from lexed.More h e c = refl
more_or_not bytes from lexed.End h e c = absurd (no_change bytes from h (λ m. cc) c)

more_from : (bytes : List ℕ) (from : ℕ) (ended : Bool) → from ≤ length bytes → ended ≡ false → CanChange bytes from → next_of bytes from ended ≡ lexed.More
more_from bytes from true h e c = absurd cc
more_from bytes from false h e c = more_or_not bytes from (next_of bytes from false) h refl c

more_gives : (bytes : List ℕ) (from : ℕ) (ended : Bool) → from ≤ length bytes → next_of bytes from ended ≡ lexed.More → (ended ≡ false) × CanChange bytes from
unfolding next_of
more_gives bytes from true h e = absurd (let m : true ≡ false = within_along bytes from true lexed.More e in cc)
more_gives bytes from false h e = (refl, change_from bytes from h (lexed_change Blank from (drop from bytes) e))

pub more_exactly : MoreExactly
more_exactly bytes from ended h = (more_gives bytes from ended h, λ k. more_from bytes from ended h k.0 k.1)
