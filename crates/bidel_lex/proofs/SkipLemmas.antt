-- One byte more of a run, which leaves what comes as it was.
use Rattle.std.proofs.Common.{◌≡◌, ◌+◌, ◌<◌, ℕ, Bool, true, false, List, length, drop, get_or, refl, ◌∙◌, arith}
use Rattle.std.specs.Prelude.{◌==◌, nat_le, nat_lt}
use Rattle.std.proofs.lemmas.Bool.{le-leb}
use Rattle.bidel_lex.specs.Classes.{is_space, is_word_byte}
use Rattle.bidel_lex.specs.declared.tokens.TokenKind.TheVariants as kind
use Rattle.bidel_lex.specs.declared.next.Part.TheVariants.{Blank, Open}
use Rattle.bidel_lex.specs.declared.next.Turn.TheVariants.{Go, Stop}
use Rattle.bidel_lex.specs.declared.texts.Wanted.TheVariants.{Character}
use Rattle.bidel_lex.specs.declared.unfinished.Unfinished.TheVariants.{Quote, Text, Word}
use Rattle.bidel_lex.specs.Next.{first_of, found, kind_of, lexed_at, step_of, turn_at}
use Rattle.bidel_lex.proofs.Turns.{lexing_goes, lexing_stops}

blank_turn : (at b : ℕ) → is_space b ≡ true → turn_at Blank at b ≡ Go Blank
unfolding turn_at first_of
blank_turn at b is = rw is refl

-- white space
pub space_goes : (ended : Bool) (at : ℕ) (bytes : List ℕ) → at < length bytes → is_space (get_or bytes at 0) ≡ true
    → lexed_at ended Blank (at + 1) (drop (at + 1) bytes) ≡ lexed_at ended Blank at (drop at bytes)
space_goes ended at bytes h is = lexing_goes ended Blank Blank at bytes h (blank_turn at (get_or bytes at 0) is)

word_turn : (start size at b : ℕ) → nat_lt size 64 ≡ true → is_word_byte b ≡ true → turn_at (Open start (Word size)) at b ≡ Go (Open start (Word (size + 1)))
unfolding turn_at step_of
word_turn start size at b short is = rw (is, short) refl

-- a byte of a word
pub word_goes : (ended : Bool) (start size at : ℕ) (bytes : List ℕ) → at < length bytes → nat_lt size 64 ≡ true → is_word_byte (get_or bytes at 0) ≡ true
    → lexed_at ended (Open start (Word (size + 1))) (at + 1) (drop (at + 1) bytes) ≡ lexed_at ended (Open start (Word size)) at (drop at bytes)
word_goes ended start size at bytes h short is =
    lexing_goes ended (Open start (Word size)) (Open start (Word (size + 1))) at bytes h (word_turn start size at (get_or bytes at 0) short is)

plain_turn : (start at b : ℕ) → (b == 39) ≡ false → nat_le b 127 ≡ true → turn_at (Open start (Text Character)) at b ≡ Go (Open start (Text Character))
unfolding turn_at step_of
plain_turn start at b other low = let above : nat_le 0 b ≡ true = le-leb 0 b (omega arith) in rw (other, above, low) refl

-- a character of one byte
pub plain_goes : (ended : Bool) (start at : ℕ) (bytes : List ℕ) → at < length bytes → (get_or bytes at 0 == 39) ≡ false → nat_le (get_or bytes at 0) 127 ≡ true
    → lexed_at ended (Open start (Text Character)) (at + 1) (drop (at + 1) bytes) ≡ lexed_at ended (Open start (Text Character)) at (drop at bytes)
plain_goes ended start at bytes h other low =
    lexing_goes ended (Open start (Text Character)) (Open start (Text Character)) at bytes h (plain_turn start at (get_or bytes at 0) other low)

word_over : (start size at b : ℕ) → is_word_byte b ≡ false → turn_at (Open start (Word size)) at b ≡ Stop (found kind.Word start at)
unfolding turn_at step_of kind_of
word_over start size at b other = rw other refl

-- the byte behind a word
pub word_stops : (ended : Bool) (start size at : ℕ) (bytes : List ℕ) → at < length bytes → is_word_byte (get_or bytes at 0) ≡ false
    → found kind.Word start at ≡ lexed_at ended (Open start (Word size)) at (drop at bytes)
word_stops ended start size at bytes h other =
    lexing_stops ended (Open start (Word size)) at bytes (found kind.Word start at) h (word_over start size at (get_or bytes at 0) other)

quote_turn : (start at b : ℕ) → (b == 39) ≡ true → turn_at (Open start (Text Character)) at b ≡ Go (Open start Quote)
unfolding turn_at step_of
quote_turn start at b is = rw is refl

quote_over : (start at b : ℕ) → (b == 39) ≡ false → turn_at (Open start Quote) at b ≡ Stop (found kind.Text start at)
unfolding turn_at step_of kind_of
quote_over start at b other = rw other refl

-- a quote that closes a text
pub quote_closes : (ended : Bool) (start at : ℕ) (bytes : List ℕ) → at + 1 < length bytes → (get_or bytes at 0 == 39) ≡ true → (get_or bytes (at + 1) 0 == 39) ≡ false
    → found kind.Text start (at + 1) ≡ lexed_at ended (Open start (Text Character)) at (drop at bytes)
quote_closes ended start at bytes h is other =
    lexing_stops ended (Open start Quote) (at + 1) bytes (found kind.Text start (at + 1)) h (quote_over start (at + 1) (get_or bytes (at + 1) 0) other)
    ∙ lexing_goes ended (Open start (Text Character)) (Open start Quote) at bytes (omega (arith, h)) (quote_turn start at (get_or bytes at 0) is)
