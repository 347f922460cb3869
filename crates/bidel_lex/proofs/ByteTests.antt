-- Tests on bytes, and the first byte of a token.
use Rattle.std.proofs.Common.{◌≡◌, ◌-◌, ◌<◌, ◌≤◌, ◌||◌, ℕ, Bool, true, false, cond, nat_le, nat_lt, refl, arith}
use Rattle.std.specs.Char.{digit_value}
use Rattle.bidel_lex.specs.declared.unfinished.Unfinished.TheVariants.{Word, Number}
use Rattle.bidel_lex.specs.declared.next.First.TheVariants.{Space, Alone, Opens}
use Rattle.bidel_lex.specs.Classes.{is_between, is_digit, is_lone_symbol, is_space, is_word_start}
use Rattle.bidel_lex.specs.Next.{first_of, opened_by}
use Rattle.bidel_lex.proofs.Held.{differs}

pub lt_test : (m n : ℕ) → m < n → nat_lt m n ≡ true
lt_test m n h = grind arith

pub le_test : (m n : ℕ) → m ≤ n → nat_le m n ≡ true
le_test m n h = grind arith

pub between_test : (low high b : ℕ) → low ≤ b → b ≤ high → is_between low high b ≡ true
between_test low high b h k = grind arith

pub digit_test : (b : ℕ) → digit_value b < 10 → is_digit b ≡ true
digit_test b h = grind arith

-- a byte of a class that leaves out white space, and one of a class that leaves out the lone symbols
pub not_space : (p : ℕ → Bool) (b : ℕ) → p b ≡ true → p 32 ≡ false → p 9 ≡ false → p 13 ≡ false → p 10 ≡ false → is_space b ≡ false
not_space p b h e f g k = λ i. differs p b 32 h e i || differs p b 9 h f i || differs p b 13 h g i || differs p b 10 h k i

word_not_lone : (b : ℕ) → is_word_start b ≡ true → is_lone_symbol b ≡ false
word_not_lone b h = λ i. differs is_word_start b 40 h refl i || differs is_word_start b 41 h refl i || differs is_word_start b 44 h refl i || differs is_word_start b 59 h refl i
    || differs is_word_start b 46 h refl i || differs is_word_start b 61 h refl i || differs is_word_start b 43 h refl i || differs is_word_start b 42 h refl i
    || differs is_word_start b 47 h refl i || differs is_word_start b 37 h refl i

digit_not_lone : (b : ℕ) → is_digit b ≡ true → is_lone_symbol b ≡ false
digit_not_lone b h = λ i. differs is_digit b 40 h refl i || differs is_digit b 41 h refl i || differs is_digit b 44 h refl i || differs is_digit b 59 h refl i
    || differs is_digit b 46 h refl i || differs is_digit b 61 h refl i || differs is_digit b 43 h refl i || differs is_digit b 42 h refl i
    || differs is_digit b 47 h refl i || differs is_digit b 37 h refl i

digit_not_word : (b : ℕ) → is_digit b ≡ true → is_word_start b ≡ false
digit_not_word b h = grind arith

pub space_first : (b : ℕ) → is_space b ≡ true → first_of b ≡ Space
unfolding first_of
space_first b h = λ i. cond (h i) Space (cond (is_lone_symbol b) Alone (cond (is_word_start b) (Opens (Word 1)) (cond (is_digit b) (Opens (Number (b - 48))) (opened_by b))))

pub lone_first : (b : ℕ) → is_lone_symbol b ≡ true → first_of b ≡ Alone
unfolding first_of
lone_first b h =
    λ i. cond (not_space is_lone_symbol b h refl refl refl refl i) Space (cond (h i) Alone (cond (is_word_start b) (Opens (Word 1)) (cond (is_digit b) (Opens (Number (b - 48))) (opened_by b))))

pub word_first : (b : ℕ) → is_word_start b ≡ true → first_of b ≡ Opens (Word 1)
unfolding first_of
word_first b h =
    λ i. cond (not_space is_word_start b h refl refl refl refl i) Space (cond (word_not_lone b h i) Alone (cond (h i) (Opens (Word 1)) (cond (is_digit b) (Opens (Number (b - 48))) (opened_by b))))

pub digit_first : (b : ℕ) → is_digit b ≡ true → first_of b ≡ Opens (Number (b - 48))
unfolding first_of
digit_first b h =
    λ i. cond (not_space is_digit b h refl refl refl refl i) Space (cond (digit_not_lone b h i) Alone (cond (digit_not_word b h i) (Opens (Word 1)) (cond (h i) (Opens (Number (b - 48))) (opened_by b))))
