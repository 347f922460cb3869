-- Classes of bytes.
use Rattle.std.specs.Prelude.{◌==◌, ◌&&◌, ◌||◌, ℕ, Bool, nat_le}

-- a byte of a range, both ends included
abbrev pub is_between : ℕ → ℕ → ℕ → Bool
is_between low high b = nat_le low b && nat_le b high

-- space, tab, carriage return, line feed
abbrev pub is_space : ℕ → Bool
is_space b = b == 32 || b == 9 || b == 13 || b == 10

-- `0` to `9`
abbrev pub is_digit : ℕ → Bool
is_digit b = is_between 48 57 b

-- a letter of either case, `_` or `!`
abbrev pub is_word_start : ℕ → Bool
is_word_start b = is_between 97 122 b || is_between 65 90 b || b == 95 || b == 33

-- a byte of a word after its first
abbrev pub is_word_byte : ℕ → Bool
is_word_byte b = is_word_start b || is_digit b

-- `(`, `)`, `,`, `;`, `.`, `=`, `+`, `*`, `/`, `%`: a symbol that no further byte makes longer
abbrev pub is_lone_symbol : ℕ → Bool
is_lone_symbol b = b == 40 || b == 41 || b == 44 || b == 59 || b == 46 || b == 61 || b == 43 || b == 42 || b == 47 || b == 37
