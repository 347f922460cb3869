-- The bytes of characters.
use Rattle.std.specs.Prelude.{◌&&◌, ⊤, IsUtf8, encode_utf8}
use Rattle.std.specs.Str.{all_scalars}
use Rattle.std.proofs.Common.{◌≡◌, ◌<◌, ◌≤◌, ℕ, suc, List, [], ◌∷◌, Bool, true, length, get_or, append-nil, sym, ap, ⊎_elim, arith}
use Rattle.std.proofs.lemmas.Bool.{and_parts, cases_lt}
use Rattle.std.proofs.lemmas.Str.{IsUtf8-append, IsUtf8-from_ascii, inside_one, len_utf8_bounds, length-encode}
use Rattle.std.proofs.lemmas.Str.Ascii.{IsAscii-cons, IsAscii-nil}

-- each byte is above ASCII
abbrev pub AreHigh : List ℕ → Type 0
AreHigh [] = ⊤
AreHigh (b ∷ bs) = (128 ≤ b) × AreHigh bs

high_from : (xs : List ℕ) → ((k : ℕ) → k < length xs → 128 ≤ get_or xs k 0) → AreHigh xs
high_from [] h = tt
high_from (b ∷ bs) h = (h 0 (omega arith), high_from bs (λ k lt. h (suc k) (omega (arith, lt))))

-- the bytes of a character above ASCII
pub char_high : (c : ℕ) → 128 ≤ c → AreHigh (encode_utf8 c)
char_high c l = high_from (encode_utf8 c) (λ k lt.
    ⊎_elim (λ low. let same = inside_one c [] (encode_utf8 c) k (sym (append-nil (encode_utf8 c))) lt low in absurd (omega (arith, same, low, l)))
    (λ high. high) (cases_lt (get_or (encode_utf8 c) k 0) 128))

pub char_some : (c : ℕ) → 0 < length (encode_utf8 c)
char_some c = let size = length-encode c in let least = (len_utf8_bounds c).0 in omega (arith, size, least)

-- a character's bytes are UTF-8, and more characters follow it
pub first_char : (c : ℕ) (cs : List ℕ) → all_scalars (c ∷ cs) ≡ true → IsUtf8 (encode_utf8 c) × (all_scalars cs ≡ true)
first_char c cs e = let p = and_parts _ _ e in ((c ∷ [], (ap (λ (t : Bool). t && true) p.0, append-nil (encode_utf8 c))), p.1)

pub ascii_text : (b : ℕ) → b < 128 → IsUtf8 (b ∷ [])
ascii_text b l = IsUtf8-from_ascii (b ∷ []) (IsAscii-cons b [] l IsAscii-nil)

-- an ASCII byte before a text
pub ascii_cons : (b : ℕ) (xs : List ℕ) → b < 128 → IsUtf8 xs → IsUtf8 (b ∷ xs)
ascii_cons b xs l u = IsUtf8-append (b ∷ []) xs (ascii_text b l) u
