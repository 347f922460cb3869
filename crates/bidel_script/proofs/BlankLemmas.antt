-- The first byte that is neither white space nor of a comment, byte by byte.
use Rattle.std.proofs.Common.{◌≡◌, ◌+◌, ◌-◌, ◌<◌, ◌≤◌, ◌==◌, ℕ, suc, List, [], ◌∷◌, Bool, true, false, not, refl, ap, ◌∙◌, cond, take, drop, length, length-drop, get_or, arith}
use Rattle.std.proofs.lemmas.List.{take_all}
use Rattle.std.proofs.Math.Seq.{drop-cons}
use Rattle.std.proofs.Math.ListN.{drop_of_length-le}
use Rattle.bidel_lex.specs.Classes.{is_space}
use Rattle.bidel_script.specs.Tails.{first_byte, begins_comment, is_open_behind}

-- the byte at a place, and those behind it
pub byte_at : (bytes : List ℕ) (at : ℕ) → at < length bytes → drop at bytes ≡ get_or bytes at 0 ∷ drop (at + 1) bytes
byte_at bytes at h =
    let next : suc at ≡ at + 1 = omega arith in
    drop-cons bytes at 0 h ∙ ap (λ (n : ℕ). get_or bytes at 0 ∷ drop n bytes) next

pub bytes_at : (bytes : List ℕ) (at : ℕ) → at < length bytes → take (length bytes - at) (drop at bytes) ≡ get_or bytes at 0 ∷ drop (at + 1) bytes
bytes_at bytes at h = take_all (length bytes - at) (drop at bytes) (omega (arith, length-drop at bytes)) ∙ byte_at bytes at h

-- in a comment
pub inside_goes : (bytes : List ℕ) (at : ℕ) → at < length bytes → first_byte true at (drop at bytes) ≡ first_byte (not (get_or bytes at 0 == 10)) (at + 1) (drop (at + 1) bytes)
unfolding first_byte
inside_goes bytes at h = ap (first_byte true at) (byte_at bytes at h)

outside : (b : ℕ) (rest : List ℕ) (at : ℕ) → first_byte false at (b ∷ rest)
    ≡ cond (begins_comment b rest) (first_byte true (at + 1) rest) (cond (is_space b) (first_byte false (at + 1) rest) at)
unfolding first_byte
outside b rest at = refl

chosen_yes : {A : Type 0} (b : Bool) (x y : A) → b ≡ true → cond b x y ≡ x
chosen_yes true x y h = refl
chosen_yes false x y h = cc

chosen_no : {A : Type 0} (b : Bool) (x y : A) → b ≡ false → cond b x y ≡ y
chosen_no true x y h = cc
chosen_no false x y h = refl

-- a comment begins
pub comment_goes : (bytes : List ℕ) (at : ℕ) → at < length bytes → begins_comment (get_or bytes at 0) (drop (at + 1) bytes) ≡ true
    → first_byte false at (drop at bytes) ≡ first_byte true (at + 1) (drop (at + 1) bytes)
comment_goes bytes at h k = ap (first_byte false at) (byte_at bytes at h) ∙ outside (get_or bytes at 0) (drop (at + 1) bytes) at
    ∙ chosen_yes (begins_comment (get_or bytes at 0) (drop (at + 1) bytes)) _ _ k

-- white space
pub space_goes : (bytes : List ℕ) (at : ℕ) → at < length bytes → begins_comment (get_or bytes at 0) (drop (at + 1) bytes) ≡ false → is_space (get_or bytes at 0) ≡ true
    → first_byte false at (drop at bytes) ≡ first_byte false (at + 1) (drop (at + 1) bytes)
space_goes bytes at h k s = ap (first_byte false at) (byte_at bytes at h) ∙ outside (get_or bytes at 0) (drop (at + 1) bytes) at
    ∙ chosen_no (begins_comment (get_or bytes at 0) (drop (at + 1) bytes)) _ _ k ∙ chosen_yes (is_space (get_or bytes at 0)) _ _ s

-- any other byte
pub byte_stops : (bytes : List ℕ) (at : ℕ) → at < length bytes → begins_comment (get_or bytes at 0) (drop (at + 1) bytes) ≡ false → is_space (get_or bytes at 0) ≡ false
    → first_byte false at (drop at bytes) ≡ at
byte_stops bytes at h k s = ap (first_byte false at) (byte_at bytes at h) ∙ outside (get_or bytes at 0) (drop (at + 1) bytes) at
    ∙ chosen_no (begins_comment (get_or bytes at 0) (drop (at + 1) bytes)) _ _ k ∙ chosen_no (is_space (get_or bytes at 0)) _ _ s

-- ---- whether a comment is open behind them

inside_opens : (b : ℕ) (rest : List ℕ) → is_open_behind true (b ∷ rest) ≡ is_open_behind (not (b == 10)) rest
unfolding is_open_behind
inside_opens b rest = refl

outside_opens : (b : ℕ) (rest : List ℕ) → is_open_behind false (b ∷ rest) ≡ cond (begins_comment b rest) (is_open_behind true rest) (cond (is_space b) (is_open_behind false rest) false)
unfolding is_open_behind
outside_opens b rest = refl

pub inside_opens_on : (bytes : List ℕ) (at : ℕ) → at < length bytes → is_open_behind true (drop at bytes) ≡ is_open_behind (not (get_or bytes at 0 == 10)) (drop (at + 1) bytes)
inside_opens_on bytes at h = ap (is_open_behind true) (byte_at bytes at h) ∙ inside_opens (get_or bytes at 0) (drop (at + 1) bytes)

pub comment_opens : (bytes : List ℕ) (at : ℕ) → at < length bytes → begins_comment (get_or bytes at 0) (drop (at + 1) bytes) ≡ true
    → is_open_behind false (drop at bytes) ≡ is_open_behind true (drop (at + 1) bytes)
comment_opens bytes at h k = ap (is_open_behind false) (byte_at bytes at h) ∙ outside_opens (get_or bytes at 0) (drop (at + 1) bytes)
    ∙ chosen_yes (begins_comment (get_or bytes at 0) (drop (at + 1) bytes)) _ _ k

pub space_opens : (bytes : List ℕ) (at : ℕ) → at < length bytes → begins_comment (get_or bytes at 0) (drop (at + 1) bytes) ≡ false → is_space (get_or bytes at 0) ≡ true
    → is_open_behind false (drop at bytes) ≡ is_open_behind false (drop (at + 1) bytes)
space_opens bytes at h k s = ap (is_open_behind false) (byte_at bytes at h) ∙ outside_opens (get_or bytes at 0) (drop (at + 1) bytes)
    ∙ chosen_no (begins_comment (get_or bytes at 0) (drop (at + 1) bytes)) _ _ k ∙ chosen_yes (is_space (get_or bytes at 0)) _ _ s

pub byte_shuts : (bytes : List ℕ) (at : ℕ) → at < length bytes → begins_comment (get_or bytes at 0) (drop (at + 1) bytes) ≡ false → is_space (get_or bytes at 0) ≡ false
    → is_open_behind false (drop at bytes) ≡ false
byte_shuts bytes at h k s = ap (is_open_behind false) (byte_at bytes at h) ∙ outside_opens (get_or bytes at 0) (drop (at + 1) bytes)
    ∙ chosen_no (begins_comment (get_or bytes at 0) (drop (at + 1) bytes)) _ _ k ∙ chosen_no (is_space (get_or bytes at 0)) _ _ s

pub end_opens : (inside : Bool) (bytes : List ℕ) (at : ℕ) → length bytes ≤ at → is_open_behind inside (drop at bytes) ≡ inside
unfolding is_open_behind
end_opens inside bytes at h = ap (is_open_behind inside) (drop_of_length-le bytes h) ∙ none inside
  where
    none : (inside : Bool) → is_open_behind inside [] ≡ inside
    none true = refl
    none false = refl

-- ---- past the last byte

nothing_left : (inside : Bool) (at : ℕ) (bytes : List ℕ) → bytes ≡ [] → first_byte inside at bytes ≡ at
unfolding first_byte
nothing_left inside at bytes e = ap (first_byte inside at) e ∙ none inside
  where
    none : (inside : Bool) → first_byte inside at [] ≡ at
    none true = refl
    none false = refl

pub end_stops : (inside : Bool) (bytes : List ℕ) (at : ℕ) → length bytes ≤ at → first_byte inside at (drop at bytes) ≡ at
end_stops inside bytes at h = nothing_left inside at (drop at bytes) (drop_of_length-le bytes h)
