-- The tokens of bytes behind others are those of the bytes alone, so many bytes later.
use Rattle.std.proofs.Common.{◌≡◌, ◌+◌, ◌-◌, ◌<◌, ◌++◌, ℕ, zero, suc, List, [], ◌∷◌, Bool, true, false, refl, ap, ◌∙◌, cond, take, drop, length, map, arith, length-append}
use Rattle.std.specs.Prelude.{min, slice_range}
use Rattle.std.proofs.Math.Seq.{take-append-add, drop-append-add}
use Rattle.bidel_lex.specs.declared.tokens.Token.{Token}
use Rattle.bidel_lex.specs.declared.tokens.Lexed.{Lexed}
use Rattle.bidel_lex.specs.declared.tokens.Lexed.TheVariants as lexed
use Rattle.bidel_lex.specs.Next.{next_of}
use Rattle.bidel_lex.specs.Tokens.{HasTokens, is_token}
use Rattle.bidel_lex.proofs.MovedLaws.{moved_last, moved_token, next_moved, token_moved}
use Rattle.bidel_expr.specs.Lexemes.{Lexeme, lexeme, lexeme_of, lexemes}
use Rattle.bidel_parser.specs.Parsing.{start_of}
use Rattle.bidel_script.specs.declared.tokens.Tail.{Tail}
use Rattle.bidel_script.specs.Tails.{begin_of, earlier, is_over, known_end, last_end, shown_end, tail_end}
use Rattle.bidel_script.proofs.CutPlaces.{end_at}

abbrev pub moved_tail : ℕ → Tail → Tail
moved_tail k tail = record { last = moved_last k tail.last; begun = k + tail.begun }

abbrev pub all_moved : ℕ → List Token → List Token
all_moved k tokens = map (moved_token k) tokens

pub over_same : (k : ℕ) (last : Lexed) → is_over (moved_last k last) ≡ is_over last
over_same k (lexed.Token t) = refl
over_same k lexed.More = refl
over_same k lexed.End = refl
over_same k (lexed.BadToken at) = refl

pub earlier_moved : (k a : ℕ) (last : Lexed) → earlier (k + a) (moved_last k last) ≡ k + earlier a last
earlier_moved k a (lexed.Token t) = refl
earlier_moved k a lexed.More = refl
earlier_moved k a lexed.End = refl
earlier_moved k a (lexed.BadToken bad) = omega arith

pub last_end_moved : (k from : ℕ) (ts : List Token) → last_end (k + from) (all_moved k ts) ≡ k + last_end from ts
last_end_moved k from [] = refl
last_end_moved k from (t ∷ ts) = last_end_moved k t.end ts

pub begin_moved : (k : ℕ) (tail : Tail) (ts : List Token) → begin_of (moved_tail k tail) (all_moved k ts) ≡ k + begin_of tail ts
begin_moved k tail [] = refl
begin_moved k tail (t ∷ ts) = refl

pub end_at_moved : (k : ℕ) (ts : List Token) (i : ℕ) → i < length ts → end_at (all_moved k ts) i ≡ k + end_at ts i
end_at_moved k [] i lt = absurd (omega (arith, lt))
end_at_moved k (t ∷ ts) zero lt = refl
end_at_moved k (t ∷ ts) (suc i) lt = end_at_moved k ts i (omega (arith, lt))

-- ---- tokens

module _ (u y : List ℕ) where
  pub has_moved : (ended : Bool) (from : ℕ) (ts : List Token) (last : Lexed) → HasTokens ended y from ts last
      → HasTokens ended (u ++ y) (length u + from) (all_moved (length u) ts) (moved_last (length u) last)
  has_moved ended from [] last h = (next_moved u y from ended ∙ ap (moved_last (length u)) h.0, token_moved (length u) last ∙ h.1)
  has_moved ended from (t ∷ ts) last h = (next_moved u y from ended ∙ ap (moved_last (length u)) h.0, has_moved ended t.end ts last h.1)

  slice_moved : (a b : ℕ) → slice_range (u ++ y) (length u + a) (length u + b) ≡ slice_range y a b
  slice_moved a b =
      let e : length u + b - (length u + a) ≡ b - a = omega arith in
      ap (λ (n : ℕ). take n (drop (length u + a) (u ++ y))) e ∙ ap (take (b - a)) (drop-append-add u y a)

  lexeme_moved : (t : Token) → lexeme (u ++ y) (moved_token (length u) t) ≡ lexeme y t
  lexeme_moved t = ap (lexeme_of t.kind) (slice_moved t.start t.end)

  pub lexemes_moved : (ts : List Token) → lexemes (u ++ y) (all_moved (length u) ts) ≡ lexemes y ts
  lexemes_moved [] = refl
  lexemes_moved (t ∷ ts) =
      ap (λ (x : Lexeme). x ∷ lexemes (u ++ y) (all_moved (length u) ts)) (lexeme_moved t) ∙ ap (λ (l : List Lexeme). lexeme y t ∷ l) (lexemes_moved ts)

  pub start_moved : (ts : List Token) → start_of (length (u ++ y)) (all_moved (length u) ts) ≡ length u + start_of (length y) ts
  start_moved [] = length-append u y
  start_moved (t ∷ ts) = refl

  shown_moved : (t : Token) → shown_end (u ++ y) (moved_token (length u) t) ≡ length u + shown_end y t
  shown_moved t = go (is_token (next_of (take t.end y) t.start false)) _ same
    where
      same : is_token (next_of (take (length u + t.end) (u ++ y)) (length u + t.start) false) ≡ is_token (next_of (take t.end y) t.start false)
      same = ap (λ (l : List ℕ). is_token (next_of l (length u + t.start) false)) (take-append-add u y t.end)
          ∙ ap is_token (next_moved u (take t.end y) t.start false) ∙ token_moved (length u) (next_of (take t.end y) t.start false)

      go : (b c : Bool) → c ≡ b → cond c (length u + t.end) (min (length u + t.end + 1) (length (u ++ y))) ≡ length u + cond b t.end (min (t.end + 1) (length y))
      go true c e = ap (λ (x : Bool). cond x (length u + t.end) (min (length u + t.end + 1) (length (u ++ y)))) e
      go false c e =
          let short : min (length u + t.end + 1) (length (u ++ y)) ≡ length u + min (t.end + 1) (length y) = omega (arith, length-append u y) in
          ap (λ (x : Bool). cond x (length u + t.end) (min (length u + t.end + 1) (length (u ++ y)))) e ∙ short

  tail_moved : (last : Lexed) → tail_end (u ++ y) (moved_last (length u) last) ≡ length u + tail_end y last
  tail_moved (lexed.Token t) = length-append u y
  tail_moved lexed.More = length-append u y
  tail_moved lexed.End = length-append u y
  tail_moved (lexed.BadToken at) = omega (arith, length-append u y)

  pub known_moved : (tail : Tail) (ts : List Token) (i : ℕ) → known_end (u ++ y) (moved_tail (length u) tail) (all_moved (length u) ts) i ≡ length u + known_end y tail ts i
  known_moved tail [] i = tail_moved tail.last
  known_moved tail (t ∷ ts) zero = shown_moved t
  known_moved tail (t ∷ ts) (suc i) = known_moved tail ts i
