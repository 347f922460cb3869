-- Where what is behind the tokens of some first bytes begins, as more bytes come.
use Rattle.std.proofs.Common.{◌≡◌, ◌+◌, ◌≤◌, ◌<◌, ◌==◌, ◌++◌, ℕ, zero, suc, List, [], ◌∷◌, Bool, true, false, refl, sym, ap, ◌∙◌, cond, drop, length, arith, append_assoc, append-nil, length-append, length-drop}
use Rattle.std.specs.Prelude.{◌&&◌, not}
use Rattle.std.specs.List.{AllPass}
use Rattle.std.proofs.lemmas.List.{drop-append-le}
use Rattle.bidel_lex.specs.declared.tokens.Token.{Token}
use Rattle.bidel_lex.specs.declared.tokens.Lexed.{Lexed}
use Rattle.bidel_lex.specs.declared.tokens.Lexed.TheVariants as lexed
use Rattle.bidel_lex.specs.Blanks.{Blanks, EndBlanks, is_inner, nothing, space, comment, finished, last_comment}
use Rattle.bidel_lex.specs.Classes.{is_space}
use Rattle.bidel_lex.specs.Next.{next_of}
use Rattle.bidel_lex.specs.Tokens.{HasTokens}
use Rattle.bidel_lex.proofs.ReadBackLaws.{token_exactly, end_exactly}
use Rattle.bidel_lex.proofs.WithinLaws.{within_along}
use Rattle.bidel_script.specs.declared.tokens.Tail.{Tail}
use Rattle.bidel_script.specs.Tails.{begin_of, begins_comment, begun_at, first_byte, last_end}
use Rattle.bidel_script.proofs.CutBlanks.{comment_passed, minuses_passed, other_passed}

-- ---- the first byte

least_of : (c s : Bool) (at m n : ℕ) → at + 1 ≤ m → at + 1 ≤ n → at ≤ cond c m (cond s n at)
least_of true s at m n h k = omega (arith, h)
least_of false true at m n h k = omega (arith, k)
least_of false false at m n h k = omega arith

-- it isn't before the place from which it is looked for
pub first_later : (inside : Bool) (at : ℕ) (bytes : List ℕ) → at ≤ first_byte inside at bytes
unfolding first_byte
first_later true at [] = omega arith
first_later false at [] = omega arith
first_later true at (b ∷ bytes) = omega (arith, first_later (not (b == 10)) (at + 1) bytes)
first_later false at (b ∷ bytes) = least_of (begins_comment b bytes) (is_space b) at (first_byte true (at + 1) bytes) (first_byte false (at + 1) bytes)
    (first_later true (at + 1) bytes) (first_later false (at + 1) bytes)

same_of : (c s : Bool) (at n x y x' y' : ℕ) → (x + 1 < n → x' ≡ x) → (y + 1 < n → y' ≡ y) → cond c x (cond s y at) + 1 < n → cond c x' (cond s y' at) ≡ cond c x (cond s y at)
same_of true s at n x y x' y' h k lt = h lt
same_of false true at n x y x' y' h k lt = k lt
same_of false false at n x y x' y' h k lt = refl

-- one that isn't the last stays as more come
pub first_stays : (inside : Bool) (at : ℕ) (bytes more : List ℕ) → first_byte inside at bytes + 1 < at + length bytes → first_byte inside at (bytes ++ more) ≡ first_byte inside at bytes
unfolding first_byte
first_stays true at [] more lt = absurd (omega (arith, lt))
first_stays false at [] more lt = absurd (omega (arith, lt))
first_stays true at (b ∷ bytes) more lt = first_stays (not (b == 10)) (at + 1) bytes more (omega (arith, lt))
first_stays false at (b ∷ []) more lt = absurd (omega (arith, lt, least_of false (is_space b) at (at + 1) (at + 1) (omega arith) (omega arith)))
first_stays false at (b ∷ c ∷ bytes) more lt =
    same_of (b == 45 && c == 45) (is_space b) at (at + length (b ∷ c ∷ bytes))
    (first_byte true (at + 1) (c ∷ bytes)) (first_byte false (at + 1) (c ∷ bytes)) (first_byte true (at + 1) (c ∷ (bytes ++ more))) (first_byte false (at + 1) (c ∷ (bytes ++ more)))
    (λ k. first_stays true (at + 1) (c ∷ bytes) more (omega (arith, k))) (λ k. first_stays false (at + 1) (c ∷ bytes) more (omega (arith, k))) lt

-- ---- behind white space and comments

nothing_first : (inside : Bool) (at : ℕ) → first_byte inside at [] ≡ at
unfolding first_byte
nothing_first true at = refl
nothing_first false at = refl

inner_first : (at : ℕ) (inner rest : List ℕ) → AllPass is_inner inner → first_byte true at (inner ++ rest) ≡ first_byte true (at + length inner) rest
inner_first at [] rest all = let e : at ≡ at + length {A = ℕ} [] = omega arith in ap (λ (n : ℕ). first_byte true n rest) e
inner_first at (b ∷ inner) rest all =
    let e : at + 1 + length inner ≡ at + length (b ∷ inner) = omega arith in
    let inside : is_inner b ≡ true = all 0 b (omega arith) in
    comment_passed at b (inner ++ rest) ∙ ap (λ (x : Bool). first_byte x (at + 1) (inner ++ rest)) inside
    ∙ inner_first (at + 1) inner rest (λ k d lt. all (suc k) d (omega (arith, lt))) ∙ ap (λ (n : ℕ). first_byte true n rest) e

pub space_other : (b : ℕ) → is_space b ≡ true → (b == 45) ≡ false
space_other b h = grind arith

blanks_first : (at : ℕ) (gap rest : List ℕ) → Blanks gap → first_byte false at (gap ++ rest) ≡ first_byte false (at + length gap) rest
blanks_first at gap rest nothing = let e : at ≡ at + length {A = ℕ} [] = omega arith in ap (λ (n : ℕ). first_byte false n rest) e
blanks_first at gap rest (space b more s g) =
    let e : at + 1 + length more ≡ at + length (b ∷ more) = omega arith in
    other_passed at b (more ++ rest) (space_other b s) ∙ ap (λ (x : Bool). cond x (first_byte false (at + 1) (more ++ rest)) at) s
    ∙ blanks_first (at + 1) more rest g ∙ ap (λ (n : ℕ). first_byte false n rest) e
blanks_first at gap rest (comment inner more all g) =
    let e : at + 1 + 1 + length inner + 1 + length more ≡ at + length (45 ∷ 45 ∷ (inner ++ 10 ∷ more)) = omega (arith, length-append inner (10 ∷ more)) in
    minuses_passed at ((inner ++ 10 ∷ more) ++ rest) ∙ ap (first_byte true (at + 1 + 1)) (append_assoc inner (10 ∷ more) rest)
    ∙ inner_first (at + 1 + 1) inner (10 ∷ (more ++ rest)) all ∙ comment_passed (at + 1 + 1 + length inner) 10 (more ++ rest)
    ∙ blanks_first (at + 1 + 1 + length inner + 1) more rest g ∙ ap (λ (n : ℕ). first_byte false n rest) e

-- where nothing else is left, there is no such byte
blank_first : (at : ℕ) (bytes : List ℕ) → EndBlanks bytes → first_byte false at bytes ≡ at + length bytes
blank_first at bytes (finished g) = ap (first_byte false at) (sym (append-nil bytes)) ∙ blanks_first at bytes [] g ∙ nothing_first false (at + length bytes)
blank_first at bytes (last_comment gap inner g all split) =
    let e : at + length gap + 1 + 1 + length inner ≡ at + length bytes = omega (arith, ap length split, length-append gap (45 ∷ 45 ∷ inner)) in
    ap (first_byte false at) split ∙ blanks_first at gap (45 ∷ 45 ∷ inner) g ∙ minuses_passed (at + length gap) inner
    ∙ ap (first_byte true (at + length gap + 1 + 1)) (sym (append-nil inner)) ∙ inner_first (at + length gap + 1 + 1) inner [] all
    ∙ nothing_first true (at + length gap + 1 + 1 + length inner) ∙ e

-- a token doesn't start behind it
token_first : (bytes : List ℕ) (from : ℕ) (ended : Bool) (token : Token) → next_of bytes from ended ≡ lexed.Token token → token.start ≤ first_byte false from (drop from bytes)
token_first bytes from ended token h =
    let t = (token_exactly bytes from ended token).0 h in
    let same = ap (first_byte false from) t.split ∙ blanks_first from t.gap (t.text ++ t.rest) t.blank in
    omega (arith, same, t.start, first_later false (from + length t.gap) (t.text ++ t.rest))

-- ---- what is behind the tokens

-- where the first byte of some bytes isn't their last, what is behind the tokens begins there or before it as more come
pub begin_cut : (front more : List ℕ) (ended : Bool) (tail tail' : Tail) (from : ℕ) (us : List Token) → from ≤ length front → tail.begun ≡ first_byte false from (drop from front)
    → HasTokens ended (front ++ more) from us tail'.last → tail'.begun ≡ begun_at (front ++ more) (last_end from us) tail'.last → tail.begun + 1 < length front
    → begin_of tail' us ≤ tail.begun
begin_cut front more ended tail tail' from us le begun h begun' lt = by_tokens us h begun'
  where
    same : first_byte false from (drop from (front ++ more)) ≡ tail.begun
    same = ap (first_byte false from) (drop-append-le from front more le)
        ∙ first_stays false from (drop from front) more (omega (arith, begun, lt, le, length-drop from front)) ∙ sym begun

    by_last : (last : Lexed) → tail'.begun ≡ begun_at (front ++ more) from last → next_of (front ++ more) from ended ≡ last → tail'.begun ≤ tail.begun
    by_last (lexed.Token t) b e = omega (arith, b, same)
    by_last lexed.More b e = omega (arith, b, same)
    by_last (lexed.BadToken bad) b e = omega (arith, b, same)
    by_last lexed.End b e =
        let none = blank_first from (drop from (front ++ more)) ((end_exactly (front ++ more) from ended).0 e).1 in
        absurd (omega (arith, none, same, lt, le, length-drop from (front ++ more), length-append front more))

    by_tokens : (us : List Token) → HasTokens ended (front ++ more) from us tail'.last → tail'.begun ≡ begun_at (front ++ more) (last_end from us) tail'.last → begin_of tail' us ≤ tail.begun
    by_tokens [] h b = by_last tail'.last b h.0
    by_tokens (u ∷ us) h b = omega (arith, token_first (front ++ more) from ended u h.0, same)

-- later tokens, or what is behind them, don't begin before the place from which they are found
begin_from : (ended : Bool) (bytes : List ℕ) (tail : Tail) (from : ℕ) (ts : List Token) (last : Lexed) (n : ℕ) → HasTokens ended bytes from ts last → last_end from ts ≤ tail.begun
    → from ≤ begin_of tail (drop n ts)
begin_from ended bytes tail from [] last zero h le = le
begin_from ended bytes tail from [] last (suc n) h le = le
begin_from ended bytes tail from (t ∷ ts) last zero h le = (within_along bytes from ended (lexed.Token t) h.0).0
begin_from ended bytes tail from (t ∷ ts) last (suc n) h le =
    let w = within_along bytes from ended (lexed.Token t) h.0 in omega (arith, w.0, w.1, begin_from ended bytes tail t.end ts last n h.1 le)

-- nor before the first of the tokens
pub begin_first : (ended : Bool) (bytes : List ℕ) (tail : Tail) (from : ℕ) (ts : List Token) (last : Lexed) (n : ℕ) → HasTokens ended bytes from ts last → last_end from ts ≤ tail.begun
    → begin_of tail ts ≤ begin_of tail (drop n ts)
begin_first ended bytes tail from ts last zero h le = omega arith
begin_first ended bytes tail from [] last (suc n) h le = omega arith
begin_first ended bytes tail from (t ∷ ts) last (suc n) h le =
    let w = within_along bytes from ended (lexed.Token t) h.0 in omega (arith, w.1, begin_from ended bytes tail t.end ts last n h.1 le)
