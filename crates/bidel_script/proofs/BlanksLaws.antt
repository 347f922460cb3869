-- What comes of bytes behind white space and comments is what comes of them alone, so many bytes later.
use Rattle.std.proofs.Common.{◌≡◌, ◌+◌, ◌≤◌, ◌==◌, ◌++◌, ℕ, suc, List, [], ◌∷◌, Bool, true, false, inl, inr, refl, sym, ap, subst, ◌∙◌, cond, take, drop, length, arith}
use Rattle.std.specs.Prelude.{◌&&◌, not}
use Rattle.std.proofs.lemmas.Bool.Decides.{eqb_tells}
use Rattle.std.proofs.lemmas.List.{length-take-le, take-append-drop}
use Rattle.bidel_lex.specs.Classes.{is_space}
use Rattle.bidel_lex.specs.Next.{after_turn, first_of, first_turn, lexed_at, next_of, step_of, turn_at}
use Rattle.bidel_lex.specs.Tokens.{HasTokens}
use Rattle.bidel_lex.specs.declared.tokens.Token.{Token}
use Rattle.bidel_lex.specs.declared.tokens.Lexed.{Lexed}
use Rattle.bidel_lex.specs.declared.tokens.Lexed.TheVariants as lexed
use Rattle.bidel_lex.proofs.MovedLaws.{moved_last}
use Rattle.statements.specs.Views.{StatementView}
use Rattle.bidel_script.specs.Tails.{begins_comment, begun_at, first_byte, is_open_behind, last_end}
use Rattle.bidel_script.specs.Script.{Comes, Outcome, StandsBehind}
use Rattle.bidel_script.specs.Moved.{BlanksGo, ComesBehind, moved}
use Rattle.bidel_script.proofs.ComesLaws.{something_comes}
use Rattle.bidel_script.proofs.CutBlanks.{comment_passed, minuses_passed, other_passed}
use Rattle.bidel_script.proofs.CutBegins.{space_other}
use Rattle.bidel_script.proofs.MovedLaws.{begun_moved, first_byte_moved, leads_moved, stands_moved}
use Rattle.bidel_script.proofs.MovedTokens.{all_moved, has_moved, last_end_moved, moved_tail}
use Rattle.bidel_script.proofs.UniqueLaws.{one_comes}

-- ---- one byte

-- reading goes on where a comment is open, or where none is and no token is begun
lexed_in : Bool → Bool → ℕ → List ℕ → Lexed
lexed_in false ended at bytes = after_turn (first_turn at (first_of 32)) (λ blank. lexed_at ended blank at bytes)
lexed_in true ended at bytes = after_turn (first_turn at (first_of 45)) (λ minus. after_turn (turn_at minus at 45) (λ comment. lexed_at ended comment at bytes))

inner_opens : (b : ℕ) (bs : List ℕ) → is_open_behind true (b ∷ bs) ≡ is_open_behind (not (b == 10)) bs
unfolding is_open_behind
inner_opens b bs = refl

minuses_open : (cs : List ℕ) → is_open_behind false (45 ∷ 45 ∷ cs) ≡ is_open_behind true cs
unfolding is_open_behind
minuses_open cs = refl

other_opens : (b : ℕ) (bs : List ℕ) → (b == 45) ≡ false → is_open_behind false (b ∷ bs) ≡ cond (is_space b) (is_open_behind false bs) false
unfolding is_open_behind
other_opens b [] e = refl
other_opens b (c ∷ cs) e = ap (λ (x : Bool). cond (x && (c == 45)) (is_open_behind true (c ∷ cs)) (cond (is_space b) (is_open_behind false (c ∷ cs)) false)) e

none_opens : (inside : Bool) → is_open_behind inside [] ≡ inside
unfolding is_open_behind
none_opens true = refl
none_opens false = refl

none_passed : (inside : Bool) (at : ℕ) → first_byte inside at [] ≡ at
unfolding first_byte
none_passed true at = refl
none_passed false at = refl

none_lexed : (inside ended : Bool) (at : ℕ) → lexed_in inside ended at [] ≡ lexed_in false ended at []
unfolding lexed_in lexed_at turn_at first_of step_of
none_lexed true true at = refl
none_lexed true false at = refl
none_lexed false ended at = refl

-- behind a line feed in a comment none is open
line_lexed : Bool → Bool → ℕ → List ℕ → Lexed
line_lexed feed ended at bytes =
    after_turn (first_turn at (first_of 32)) (λ blank. after_turn (first_turn at (first_of 45)) (λ minus. after_turn (turn_at minus at 45) (λ comment.
    lexed_at ended (cond feed blank comment) at bytes)))

inner_lexed : (ended : Bool) (at b : ℕ) (bs : List ℕ) → lexed_in true ended at (b ∷ bs) ≡ lexed_in (not (b == 10)) ended (at + 1) bs
unfolding lexed_in line_lexed lexed_at turn_at first_of step_of
inner_lexed ended at b bs = let first : lexed_in true ended at (b ∷ bs) ≡ line_lexed (b == 10) ended (at + 1) bs = refl in first ∙ go (b == 10)
  where
    go : (x : Bool) → line_lexed x ended (at + 1) bs ≡ lexed_in (not x) ended (at + 1) bs
    go true = refl
    go false = refl

minuses_lexed : (ended : Bool) (at : ℕ) (cs : List ℕ) → lexed_in false ended at (45 ∷ 45 ∷ cs) ≡ lexed_in true ended (at + 1 + 1) cs
unfolding lexed_in lexed_at turn_at first_of step_of
minuses_lexed ended at cs = refl

chosen_yes : {A : Type 0} (b : Bool) (x y : A) → b ≡ true → cond b x y ≡ x
chosen_yes true x y h = refl
chosen_yes false x y h = cc

space_first : (b : ℕ) → is_space b ≡ true → first_of b ≡ first_of 32
unfolding first_of
space_first b e = chosen_yes (is_space b) _ _ e

space_lexed : (ended : Bool) (at b : ℕ) (bs : List ℕ) → is_space b ≡ true → lexed_in false ended at (b ∷ bs) ≡ lexed_in false ended (at + 1) bs
unfolding lexed_in lexed_at turn_at first_of
space_lexed ended at b bs e = ap (λ x. after_turn (first_turn at x) (λ next. lexed_at ended next (at + 1) bs)) (space_first b e)

-- ---- white space and comments in front

-- so many bytes in front are white space and comments; the lexer passes them, and so it is as more bytes come
record Passed (inside : Bool) (at : ℕ) (bytes : List ℕ) : Type 0 where
  size : ℕ
  within : size ≤ length bytes
  first : first_byte inside at bytes ≡ at + size
  stands : first_byte false (at + size) (drop size bytes) ≡ at + size
  lexes : (ended : Bool) → lexed_in inside ended at bytes ≡ lexed_in false ended (at + size) (drop size bytes)
  goes : (more : List ℕ) → first_byte inside at (bytes ++ more) ≡ first_byte (is_open_behind inside bytes) (at + size) (drop size bytes ++ more)
  none : is_open_behind inside bytes ≡ true → drop size bytes ≡ []

passed_none : (inside : Bool) (at : ℕ) → Passed inside at []
passed_none inside at =
    let same : at ≡ at + 0 = omega arith in
    record {
      size = 0;
      within = omega arith;
      first = none_passed inside at ∙ same;
      stands = none_passed false (at + 0);
      lexes = λ ended. none_lexed inside ended at ∙ ap (λ (n : ℕ). lexed_in false ended n []) same;
      goes = λ more. ap (λ (n : ℕ). first_byte inside n more) same ∙ ap (λ (x : Bool). first_byte x (at + 0) more) (sym (none_opens inside));
      none = λ _. refl;
    }

-- one byte more is passed
passed_more : (inside next : Bool) (at b : ℕ) (bs : List ℕ) → ((more : List ℕ) → first_byte inside at (b ∷ (bs ++ more)) ≡ first_byte next (at + 1) (bs ++ more))
    → first_byte inside at (b ∷ bs) ≡ first_byte next (at + 1) bs → is_open_behind inside (b ∷ bs) ≡ is_open_behind next bs
    → ((ended : Bool) → lexed_in inside ended at (b ∷ bs) ≡ lexed_in next ended (at + 1) bs) → Passed next (at + 1) bs → Passed inside at (b ∷ bs)
passed_more inside next at b bs goes first opens lexes p =
    let same : at + 1 + p.size ≡ at + suc p.size = omega arith in
    record {
      size = suc p.size;
      within = omega (arith, p.within);
      first = first ∙ p.first ∙ same;
      stands = subst (λ (n : ℕ). first_byte false n (drop p.size bs) ≡ n) same p.stands;
      lexes = λ ended. lexes ended ∙ p.lexes ended ∙ ap (λ (n : ℕ). lexed_in false ended n (drop p.size bs)) same;
      goes = λ more. goes more ∙ p.goes more ∙ ap (λ (n : ℕ). first_byte (is_open_behind next bs) n (drop p.size bs ++ more)) same
          ∙ ap (λ (x : Bool). first_byte x (at + suc p.size) (drop p.size bs ++ more)) (sym opens);
      none = λ e. p.none (sym opens ∙ e);
    }

inner_step : (at b : ℕ) (bs : List ℕ) → Passed (not (b == 10)) (at + 1) bs → Passed true at (b ∷ bs)
inner_step at b bs p =
    passed_more true (not (b == 10)) at b bs (λ more. comment_passed at b (bs ++ more)) (comment_passed at b bs) (inner_opens b bs) (λ ended. inner_lexed ended at b bs) p

space_step : (at b : ℕ) (bs : List ℕ) → is_space b ≡ true → Passed false (at + 1) bs → Passed false at (b ∷ bs)
space_step at b bs e p =
    passed_more false false at b bs (λ more. passes (bs ++ more)) (passes bs)
    (other_opens b bs (space_other b e) ∙ ap (λ (x : Bool). cond x (is_open_behind false bs) false) e) (λ ended. space_lexed ended at b bs e) p
  where
    passes : (l : List ℕ) → first_byte false at (b ∷ l) ≡ first_byte false (at + 1) l
    passes l = other_passed at b l (space_other b e) ∙ ap (λ (x : Bool). cond x (first_byte false (at + 1) l) at) e

minuses_step : (at : ℕ) (cs : List ℕ) → Passed true (at + 1 + 1) cs → Passed false at (45 ∷ 45 ∷ cs)
minuses_step at cs p =
    let same : at + 1 + 1 + p.size ≡ at + suc (suc p.size) = omega arith in
    record {
      size = suc (suc p.size);
      within = omega (arith, p.within);
      first = minuses_passed at cs ∙ p.first ∙ same;
      stands = subst (λ (n : ℕ). first_byte false n (drop p.size cs) ≡ n) same p.stands;
      lexes = λ ended. minuses_lexed ended at cs ∙ p.lexes ended ∙ ap (λ (n : ℕ). lexed_in false ended n (drop p.size cs)) same;
      goes = λ more. minuses_passed at (cs ++ more) ∙ p.goes more ∙ ap (λ (n : ℕ). first_byte (is_open_behind true cs) n (drop p.size cs ++ more)) same
          ∙ ap (λ (x : Bool). first_byte x (at + suc (suc p.size)) (drop p.size cs ++ more)) (sym (minuses_open cs));
      none = λ e. p.none (sym (minuses_open cs) ∙ e);
    }

stop_step : (at b : ℕ) (bs : List ℕ) → begins_comment b bs ≡ false → is_space b ≡ false → Passed false at (b ∷ bs)
unfolding first_byte is_open_behind
stop_step at b bs comment space =
    let same : at ≡ at + 0 = omega arith in
    let stops : (n : ℕ) → first_byte false n (b ∷ bs) ≡ n = λ n. rw comment (rw space refl) in
    let shut : is_open_behind false (b ∷ bs) ≡ false = rw comment (rw space refl) in
    record {
      size = 0;
      within = omega arith;
      first = stops at ∙ same;
      stands = stops (at + 0);
      lexes = λ ended. ap (λ (n : ℕ). lexed_in false ended n (b ∷ bs)) same;
      goes = λ more. ap (λ (n : ℕ). first_byte false n (b ∷ (bs ++ more))) same ∙ ap (λ (x : Bool). first_byte x (at + 0) (b ∷ (bs ++ more))) (sym shut);
      none = λ e. let bad : true ≡ false = sym e ∙ shut in cc;
    }

by_space : (at b : ℕ) (bs : List ℕ) → begins_comment b bs ≡ false → Passed false (at + 1) bs → Passed false at (b ∷ bs)
by_space at b bs comment p = go (is_space b) refl
  where
    go : (s : Bool) → is_space b ≡ s → Passed false at (b ∷ bs)
    go true e = space_step at b bs e p
    go false e = stop_step at b bs comment e

passed : (inside : Bool) (at : ℕ) (bytes : List ℕ) → Passed inside at bytes
passed inside at [] = passed_none inside at
passed true at (b ∷ bs) = inner_step at b bs (passed (not (b == 10)) (at + 1) bs)
passed false at (b ∷ []) = by_space at b [] refl (passed_none false (at + 1))
passed false at (b ∷ c ∷ cs) = elim (eqb_tells b 45) [
  | inl k ↦ elim (eqb_tells c 45) [
    | inl l ↦ subst (λ (x : ℕ). Passed false at (x ∷ c ∷ cs)) (sym k.1) (subst (λ (x : ℕ). Passed false at (45 ∷ x ∷ cs)) (sym l.1) (minuses_step at cs (passed true (at + 1 + 1) cs)))
    | inr l ↦ by_space at b (c ∷ cs) (ap (λ (x : Bool). (b == 45) && x) l.0 ∙ ap (λ (x : Bool). x && false) k.0) (passed false (at + 1) (c ∷ cs))
  ]
  | inr k ↦ by_space at b (c ∷ cs) (ap (λ (x : Bool). x && (c == 45)) k.0) (passed false (at + 1) (c ∷ cs))
]

-- ---- as more bytes come

-- so many bytes in front are passed, whatever comes behind them; where a comment is still open, they are all
pub passed_within : (inside : Bool) (bytes : List ℕ) → first_byte inside 0 bytes ≤ length bytes
passed_within inside bytes = let p = passed inside 0 bytes in omega (arith, p.first, p.within)

pub passed_all : (inside : Bool) (bytes : List ℕ) → is_open_behind inside bytes ≡ true → drop (first_byte inside 0 bytes) bytes ≡ []
passed_all inside bytes e =
    let p = passed inside 0 bytes in
    let same : first_byte inside 0 bytes ≡ p.size = omega (arith, p.first) in ap (λ (n : ℕ). drop n bytes) same ∙ p.none e

pub passed_front : (inside : Bool) (bytes more : List ℕ) → first_byte inside 0 (bytes ++ more)
    ≡ first_byte inside 0 bytes + first_byte (is_open_behind inside bytes) 0 (drop (first_byte inside 0 bytes) bytes ++ more)
passed_front inside bytes more =
    let p = passed inside 0 bytes in
    let n = first_byte inside 0 bytes in
    let open' = is_open_behind inside bytes in
    let same : p.size ≡ n = omega (arith, p.first) in
    let there : 0 + p.size ≡ n + 0 = omega (arith, p.first) in
    p.goes more ∙ ap (λ (k : ℕ). first_byte open' k (drop p.size bytes ++ more)) there ∙ ap (λ (k : ℕ). first_byte open' (n + 0) (drop k bytes ++ more)) same
    ∙ first_byte_moved open' n 0 (drop n bytes ++ more)

-- ---- what comes of them

-- tokens that are found behind the white space and comments are found before them
has_before : (ended : Bool) (bytes : List ℕ) (k : ℕ) (ts : List Token) (last : Lexed) → next_of bytes 0 ended ≡ next_of bytes k ended → HasTokens ended bytes k ts last → HasTokens ended bytes 0 ts last
has_before ended bytes k [] last e h = (e ∙ h.0, h.1)
has_before ended bytes k (t ∷ ts) last e h = (e ∙ h.0, h.1)

next_same : (ended : Bool) (bytes : List ℕ) (p : Passed false 0 bytes) → next_of bytes 0 ended ≡ next_of bytes p.size ended
unfolding next_of lexed_in first_of
next_same ended bytes p = let same : 0 + p.size ≡ p.size = omega arith in p.lexes ended ∙ ap (λ (n : ℕ). lexed_in false ended n (drop p.size bytes)) same

begun_same : (bytes : List ℕ) (p : Passed false 0 bytes) (last : Lexed) → begun_at bytes 0 last ≡ begun_at bytes p.size last
begun_same bytes p last = go last
  where
    same : 0 + p.size ≡ p.size
    same = omega arith

    both : first_byte false 0 bytes ≡ first_byte false p.size (drop p.size bytes)
    both = p.first ∙ sym p.stands ∙ ap (λ (n : ℕ). first_byte false n (drop p.size bytes)) same

    go : (last : Lexed) → begun_at bytes 0 last ≡ begun_at bytes p.size last
    go (lexed.Token t) = both
    go lexed.More = both
    go lexed.End = refl
    go (lexed.BadToken at) = both

module _ (u y : List ℕ) (ended : Bool) (sts : List StatementView) (o : Outcome) (p : Passed false 0 (u ++ y)) (size : p.size ≡ length u) (c : Comes y ended sts o) where
  abbrev k : ℕ
  k = length u

  found : HasTokens ended (u ++ y) 0 (all_moved k c.tokens) (moved_last k c.tail.last)
  found =
      let at_start : k + 0 ≡ k = omega arith in
      has_before ended (u ++ y) k (all_moved k c.tokens) (moved_last k c.tail.last) (subst (λ (n : ℕ). next_of (u ++ y) 0 ended ≡ next_of (u ++ y) n ended) size (next_same ended (u ++ y) p))
      (subst (λ (n : ℕ). HasTokens ended (u ++ y) n (all_moved k c.tokens) (moved_last k c.tail.last)) at_start (has_moved u y ended 0 c.tokens c.tail.last c.all.found))

  begun : (ts : List Token) → begun_at (u ++ y) (last_end 0 (all_moved k ts)) (moved_last k c.tail.last) ≡ k + begun_at y (last_end 0 ts) c.tail.last
  begun [] =
      let at_start : k ≡ k + 0 = omega arith in
      subst (λ (n : ℕ). begun_at (u ++ y) 0 (moved_last k c.tail.last) ≡ begun_at (u ++ y) n (moved_last k c.tail.last)) size (begun_same (u ++ y) p (moved_last k c.tail.last))
      ∙ ap (λ (n : ℕ). begun_at (u ++ y) n (moved_last k c.tail.last)) at_start ∙ begun_moved u y 0 c.tail.last
  begun (t ∷ ts) = ap (λ (n : ℕ). begun_at (u ++ y) n (moved_last k c.tail.last)) (last_end_moved k t.end ts) ∙ begun_moved u y (last_end t.end ts) c.tail.last

  behind_blanks : Comes (u ++ y) ended sts (moved k o)
  behind_blanks = record {
    tokens = all_moved k c.tokens;
    tail = moved_tail k c.tail;
    all = record { found = found; begun = ap (λ (n : ℕ). k + n) c.all.begun ∙ sym (begun c.tokens) };
    used = c.used;
    leads = leads_moved u y c.tail c.tokens sts c.used c.leads;
    behind = let none : 0 + c.used ≡ c.used = omega arith in
        subst (λ (n : ℕ). StandsBehind (u ++ y) (moved_tail k c.tail) (all_moved k c.tokens) n (moved k o)) none
        (stands_moved u y c.tail (all_moved k c.tokens) c.tokens [] 0 refl refl c.used o c.behind);
  }

pub blanks_go : BlanksGo
blanks_go bytes ended sts o c =
    let p = passed false 0 bytes in
    let n = first_byte false 0 bytes in
    let same : n ≡ p.size = omega (arith, p.first) in
    let u = take n bytes in
    let y = drop n bytes in
    let split : u ++ y ≡ bytes = take-append-drop n bytes in
    let size : length u ≡ n = length-take-le n bytes (passed_within false bytes) in
    let q : Passed false 0 (u ++ y) = passed false 0 (u ++ y) in
    let q_size : q.size ≡ length u = let e : first_byte false 0 (u ++ y) ≡ n = ap (first_byte false 0) split in omega (arith, q.first, e, size) in
    subst (λ (l : List ℕ). Comes l ended sts o) split
    (subst (λ (x : Outcome). Comes (u ++ y) ended sts x) (ap (λ (m : ℕ). moved m c.0) size ∙ sym c.1) (behind_blanks u y ended sts c.0 q q_size c.2))

-- what comes of bytes comes of those behind their white space and comments
pub comes_behind_blanks : (bytes : List ℕ) (ended : Bool) (sts : List StatementView) (o : Outcome) → Comes bytes ended sts o → ComesBehind false bytes ended sts o
comes_behind_blanks bytes ended sts o c =
    let n = first_byte false 0 bytes in
    let own = something_comes (drop n bytes) ended in
    let same = one_comes bytes ended sts own.0 o (moved n own.1) c (blanks_go bytes ended own.0 (moved n own.1) (own.1, refl, own.2)) in
    (own.1, same.1, subst (λ (l : List StatementView). Comes (drop n bytes) ended l own.1) (sym same.0) own.2)
