-- What comes of bytes behind statements that are known to end is what comes of them alone, so many bytes later.
use Rattle.std.proofs.Common.{◌≡◌, ◌+◌, ◌≤◌, ◌++◌, ℕ, zero, suc, List, [], ◌∷◌, Bool, true, false, inl, inr, refl, sym, ap, subst, ◌∙◌, take, drop, length, arith, length-append, length-drop, append_assoc}
use Rattle.std.specs.Prelude.{not, ◌==◌, cond}
use Rattle.std.proofs.Math.Seq.{drop-append-add}
use Rattle.std.proofs.lemmas.List.{drop-drop, drop-map, length-map, length-take-le, take-append-drop, take-append-le}
use Rattle.bidel_lex.specs.Classes.{is_space}
use Rattle.bidel_lex.specs.declared.tokens.Token.{Token}
use Rattle.bidel_lex.specs.declared.tokens.Lexed.{Lexed}
use Rattle.bidel_lex.specs.declared.tokens.Lexed.TheVariants as lexed
use Rattle.bidel_lex.specs.Tokens.{HasTokens}
use Rattle.bidel_lex.proofs.WithinLaws.{within_along}
use Rattle.bidel_expr.specs.Lexemes.{Lexeme, lexemes}
use Rattle.phrases.specs.Phrases.{Begins}
use Rattle.statements.specs.Views.{StatementView}
use Rattle.bidel_parser.specs.Statements.{Script}
use Rattle.bidel_parser.specs.Parsing.{IsFront, NoFront, FirstFault, start_of}
use Rattle.bidel_script.specs.declared.tokens.Tail.{Tail}
use Rattle.bidel_script.specs.Tails.{AreAll, begins_comment, begun_at, earlier, first_byte, is_over, last_end}
use Rattle.bidel_script.specs.Lengths.{IsLong}
use Rattle.bidel_script.specs.Script.{Leads, Comes, Outcome, Over, Fault, Long, Open, StandsBehind}
use Rattle.bidel_script.specs.Moved.{UsedBytesGo, end_behind, moved}
use Rattle.bidel_script.proofs.TokenLaws.{tokens_are_one, more_open}
use Rattle.bidel_script.proofs.ScriptLaws.{drop_both, leads_begins, leads_fault, leads_within}
use Rattle.bidel_script.proofs.ComesLaws.{something_comes}
use Rattle.bidel_script.proofs.CutTokens.{all_shown, go_on}
use Rattle.bidel_script.proofs.CutPlaces.{last_end-append}
use Rattle.bidel_script.proofs.CutLaws.{leads_stay}
use Rattle.bidel_script.proofs.MovedTokens.{all_moved, earlier_moved, has_moved, last_end_moved, lexemes_moved, moved_tail, over_same, start_moved}
use Rattle.bidel_lex.proofs.MovedLaws.{moved_last, moved_token}
use Rattle.bidel_script.proofs.MovedLengths.{long_behind_down, long_behind_up}

-- ---- where what is behind the tokens begins

-- a byte that is passed or begins what is there
byte_moved : (k at : ℕ) (bytes : List ℕ) → ((inside : Bool) → first_byte inside (k + at + 1) bytes ≡ k + first_byte inside (at + 1) bytes)
    → (comment blank : Bool) → cond comment (first_byte true (k + at + 1) bytes) (cond blank (first_byte false (k + at + 1) bytes) (k + at))
    ≡ k + cond comment (first_byte true (at + 1) bytes) (cond blank (first_byte false (at + 1) bytes) at)
byte_moved k at bytes next true blank = next true
byte_moved k at bytes next false true = next false
byte_moved k at bytes next false false = refl

pub first_byte_moved : (inside : Bool) (k at : ℕ) (bytes : List ℕ) → first_byte inside (k + at) bytes ≡ k + first_byte inside at bytes
unfolding first_byte
first_byte_moved inside k at [] = refl
first_byte_moved true k at (b ∷ bytes) =
    let e : k + at + 1 ≡ k + (at + 1) = omega arith in ap (λ (n : ℕ). first_byte (not (b == 10)) n bytes) e ∙ first_byte_moved (not (b == 10)) k (at + 1) bytes
first_byte_moved false k at (b ∷ bytes) =
    let e : k + at + 1 ≡ k + (at + 1) = omega arith in
    byte_moved k at bytes (λ inside. ap (λ (n : ℕ). first_byte inside n bytes) e ∙ first_byte_moved inside k (at + 1) bytes) (begins_comment b bytes) (is_space b)

pub begun_moved : (u y : List ℕ) (from : ℕ) (last : Lexed) → begun_at (u ++ y) (length u + from) (moved_last (length u) last) ≡ length u + begun_at y from last
begun_moved u y from (lexed.Token t) = ap (first_byte false (length u + from)) (drop-append-add u y from) ∙ first_byte_moved false (length u) from (drop from y)
begun_moved u y from lexed.More = ap (first_byte false (length u + from)) (drop-append-add u y from) ∙ first_byte_moved false (length u) from (drop from y)
begun_moved u y from lexed.End = length-append u y
begun_moved u y from (lexed.BadToken at) = ap (first_byte false (length u + from)) (drop-append-add u y from) ∙ first_byte_moved false (length u) from (drop from y)

-- ---- statements one after the other

-- first statements, and others behind them
leads_both : (bytes : List ℕ) (tail : Tail) (ts : List Token) (one other : List StatementView) (m n : ℕ) → Leads bytes tail ts one m → Leads bytes tail (drop m ts) other n
    → Leads bytes tail ts (one ++ other) (m + n)
leads_both bytes tail ts [] other m n h k =
    let e : n ≡ m + n = omega (arith, h) in
    subst (Leads bytes tail ts other) e (subst (λ (i : ℕ). Leads bytes tail (drop i ts) other n) h k)
leads_both bytes tail ts (st ∷ one) other m n h k = (
  h.0,
  h.1 + n,
  omega (arith, h.2),
  h.3,
  h.4,
  leads_both bytes tail (drop h.0 ts) one other h.1 n h.5 (subst (λ (l : List Token). Leads bytes tail l other n) (drop_both bytes tail ts m h.0 h.1 h.2) k),
)

module _ (u y : List ℕ) (tail : Tail) where
  -- statements of the bytes alone, in all bytes
  pub leads_moved : (ts : List Token) (sts : List StatementView) (used : ℕ) → Leads y tail ts sts used → Leads (u ++ y) (moved_tail (length u) tail) (all_moved (length u) ts) sts used
  leads_moved ts [] used h = h
  leads_moved ts (st ∷ sts) used h =
      let k = length u in (
        h.0,
        h.1,
        h.2,
        subst (λ (b : Bool). IsFront b (lexemes (u ++ y) (all_moved k ts)) st h.0) (sym (over_same k tail.last)) (subst (λ (l : List Lexeme). IsFront (is_over tail.last) l st h.0) (sym (lexemes_moved u y ts)) h.3),
        λ long. h.4 (long_behind_down u y tail ts long),
        subst (λ (l : List Token). Leads (u ++ y) (moved_tail k tail) l sts h.1) (sym (drop-map (moved_token k) h.0 ts)) (leads_moved (drop h.0 ts) sts h.1 h.5),
      )

  -- ---- what stands behind them

  module _ (all ts : List Token) (sts : List StatementView) (n : ℕ) (first : Leads (u ++ y) (moved_tail (length u) tail) all sts n) (same : drop n all ≡ all_moved (length u) ts) where
    behind_is : (used : ℕ) → drop (n + used) all ≡ all_moved (length u) (drop used ts)
    behind_is used = sym (drop-drop used n all) ∙ ap (drop used) same ∙ drop-map (moved_token (length u)) used ts

    says_is : (used : ℕ) → lexemes (u ++ y) (drop (n + used) all) ≡ lexemes y (drop used ts)
    says_is used = ap (lexemes (u ++ y)) (behind_is used) ∙ lexemes_moved u y (drop used ts)

    says_all : lexemes (u ++ y) (drop n all) ≡ lexemes y ts
    says_all = ap (lexemes (u ++ y)) same ∙ lexemes_moved u y ts

    lengths : length all ≡ n + length ts
    lengths = omega (arith, leads_within (u ++ y) (moved_tail (length u) tail) all sts n first, length-drop n all, ap length same, length-map ts (moved_token (length u)))

    no_front_moved : (over : Bool) (used : ℕ) → NoFront over (lexemes y (drop used ts)) → NoFront over (lexemes (u ++ y) (drop (n + used) all))
    no_front_moved over used h = subst (NoFront over) (sym (says_is used)) h

    short_moved : (used : ℕ) → ¬ IsLong y tail (drop used ts) → ¬ IsLong (u ++ y) (moved_tail (length u) tail) (drop (n + used) all)
    short_moved used h long = h (long_behind_down u y tail (drop used ts) (subst (IsLong (u ++ y) (moved_tail (length u) tail)) (behind_is used) long))

    pub stands_moved : (used : ℕ) (o : Outcome) → StandsBehind y tail ts used o → StandsBehind (u ++ y) (moved_tail (length u) tail) all (n + used) (moved (length u) o)
    stands_moved used Over h = (behind_is used ∙ ap (all_moved (length u)) h.0, ap (moved_last (length u)) h.1)
    stands_moved used (Fault at) h =
        let k = length u in
        let token = h.token in
        record {
          none = subst (λ (b : Bool). NoFront b (lexemes (u ++ y) (drop (n + used) all))) (sym (over_same k tail.last)) (no_front_moved (is_over tail.last) used h.none);
          short = short_moved used h.short;
          token = n + token;
          within = omega (arith, h.within, lengths);
          first = leads_fault (u ++ y) (moved_tail k tail) all sts n first token (omega (arith, h.within, ap length same, length-map ts (moved_token k)))
              (subst (λ (l : List Lexeme). FirstFault l token) (sym says_all) h.first);
          seen = elim h.seen [
            | inl lt ↦ inl (omega (arith, lt, lengths))
            | inr more ↦ inr (over_same k tail.last ∙ more.0, elim more.1 [ inl lt ↦ inl (omega (arith, lt, lengths)) | inr bad ↦ inr (k + bad.0, ap (moved_last k) bad.1) ])
          ];
          place = ap (λ (p : ℕ). k + p) h.place ∙ sym (earlier_moved k (start_of (length y) (drop token ts)) tail.last)
              ∙ sym (ap (λ (p : ℕ). earlier p (moved_last k tail.last)) (ap (start_of (length (u ++ y))) (behind_is token) ∙ start_moved u y (drop token ts)));
        }
    stands_moved used Long h = subst (IsLong (u ++ y) (moved_tail (length u) tail)) (sym (behind_is used)) (long_behind_up u y tail (drop used ts) h)
    stands_moved used Open h = record {
      more = ap (moved_last (length u)) h.more;
      none = no_front_moved false used h.none;
      begins = leads_begins (u ++ y) (moved_tail (length u) tail) (more_open (moved_last (length u) tail.last) (ap (moved_last (length u)) h.more)) all sts n first
          (subst (Begins Script) (sym says_all) h.begins);
      short = short_moved used h.short;
    }

-- ---- all bytes

-- tokens behind so many others are found from the end of these on
has_behind : (ended : Bool) (bytes : List ℕ) (from : ℕ) (ts : List Token) (last : Lexed) (n : ℕ) → n ≤ length ts → HasTokens ended bytes from ts last
    → HasTokens ended bytes (last_end from (take n ts)) (drop n ts) last
has_behind ended bytes from ts last zero le h = h
has_behind ended bytes from [] last (suc n) le h = absurd (omega (arith, le))
has_behind ended bytes from (t ∷ ts) last (suc n) le h = has_behind ended bytes t.end ts last n (omega (arith, le)) h.1

-- so many first tokens end within the bytes
ends_inside : (ended : Bool) (bytes : List ℕ) (from : ℕ) (ts : List Token) (last : Lexed) (n : ℕ) → from ≤ length bytes → HasTokens ended bytes from ts last → last_end from (take n ts) ≤ length bytes
ends_inside ended bytes from ts last zero le h = le
ends_inside ended bytes from [] last (suc n) le h = le
ends_inside ended bytes from (t ∷ ts) last (suc n) le h = ends_inside ended bytes t.end ts last n (within_along bytes from ended (lexed.Token t) h.0).2 h.1

tail_is : (one other : Tail) → one.last ≡ other.last → one.begun ≡ other.begun → one ≡ other
tail_is one other h k = λ i. record { last = h i; begun = k i }

-- behind first statements of all bytes come the statements of the bytes alone
comes_behind : (u y : List ℕ) (ended : Bool) (sts rest : List StatementView) (o : Outcome) (all : List Token) (tail : Tail) (n : ℕ)
    → AreAll (u ++ y) ended all tail → Leads (u ++ y) tail all sts n → last_end 0 (take n all) ≡ length u → Comes y ended rest o → Comes (u ++ y) ended (sts ++ rest) (moved (length u) o)
comes_behind u y ended sts rest o all tail n are first end c = record {
  tokens = all;
  tail = tail;
  all = are;
  used = n + c.used;
  leads = leads_both (u ++ y) tail all sts rest n c.used first
      (subst (λ (t : Tail). Leads (u ++ y) t (drop n all) rest c.used) (sym tails)
      (subst (λ (l : List Token). Leads (u ++ y) (moved_tail k c.tail) l rest c.used) (sym same.0) (leads_moved u y c.tail c.tokens rest c.used c.leads)));
  behind = subst (λ (t : Tail). StandsBehind (u ++ y) t all (n + c.used) (moved k o)) (sym tails)
      (stands_moved u y c.tail all c.tokens sts n (subst (λ (t : Tail). Leads (u ++ y) t all sts n) tails first) same.0 c.used o c.behind);
}
  where
    k : ℕ
    k = length u

    within : n ≤ length all
    within = leads_within (u ++ y) tail all sts n first

    there : HasTokens ended (u ++ y) k (drop n all) tail.last
    there = subst (λ (p : ℕ). HasTokens ended (u ++ y) p (drop n all) tail.last) end (has_behind ended (u ++ y) 0 all tail.last n within are.found)

    at_start : k + 0 ≡ k
    at_start = omega arith

    alone : HasTokens ended (u ++ y) k (all_moved k c.tokens) (moved_last k c.tail.last)
    alone = subst (λ (p : ℕ). HasTokens ended (u ++ y) p (all_moved k c.tokens) (moved_last k c.tail.last)) at_start (has_moved u y ended 0 c.tokens c.tail.last c.all.found)

    same : (drop n all ≡ all_moved k c.tokens) × (tail.last ≡ moved_last k c.tail.last)
    same = tokens_are_one ended (u ++ y) k (drop n all) (all_moved k c.tokens) tail.last (moved_last k c.tail.last) there alone

    ends : last_end 0 all ≡ k + last_end 0 c.tokens
    ends = ap (last_end 0) (sym (take-append-drop n all)) ∙ last_end-append 0 (take n all) (drop n all) ∙ ap (λ (p : ℕ). last_end p (drop n all)) (end ∙ sym at_start)
        ∙ ap (last_end (k + 0)) same.0 ∙ last_end_moved k 0 c.tokens

    tails : tail ≡ moved_tail k c.tail
    tails = tail_is tail (moved_tail k c.tail) same.1
        (are.begun ∙ ap (λ (p : ℕ). begun_at (u ++ y) p tail.last) ends ∙ ap (begun_at (u ++ y) (k + last_end 0 c.tokens)) same.1
        ∙ begun_moved u y (last_end 0 c.tokens) c.tail.last ∙ ap (λ (p : ℕ). k + p) (sym c.all.begun))

pub used_bytes_go : UsedBytesGo
used_bytes_go front more tokens tail before used are wants leads ended rest o c =
    let whole = (something_comes (front ++ more) ended).2 in
    let go = go_on front more ended 0 tokens whole.tokens tail.last whole.tail.last are.found whole.all.found in
    let stay = leads_stay front more tail whole.tail (more_open tail.last wants) tokens go.0 before used (all_shown front 0 tokens tail.last are.found) leads in
    let k = end_behind tokens used in
    let u = take k front in
    let y = drop k front ++ more in
    let split : u ++ y ≡ front ++ more = sym (append_assoc u (drop k front) more) ∙ ap (λ (l : List ℕ). l ++ more) (take-append-drop k front) in
    let size : length u ≡ k = length-take-le k front (ends_inside false front 0 tokens tail.last used (omega arith) are.found) in
    let within = leads_within front tail tokens before used leads in
    let ends : last_end 0 (take used whole.tokens) ≡ length u =
    ap (λ (l : List Token). last_end 0 (take used l)) go.1 ∙ ap (last_end 0) (take-append-le used tokens go.0 within) ∙ sym size in
    let comes = comes_behind u y ended before rest o whole.tokens whole.tail used
    (subst (λ (l : List ℕ). AreAll l ended whole.tokens whole.tail) (sym split) whole.all)
    (subst (λ (l : List ℕ). Leads l whole.tail whole.tokens before used) (sym split) (subst (λ (l : List Token). Leads (front ++ more) whole.tail l before used) (sym go.1) stay)) ends c in
    subst (λ (p : ℕ). Comes (front ++ more) ended (before ++ rest) (moved p o)) size (subst (λ (l : List ℕ). Comes l ended (before ++ rest) (moved (length u) o)) split comes)
