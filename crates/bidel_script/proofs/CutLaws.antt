-- The statements that some first bytes fix are the first of those that all bytes fix, and a fault in the first bytes is that of all.
use Rattle.std.proofs.Common.{◌≡◌, ◌≢◌, ◌+◌, ◌-◌, ◌<◌, ◌++◌, ℕ, List, [], ◌∷◌, Bool, Ok, Err, true, false, inl, inr, refl, sym, ap, subst, ◌∙◌, append_assoc, append-nil, drop, length, arith, length-append}
use Rattle.std.specs.Prelude.{min}
use Rattle.std.proofs.lemmas.List.{length-map, drop-append-le}
use Rattle.phrases.specs.Reading.{Read, next}
use Rattle.phrases.specs.Phrases.{Begins}
use Rattle.phrases.proofs.FrontsLaws.{whole_front, no_front, first_fault, begins_all}
use Rattle.bidel_lex.specs.declared.tokens.Token.{Token}
use Rattle.bidel_lex.specs.declared.tokens.Lexed.{Lexed}
use Rattle.bidel_lex.specs.declared.tokens.Lexed.TheVariants as lexed
use Rattle.bidel_lex.specs.Tokens.{HasTokens, is_token}
use Rattle.bidel_expr.specs.Lexemes.{Lexeme, lexeme, lexemes}
use Rattle.statements.specs.Views.{StatementView}
use Rattle.bidel_parser.specs.Statements.{IsStatement, Script, stays_open}
use Rattle.bidel_parser.specs.inner.StatementReaders.{statement_at}
use Rattle.bidel_parser.specs.Parsing.{IsFront, NoFront, FirstFault, start_of}
use Rattle.bidel_parser.proofs.ScriptLaws.{fault_stays}
use Rattle.bidel_parser.proofs.StatementLaws.{statement-last, script_over}
use Rattle.bidel_script.specs.declared.tokens.Tail.{Tail}
use Rattle.bidel_script.specs.Tails.{is_over, begin_of, known_end, begun_at, last_end, earlier}
use Rattle.bidel_script.specs.Lengths.{IsLong, is_long, is_long_fault, part}
use Rattle.bidel_script.specs.Script.{Leads, Comes, Outcome, Over, Fault, Long, Open, IsFaulty, StandsBehind, FrontsComeFirst, FaultsStay}
use Rattle.bidel_script.proofs.TokenLaws.{ends_not, more_open}
use Rattle.bidel_script.proofs.ScriptLaws.{leads_begins, leads_within, front_within}
use Rattle.bidel_script.proofs.UniqueLaws.{begins_front, blocked, leads_first, no_front_at, one_comes}
use Rattle.bidel_script.proofs.ComesLaws.{something_comes}
use Rattle.bidel_script.proofs.LengthLemmas.{fault_short}
use Rattle.bidel_script.proofs.CutTokens.{Shown, all_shown, shown_drop, start_before, bad_behind, bad_inside, start_append, begin_append, lexemes_same, lexemes_more, go_on, go_no_further, known_some}
use Rattle.bidel_script.proofs.CutBlanks.{begun_same}
use Rattle.bidel_script.proofs.CutLengths.{tells, still_front, still_short, long_down, long_up}

-- ---- where the first bytes may go on

-- reading found a fault at one of the tokens
pub record Faulted (ts : List Lexeme) : Type 0 where
  pub left : List Lexeme
  pub some : left ≢ []
  pub read : statement_at false ts ≡ Err left

-- it finds that fault as tokens come
reads_on : (over : Bool) (ts more : List Lexeme) (f : Faulted ts) → statement_at over (ts ++ more) ≡ Err (f.left ++ more)
reads_on over ts more f =
    let stop = statement-last.stops false ts f.left f.read in
    ap (λ (l : List Lexeme). statement_at over (l ++ more)) stop.whole ∙ ap (statement_at over) (append_assoc stop.front f.left more)
    ∙ stop.first over (f.left ++ more) f.some (next_same f.left f.some)
  where
    next_same : (left : List Lexeme) → left ≢ [] → next (left ++ more) ≡ next left
    next_same [] some = absurd (some refl)
    next_same (t ∷ us) some = refl

-- the fault of tokens that may go on, with no statement at the front of them
faulted : (ts : List Lexeme) → NoFront false ts → (Begins Script ts → ⊥) → Faulted ts
faulted ts none stop = go (statement_at false ts) refl
  where
    go : (r : Read Lexeme StatementView) → statement_at false ts ≡ r → Faulted ts
    go (Ok p) e = absurd (no_front_at false ts p.0 (length ts - length p.1) none (whole_front stays_open IsStatement statement_at statement-last false ts p.1 p.0 e))
    go (Err left) e = record { left = left; some = λ n. stop (begins_all stays_open IsStatement statement_at statement-last false ts left e (ap length n)); read = e }

some_length : {A : Type 0} (l : List A) → l ≢ [] → 0 < length l
some_length [] h = absurd (h refl)
some_length (x ∷ xs) h = omega arith

module _ (front more : List ℕ) (tail tail' : Tail) (open' : is_over tail.last ≡ false) where
  -- the statements stay
  pub leads_stay : (ts us : List Token) (sts : List StatementView) (used : ℕ) → Shown front ts → Leads front tail ts sts used → Leads (front ++ more) tail' (ts ++ us) sts used
  leads_stay ts us [] used sh h = h
  leads_stay ts us (st ∷ sts) used sh h =
      let f : IsFront false (lexemes front ts) st h.0 = subst (λ (b : Bool). IsFront b (lexemes front ts) st h.0) open' h.3 in
      let within = front_within front false ts st h.0 f in (
        h.0,
        h.1,
        h.2,
        still_front front more tail tail' (is_over tail'.last) ts us st h.0 f sh,
        still_short front more tail tail' ts us st h.0 f sh h.4,
        subst (λ (l : List Token). Leads (front ++ more) tail' l sts h.1) (sym (drop-append-le h.0 ts us within)) (leads_stay (drop h.0 ts) us sts h.1 (shown_drop front h.0 ts sh) h.5),
      )

  -- the first fault of some tokens is the one of all, with the same bytes up to it
  pub record StaysPart (rest us : List Token) : Type 0 where
    pub at : ℕ
    pub within : at < length rest
    pub none : NoFront true (lexemes front rest)
    pub first : FirstFault (lexemes front rest) at
    pub none_more : NoFront true (lexemes (front ++ more) (rest ++ us))
    pub first_more : FirstFault (lexemes (front ++ more) (rest ++ us)) at
    pub same : is_long_fault (front ++ more) tail' (rest ++ us) at ≡ is_long_fault front tail rest at

  pub part_stays : (rest us : List Token) → Shown front rest → Faulted (lexemes front rest) → StaysPart rest us
  part_stays rest us sh f =
      let xs : List Lexeme = lexemes front rest in
      let ys : List Lexeme = lexemes (front ++ more) us in
      let at : ℕ = length xs - length f.left in
      let stop = statement-last.stops false xs f.left f.read in
      let size = length-map rest (lexeme front) in
      let some = some_length f.left f.some in
      let sum : length xs ≡ length stop.front + length f.left = ap length stop.whole ∙ length-append stop.front f.left in
      let lt : at < length xs = omega (arith, some, sum) in
      let first : FirstFault xs at = first_fault stays_open IsStatement statement_at statement-last script_over false xs f.left f.read in
      let alone : statement_at true xs ≡ Err f.left = ap (statement_at true) (sym (append-nil xs)) ∙ reads_on true xs [] f ∙ ap (λ (l : List Lexeme). Err l) (append-nil f.left) in
      let whole = lexemes_more front more rest us sh in
      let inside : at < length rest = omega (arith, lt, size) in
      record {
        at = at;
        within = inside;
        none = no_front stays_open IsStatement statement_at statement-last true xs f.left alone;
        first = first;
        none_more = subst (NoFront true) (sym whole) (no_front stays_open IsStatement statement_at statement-last true (xs ++ ys) (f.left ++ ys) (reads_on true xs ys f));
        first_more = subst (λ (l : List Lexeme). FirstFault l at) (sym whole) (fault_stays xs ys at lt first);
        same = ap (λ (n : ℕ). is_long n (known_end (front ++ more) tail' (rest ++ us) at)) (begin_append tail tail' rest us (omega (arith, inside)))
            ∙ ap (is_long (begin_of tail rest)) (known_some front more tail tail' rest us at inside sh);
      }

  -- a part that isn't too long still isn't
  part_short : (rest us : List Token) → Shown front rest → Faulted (lexemes front rest) → ¬ IsLong front tail rest → ¬ IsLong (front ++ more) tail' (rest ++ us)
  part_short rest us sh f short =
      let p = part_stays rest us sh f in
      elim (tells (is_long_fault front tail rest p.at)) [
        | inl y ↦ absurd (short (part p.at (omega (arith, p.within)) p.none p.first y))
        | inr n ↦ fault_short (front ++ more) tail' (rest ++ us) p.at (omega (arith, p.within, length-append rest us)) p.none_more p.first_more (p.same ∙ n)
      ]

  -- a token behind which others come starts before a byte that continues none
  starts_first : (ended : Bool) (ts us : List Token) (i : ℕ) → i < length ts → HasTokens false front 0 ts tail.last → HasTokens ended (front ++ more) (last_end 0 ts) us tail'.last
      → earlier (start_of (length front) (drop i ts)) tail'.last ≡ start_of (length front) (drop i ts)
  starts_first ended ts us i lt h k = by_last tail'.last refl
    where
      by_last : (last : Lexed) → tail'.last ≡ last → earlier (start_of (length front) (drop i ts)) tail'.last ≡ start_of (length front) (drop i ts)
      by_last (lexed.Token t) e = ap (earlier (start_of (length front) (drop i ts))) e
      by_last lexed.More e = ap (earlier (start_of (length front) (drop i ts))) e
      by_last lexed.End e = ap (earlier (start_of (length front) (drop i ts))) e
      by_last (lexed.BadToken bad) e =
          let before = start_before false front 0 ts tail.last (length front) i h lt in
          let behind = bad_behind ended (front ++ more) (last_end 0 ts) us bad (subst (λ (x : Lexed). HasTokens ended (front ++ more) (last_end 0 ts) us x) e k) in
          let least : min bad (start_of (length front) (drop i ts)) ≡ start_of (length front) (drop i ts) = omega (arith, before, behind) in
          ap (earlier (start_of (length front) (drop i ts))) e ∙ least

  -- the fault stays
  faulty_stays : (ended : Bool) (ts us : List Token) (sts : List StatementView) (used at : ℕ) → HasTokens false front 0 ts tail.last → HasTokens ended (front ++ more) (last_end 0 ts) us tail'.last
      → Leads front tail ts sts used → IsFaulty front tail ts used at → IsFaulty (front ++ more) tail' (ts ++ us) used at
  faulty_stays ended ts us sts used at h k leads f =
      let sh = all_shown front 0 ts tail.last h in
      let within = leads_within front tail ts sts used leads in
      let size = length-map ts (lexeme front) in
      let lt : f.token < length ts = elim f.seen [ inl y ↦ y | inr n ↦ (let clash : true ≡ false = sym n.0 ∙ open' in cc) ] in
      let rest : List Token = drop used ts in
      let shr = shown_drop front used ts sh in
      let none : NoFront false (lexemes front rest) = subst (λ (b : Bool). NoFront b (lexemes front rest)) open' f.none in
      let stop : Begins Script (lexemes front rest) → ⊥ = λ b. f.first.1 (omega (arith, lt, size)) (begins_front (lexemes front ts) (f.token + 1) (leads_begins front tail open' ts sts used leads b)) in
      let g = faulted (lexemes front rest) none stop in
      let ys : List Lexeme = lexemes (front ++ more) us in
      let behind : drop used (ts ++ us) ≡ rest ++ us = drop-append-le used ts us within in
      let says : lexemes (front ++ more) (drop used (ts ++ us)) ≡ lexemes front rest ++ ys = ap (lexemes (front ++ more)) behind ∙ lexemes_more front more rest us shr in
      record {
        none = subst (NoFront (is_over tail'.last)) (sym says)
            (no_front stays_open IsStatement statement_at statement-last (is_over tail'.last) (lexemes front rest ++ ys) (g.left ++ ys) (reads_on (is_over tail'.last) (lexemes front rest) ys g));
        short = subst (λ (l : List Token). ¬ IsLong (front ++ more) tail' l) (sym behind) (part_short rest us shr g f.short);
        token = f.token;
        within = omega (arith, lt, length-append ts us);
        first = subst (λ (l : List Lexeme). FirstFault l f.token) (sym (lexemes_more front more ts us sh)) (fault_stays (lexemes front ts) ys f.token (omega (arith, lt, size)) f.first);
        seen = inl (omega (arith, lt, length-append ts us));
        place = f.place ∙ open_place tail.last open' (start_of (length front) (drop f.token ts)) ∙ sym (starts_first ended ts us f.token lt h k)
            ∙ sym (ap (λ (n : ℕ). earlier n tail'.last) (start_append (length front) (length (front ++ more)) ts us f.token lt));
      }
    where
      open_place : (last : Lexed) → is_over last ≡ false → (n : ℕ) → earlier n last ≡ n
      open_place lexed.More o n = refl
      open_place (lexed.Token t) o n = refl
      open_place lexed.End o n = refl
      open_place (lexed.BadToken bad) o n = cc

-- ---- where a byte continues no token

module _ (front more : List ℕ) (tail : Tail) (bad : ℕ) (e : tail.last ≡ lexed.BadToken bad) (lt : bad < length front) where
  leads_same : (ts : List Token) (sts : List StatementView) (used : ℕ) → Shown front ts → Leads front tail ts sts used → Leads (front ++ more) tail ts sts used
  leads_same ts [] used sh h = h
  leads_same ts (st ∷ sts) used sh h = (
    h.0,
    h.1,
    h.2,
    subst (λ (l : List Lexeme). IsFront (is_over tail.last) l st h.0) (sym (lexemes_same front more ts sh)) h.3,
    λ long. h.4 (long_down front more tail bad e lt ts sh long),
    leads_same (drop h.0 ts) sts h.1 (shown_drop front h.0 ts sh) h.5,
  )

  first_place : (ts : List Token) → earlier (start_of (length front) ts) tail.last ≡ earlier (start_of (length (front ++ more)) ts) tail.last
  first_place [] =
      let least : min bad (length front) ≡ min bad (length (front ++ more)) = omega (arith, lt, length-append front more) in
      ap (earlier (length front)) e ∙ least ∙ sym (ap (earlier (length (front ++ more))) e)
  first_place (t ∷ ts) = refl

  stands_same : (ts : List Token) (used : ℕ) (o : Outcome) → Shown front ts → StandsBehind front tail ts used o → StandsBehind (front ++ more) tail ts used o
  stands_same ts used Over sh h = h
  stands_same ts used (Fault at) sh h =
      let shr = shown_drop front used ts sh in
      record {
        none = subst (NoFront (is_over tail.last)) (sym (lexemes_same front more (drop used ts) shr)) h.none;
        short = λ long. h.short (long_down front more tail bad e lt (drop used ts) shr long);
        token = h.token;
        within = h.within;
        first = subst (λ (l : List Lexeme). FirstFault l h.token) (sym (lexemes_same front more ts sh)) h.first;
        seen = h.seen;
        place = h.place ∙ first_place (drop h.token ts);
      }
  stands_same ts used Long sh h = long_up front more tail bad e lt (drop used ts) (shown_drop front used ts sh) h
  stands_same ts used Open sh h = let clash : lexed.BadToken bad ≡ lexed.More = sym e ∙ h.more in cc

-- what comes of the first bytes comes of all
pub bad_comes : (front more : List ℕ) (ended : Bool) (sts : List StatementView) (o : Outcome) (c : Comes front false sts o) (bad : ℕ) → c.tail.last ≡ lexed.BadToken bad → Comes (front ++ more) ended sts o
bad_comes front more ended sts o c bad e =
    let found : HasTokens false front 0 c.tokens (lexed.BadToken bad) = subst (λ (x : Lexed). HasTokens false front 0 c.tokens x) e c.all.found in
    let lt = bad_inside front 0 c.tokens bad found in
    let sh = all_shown front 0 c.tokens c.tail.last c.all.found in
    let begun : begun_at front (last_end 0 c.tokens) c.tail.last ≡ begun_at (front ++ more) (last_end 0 c.tokens) c.tail.last =
    ap (begun_at front (last_end 0 c.tokens)) e ∙ sym (begun_same front more c.tokens bad found) ∙ sym (ap (begun_at (front ++ more) (last_end 0 c.tokens)) e) in
    record {
      tokens = c.tokens;
      tail = c.tail;
      all = record {
        found = go_no_further front more ended 0 c.tokens c.tail.last c.all.found (λ m. let clash : lexed.BadToken bad ≡ lexed.More = sym e ∙ m in cc);
        begun = c.all.begun ∙ begun;
      };
      used = c.used;
      leads = leads_same front more c.tail bad e lt c.tokens sts c.used sh c.leads;
      behind = stands_same front more c.tail bad e lt c.tokens c.used o sh c.behind;
    }

-- ---- the laws

none_last : (ended : Bool) (bytes : List ℕ) (from : ℕ) (ts : List Token) (last : Lexed) → HasTokens ended bytes from ts last → is_token last ≡ false
none_last ended bytes from [] last h = h.1
none_last ended bytes from (t ∷ ts) last h = none_last ended bytes t.end ts last h.1

-- what is behind the tokens of bytes that may go on: a byte that continues none, or more is wanted
pub cut_by : (front : List ℕ) (tokens : List Token) (last : Lexed) → HasTokens false front 0 tokens last → {P : Type 0} → (last ≡ lexed.More → P) → ((bad : ℕ) → last ≡ lexed.BadToken bad → P) → P
cut_by front tokens (lexed.Token t) h open' bad = absurd (let clash : true ≡ false = none_last false front 0 tokens (lexed.Token t) h in cc)
cut_by front tokens lexed.More h open' bad = open' refl
cut_by front tokens lexed.End h open' bad = absurd (ends_not front 0 tokens lexed.End h refl)
cut_by front tokens (lexed.BadToken at) h open' bad = bad at refl

pub fronts_come_first : FrontsComeFirst
fronts_come_first front more ended before all o p c k = cut_by front c.tokens c.tail.last c.all.found open' bad
  where
    bad : (at : ℕ) → c.tail.last ≡ lexed.BadToken at → (rest : List StatementView) × (all ≡ before ++ rest)
    bad at e =
        let same = one_comes (front ++ more) ended all before p o k (bad_comes front more ended before o c at e) in
        ([], same.0 ∙ sym (append-nil before))

    open' : c.tail.last ≡ lexed.More → (rest : List StatementView) × (all ≡ before ++ rest)
    open' e =
        let go = go_on front more ended 0 c.tokens k.tokens c.tail.last k.tail.last c.all.found k.all.found in
        let leads = leads_stay front more c.tail k.tail (more_open c.tail.last e) c.tokens go.0 before c.used (all_shown front 0 c.tokens c.tail.last c.all.found) c.leads in
        leads_first (front ++ more) k.tail k.tokens before all c.used k.used (subst (λ (l : List Token). Leads (front ++ more) k.tail l before c.used) (sym go.1) leads) k.leads
        (blocked (front ++ more) k.tail k.tokens k.used p k.behind)

pub faults_stay : FaultsStay
faults_stay front more ended before at c = cut_by front c.tokens c.tail.last c.all.found open' (λ bad e. bad_comes front more ended before (Fault at) c bad e)
  where
    open' : c.tail.last ≡ lexed.More → Comes (front ++ more) ended before (Fault at)
    open' e =
        let k = (something_comes (front ++ more) ended).2 in
        let go = go_on front more ended 0 c.tokens k.tokens c.tail.last k.tail.last c.all.found k.all.found in
        let o = more_open c.tail.last e in
        let leads = leads_stay front more c.tail k.tail o c.tokens go.0 before c.used (all_shown front 0 c.tokens c.tail.last c.all.found) c.leads in
        record {
          tokens = k.tokens;
          tail = k.tail;
          all = k.all;
          used = c.used;
          leads = subst (λ (l : List Token). Leads (front ++ more) k.tail l before c.used) (sym go.1) leads;
          behind = subst (λ (l : List Token). IsFaulty (front ++ more) k.tail l c.used at) (sym go.1)
              (faulty_stays front more c.tail k.tail o ended c.tokens go.0 before c.used at c.all.found go.2 c.leads c.behind);
        }
