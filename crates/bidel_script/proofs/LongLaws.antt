-- What is too long stays too long as more bytes come.
use Rattle.std.proofs.Common.{◌≡◌, ◌+◌, ◌-◌, ◌≤◌, ◌<◌, ◌++◌, ℕ, List, [], ◌∷◌, Bool, Ok, Err, true, false, inl, inr, refl, sym, ap, subst, ◌∙◌, drop, length, arith, length-append}
use Rattle.std.specs.Prelude.{◌&&◌, ◌||◌, not, Option}
use Rattle.std.specs.Option.{option_map_or}
use Rattle.std.proofs.lemmas.Bool.{ltb-true, lt-ltb, or_cases, or_left, or_right}
use Rattle.std.proofs.lemmas.Bool.Decides.{leb_tells}
use Rattle.std.proofs.lemmas.List.{length-map, drop-append-le, take-append-le}
use Rattle.phrases.specs.Reading.{Read}
use Rattle.phrases.specs.Phrases.{Begins}
use Rattle.phrases.proofs.FrontsLaws.{whole_front, no_front, first_fault, begins_all}
use Rattle.bidel_lex.specs.declared.tokens.Token.{Token}
use Rattle.bidel_lex.specs.declared.tokens.Lexed.TheVariants as lexed
use Rattle.bidel_lex.specs.Next.{next_of}
use Rattle.bidel_lex.specs.Tokens.{HasTokens}
use Rattle.bidel_expr.specs.Lexemes.{Lexeme, lexeme, lexemes}
use Rattle.statements.specs.Views.{StatementView, CreateVersion, DropVersion, Insert, Import, Update, Delete, Select, Materialize, Step, ShowLayout, Use, Session, Advise, Watch, Unwatch, Begin, Commit, Rollback}
use Rattle.bidel_parser.specs.Statements.{IsStatement, Script, stays_open}
use Rattle.bidel_parser.specs.inner.StatementReaders.{statement_at}
use Rattle.bidel_parser.specs.Operators.{begins_operator}
use Rattle.bidel_parser.specs.Parsing.{IsFront, NoFront, FirstFault}
use Rattle.bidel_parser.proofs.StatementLaws.{statement-last, script_over}
use Rattle.bidel_script.specs.declared.tokens.Tail.{Tail}
use Rattle.bidel_script.specs.Tails.{is_over, begin_of, known_end, begun_at, first_byte, last_end}
use Rattle.bidel_script.specs.Lengths.{IsLong, is_long, is_long_behind, is_long_front, is_long_fault, deciding, end_of, whole, part}
use Rattle.bidel_script.specs.Script.{Leads, Comes, Long, LongStays}
use Rattle.bidel_script.proofs.TokenLaws.{more_open}
use Rattle.bidel_script.proofs.ScriptLaws.{front_at_end, front_some, front_within, leads_within}
use Rattle.bidel_script.proofs.UniqueLaws.{begins_front, no_front_at, first_once, fronts_are_one}
use Rattle.bidel_script.proofs.ComesLaws.{something_comes}
use Rattle.bidel_script.proofs.CutTokens.{Shown, all_shown, shown_drop, get_append, begin_append, lexemes_more, go_on}
use Rattle.bidel_script.proofs.CutPlaces.{known_most, ends_most, known_cut, ends_cut, known_past, ends_past, end_within, last_end-append, has_drop}
use Rattle.bidel_script.proofs.CutBegins.{first_later, begin_cut, begin_first}
use Rattle.bidel_script.proofs.CutBlanks.{last_found}
use Rattle.bidel_script.proofs.CutLengths.{deciding_same, decided_same, still_front, front_same}
use Rattle.bidel_script.proofs.CutLaws.{part_stays, leads_stay, bad_comes, cut_by}

-- ---- too many bytes

-- more bytes than too many are too many
long_wider : (a b c d : ℕ) → c ≤ a → b ≤ d → is_long a b ≡ true → is_long c d ≡ true
long_wider a b c d lo hi h = lt-ltb (c + 65536) d (omega (arith, lo, hi, ltb-true (a + 65536) b h))

-- the bytes from the first of some tokens up to where it is known whether an operator begins are too many
abbrev is_long_decided : List ℕ → Tail → List Token → Bool
is_long_decided bytes tail rest = is_long (begin_of tail rest) (known_end bytes tail rest (deciding bytes rest))

-- behind a statement for which that counts, it counts of any tokens
behind_says : (s : StatementView) (bytes : List ℕ) (tail : Tail) (rest : List Token) → is_long_behind bytes tail rest s ≡ true
    → (is_long_decided bytes tail rest ≡ true)
    × ((others : List ℕ) (tail' : Tail) (us : List Token) → is_long_decided others tail' us ≡ true → is_long_behind others tail' us s ≡ true)
behind_says (CreateVersion name origin operators) bytes tail rest h = (h, λ others tail' us k. k)
behind_says (DropVersion name) bytes tail rest h = cc
behind_says (Insert table rows) bytes tail rest h = cc
behind_says (Import table text) bytes tail rest h = cc
behind_says (Update table assignments filter) bytes tail rest h = cc
behind_says (Delete table filter) bytes tail rest h = cc
behind_says (Select table items filter csv) bytes tail rest h = cc
behind_says (Materialize named in_steps) bytes tail rest h = cc
behind_says Step bytes tail rest h = cc
behind_says ShowLayout bytes tail rest h = cc
behind_says (Use name) bytes tail rest h = cc
behind_says (Session n) bytes tail rest h = cc
behind_says (Advise name) bytes tail rest h = cc
behind_says (Watch name) bytes tail rest h = cc
behind_says (Unwatch number) bytes tail rest h = cc
behind_says Begin bytes tail rest h = cc
behind_says Commit bytes tail rest h = cc
behind_says Rollback bytes tail rest h = cc

-- ---- fronts of fewer tokens

ended_item : (a b c : Bool) → (a || (b && c)) ≡ false → (a || (b && not true)) ≡ false
ended_item false true c h = refl
ended_item false false c h = refl
ended_item true b c h = cc

-- where no operator begins, none does where the tokens end sooner
less_operator : (ts us : List Lexeme) → begins_operator true (ts ++ us) ≡ false → begins_operator true ts ≡ false
less_operator [] us h = refl
less_operator (t ∷ []) [] h = h
less_operator (t ∷ []) (u ∷ us) h = ended_item _ _ _ h
less_operator (t ∷ u ∷ ts) us h = h

less_open : (s : StatementView) (ts us : List Lexeme) → stays_open s true (ts ++ us) ≡ false → stays_open s true ts ≡ false
less_open (CreateVersion name origin operators) ts us h = less_operator ts us h
less_open (DropVersion name) ts us h = refl
less_open (Insert table rows) ts us h = refl
less_open (Import table text) ts us h = refl
less_open (Update table assignments filter) ts us h = refl
less_open (Delete table filter) ts us h = refl
less_open (Select table items filter csv) ts us h = refl
less_open (Materialize named in_steps) ts us h = refl
less_open Step ts us h = refl
less_open ShowLayout ts us h = refl
less_open (Use name) ts us h = refl
less_open (Session n) ts us h = refl
less_open (Advise name) ts us h = refl
less_open (Watch name) ts us h = refl
less_open (Unwatch number) ts us h = refl
less_open Begin ts us h = refl
less_open Commit ts us h = refl
less_open Rollback ts us h = refl

-- a front of tokens and more that takes none of those is one of the tokens
less_front : (ts us : List Lexeme) (s : StatementView) (used : ℕ) → used ≤ length ts → IsFront true (ts ++ us) s used → IsFront true ts s used
less_front ts us s used le f = record {
  within = le;
  spelled = subst (λ (l : List Lexeme). IsStatement l s) (take-append-le used ts us le) f.spelled;
  over = less_open s (drop used ts) us (ap (stays_open s true) (sym (drop-append-le used ts us le)) ∙ f.over);
}

-- ---- what some first bytes leave open

module _ (front more : List ℕ) (ended : Bool) (tail tail' : Tail) (end : ℕ) (us : List Token) (open' : is_over tail.last ≡ false) (le : end ≤ length front) (wants : next_of front end false ≡ lexed.More)
    (begun : tail.begun ≡ first_byte false end (drop end front)) (next : HasTokens ended (front ++ more) end us tail'.last)
    (begun' : tail'.begun ≡ begun_at (front ++ more) (last_end end us) tail'.last) where
  -- tokens and what comes behind them begin where they did, or before it
  begins_no_later : (rest : List Token) → is_long (begin_of tail rest) (length front) ≡ true → begin_of tail' (rest ++ us) ≤ begin_of tail rest
  begins_no_later [] long = begin_cut front more ended tail tail' end us le begun next begun' (omega (arith, ltb-true (tail.begun + 65536) (length front) long))
  begins_no_later (t ∷ rest) long = omega arith

  -- what is too long up to the end of the first bytes is too long up to a later token
  long_known : (rest : List Token) (i : ℕ) → length rest ≤ i → is_long (begin_of tail rest) (length front) ≡ true
      → is_long (begin_of tail' (rest ++ us)) (known_end (front ++ more) tail' (rest ++ us) i) ≡ true
  long_known rest i past long =
      long_wider (begin_of tail rest) (length front) (begin_of tail' (rest ++ us)) (known_end (front ++ more) tail' (rest ++ us) i) (begins_no_later rest long)
      (known_past (front ++ more) tail' (length front) rest us i past (λ j. known_cut front more ended end le wants tail' us j next)) long

  long_end : (rest : List Token) (used : ℕ) → length rest < used → used ≤ length (rest ++ us) → is_long (begin_of tail rest) (length front) ≡ true
      → is_long (begin_of tail' (rest ++ us)) (end_of (rest ++ us) used) ≡ true
  long_end rest used past within long =
      long_wider (begin_of tail rest) (length front) (begin_of tail' (rest ++ us)) (end_of (rest ++ us) used) (begins_no_later rest long)
      (ends_past (length front) rest us (used - 1) (omega (arith, past)) (omega (arith, past, within)) (λ j lt. ends_cut front more ended end le wants us tail'.last j next lt)) long

  -- the deciding token is behind all of the tokens where it was
  decides_past : (rest : List Token) → Shown front rest → length rest ≤ deciding front rest → length rest ≤ deciding (front ++ more) (rest ++ us)
  decides_past [] sh past = omega arith
  decides_past (t ∷ rest) sh past = omega (arith, past, deciding_same front more (t ∷ rest) us (omega arith) sh)

  decided_cut : (rest : List Token) → Shown front rest → is_long_decided front tail rest ≡ true → is_long_decided (front ++ more) tail' (rest ++ us) ≡ true
  decided_cut rest sh long = elim (leb_tells (length rest) (deciding front rest)) [
    | inl past ↦ long_known rest (deciding (front ++ more) (rest ++ us)) (decides_past rest sh (omega (arith, past.1)))
        (long_wider (begin_of tail rest) (known_end front tail rest (deciding front rest)) (begin_of tail rest) (length front) (omega arith)
        (known_most front tail rest (deciding front rest) sh) long)
    | inr known ↦ decided_same front more tail tail' rest us (omega (arith, known.1)) sh ∙ long
  ]

  -- a statement of the tokens that is too long still is, where it is at the front of all
  front_cut : (rest : List Token) (s : StatementView) (used : ℕ) → Shown front rest → 0 < used → used ≤ length rest → is_long_front front tail rest s used ≡ true
      → is_long_front (front ++ more) tail' (rest ++ us) s used ≡ true
  front_cut rest s used sh some within long = elim (or_cases (is_long (begin_of tail rest) (end_of rest used)) (is_long_behind front tail (drop used rest) s) long) [
    | inl own ↦ (let ends : end_of (rest ++ us) used ≡ end_of rest used = ap (λ (o : Option Token). option_map_or (λ (token : Token). token.end) o 0) (get_append rest us (used - 1) (omega (arith, some, within))) in
        or_left (is_long (begin_of tail' (rest ++ us)) (end_of (rest ++ us) used)) (is_long_behind (front ++ more) tail' (drop used (rest ++ us)) s)
        (ap (λ (n : ℕ). is_long n (end_of (rest ++ us) used)) (begin_append tail tail' rest us (omega (arith, some, within))) ∙ ap (is_long (begin_of tail rest)) ends ∙ own))
    | inr behind ↦ (let b = behind_says s front tail (drop used rest) behind in
        or_right (is_long (begin_of tail' (rest ++ us)) (end_of (rest ++ us) used)) (is_long_behind (front ++ more) tail' (drop used (rest ++ us)) s)
        (b.1 (front ++ more) tail' (drop used (rest ++ us))
        (subst (λ (l : List Token). is_long_decided (front ++ more) tail' l ≡ true) (sym (drop-append-le used rest us within)) (decided_cut (drop used rest) (shown_drop front used rest sh) b.0))))
  ]

  -- tokens that a script may go on from, and that are too long up to the end of the first bytes
  open_long : (rest : List Token) → Shown front rest → Begins Script (lexemes front rest) → is_long (begin_of tail rest) (length front) ≡ true
      → ((s : StatementView) (used : ℕ) → used ≤ length rest → IsFront true (lexemes front rest) s used → is_long_front (front ++ more) tail' (rest ++ us) s used ≡ true)
      → IsLong (front ++ more) tail' (rest ++ us)
  open_long rest sh begins long own = go (statement_at true all) refl
    where
      xs : List Lexeme
      xs = lexemes front rest

      ys : List Lexeme
      ys = lexemes (front ++ more) us

      all : List Lexeme
      all = lexemes (front ++ more) (rest ++ us)

      says : all ≡ xs ++ ys
      says = lexemes_more front more rest us sh

      size : length xs ≡ length rest
      size = length-map rest (lexeme front)

      late : (at : ℕ) → FirstFault all at → at < length rest → ⊥
      late at first lt =
          let there = subst (λ (l : List Lexeme). FirstFault l at) says first in
          there.1 (omega (arith, lt, size, length-append xs ys))
          (subst (Begins Script) (sym (take-append-le (at + 1) xs ys (omega (arith, lt, size)))) (begins_front xs (at + 1) begins))

      go : (r : Read Lexeme StatementView) → statement_at true all ≡ r → IsLong (front ++ more) tail' (rest ++ us)
      go (Ok p) e =
          let used : ℕ = length all - length p.1 in
          let f : IsFront true all p.0 used = whole_front stays_open IsStatement statement_at statement-last true all p.1 p.0 e in
          elim (leb_tells used (length rest)) [
            | inl k ↦ whole p.0 used f (own p.0 used (omega (arith, k.1))
                (less_front xs ys p.0 used (omega (arith, k.1, size)) (subst (λ (l : List Lexeme). IsFront true l p.0 used) says f)))
            | inr k ↦ whole p.0 used f (or_left (is_long (begin_of tail' (rest ++ us)) (end_of (rest ++ us) used)) (is_long_behind (front ++ more) tail' (drop used (rest ++ us)) p.0)
                (long_end rest used (omega (arith, k.1)) (front_within (front ++ more) true (rest ++ us) p.0 used f) long))
          ]
      go (Err left) e =
          let at : ℕ = length all - length left in
          let first = first_fault stays_open IsStatement statement_at statement-last script_over true all left e in
          let within : at ≤ length (rest ++ us) = omega (arith, length-map (rest ++ us) (lexeme (front ++ more))) in
          elim (leb_tells (length rest) at) [
            | inl k ↦ part at within (no_front stays_open IsStatement statement_at statement-last true all left e) first (long_known rest at (omega (arith, k.1)) long)
            | inr k ↦ absurd (late at first (omega (arith, k.1)))
          ]

  -- ---- what is too long

  module _ (rest : List Token) (sh : Shown front rest) (later : (n : ℕ) → begin_of tail rest ≤ begin_of tail (drop n rest)) where
    -- a whole statement that is too long is so up to the end of the first bytes
    whole_wide : (s : StatementView) (used : ℕ) → is_long_front front tail rest s used ≡ true → is_long (begin_of tail rest) (length front) ≡ true
    whole_wide s used long = elim (or_cases (is_long (begin_of tail rest) (end_of rest used)) (is_long_behind front tail (drop used rest) s) long) [
      | inl own ↦ long_wider (begin_of tail rest) (end_of rest used) (begin_of tail rest) (length front) (omega arith) (ends_most front rest (used - 1) sh) own
      | inr behind ↦ (let b = behind_says s front tail (drop used rest) behind in
          let known = known_most front tail (drop used rest) (deciding front (drop used rest)) (shown_drop front used rest sh) in
          long_wider (begin_of tail (drop used rest)) (known_end front tail (drop used rest) (deciding front (drop used rest))) (begin_of tail rest) (length front) (later used) known b.0)
    ]

    whole_on : (s : StatementView) (used : ℕ) → IsFront true (lexemes front rest) s used → is_long_front front tail rest s used ≡ true → IsLong (front ++ more) tail' (rest ++ us)
    whole_on s used f long = go (statement_at false (lexemes front rest)) refl
      where
        go : (r : Read Lexeme StatementView) → statement_at false (lexemes front rest) ≡ r → IsLong (front ++ more) tail' (rest ++ us)
        go (Ok p) e =
            let n : ℕ = length (lexemes front rest) - length p.1 in
            let g : IsFront false (lexemes front rest) p.0 n = whole_front stays_open IsStatement statement_at statement-last false (lexemes front rest) p.1 p.0 e in
            let same = fronts_are_one front true rest p.0 s n used (front_at_end false (lexemes front rest) p.0 n g) f in
            let h : IsFront false (lexemes front rest) s used = subst (λ (k : ℕ). IsFront false (lexemes front rest) s k) same.1 (subst (λ (v : StatementView). IsFront false (lexemes front rest) v n) same.0 g) in
            whole s used (still_front front more tail tail' true rest us s used h sh) (front_same front more tail tail' rest us s used h sh ∙ long)
        go (Err []) e =
            open_long rest sh (begins_all stays_open IsStatement statement_at statement-last false (lexemes front rest) [] e refl) (whole_wide s used long) (λ t n le g.
            let same = fronts_are_one front true rest s t used n f g in
            let cut = front_cut rest s used sh (front_some true (lexemes front rest) s used f) (front_within front true rest s used f) long in
            subst (λ (k : ℕ). is_long_front (front ++ more) tail' (rest ++ us) t k ≡ true) same.1
            (subst (λ (v : StatementView). is_long_front (front ++ more) tail' (rest ++ us) v used ≡ true) same.0 cut))
        go (Err (x ∷ l)) e =
            let p = part_stays front more tail tail' open' rest us sh (record { left = x ∷ l; some = λ n. cc; read = e }) in
            absurd (no_front_at true (lexemes front rest) s used p.none f)

    part_on : (at : ℕ) → at ≤ length rest → NoFront true (lexemes front rest) → FirstFault (lexemes front rest) at → is_long_fault front tail rest at ≡ true → IsLong (front ++ more) tail' (rest ++ us)
    part_on at le none first long = go (statement_at false (lexemes front rest)) refl
      where
        go : (r : Read Lexeme StatementView) → statement_at false (lexemes front rest) ≡ r → IsLong (front ++ more) tail' (rest ++ us)
        go (Ok p) e =
            let n : ℕ = length (lexemes front rest) - length p.1 in
            absurd (no_front_at true (lexemes front rest) p.0 n none (front_at_end false (lexemes front rest) p.0 n (whole_front stays_open IsStatement statement_at statement-last false (lexemes front rest) p.1 p.0 e)))
        go (Err []) e =
            open_long rest sh (begins_all stays_open IsStatement statement_at statement-last false (lexemes front rest) [] e refl)
            (long_wider (begin_of tail rest) (known_end front tail rest at) (begin_of tail rest) (length front) (omega arith) (known_most front tail rest at sh) long)
            (λ t n le g. absurd (no_front_at true (lexemes front rest) t n none g))
        go (Err (x ∷ l)) e =
            let p = part_stays front more tail tail' open' rest us sh (record { left = x ∷ l; some = λ n. cc; read = e }) in
            let size = length-map rest (lexeme front) in
            let same : at ≡ p.at = first_once (lexemes front rest) at p.at (omega (arith, le, size)) (omega (arith, p.within, size)) first p.first in
            part p.at (omega (arith, p.within, length-append rest us)) p.none_more p.first_more (p.same ∙ ap (is_long_fault front tail rest) (sym same) ∙ long)

    pub long_on : IsLong front tail rest → IsLong (front ++ more) tail' (rest ++ us)
    long_on (whole s used f long) = whole_on s used f long
    long_on (part at le none first long) = part_on at le none first long

-- ---- the law

pub long_stays : LongStays
long_stays front more ended before c = cut_by front c.tokens c.tail.last c.all.found open' (λ bad e. bad_comes front more ended before Long c bad e)
  where
    open' : c.tail.last ≡ lexed.More → Comes (front ++ more) ended before Long
    open' e =
        let k = (something_comes (front ++ more) ended).2 in
        let go = go_on front more ended 0 c.tokens k.tokens c.tail.last k.tail.last c.all.found k.all.found in
        let sh = all_shown front 0 c.tokens c.tail.last c.all.found in
        let end : ℕ = last_end 0 c.tokens in
        let rest : List Token = drop c.used c.tokens in
        let leads = leads_stay front more c.tail k.tail (more_open c.tail.last e) c.tokens go.0 before c.used sh c.leads in
        let within = end_within false front 0 c.tokens c.tail.last (omega arith) c.all.found in
        let begun : c.tail.begun ≡ first_byte false end (drop end front) = c.all.begun ∙ ap (begun_at front end) e in
        let begun' : k.tail.begun ≡ begun_at (front ++ more) (last_end end go.0) k.tail.last =
        k.all.begun ∙ ap (λ (l : List Token). begun_at (front ++ more) (last_end 0 l) k.tail.last) go.1 ∙ ap (λ (n : ℕ). begun_at (front ++ more) n k.tail.last) (last_end-append 0 c.tokens go.0) in
        let left = has_drop false front 0 c.tokens c.tail.last c.used c.all.found in
        let later : (n : ℕ) → begin_of c.tail rest ≤ begin_of c.tail (drop n rest) = λ n.
        begin_first false front c.tail left.0 rest c.tail.last n left.1 (omega (arith, left.2, begun, first_later false end (drop end front))) in
        let long = long_on front more ended c.tail k.tail end go.0 (more_open c.tail.last e) within (last_found false front 0 c.tokens c.tail.last c.all.found ∙ e) begun go.2 begun'
        rest (shown_drop front c.used c.tokens sh) later c.behind in
        record {
          tokens = k.tokens;
          tail = k.tail;
          all = k.all;
          used = c.used;
          leads = subst (λ (l : List Token). Leads (front ++ more) k.tail l before c.used) (sym go.1) leads;
          behind = subst (λ (l : List Token). IsLong (front ++ more) k.tail (drop c.used l)) (sym go.1)
              (subst (λ (l : List Token). IsLong (front ++ more) k.tail l) (sym (drop-append-le c.used c.tokens go.0 (leads_within front c.tail c.tokens before c.used c.leads))) long);
        }
