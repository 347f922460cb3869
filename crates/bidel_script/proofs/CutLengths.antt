-- A statement that some first bytes fix is as long as more bytes come.
use Rattle.std.proofs.Common.{◌≡◌, ◌-◌, ◌<◌, ◌++◌, ◌⊎◌, ℕ, List, [], ◌∷◌, Bool, true, false, inl, inr, refl, sym, ap, subst, ◌∙◌, cond, drop, length, arith}
use Rattle.std.specs.Prelude.{◌&&◌, ◌||◌, Option, Some, None, codes}
use Rattle.std.specs.Option.{option_map_or}
use Rattle.std.proofs.lemmas.List.{drop-append-le}
use Rattle.phrases.specs.Reading.{is, is_some}
use Rattle.bidel_lex.specs.declared.tokens.Token.{Token}
use Rattle.bidel_lex.specs.declared.tokens.Lexed.TheVariants as lexed
use Rattle.bidel_expr.specs.Lexemes.{Lexeme, keyword, lexeme, lexemes}
use Rattle.statements.specs.Views.{StatementView, CreateVersion, DropVersion, Insert, Import, Update, Delete, Select, Materialize, Step, ShowLayout, Use, Session, Advise, Watch, Unwatch, Begin, Commit, Rollback}
use Rattle.bidel_parser.specs.declared.first_words.OperatorWord.TheVariants as first
use Rattle.bidel_parser.specs.Operators.{shared_words, begins_operator}
use Rattle.bidel_parser.specs.Words.{choice_of}
use Rattle.bidel_parser.specs.Statements.{stays_open}
use Rattle.bidel_parser.specs.Parsing.{IsFront, NoFront, FirstFault}
use Rattle.bidel_parser.proofs.ScriptLaws.{front_stays}
use Rattle.bidel_script.specs.declared.tokens.Tail.{Tail}
use Rattle.bidel_script.specs.Tails.{begin_of, known_end}
use Rattle.bidel_script.specs.Lengths.{IsLong, is_long, is_long_behind, is_long_front, is_long_fault, deciding, begins_shared, end_of, whole, part}
use Rattle.bidel_script.proofs.TokenLaws.{lexemes-drop}
use Rattle.bidel_script.proofs.ScriptLaws.{front_at_end, front_some, front_within}
use Rattle.bidel_script.proofs.LengthLemmas.{front_short}
use Rattle.bidel_script.proofs.CutTokens.{Shown, shown_drop, get_append, begin_append, lexeme_same, lexemes_same, lexemes_more, known_some, known_same}

either_word : {K : Type 0} (a b : Bool) (k l : K) → (a || b) ≡ true → is_some (cond a (Some k) (cond b (Some l) None)) ≡ true
either_word true b k l h = refl
either_word false true k l h = refl
either_word false false k l h = cc

-- a word that begins statements and operators is one of the words of operators that do
shared_word : (x : Lexeme) → begins_shared x ≡ true → is (choice_of shared_words) x ≡ true
shared_word x h = either_word (is (keyword (codes "create")) x) (is (keyword (codes "drop")) x) first.Create first.Drop h

-- one of two holds where both do
or_last : (a b : Bool) → b ≡ true → (a || (b && true)) ≡ true
or_last true b h = refl
or_last false true h = refl
or_last false false h = cc

pub tells : (b : Bool) → (b ≡ true) ⊎ (b ≡ false)
tells true = inl refl
tells false = inr refl

module _ (front more : List ℕ) where
  -- where it is known that no operator begins, the token that shows it is there
  deciding_within : (rest : List Token) → begins_operator false (lexemes front rest) ≡ false → deciding front rest < length rest
  deciding_within [] g = cc
  deciding_within (t ∷ []) g = elim (tells (begins_shared (lexeme front t))) [
    | inl y ↦ (let clash = sym (or_last _ (is (choice_of shared_words) (lexeme front t)) (shared_word (lexeme front t) y)) ∙ g in cc)
    | inr n ↦ (let none : deciding front (t ∷ []) ≡ 0 = ap (λ (b : Bool). cond b 1 0) n in omega (arith, none))
  ]
  deciding_within (t ∷ u ∷ us) g = elim (tells (begins_shared (lexeme front t))) [
    | inl y ↦ (let one : deciding front (t ∷ u ∷ us) ≡ 1 = ap (λ (b : Bool). cond b 1 0) y in omega (arith, one))
    | inr n ↦ (let none : deciding front (t ∷ u ∷ us) ≡ 0 = ap (λ (b : Bool). cond b 1 0) n in omega (arith, none))
  ]

  -- it is the same where others follow
  pub deciding_same : (rest us : List Token) → 0 < length rest → Shown front rest → deciding (front ++ more) (rest ++ us) ≡ deciding front rest
  deciding_same [] us some s = absurd (omega (arith, some))
  deciding_same (t ∷ ts) us some s = ap (λ (x : Lexeme). cond (begins_shared x) 1 0) (lexeme_same front more t s.0)

  module _ (tail tail' : Tail) where
    -- the bytes from the first of some tokens up to where it is known what begins there
    pub decided_same : (rest us : List Token) → deciding front rest < length rest → Shown front rest
        → is_long (begin_of tail' (rest ++ us)) (known_end (front ++ more) tail' (rest ++ us) (deciding (front ++ more) (rest ++ us)))
        ≡ is_long (begin_of tail rest) (known_end front tail rest (deciding front rest))
    decided_same rest us within s =
        let some : 0 < length rest = omega (arith, within) in
        ap (λ (n : ℕ). is_long n (known_end (front ++ more) tail' (rest ++ us) (deciding (front ++ more) (rest ++ us)))) (begin_append tail tail' rest us some)
        ∙ ap (λ (n : ℕ). is_long (begin_of tail rest) (known_end (front ++ more) tail' (rest ++ us) n)) (deciding_same rest us some s)
        ∙ ap (is_long (begin_of tail rest)) (known_some front more tail tail' rest us (deciding front rest) within s)

    -- what follows a statement is as long, where its end is known
    behind_same : (s : StatementView) (rest us : List Token) → stays_open s false (lexemes front rest) ≡ false → Shown front rest
        → is_long_behind (front ++ more) tail' (rest ++ us) s ≡ is_long_behind front tail rest s
    behind_same (CreateVersion name origin operators) rest us g s = decided_same rest us (deciding_within rest g) s
    behind_same (DropVersion name) rest us g s = refl
    behind_same (Insert table rows) rest us g s = refl
    behind_same (Import table bytes) rest us g s = refl
    behind_same (Update table assignments filter) rest us g s = refl
    behind_same (Delete table filter) rest us g s = refl
    behind_same (Select table items filter csv) rest us g s = refl
    behind_same (Materialize named in_steps) rest us g s = refl
    behind_same Step rest us g s = refl
    behind_same ShowLayout rest us g s = refl
    behind_same (Use name) rest us g s = refl
    behind_same (Session n) rest us g s = refl
    behind_same (Advise name) rest us g s = refl
    behind_same (Watch name) rest us g s = refl
    behind_same (Unwatch number) rest us g s = refl
    behind_same Begin rest us g s = refl
    behind_same Commit rest us g s = refl
    behind_same Rollback rest us g s = refl

    -- a statement whose end is known is as long
    pub front_same : (ts us : List Token) (s : StatementView) (used : ℕ) → IsFront false (lexemes front ts) s used → Shown front ts
        → is_long_front (front ++ more) tail' (ts ++ us) s used ≡ is_long_front front tail ts s used
    front_same ts us s used f sh =
        let some = front_some false (lexemes front ts) s used f in
        let within = front_within front false ts s used f in
        let over : stays_open s false (lexemes front (drop used ts)) ≡ false = ap (stays_open s false) (lexemes-drop front used ts) ∙ f.over in
        let ends : end_of (ts ++ us) used ≡ end_of ts used = ap (λ (o : Option Token). option_map_or (λ (token : Token). token.end) o 0) (get_append ts us (used - 1) (omega (arith, some, within))) in
        let behind : is_long_behind (front ++ more) tail' (drop used (ts ++ us)) s ≡ is_long_behind front tail (drop used ts) s =
        ap (λ (l : List Token). is_long_behind (front ++ more) tail' l s) (drop-append-le used ts us within) ∙ behind_same s (drop used ts) us over (shown_drop front used ts sh) in
        ap (λ (n : ℕ). is_long n (end_of (ts ++ us) used) || is_long_behind (front ++ more) tail' (drop used (ts ++ us)) s) (begin_append tail tail' ts us (omega (arith, some, within)))
        ∙ ap (λ (n : ℕ). is_long (begin_of tail ts) n || is_long_behind (front ++ more) tail' (drop used (ts ++ us)) s) ends
        ∙ ap (λ (b : Bool). is_long (begin_of tail ts) (end_of ts used) || b) behind

    -- a statement whose end is known stays at the front
    pub still_front : (over : Bool) (ts us : List Token) (s : StatementView) (used : ℕ) → IsFront false (lexemes front ts) s used → Shown front ts
        → IsFront over (lexemes (front ++ more) (ts ++ us)) s used
    still_front over ts us s used f sh =
        subst (λ (l : List Lexeme). IsFront over l s used) (sym (lexemes_more front more ts us sh)) (front_stays (lexemes front ts) (lexemes (front ++ more) us) over s used f)

    -- and isn't too long where it wasn't
    pub still_short : (ts us : List Token) (s : StatementView) (used : ℕ) → IsFront false (lexemes front ts) s used → Shown front ts → ¬ IsLong front tail ts
        → ¬ IsLong (front ++ more) tail' (ts ++ us)
    still_short ts us s used f sh short =
        elim (tells (is_long_front front tail ts s used)) [
          | inl y ↦ absurd (short (whole s used (front_at_end false (lexemes front ts) s used f) y))
          | inr n ↦ front_short (front ++ more) tail' (ts ++ us) s used (still_front true ts us s used f sh) (front_same ts us s used f sh ∙ n)
        ]

  -- ---- where a byte continues no token

  module _ (tail : Tail) (bad : ℕ) (e : tail.last ≡ lexed.BadToken bad) (lt : bad < length front) where
    deciding_all : (rest : List Token) → Shown front rest → deciding (front ++ more) rest ≡ deciding front rest
    deciding_all [] s = refl
    deciding_all (t ∷ ts) s = ap (λ (x : Lexeme). cond (begins_shared x) 1 0) (lexeme_same front more t s.0)

    behind_all : (s : StatementView) (rest : List Token) → Shown front rest → is_long_behind (front ++ more) tail rest s ≡ is_long_behind front tail rest s
    behind_all (CreateVersion name origin operators) rest s =
        ap (λ (n : ℕ). is_long (begin_of tail rest) (known_end (front ++ more) tail rest n)) (deciding_all rest s)
        ∙ ap (is_long (begin_of tail rest)) (known_same front more tail bad e lt rest (deciding front rest) s)
    behind_all (DropVersion name) rest s = refl
    behind_all (Insert table rows) rest s = refl
    behind_all (Import table bytes) rest s = refl
    behind_all (Update table assignments filter) rest s = refl
    behind_all (Delete table filter) rest s = refl
    behind_all (Select table items filter csv) rest s = refl
    behind_all (Materialize named in_steps) rest s = refl
    behind_all Step rest s = refl
    behind_all ShowLayout rest s = refl
    behind_all (Use name) rest s = refl
    behind_all (Session n) rest s = refl
    behind_all (Advise name) rest s = refl
    behind_all (Watch name) rest s = refl
    behind_all (Unwatch number) rest s = refl
    behind_all Begin rest s = refl
    behind_all Commit rest s = refl
    behind_all Rollback rest s = refl

    front_all : (ts : List Token) (s : StatementView) (used : ℕ) → Shown front ts → is_long_front (front ++ more) tail ts s used ≡ is_long_front front tail ts s used
    front_all ts s used sh = ap (λ (b : Bool). is_long (begin_of tail ts) (end_of ts used) || b) (behind_all s (drop used ts) (shown_drop front used ts sh))

    fault_all : (ts : List Token) (at : ℕ) → Shown front ts → is_long_fault (front ++ more) tail ts at ≡ is_long_fault front tail ts at
    fault_all ts at sh = ap (is_long (begin_of tail ts)) (known_same front more tail bad e lt ts at sh)

    -- a statement is too long in all bytes exactly where it is in the first
    pub long_down : (ts : List Token) → Shown front ts → IsLong (front ++ more) tail ts → IsLong front tail ts
    long_down ts sh (whole s used f long) =
        whole s used (subst (λ (l : List Lexeme). IsFront true l s used) (lexemes_same front more ts sh) f) (sym (front_all ts s used sh) ∙ long)
    long_down ts sh (part at le nf first long) =
        part at le (subst (NoFront true) (lexemes_same front more ts sh) nf) (subst (λ (l : List Lexeme). FirstFault l at) (lexemes_same front more ts sh) first) (sym (fault_all ts at sh) ∙ long)

    pub long_up : (ts : List Token) → Shown front ts → IsLong front tail ts → IsLong (front ++ more) tail ts
    long_up ts sh (whole s used f long) =
        whole s used (subst (λ (l : List Lexeme). IsFront true l s used) (sym (lexemes_same front more ts sh)) f) (front_all ts s used sh ∙ long)
    long_up ts sh (part at le nf first long) =
        part at le (subst (NoFront true) (sym (lexemes_same front more ts sh)) nf) (subst (λ (l : List Lexeme). FirstFault l at) (sym (lexemes_same front more ts sh)) first) (fault_all ts at sh ∙ long)
