-- Reading on over bytes that are written as a token.
use Rattle.std.proofs.Common.{◌≡◌, inl, inr, ◌+◌, ◌-◌, ◌*◌, ◌^◌, ◌<◌, ◌≤◌, ◌==◌, ◌||◌, ◌&&◌, ℕ, Bool, true, false, List, [], ◌∷◌, ◌++◌, length, cond, nat_le, nat_lt, None, Some, refl, sym, ap, ◌∙◌, subst, arith, append_assoc, length-append}
use Rattle.std.specs.List.{AllPass}
use Rattle.std.specs.Char.{digit_value}
use Rattle.std.specs.Str.Parse.{AllDigits, digits_value_after}
use Rattle.std.proofs.lemmas.List.Elements.{All-head, All-tail}
use Rattle.std.proofs.lemmas.Bool.{and_parts, or_cases}
use Rattle.bidel_lex.specs.declared.tokens.TokenKind.{TokenKind}
use Rattle.bidel_lex.specs.declared.tokens.TokenKind.TheVariants as kind
use Rattle.bidel_lex.specs.declared.unfinished.Unfinished.{Unfinished}
use Rattle.bidel_lex.specs.declared.unfinished.Unfinished.TheVariants.{Word, Number, Hash, Reference, Minus, Less, Greater, Bar}
use Rattle.bidel_lex.specs.declared.unfinished.Step.TheVariants as step
use Rattle.bidel_lex.specs.declared.next.Part.TheVariants.{Blank, Open}
use Rattle.bidel_lex.specs.declared.next.First.TheVariants.{Opens}
use Rattle.bidel_lex.specs.Classes.{is_digit, is_lone_symbol, is_word_byte}
use Rattle.bidel_lex.specs.Words.{number_with, reference_with}
use Rattle.bidel_lex.specs.Spelled.{CanFollow, goes_on, is_closed, IsReference, is_symbol, IsNumber, IsWord}
use Rattle.bidel_lex.specs.Next.{after_turn, first_of, first_turn, found, kind_of, lexed_at, over_as, step_of, step_turn, turn_at}
use Rattle.bidel_lex.proofs.Held.{digit_is, same_byte}
use Rattle.bidel_lex.proofs.ByteTests.{digit_first, digit_test, le_test, lone_first, lt_test, word_first}

-- an unfinished token becomes another by these bytes
abbrev pub Runs : Unfinished → List ℕ → Unfinished → Type 0
Runs token text next = (ended : Bool) (start at : ℕ) (rest : List ℕ)
    → lexed_at ended (Open start token) at (text ++ rest) ≡ lexed_at ended (Open start next) (at + length text) rest

-- an unfinished token is one of a kind, before what may follow it
abbrev pub Closes : Unfinished → TokenKind → List ℕ → Type 0
Closes token k text = (ended : Bool) (start at : ℕ) (rest : List ℕ) → CanFollow k text ended rest
    → lexed_at ended (Open start token) at rest ≡ found k start at

-- these bytes are a token of a kind, before what may follow it
abbrev pub Reads : TokenKind → List ℕ → Type 0
Reads k text = (ended : Bool) (at : ℕ) (rest : List ℕ) → CanFollow k text ended rest
    → lexed_at ended Blank at (text ++ rest) ≡ found k at (at + length text)

pub run_nil : (token : Unfinished) → Runs token [] token
run_nil token ended start at rest = let e : at ≡ at + 0 = omega arith in ap (λ n. lexed_at ended (Open start token) n rest) e

pub step_runs : (token mid next : Unfinished) (b : ℕ) (text : List ℕ) → step_of token b ≡ step.Longer mid → Runs mid text next → Runs token (b ∷ text) next
unfolding lexed_at turn_at
step_runs token mid next b text e r ended start at rest =
    let n : at + 1 + length text ≡ at + length (b ∷ text) = omega arith in
    ap (λ s. after_turn (step_turn start token at s) (λ next. lexed_at ended next (at + 1) (text ++ rest))) e
    ∙ r ended start (at + 1) rest ∙ ap (λ n. lexed_at ended (Open start next) n rest) n

pub run_append : (a b c : Unfinished) (xs ys : List ℕ) → Runs a xs b → Runs b ys c → Runs a (xs ++ ys) c
run_append a b c xs ys p q ended start at rest =
    let n : at + length xs + length ys ≡ at + length (xs ++ ys) = omega (arith, length-append xs ys) in
    ap (lexed_at ended (Open start a) at) (append_assoc xs ys rest) ∙ p ended start at (ys ++ rest) ∙ q ended start (at + length xs) rest
    ∙ ap (λ n. lexed_at ended (Open start c) n rest) n

ended_is : (ended c : Bool) → c ≡ false → (ended || c) ≡ true → ended ≡ true
ended_is true c h e = refl
ended_is false c h e = absurd cc

pub closes : (token : Unfinished) (k : TokenKind) (text : List ℕ) → kind_of token ≡ Some k → is_closed k text ≡ false
    → ((b : ℕ) → goes_on k text b ≡ false → step_of token b ≡ step.Over) → Closes token k text
unfolding lexed_at turn_at
closes token k text e c o true start at [] f = ap (λ k. over_as k start at) e
closes token k text e c o false start at [] f = absurd (let t : false ≡ true = ended_is false (is_closed k text) c f in cc)
closes token k text e c o ended start at (b ∷ rest) f =
    ap (λ s. after_turn (step_turn start token at s) (λ next. lexed_at ended next (at + 1) rest)) (o b f) ∙ ap (λ k. over_as k start at) e

pub opened_reads : (b : ℕ) (token next : Unfinished) (text : List ℕ) (k : TokenKind) → first_of b ≡ Opens token → Runs token text next → Closes next k (b ∷ text)
    → Reads k (b ∷ text)
unfolding lexed_at turn_at
opened_reads b token next text k e r c ended at rest f =
    let n : at + 1 + length text ≡ at + length (b ∷ text) = omega arith in
    ap (λ s. after_turn (first_turn at s) (λ next. lexed_at ended next (at + 1) (text ++ rest))) e
    ∙ r ended at (at + 1) rest ∙ c ended at (at + 1 + length text) rest f ∙ ap (found k at) n

-- words
word_goes : (size b : ℕ) → is_word_byte b ≡ true → size < 64 → step_of (Word size) b ≡ step.Longer (Word (size + 1))
unfolding step_of
word_goes size b w l =
    ap (λ c. cond c (cond (nat_lt size 64) (step.Longer (Word (size + 1))) step.Fault) step.Over) w
    ∙ ap (λ c. cond c (step.Longer (Word (size + 1))) step.Fault) (lt_test size 64 l)

word_over : (size b : ℕ) → is_word_byte b ≡ false → step_of (Word size) b ≡ step.Over
unfolding step_of
word_over size b w = ap (λ c. cond c (cond (nat_lt size 64) (step.Longer (Word (size + 1))) step.Fault) step.Over) w

word_runs : (size : ℕ) (text : List ℕ) → AllPass is_word_byte text → size + length text ≤ 64 → Runs (Word size) text (Word (size + length text))
word_runs size [] h l =
    let e : size ≡ size + length {A = ℕ} [] = omega arith in
    subst (λ n. Runs (Word size) [] (Word n)) e (run_nil (Word size))
word_runs size (b ∷ text) h l =
    let e : size + 1 + length text ≡ size + length (b ∷ text) = omega arith in
    let P : ℕ → Type 0 = λ n. Runs (Word size) (b ∷ text) (Word n) in
    subst P e (step_runs (Word size) (Word (size + 1)) (Word (size + 1 + length text)) b text
    (word_goes size b (All-head (λ b. is_word_byte b ≡ true) b text h) (omega arith))
    (word_runs (size + 1) text (All-tail (λ b. is_word_byte b ≡ true) b text h) (omega arith)))

pub word_reads : (text : List ℕ) → IsWord text → Reads kind.Word text
unfolding kind_of
word_reads [] h = absurd h
word_reads (first ∷ rest) h =
    opened_reads first (Word 1) (Word (1 + length rest)) rest kind.Word (word_first first h.0) (word_runs 1 rest h.1 (omega arith))
    (closes (Word (1 + length rest)) kind.Word (first ∷ rest) refl refl (λ b e. word_over (1 + length rest) b e))

-- digits
after_ge : (n : ℕ) (ds : List ℕ) → n ≤ digits_value_after 10 n ds
after_ge n [] = omega arith
after_ge n (d ∷ ds) = let h : n * 10 + digit_value d ≤ digits_value_after 10 (n * 10 + digit_value d) ds = after_ge (n * 10 + digit_value d) ds in omega arith

-- a digit more of a token that keeps the value of its digits
abbrev TakesDigits : (ℕ → Unfinished) → ℕ → Type 0
TakesDigits make limit = (value b : ℕ) → is_digit b ≡ true → 10 * value + (b - 48) ≤ limit → step_of (make value) b ≡ step.Longer (make (10 * value + (b - 48)))

number_takes : TakesDigits (λ v. Number v) (2 ^ 63)
unfolding step_of
number_takes value b d l =
    ap (λ c. cond c (number_with (cond (nat_le (10 * value + (b - 48)) (2 ^ 63)) (Some (10 * value + (b - 48))) None)) step.Over) d
    ∙ ap (λ c. number_with (cond c (Some (10 * value + (b - 48))) None)) (le_test (10 * value + (b - 48)) (2 ^ 63) l)

number_over : (value b : ℕ) → is_digit b ≡ false → step_of (Number value) b ≡ step.Over
unfolding step_of
number_over value b d = ap (λ c. cond c (number_with (cond (nat_le (10 * value + (b - 48)) (2 ^ 63)) (Some (10 * value + (b - 48))) None)) step.Over) d

reference_takes : TakesDigits (λ v. Reference v) (2 ^ 64 - 1)
unfolding step_of
reference_takes value b d l =
    ap (λ c. cond c (reference_with (cond (nat_le (10 * value + (b - 48)) (2 ^ 64 - 1)) (Some (10 * value + (b - 48))) None)) step.Over) d
    ∙ ap (λ c. reference_with (cond c (Some (10 * value + (b - 48))) None)) (le_test (10 * value + (b - 48)) (2 ^ 64 - 1) l)

reference_over : (value b : ℕ) → is_digit b ≡ false → step_of (Reference value) b ≡ step.Over
unfolding step_of
reference_over value b d = ap (λ c. cond c (reference_with (cond (nat_le (10 * value + (b - 48)) (2 ^ 64 - 1)) (Some (10 * value + (b - 48))) None)) step.Over) d

hash_takes : (b : ℕ) → step_of Hash b ≡ step_of (Reference 0) b
unfolding step_of
hash_takes b = refl

digit_goes : (make : ℕ → Unfinished) (limit : ℕ) → TakesDigits make limit → (value b : ℕ) → digit_value b < 10 → value * 10 + digit_value b ≤ limit
    → step_of (make value) b ≡ step.Longer (make (value * 10 + digit_value b))
digit_goes make limit t value b h l =
    let d : is_digit b ≡ true = digit_test b h in
    let i : (digit_value b + 48 ≡ b) × (digit_value b < 10) = digit_is b d in
    let n : 10 * value + (b - 48) ≡ value * 10 + digit_value b = omega arith in
    t value b d (omega arith) ∙ ap (λ n. step.Longer (make n)) n

digit_runs : (make : ℕ → Unfinished) (limit : ℕ) → TakesDigits make limit → (value : ℕ) (ds : List ℕ) → AllDigits 10 ds → digits_value_after 10 value ds ≤ limit
    → Runs (make value) ds (make (digits_value_after 10 value ds))
digit_runs make limit t value [] h l = run_nil (make value)
digit_runs make limit t value (d ∷ ds) h l =
    let g : value * 10 + digit_value d ≤ digits_value_after 10 (value * 10 + digit_value d) ds = after_ge (value * 10 + digit_value d) ds in
    step_runs (make value) (make (value * 10 + digit_value d)) (make (digits_value_after 10 (value * 10 + digit_value d) ds)) d ds
    (digit_goes make limit t value d h.0 (omega arith)) (digit_runs make limit t (value * 10 + digit_value d) ds h.1 l)

pub number_reads : (text : List ℕ) → IsNumber (2 ^ 63) text → Reads kind.Number text
unfolding kind_of
number_reads [] h = absurd (let l : 0 < length {A = ℕ} [] = h.0.0 in omega arith)
number_reads (d ∷ ds) h =
    let t : is_digit d ≡ true = digit_test d h.0.1.0 in
    let i : (digit_value d + 48 ≡ d) × (digit_value d < 10) = digit_is d t in
    let n : d - 48 ≡ 0 * 10 + digit_value d = omega arith in
    opened_reads d (Number (0 * 10 + digit_value d)) (Number (digits_value_after 10 (0 * 10 + digit_value d) ds)) ds kind.Number
    (digit_first d t ∙ ap (λ n. Opens (Number n)) n)
    (digit_runs (λ v. Number v) (2 ^ 63) number_takes (0 * 10 + digit_value d) ds h.0.1.1 h.1)
    (closes (Number (digits_value_after 10 (0 * 10 + digit_value d) ds)) kind.Number (d ∷ ds) refl refl (λ b e. number_over (digits_value_after 10 (0 * 10 + digit_value d) ds) b e))

hash_runs : (ds : List ℕ) → IsNumber (2 ^ 64 - 1) ds → Runs Hash ds (Reference (digits_value_after 10 0 ds))
hash_runs [] h = absurd (let l : 0 < length {A = ℕ} [] = h.0.0 in omega arith)
hash_runs (d ∷ ds) h =
    let g : 0 * 10 + digit_value d ≤ digits_value_after 10 (0 * 10 + digit_value d) ds = after_ge (0 * 10 + digit_value d) ds in
    step_runs Hash (Reference (0 * 10 + digit_value d)) (Reference (digits_value_after 10 (0 * 10 + digit_value d) ds)) d ds
    (hash_takes d ∙ digit_goes (λ v. Reference v) (2 ^ 64 - 1) reference_takes 0 d h.0.1.0 (omega (arith, h.1)))
    (digit_runs (λ v. Reference v) (2 ^ 64 - 1) reference_takes (0 * 10 + digit_value d) ds h.0.1.1 h.1)

hash_first : first_of 35 ≡ Opens Hash
unfolding first_of
hash_first = refl

pub reference_reads : (text : List ℕ) → IsReference text → Reads kind.Reference text
unfolding kind_of
reference_reads [] h = absurd h
reference_reads (first ∷ digits) h =
    opened_reads first Hash (Reference (digits_value_after 10 0 digits)) digits kind.Reference (ap first_of h.0 ∙ hash_first) (hash_runs digits h.1)
    (closes (Reference (digits_value_after 10 0 digits)) kind.Reference (first ∷ digits) refl refl (λ b e. reference_over (digits_value_after 10 0 digits) b e))

-- symbols
alone_reads : (a : ℕ) → is_lone_symbol a ≡ true → Reads kind.Symbol (a ∷ [])
unfolding lexed_at turn_at
alone_reads a h ended at rest f = ap (λ s. after_turn (first_turn at s) (λ next. lexed_at ended next (at + 1) rest)) (lone_first a h)

minus_reads : Reads kind.Symbol (45 ∷ [])
unfolding first_of kind_of step_of
minus_reads = opened_reads 45 Minus Minus [] kind.Symbol refl (run_nil Minus) (closes Minus kind.Symbol (45 ∷ []) refl refl (λ b e. ap (λ c. cond c step.Comment step.Over) e))

less_over : (b : ℕ) → goes_on kind.Symbol (60 ∷ []) b ≡ false → (b == 61 || b == 62) ≡ false
less_over b e = grind arith

less_reads : Reads kind.Symbol (60 ∷ [])
unfolding first_of kind_of step_of
less_reads = opened_reads 60 Less Less [] kind.Symbol refl (run_nil Less) (closes Less kind.Symbol (60 ∷ []) refl refl (λ b e. ap (λ c. cond c step.Last step.Over) (less_over b e)))

greater_over : (b : ℕ) → goes_on kind.Symbol (62 ∷ []) b ≡ false → b == 61 ≡ false
greater_over b e = grind arith

greater_reads : Reads kind.Symbol (62 ∷ [])
unfolding first_of kind_of step_of
greater_reads = opened_reads 62 Greater Greater [] kind.Symbol refl (run_nil Greater) (closes Greater kind.Symbol (62 ∷ []) refl refl (λ b e. ap (λ c. cond c step.Last step.Over) (greater_over b e)))

two_reads : (a b : ℕ) (token : Unfinished) → first_of a ≡ Opens token → step_of token b ≡ step.Last → Reads kind.Symbol (a ∷ b ∷ [])
unfolding lexed_at turn_at
two_reads a b token e s ended at rest f =
    let n : at + 1 + 1 ≡ at + length (a ∷ b ∷ []) = omega arith in
    ap (λ s. after_turn (first_turn at s) (λ next. lexed_at ended next (at + 1) (b ∷ rest))) e
    ∙ ap (λ s. after_turn (step_turn at token (at + 1) s) (λ next. lexed_at ended next (at + 1 + 1) rest)) s ∙ ap (found kind.Symbol at) n

less_two_reads : (a b : ℕ) → a ≡ 60 → (b == 61 || b == 62) ≡ true → Reads kind.Symbol (a ∷ b ∷ [])
unfolding first_of step_of
less_two_reads a b e h = two_reads a b Less (ap first_of e) (ap (λ c. cond c step.Last step.Over) h)

greater_two_reads : (a b : ℕ) → a ≡ 62 → b == 61 ≡ true → Reads kind.Symbol (a ∷ b ∷ [])
unfolding first_of step_of
greater_two_reads a b e h = two_reads a b Greater (ap first_of e) (ap (λ c. cond c step.Last step.Over) h)

bar_two_reads : (a b : ℕ) → a ≡ 124 → b == 124 ≡ true → Reads kind.Symbol (a ∷ b ∷ [])
unfolding first_of step_of
bar_two_reads a b e h = two_reads a b Bar (ap first_of e) (ap (λ c. cond c step.Last step.Over) h)

same_reads : (a b : ℕ) → a == b ≡ true → Reads kind.Symbol (b ∷ []) → Reads kind.Symbol (a ∷ [])
same_reads a b e r = let P : ℕ → Type 0 = λ n. Reads kind.Symbol (n ∷ []) in subst P (sym (same_byte a b e)) r

one_symbol_reads : (a : ℕ) → (is_lone_symbol a || a == 45 || a == 60 || a == 62) ≡ true → Reads kind.Symbol (a ∷ [])
one_symbol_reads a h =
    elim (or_cases (is_lone_symbol a || a == 45 || a == 60) (a == 62) h) [
      | inr e ↦ same_reads a 62 e greater_reads
      | inl h ↦ elim (or_cases (is_lone_symbol a || a == 45) (a == 60) h) [
        | inr e ↦ same_reads a 60 e less_reads
        | inl h ↦ elim (or_cases (is_lone_symbol a) (a == 45) h) [
          | inr e ↦ same_reads a 45 e minus_reads
          | inl h ↦ alone_reads a h
        ]
      ]
    ]

two_symbol_reads : (a b : ℕ) → is_symbol (a ∷ b ∷ []) ≡ true → Reads kind.Symbol (a ∷ b ∷ [])
two_symbol_reads a b h =
    elim (or_cases ((a == 60 && (b == 61 || b == 62)) || (a == 62 && b == 61)) (a == 124 && b == 124) h) [
      | inr e ↦ (let p : (a == 124 ≡ true) × (b == 124 ≡ true) = and_parts (a == 124) (b == 124) e in bar_two_reads a b (same_byte a 124 p.0) p.1)
      | inl h ↦ elim (or_cases (a == 60 && (b == 61 || b == 62)) (a == 62 && b == 61) h) [
        | inr e ↦ (let p : (a == 62 ≡ true) × (b == 61 ≡ true) = and_parts (a == 62) (b == 61) e in greater_two_reads a b (same_byte a 62 p.0) p.1)
        | inl e ↦ (let p : (a == 60 ≡ true) × ((b == 61 || b == 62) ≡ true) = and_parts (a == 60) (b == 61 || b == 62) e in less_two_reads a b (same_byte a 60 p.0) p.1)
      ]
    ]

pub symbol_reads : (text : List ℕ) → is_symbol text ≡ true → Reads kind.Symbol text
symbol_reads [] h = absurd cc
symbol_reads (a ∷ []) h = one_symbol_reads a h
symbol_reads (a ∷ b ∷ []) h = two_symbol_reads a b h
symbol_reads (a ∷ b ∷ c ∷ more) h = absurd cc
