-- How unfinished tokens are written.
use Rattle.std.proofs.Common.{◌≡◌, ◌+◌, ◌-◌, ◌*◌, ◌^◌, ◌<◌, ◌≤◌, ◌==◌, ◌||◌, ◌&&◌, ℕ, Bool, true, false, List, [], ◌∷◌, ◌++◌, length, drop, cond, nat_le, nat_lt, Option, None, Some, refl, sym, ap, ◌∙◌, subst, arith, append_assoc, append-nil, length-append}
use Rattle.std.specs.Str.{IsUtf8}
use Rattle.std.specs.Str.Parse.{AllDigits, digits_value}
use Rattle.std.specs.Char.{digit_value}
use Rattle.std.proofs.lemmas.List.Elements.{All-push, All-nil}
use Rattle.std.proofs.lemmas.Int.Digits.{digits_push, digits_value_push}
use Rattle.std.proofs.lemmas.Str.{digit_value_digit, IsUtf8-append, IsUtf8-nil}
use Rattle.bidel_lex.specs.declared.texts.Wanted.{Wanted}
use Rattle.bidel_lex.specs.declared.texts.Wanted.TheVariants.{Character, Last, LastTwo, LastThree, AfterE0, AfterED, AfterF0, AfterF4}
use Rattle.bidel_lex.specs.declared.tokens.TokenKind.{TokenKind}
use Rattle.bidel_lex.specs.declared.tokens.TokenKind.TheVariants as kind
use Rattle.bidel_lex.specs.declared.unfinished.Unfinished.{Unfinished}
use Rattle.bidel_lex.specs.declared.unfinished.Unfinished.TheVariants.{Word, Number, Hash, Reference, Text, Quote, Minus, Less, Greater, Bar}
use Rattle.bidel_lex.specs.declared.unfinished.Step.{Step}
use Rattle.bidel_lex.specs.declared.unfinished.Step.TheVariants as step
use Rattle.bidel_lex.specs.declared.next.First.{First}
use Rattle.bidel_lex.specs.declared.next.First.TheVariants.{Space, Alone, Opens, Fault}
use Rattle.bidel_lex.specs.Classes.{is_between, is_digit, is_lone_symbol, is_space, is_word_byte, is_word_start}
use Rattle.bidel_lex.specs.Words.{number_step, number_with, reference_step, reference_with, word_step}
use Rattle.bidel_lex.specs.Texts.{continuation_step, lead_step, quote_step, text_step}
use Rattle.bidel_lex.specs.Spelled.{CanFollow, doubled, goes_on, IsNumber, IsReference, IsText, IsWord, is_symbol, Spells}
use Rattle.bidel_lex.specs.Next.{first_of, kind_of, opened_by, step_of}
use Rattle.bidel_lex.proofs.Characters.{ascii_is, doubled-append, doubled_quote, IsIn, IsUnclosed, leads_e0, leads_ed, leads_f0, leads_f4, leads_four, leads_three_high, leads_three_low, leads_two, part_grows, plain_more, plain_nil, Ends}

-- how an unfinished token is written
abbrev pub Held : Unfinished → List ℕ → Type 0
Held (Word size) text = IsWord text × (length text ≡ size)
Held (Number value) text = IsNumber (2 ^ 63) text × (digits_value 10 text ≡ value)
Held Hash text = text ≡ 35 ∷ []
Held (Reference value) text = IsReference text × (digits_value 10 (drop 1 text) ≡ value)
Held (Text wanted) text = IsUnclosed wanted text
Held Quote text = IsText text
Held Minus text = text ≡ 45 ∷ []
Held Less text = text ≡ 60 ∷ []
Held Greater text = text ≡ 62 ∷ []
Held Bar text = text ≡ 124 ∷ []

-- a symbol to which no byte belongs
abbrev pub IsClosedSymbol : List ℕ → Type 0
IsClosedSymbol text = (is_symbol text ≡ true) × ((ended : Bool) (rest : List ℕ) → CanFollow kind.Symbol text ended rest)

-- a byte doesn't belong to a token
abbrev pub NotOn : Option TokenKind → List ℕ → ℕ → Type 0
NotOn None text b = Unit {0}
NotOn (Some k) text b = goes_on k text b ≡ false

-- what a byte makes of it is written so too
abbrev pub StepHeld : Option TokenKind → List ℕ → ℕ → Step → Type 0
StepHeld k text b (step.Longer next) = Held next (text ++ b ∷ [])
StepHeld k text b step.Last = IsClosedSymbol (text ++ b ∷ [])
StepHeld k text b step.Comment = text ++ b ∷ [] ≡ 45 ∷ 45 ∷ []
StepHeld k text b step.Over = NotOn k text b
StepHeld k text b step.Fault = Unit {0}

-- a choice is held where each arm is
pub if_held : {A : Type 0} (P : A → Type 0) (c : Bool) (x y : A) → (c ≡ true → P x) → (c ≡ false → P y) → P (cond c x y)
if_held P true x y t f = t refl
if_held P false x y t f = f refl

pub same_byte : (b n : ℕ) → b == n ≡ true → b ≡ n
same_byte b n h = grind arith

-- a byte of a class isn't one that the class leaves out
pub differs : (p : ℕ → Bool) (b n : ℕ) → p b ≡ true → p n ≡ false → b == n ≡ false
differs p b n h k =
    elim (b == n) as (λ c. b == n ≡ c → c ≡ false) [ true ↦ λ e. absurd (let f : p b ≡ p n = ap p (same_byte b n e) in cc) | false ↦ λ e. refl ] refl

pub between_is : (low high b : ℕ) → is_between low high b ≡ true → IsIn low high b
between_is low high b h = (grind arith, grind arith)

pub lt_is : (m n : ℕ) → nat_lt m n ≡ true → m < n
lt_is m n h = grind arith

pub le_is : (m n : ℕ) → nat_le m n ≡ true → m ≤ n
le_is m n h = grind arith

-- words
longer_word : (size b first : ℕ) (rest : List ℕ) → Held (Word size) (first ∷ rest) → is_word_byte b ≡ true → size < 64
    → Held (Word (size + 1)) (first ∷ (rest ++ b ∷ []))
longer_word size b first rest h w l =
    ((h.0.0, All-push (λ x. is_word_byte x ≡ true) rest b h.0.1 w, omega (arith, length-append rest (b ∷ []))), omega (arith, length-append rest (b ∷ [])))

word_held : (size b : ℕ) (text : List ℕ) → Held (Word size) text → StepHeld (Some kind.Word) text b (word_step size b)
word_held size b [] h = absurd h.0
word_held size b (first ∷ rest) h =
    let P : Step → Type 0 = λ s. StepHeld (Some kind.Word) (first ∷ rest) b s in
    if_held P (is_word_byte b) _ _ (λ w.
    if_held P (nat_lt size 64) _ _ (λ l. longer_word size b first rest h w (lt_is size 64 l)) (λ _. tt)) (λ e. e)

pub digit_is : (b : ℕ) → is_digit b ≡ true → (digit_value b + 48 ≡ b) × (digit_value b < 10)
digit_is b d =
    let i : IsIn 48 57 b = between_is 48 57 b d in
    let e : digit_value b + 48 ≡ b = digit_value_digit b i in (e, omega arith)

-- digits and one more
digits_held : (limit value b : ℕ) (text : List ℕ) → AllDigits 10 text → digits_value 10 text ≡ value → is_digit b ≡ true
    → nat_le (10 * value + (b - 48)) limit ≡ true → IsNumber limit (text ++ b ∷ []) × (digits_value 10 (text ++ b ∷ []) ≡ 10 * value + (b - 48))
digits_held limit value b text h e d l =
    let i : (digit_value b + 48 ≡ b) × (digit_value b < 10) = digit_is b d in
    let n : 10 * value + (b - 48) ≤ limit = le_is (10 * value + (b - 48)) limit l in
    let v : digits_value 10 (text ++ b ∷ []) ≡ 10 * value + (b - 48) = omega (arith, digits_value_push 10 text b) in
    (((omega (arith, length-append text (b ∷ [])), digits_push 10 text b h i.1), omega arith), v)

number_held : (value b : ℕ) (text : List ℕ) → Held (Number value) text → StepHeld (Some kind.Number) text b (number_step value b)
number_held value b text h =
    let P : Step → Type 0 = λ s. StepHeld (Some kind.Number) text b s in
    let Q : Option ℕ → Type 0 = λ v. StepHeld (Some kind.Number) text b (number_with v) in
    if_held P (is_digit b) _ _ (λ d.
    if_held Q (nat_le (10 * value + (b - 48)) (2 ^ 63)) _ _ (λ l. digits_held (2 ^ 63) value b text h.0.0.1 h.1 d l) (λ _. tt)) (λ e. e)

reference_held : (k : Option TokenKind) (value b : ℕ) (digits : List ℕ) → (is_digit b ≡ false → NotOn k (35 ∷ digits) b)
    → AllDigits 10 digits → digits_value 10 digits ≡ value → StepHeld k (35 ∷ digits) b (reference_step value b)
reference_held k value b digits n h e =
    let P : Step → Type 0 = λ s. StepHeld k (35 ∷ digits) b s in
    let Q : Option ℕ → Type 0 = λ v. StepHeld k (35 ∷ digits) b (reference_with v) in
    if_held P (is_digit b) _ _ (λ d.
    if_held Q (nat_le (10 * value + (b - 48)) (2 ^ 64 - 1)) _ _ (λ l.
    let held : IsNumber (2 ^ 64 - 1) (digits ++ b ∷ []) × (digits_value 10 (digits ++ b ∷ []) ≡ 10 * value + (b - 48)) = digits_held (2 ^ 64 - 1) value b digits h e d l in
    ((refl, held.0), held.1)) (λ _. tt)) n

more_reference_held : (value b : ℕ) (text : List ℕ) → Held (Reference value) text → StepHeld (Some kind.Reference) text b (reference_step value b)
more_reference_held value b [] h = absurd h.0
more_reference_held value b (first ∷ digits) h =
    let P : ℕ → Type 0 = λ n. StepHeld (Some kind.Reference) (n ∷ digits) b (reference_step value b) in
    subst P (sym h.0.0) (reference_held (Some kind.Reference) value b digits (λ e. e) h.0.1.0.1 h.1)

first_reference_held : (b : ℕ) (text : List ℕ) → Held Hash text → StepHeld None text b (reference_step 0 b)
first_reference_held b text h =
    let P : List ℕ → Type 0 = λ l. StepHeld None l b (reference_step 0 b) in
    subst P (sym h) (reference_held None 0 b [] (λ _. tt) tt refl)

-- texts
not_quote : (b : ℕ) → 128 ≤ b → b == 39 ≡ false
not_quote b h = grind arith

continuation_held : (low high b : ℕ) (wanted next : Wanted) (text : List ℕ) (u : IsUnclosed wanted text) → 128 ≤ low
    → (IsIn low high b → Ends next (u.part ++ b ∷ []))
    → StepHeld None text b (continuation_step low high next b)
continuation_held low high b wanted next text u l e =
    let P : Step → Type 0 = λ s. StepHeld None text b s in
    if_held P (is_between low high b) _ _ (λ h.
    let i : IsIn low high b = between_is low high b h in
    part_grows wanted next text b u (not_quote b (omega arith)) (e i)) (λ _. tt)

whole_character : (wanted : Wanted) (text : List ℕ) (b : ℕ) (u : IsUnclosed wanted text) → b == 39 ≡ false → IsUtf8 (u.part ++ b ∷ [])
    → IsUnclosed Character (text ++ b ∷ [])
whole_character wanted text b u h e =
    record {
      body = u.body ++ (u.part ++ b ∷ []);
      part = [];
      utf8 = IsUtf8-append u.body (u.part ++ b ∷ []) u.utf8 e;
      plain = plain_nil;
      ends = refl;
      whole = ap (λ (l : List ℕ). l ++ b ∷ []) u.whole ∙ ap (λ (l : List ℕ). 39 ∷ l) (append_assoc (doubled u.body) u.part (b ∷ [])
          ∙ sym (append-nil (doubled (u.body ++ (u.part ++ b ∷ []))) ∙ doubled-append u.body (u.part ++ b ∷ []) ∙ ap (λ (l : List ℕ). doubled u.body ++ l) (plain_more u.part b u.plain h)));
    }

led : (b : ℕ) (text : List ℕ) (u : IsUnclosed Character text) → b == 39 ≡ false → (next : Wanted) → Ends next (b ∷ []) → IsUnclosed next (text ++ b ∷ [])
led b text u q next e =
    let P : List ℕ → Type 0 = λ l. Ends next (l ++ b ∷ []) in
    part_grows Character next text b u q (subst P (sym u.ends) e)

ascii_held : (b : ℕ) (text : List ℕ) (u : IsUnclosed Character text) → b == 39 ≡ false → IsIn 0 127 b → IsUnclosed Character (text ++ b ∷ [])
ascii_held b text u q h =
    let P : List ℕ → Type 0 = λ l. IsUtf8 (l ++ b ∷ []) in
    whole_character Character text b u q (subst P (sym u.ends) (ascii_is b h.1))

leads_three : (b : ℕ) → (is_between 0xe1 0xec b || is_between 0xee 0xef b) ≡ true → Ends LastTwo (b ∷ [])
leads_three b h =
    elim (is_between 0xe1 0xec b) as (λ c. is_between 0xe1 0xec b ≡ c → (c || is_between 0xee 0xef b) ≡ true → Ends LastTwo (b ∷ [])) [
      | true ↦ λ e _. leads_three_low b (between_is 225 236 b e)
      | false ↦ λ _ k. leads_three_high b (between_is 238 239 b k)
    ] refl h

closing_quote : (b : ℕ) (text : List ℕ) → IsUnclosed Character text → b ≡ 39 → IsText (text ++ b ∷ [])
closing_quote b text u h =
    record {
      body = u.body;
      utf8 = u.utf8;
      quoted = ap (λ (l : List ℕ). l ++ b ∷ []) u.whole ∙ ap (λ (l : List ℕ). 39 ∷ ((doubled u.body ++ l) ++ b ∷ [])) u.ends
          ∙ ap (λ (l : List ℕ). 39 ∷ (l ++ b ∷ [])) (append-nil (doubled u.body)) ∙ ap (λ n. 39 ∷ (doubled u.body ++ n ∷ [])) h;
    }

last_held : (b : ℕ) (text : List ℕ) → IsUnclosed Last text → StepHeld None text b (continuation_step 0x80 0xbf Character b)
last_held b text u =
    let P : Step → Type 0 = λ s. StepHeld None text b s in
    if_held P (is_between 0x80 0xbf b) _ _ (λ h.
    let i : IsIn 128 191 b = between_is 128 191 b h in
    whole_character Last text b u (not_quote b (omega arith)) (u.ends b i)) (λ _. tt)

lead_held : (b : ℕ) (text : List ℕ) → IsUnclosed Character text → StepHeld None text b (lead_step b)
lead_held b text u =
    let P : Step → Type 0 = λ s. StepHeld None text b s in
    if_held P (b == 39) _ _ (λ h. closing_quote b text u (same_byte b 39 h)) (λ q.
    if_held P (is_between 0x00 0x7f b) _ _ (λ h. ascii_held b text u q (between_is 0 127 b h)) (λ _.
    if_held P (is_between 0xc2 0xdf b) _ _ (λ h. led b text u q Last (leads_two b (between_is 194 223 b h))) (λ _.
    if_held P (b == 0xe0) _ _ (λ h. led b text u q AfterE0 (leads_e0 b (same_byte b 224 h))) (λ _.
    if_held P (is_between 0xe1 0xec b || is_between 0xee 0xef b) _ _ (λ h. led b text u q LastTwo (leads_three b h)) (λ _.
    if_held P (b == 0xed) _ _ (λ h. led b text u q AfterED (leads_ed b (same_byte b 237 h))) (λ _.
    if_held P (b == 0xf0) _ _ (λ h. led b text u q AfterF0 (leads_f0 b (same_byte b 240 h))) (λ _.
    if_held P (is_between 0xf1 0xf3 b) _ _ (λ h. led b text u q LastThree (leads_four b (between_is 241 243 b h))) (λ _.
    if_held P (b == 0xf4) _ _ (λ h. led b text u q AfterF4 (leads_f4 b (same_byte b 244 h))) (λ _. tt)))))))))

text_held : (wanted : Wanted) (b : ℕ) (text : List ℕ) → IsUnclosed wanted text → StepHeld None text b (text_step wanted b)
text_held Character b text u = lead_held b text u
text_held Last b text u = last_held b text u
text_held LastTwo b text u = continuation_held 0x80 0xbf b LastTwo Last text u (omega arith) (u.ends b)
text_held LastThree b text u = continuation_held 0x80 0xbf b LastThree LastTwo text u (omega arith) (u.ends b)
text_held AfterE0 b text u = continuation_held 0xa0 0xbf b AfterE0 Last text u (omega arith) (u.ends b)
text_held AfterED b text u = continuation_held 0x80 0x9f b AfterED Last text u (omega arith) (u.ends b)
text_held AfterF0 b text u = continuation_held 0x90 0xbf b AfterF0 LastTwo text u (omega arith) (u.ends b)
text_held AfterF4 b text u = continuation_held 0x80 0x8f b AfterF4 LastTwo text u (omega arith) (u.ends b)

doubled_held : (b : ℕ) (text : List ℕ) → IsText text → b ≡ 39 → IsUnclosed Character (text ++ b ∷ [])
doubled_held b text t h =
    record {
      body = t.body ++ b ∷ [];
      part = [];
      utf8 = IsUtf8-append t.body (b ∷ []) t.utf8 (ascii_is b (omega arith));
      plain = plain_nil;
      ends = refl;
      whole = ap (λ (l : List ℕ). l ++ b ∷ []) t.quoted ∙ ap (λ (l : List ℕ). 39 ∷ l) (append_assoc (doubled t.body) (39 ∷ []) (b ∷ [])
          ∙ sym (append-nil (doubled (t.body ++ b ∷ [])) ∙ doubled-append t.body (b ∷ []) ∙ ap (λ (l : List ℕ). doubled t.body ++ l) (doubled_quote b h)));
    }

quote_held : (b : ℕ) (text : List ℕ) → IsText text → StepHeld (Some kind.Text) text b (quote_step b)
quote_held b text t =
    let P : Step → Type 0 = λ s. StepHeld (Some kind.Text) text b s in
    if_held P (b == 39) _ _ (λ h. doubled_held b text t (same_byte b 39 h)) (λ e. e)

-- symbols
symbol_held : (k : Option TokenKind) (a b : ℕ) (text : List ℕ) (s : Step) → text ≡ a ∷ [] → StepHeld k (a ∷ []) b s → StepHeld k text b s
symbol_held k a b text s h g = let P : List ℕ → Type 0 = λ l. StepHeld k l b s in subst P (sym h) g

or_true : (c : Bool) → (c || true) ≡ true
or_true true = refl
or_true false = refl

two_follow : (a b : ℕ) → a == 45 ≡ false → (ended : Bool) (rest : List ℕ) → CanFollow kind.Symbol (a ∷ b ∷ []) ended rest
two_follow a b h true [] = refl
two_follow a b h false [] = or_true (is_lone_symbol a)
two_follow a b h ended (c ∷ rest) = ap (λ t. t && c == 45) h

less_held : (b : ℕ) → StepHeld (Some kind.Symbol) (60 ∷ []) b (cond (b == 61 || b == 62) step.Last step.Over)
less_held b =
    let P : Step → Type 0 = λ s. StepHeld (Some kind.Symbol) (60 ∷ []) b s in
    if_held P (b == 61 || b == 62) _ _ (λ h. (grind arith, two_follow 60 b refl)) (λ h. grind arith)

greater_held : (b : ℕ) → StepHeld (Some kind.Symbol) (62 ∷ []) b (cond (b == 61) step.Last step.Over)
greater_held b =
    let P : Step → Type 0 = λ s. StepHeld (Some kind.Symbol) (62 ∷ []) b s in
    if_held P (b == 61) _ _ (λ h. (grind arith, two_follow 62 b refl)) (λ h. grind arith)

bar_held : (b : ℕ) → StepHeld None (124 ∷ []) b (cond (b == 124) step.Last step.Over)
bar_held b =
    let P : Step → Type 0 = λ s. StepHeld None (124 ∷ []) b s in
    if_held P (b == 124) _ _ (λ h. (grind arith, two_follow 124 b refl)) (λ _. tt)

minus_held : (b : ℕ) → StepHeld (Some kind.Symbol) (45 ∷ []) b (cond (b == 45) step.Comment step.Over)
minus_held b =
    let P : Step → Type 0 = λ s. StepHeld (Some kind.Symbol) (45 ∷ []) b s in
    if_held P (b == 45) _ _ (λ h. ap (λ n. 45 ∷ n ∷ []) (same_byte b 45 h)) (λ h. grind arith)

pub step_held : (token : Unfinished) (b : ℕ) (text : List ℕ) → Held token text → StepHeld (kind_of token) text b (step_of token b)
unfolding step_of kind_of
step_held (Word size) b text h = word_held size b text h
step_held (Number value) b text h = number_held value b text h
step_held Hash b text h = first_reference_held b text h
step_held (Reference value) b text h = more_reference_held value b text h
step_held (Text wanted) b text h = text_held wanted b text h
step_held Quote b text h = quote_held b text h
step_held Minus b text h = symbol_held (Some kind.Symbol) 45 b text _ h (minus_held b)
step_held Less b text h = symbol_held (Some kind.Symbol) 60 b text _ h (less_held b)
step_held Greater b text h = symbol_held (Some kind.Symbol) 62 b text _ h (greater_held b)
step_held Bar b text h = symbol_held None 124 b text _ h (bar_held b)

-- a first byte
abbrev pub FirstHeld : ℕ → First → Type 0
FirstHeld b Space = is_space b ≡ true
FirstHeld b Alone = IsClosedSymbol (b ∷ [])
FirstHeld b (Opens token) = Held token (b ∷ [])
FirstHeld b Fault = Unit {0}

first_digit_held : (b : ℕ) → is_digit b ≡ true → Held (Number (b - 48)) (b ∷ [])
first_digit_held b h =
    let i : (digit_value b + 48 ≡ b) × (digit_value b < 10) = digit_is b h in
    (((omega arith, (i.1, tt)), omega arith), omega arith)

first_quote_held : (b : ℕ) → b ≡ 39 → IsUnclosed Character (b ∷ [])
first_quote_held b h =
    record { body = []; part = []; utf8 = IsUtf8-nil; plain = plain_nil; ends = refl; whole = ap (λ n. n ∷ []) h ∙ ap (λ (l : List ℕ). 39 ∷ (l ++ [])) (sym plain_nil) }

opened_held : (b : ℕ) → FirstHeld b (opened_by b)
opened_held b =
    let P : First → Type 0 = λ f. FirstHeld b f in
    if_held P (b == 35) _ _ (λ h. ap (λ n. n ∷ []) (same_byte b 35 h)) (λ _.
    if_held P (b == 39) _ _ (λ h. first_quote_held b (same_byte b 39 h)) (λ _.
    if_held P (b == 45) _ _ (λ h. ap (λ n. n ∷ []) (same_byte b 45 h)) (λ _.
    if_held P (b == 60) _ _ (λ h. ap (λ n. n ∷ []) (same_byte b 60 h)) (λ _.
    if_held P (b == 62) _ _ (λ h. ap (λ n. n ∷ []) (same_byte b 62 h)) (λ _.
    if_held P (b == 124) _ _ (λ h. ap (λ n. n ∷ []) (same_byte b 124 h)) (λ _. tt))))))

none_of : (p q r s x y z w : Bool) → p ≡ false → q ≡ false → r ≡ false → s ≡ false → ((p && x) || (q && y) || (r && z) || (s && w)) ≡ false
none_of p q r s x y z w e f g h = λ i. (e i && x) || (f i && y) || (g i && z) || (h i && w)

lone_follow : (b : ℕ) → is_lone_symbol b ≡ true → (ended : Bool) (rest : List ℕ) → CanFollow kind.Symbol (b ∷ []) ended rest
lone_follow b h true [] = refl
lone_follow b h false [] = ap (λ c. c || false) h
lone_follow b h ended (c ∷ rest) =
    none_of (b == 60) (b == 62) (b == 124) (b == 45) _ _ _ _
    (differs is_lone_symbol b 60 h refl) (differs is_lone_symbol b 62 h refl) (differs is_lone_symbol b 124 h refl) (differs is_lone_symbol b 45 h refl)

lone_held : (b : ℕ) → is_lone_symbol b ≡ true → IsClosedSymbol (b ∷ [])
lone_held b h = (ap (λ c. c || b == 45 || b == 60 || b == 62) h, lone_follow b h)

pub first_held : (b : ℕ) → FirstHeld b (first_of b)
unfolding first_of
first_held b =
    let P : First → Type 0 = λ f. FirstHeld b f in
    if_held P (is_space b) _ _ (λ e. e) (λ _.
    if_held P (is_lone_symbol b) _ _ (λ h. lone_held b h) (λ _.
    if_held P (is_word_start b) _ _ (λ h. ((h, All-nil (λ x. is_word_byte x ≡ true), omega arith), refl)) (λ _.
    if_held P (is_digit b) _ _ (λ h. first_digit_held b h) (λ _. opened_held b))))

-- a token that is over
abbrev pub OverHeld : Option TokenKind → List ℕ → Type 0
OverHeld None text = Unit {0}
OverHeld (Some k) text = Spells k text

pub over_held : (token : Unfinished) (text : List ℕ) → Held token text → OverHeld (kind_of token) text
unfolding kind_of
over_held (Word size) text h = h.0
over_held (Number value) text h = h.0
over_held Hash text h = tt
over_held (Reference value) text h = h.0
over_held (Text wanted) text h = tt
over_held Quote text h = h
over_held Minus text h = ap is_symbol h
over_held Less text h = ap is_symbol h
over_held Greater text h = ap is_symbol h
over_held Bar text h = tt
