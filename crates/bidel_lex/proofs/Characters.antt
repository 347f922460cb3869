-- Bytes of well-formed UTF-8, one after the other.
use Rattle.std.proofs.Common.{◌≡◌, ◌+◌, ◌-◌, ◌*◌, ◌/◌, ◌<◌, ◌≤◌, ◌==◌, ℕ, true, false, List, [], ◌∷◌, ◌++◌, cond, refl, sym, ap, ◌∙◌, subst, arith, append_assoc}
use Rattle.std.specs.Str.{IsUtf8}
use Rattle.std.proofs.lemmas.Str.{encode_ascii, IsUtf8-encode}
use lib.Utf8.{encode, low_scalar, next, scalar}
use Rattle.bidel_lex.specs.declared.texts.Wanted.{Wanted}
use Rattle.bidel_lex.specs.declared.texts.Wanted.TheVariants.{Character, Last, LastTwo, LastThree, AfterE0, AfterED, AfterF0, AfterF4}
use Rattle.bidel_lex.specs.Spelled.{doubled}

abbrev pub IsIn : ℕ → ℕ → ℕ → Type 0
IsIn low high b = (low ≤ b) × (b ≤ high)

-- these bytes and one, two or three more are characters
abbrev pub OneMore : List ℕ → Type 0
OneMore part = (x : ℕ) → IsIn 128 191 x → IsUtf8 (part ++ x ∷ [])

abbrev pub TwoMore : List ℕ → Type 0
TwoMore part = (x : ℕ) → IsIn 128 191 x → OneMore (part ++ x ∷ [])

abbrev pub ThreeMore : List ℕ → Type 0
ThreeMore part = (x : ℕ) → IsIn 128 191 x → TwoMore (part ++ x ∷ [])

-- these bytes and those that are wanted are characters
abbrev pub Ends : Wanted → List ℕ → Type 0
Ends Character part = part ≡ []
Ends Last part = OneMore part
Ends LastTwo part = TwoMore part
Ends LastThree part = ThreeMore part
Ends AfterE0 part = (x : ℕ) → IsIn 160 191 x → OneMore (part ++ x ∷ [])
Ends AfterED part = (x : ℕ) → IsIn 128 159 x → OneMore (part ++ x ∷ [])
Ends AfterF0 part = (x : ℕ) → IsIn 144 191 x → TwoMore (part ++ x ∷ [])
Ends AfterF4 part = (x : ℕ) → IsIn 128 143 x → TwoMore (part ++ x ∷ [])

is_high : (c : ℕ) → 57344 ≤ c → c < 1114112 → scalar c ≡ true
is_high c l h = grind arith

pub is_two : (c : ℕ) → 128 ≤ c → c < 2048 → encode c ≡ (192 + c / 64) ∷ next c ∷ []
unfolding encode
is_two c l h = grind arith

pub is_three : (c : ℕ) → 2048 ≤ c → c < 65536 → encode c ≡ (224 + c / 4096) ∷ next (c / 64) ∷ next c ∷ []
unfolding encode
is_three c l h = grind arith

pub is_four : (c : ℕ) → 65536 ≤ c → encode c ≡ (240 + c / 262144) ∷ next (c / 4096) ∷ next (c / 64) ∷ next c ∷ []
unfolding encode
is_four c l = grind arith

-- a character of a code
coded : (c : ℕ) (bytes : List ℕ) → scalar c ≡ true → encode c ≡ bytes → IsUtf8 bytes
coded c bytes s e = subst IsUtf8 e (IsUtf8-encode c s)

two_bytes : (a x c : ℕ) → IsIn 194 223 a → IsIn 128 191 x → c + 12416 ≡ a * 64 + x → IsUtf8 (a ∷ x ∷ [])
two_bytes a x c h k e =
    let p : 192 + c / 64 ≡ a = omega arith in
    let q : next c ≡ x = omega arith in
    coded c (a ∷ x ∷ []) (low_scalar c (omega arith)) (is_two c (omega arith) (omega arith) ∙ (λ i. p i ∷ q i ∷ []))

three_bytes : (a x y c : ℕ) → scalar c ≡ true → 2048 ≤ c → IsIn 224 239 a → IsIn 128 191 x → IsIn 128 191 y → c + 925824 ≡ a * 4096 + x * 64 + y
    → IsUtf8 (a ∷ x ∷ y ∷ [])
three_bytes a x y c s l h j k e =
    let p : 224 + c / 4096 ≡ a = omega arith in
    let q : next (c / 64) ≡ x = omega arith in
    let r : next c ≡ y = omega arith in
    coded c (a ∷ x ∷ y ∷ []) s (is_three c l (omega arith) ∙ (λ i. p i ∷ q i ∷ r i ∷ []))

four_bytes : (a x y z c : ℕ) → 65536 ≤ c → c < 1114112 → IsIn 240 244 a → IsIn 128 191 x → IsIn 128 191 y → IsIn 128 191 z
    → c + 63447168 ≡ a * 262144 + x * 4096 + y * 64 + z → IsUtf8 (a ∷ x ∷ y ∷ z ∷ [])
four_bytes a x y z c l m h j k n e =
    let p : 240 + c / 262144 ≡ a = omega arith in
    let q : next (c / 4096) ≡ x = omega arith in
    let r : next (c / 64) ≡ y = omega arith in
    let t : next c ≡ z = omega arith in
    coded c (a ∷ x ∷ y ∷ z ∷ []) (is_high c (omega arith) m) (is_four c l ∙ (λ i. p i ∷ q i ∷ r i ∷ t i ∷ []))

pub ascii_is : (a : ℕ) → a ≤ 127 → IsUtf8 (a ∷ [])
ascii_is a h = coded a (a ∷ []) (low_scalar a (omega arith)) (encode_ascii a (omega arith))

pub leads_two : (a : ℕ) → IsIn 194 223 a → Ends Last (a ∷ [])
leads_two a h x k = two_bytes a x (a * 64 + x - 12416) h k (omega arith)

three_low : (a x y : ℕ) → IsIn 224 237 a → IsIn 128 191 x → IsIn 128 191 y → 2048 + 925824 ≤ a * 4096 + x * 64 + y → a * 4096 + x * 64 + y < 55296 + 925824
    → IsUtf8 (a ∷ x ∷ y ∷ [])
three_low a x y h k l m n =
    three_bytes a x y (a * 4096 + x * 64 + y - 925824) (low_scalar (a * 4096 + x * 64 + y - 925824) (omega arith)) (omega arith) (omega arith, omega arith) k l (omega arith)

pub leads_three_low : (a : ℕ) → IsIn 225 236 a → Ends LastTwo (a ∷ [])
leads_three_low a h x k y l = three_low a x y (omega arith, omega arith) k l (omega arith) (omega arith)

pub leads_three_high : (a : ℕ) → IsIn 238 239 a → Ends LastTwo (a ∷ [])
leads_three_high a h x k y l =
    three_bytes a x y (a * 4096 + x * 64 + y - 925824) (is_high (a * 4096 + x * 64 + y - 925824) (omega arith) (omega arith)) (omega arith) (omega arith, omega arith) k l (omega arith)

pub leads_e0 : (a : ℕ) → a ≡ 224 → Ends AfterE0 (a ∷ [])
leads_e0 a h x k y l = three_low a x y (omega arith, omega arith) (omega arith, omega arith) l (omega arith) (omega arith)

pub leads_ed : (a : ℕ) → a ≡ 237 → Ends AfterED (a ∷ [])
leads_ed a h x k y l = three_low a x y (omega arith, omega arith) (omega arith, omega arith) l (omega arith) (omega arith)

four : (a x y z : ℕ) → IsIn 240 244 a → IsIn 128 191 x → IsIn 128 191 y → IsIn 128 191 z
    → 65536 + 63447168 ≤ a * 262144 + x * 4096 + y * 64 + z → a * 262144 + x * 4096 + y * 64 + z < 1114112 + 63447168 → IsUtf8 (a ∷ x ∷ y ∷ z ∷ [])
four a x y z h j k n l m = four_bytes a x y z (a * 262144 + x * 4096 + y * 64 + z - 63447168) (omega arith) (omega arith) h j k n (omega arith)

pub leads_four : (a : ℕ) → IsIn 241 243 a → Ends LastThree (a ∷ [])
leads_four a h x k y l z m = four a x y z (omega arith, omega arith) k l m (omega arith) (omega arith)

pub leads_f0 : (a : ℕ) → a ≡ 240 → Ends AfterF0 (a ∷ [])
leads_f0 a h x k y l z m = four a x y z (omega arith, omega arith) (omega arith, omega arith) l m (omega arith) (omega arith)

pub leads_f4 : (a : ℕ) → a ≡ 244 → Ends AfterF4 (a ∷ [])
leads_f4 a h x k y l z m = four a x y z (omega arith, omega arith) (omega arith, omega arith) l m (omega arith) (omega arith)

pub doubled-append : (xs ys : List ℕ) → doubled (xs ++ ys) ≡ doubled xs ++ doubled ys
unfolding doubled
doubled-append [] ys = refl
doubled-append (x ∷ xs) ys =
    elim (x == 39) as (λ c. cond c (39 ∷ 39 ∷ doubled (xs ++ ys)) (x ∷ doubled (xs ++ ys)) ≡ cond c (39 ∷ 39 ∷ doubled xs) (x ∷ doubled xs) ++ doubled ys) [
      | true ↦ ap (λ (l : List ℕ). 39 ∷ 39 ∷ l) (doubled-append xs ys)
      | false ↦ ap (λ (l : List ℕ). x ∷ l) (doubled-append xs ys)
    ]

pub doubled_one : (x : ℕ) → x == 39 ≡ false → doubled (x ∷ []) ≡ x ∷ []
unfolding doubled
doubled_one x h = ap (λ c. cond c (39 ∷ 39 ∷ []) (x ∷ [])) h

pub doubled_quote : (x : ℕ) → x ≡ 39 → doubled (x ∷ []) ≡ 39 ∷ x ∷ []
unfolding doubled
doubled_quote x h = let P : ℕ → Type 0 = λ x. doubled (x ∷ []) ≡ 39 ∷ x ∷ [] in subst P (sym h) refl

pub plain_nil : doubled [] ≡ []
unfolding doubled
plain_nil = refl

pub plain_more : (part : List ℕ) (x : ℕ) → doubled part ≡ part → x == 39 ≡ false → doubled (part ++ x ∷ []) ≡ part ++ x ∷ []
plain_more part x plain h =
    doubled-append part (x ∷ []) ∙ ap (λ (l : List ℕ). l ++ doubled (x ∷ [])) plain ∙ ap (λ (l : List ℕ). part ++ l) (doubled_one x h)

-- a quote, characters with each quote doubled, and a part of one
pub record IsUnclosed (wanted : Wanted) (text : List ℕ) : Type 0 where
  pub body : List ℕ
  pub part : List ℕ
  pub utf8 : IsUtf8 body
  pub plain : doubled part ≡ part
  pub ends : Ends wanted part
  pub whole : text ≡ 39 ∷ (doubled body ++ part)

-- a byte more of the part
pub part_grows : (wanted next : Wanted) (text : List ℕ) (x : ℕ) → (u : IsUnclosed wanted text) → x == 39 ≡ false → Ends next (u.part ++ x ∷ [])
    → IsUnclosed next (text ++ x ∷ [])
part_grows wanted next text x u h e =
    record {
      body = u.body;
      part = u.part ++ x ∷ [];
      utf8 = u.utf8;
      plain = plain_more u.part x u.plain h;
      ends = e;
      whole = ap (λ (l : List ℕ). l ++ x ∷ []) u.whole ∙ ap (λ (l : List ℕ). 39 ∷ l) (append_assoc (doubled u.body) u.part (x ∷ []));
    }
