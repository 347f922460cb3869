-- Literal texts: one character more of a quoted text, and which value a text could be that of.
use Rattle.std.proofs.Common.{◌≡◌, ◌≢◌, ◌++◌, ◌∷◌, [], ℕ, ◌+◌, ◌<◌, List, Bool, true, false, length, get_or, suc, drop, flat_map, cond, refl, ap, ◌∙◌, sym, append_assoc, append-nil, drop-cons, add-one, arith}
use Rattle.std.specs.Prelude.{encode_utf8, encode_utf8_all, ◌==◌, ◌&&◌}
use Rattle.std.proofs.lemmas.Str.{inside_one, encodes-append, encode_ascii}
use Rattle.std.proofs.lemmas.Grind.{flat_map-append}
use Rattle.std.proofs.lemmas.Bool.{ne_eqb, eqb-true}
use Rattle.std.specs.Prelude.{ℤ, pos, negsuc, ◌≤◌, ◌%◌, ◌^◌, decimal, Option, Some, IsUtf8, FitsSigned}
use Rattle.std.specs.Fmt.{signed_decimal}
use Rattle.std.specs.Prelude.{Result, Ok, Err, IfOk}
use Rattle.par_base.specs.declared.fault.Memory.{Memory}
use Rattle.std.specs.Int.{w64}
use Rattle.std.proofs.Common.{length-append}
use Rattle.std.proofs.lemmas.List.{drop_all, append_cancel_right}
use Rattle.std.proofs.Math.ListN.{get_or-append}
use Rattle.std.proofs.lemmas.Fmt.{decimal_by_steps, decimal_injective, signed_decimal_injective, IsAscii-signed, IsAscii-decimal}
use Rattle.std.proofs.lemmas.Str.{IsUtf8-from_ascii}
use Rattle.par_base.specs.declared.value.Value.{Value}
use Rattle.par_base.specs.declared.value.Value.TheVariants.{Null, Int, Text, Reference}
use Rattle.par_base.specs.Literals.{doubled, undoubled, quoted, literal_of, IsValue, IsCandidate}

-- a byte that is no quote stays
plain_byte : (b : ℕ) → b ≢ 39 → doubled b ≡ b ∷ []
plain_byte b h = ap (λ (t : Bool). cond t (39 ∷ 39 ∷ []) (b ∷ [])) (ne_eqb b 39 h)

-- bytes without a quote stay
plain : (xs : List ℕ) → ((k : ℕ) → k < length xs → get_or xs k 0 ≢ 39) → flat_map doubled xs ≡ xs
plain [] h = refl
plain (b ∷ bs) h =
    ap (λ (l : List ℕ). l ++ flat_map doubled bs) (plain_byte b (h 0 (omega arith)))
    ∙ ap (λ (l : List ℕ). b ∷ l) (plain bs (λ k lt. h (suc k) (omega arith)))

-- a character that is no quote stays
pub plain_char : (c : ℕ) → c ≢ 39 → flat_map doubled (encode_utf8 c) ≡ encode_utf8 c
plain_char c h = plain (encode_utf8 c) (λ k lt e. h (inside_one c [] (encode_utf8 c) k (sym (append-nil (encode_utf8 c))) lt (omega (arith, e)) ∙ e))

-- a quote stands twice
pub quote_char : (c : ℕ) → c ≡ 39 → flat_map doubled (encode_utf8 c) ≡ 39 ∷ 39 ∷ []
quote_char c e = ap (λ (x : ℕ). flat_map doubled (encode_utf8 x)) e ∙ ap (flat_map doubled) (encode_ascii 39 (omega arith))

-- one character more
pub quoted_more : (ys made new : List ℕ) (c : ℕ) → made ≡ 39 ∷ flat_map doubled (encode_utf8_all ys) → new ≡ made ++ flat_map doubled (encode_utf8 c)
    → new ≡ 39 ∷ flat_map doubled (encode_utf8_all (ys ++ c ∷ []))
quoted_more ys made new c m n =
    n ∙ ap (λ (l : List ℕ). l ++ flat_map doubled (encode_utf8 c)) m
    ∙ ap (λ (l : List ℕ). 39 ∷ l) (ap (λ (l : List ℕ). flat_map doubled (encode_utf8_all ys) ++ flat_map doubled l) (sym (append-nil (encode_utf8 c)))
    ∙ sym (flat_map-append doubled (encode_utf8_all ys) (encode_utf8_all (c ∷ []))) ∙ ap (flat_map doubled) (sym (encodes-append ys (c ∷ []))))

-- the byte at a place, and those after it
drop-at : (xs : List ℕ) (i : ℕ) → i < length xs → drop i xs ≡ get_or xs i 0 ∷ drop (i + 1) xs
drop-at xs i lt = rw (add-one, drop-cons xs i 0)

-- what doubling made of one byte
undoubled_byte : (b : ℕ) (t : Bool) → (b == 39) ≡ t → (bs : List ℕ) → undoubled false (doubled b ++ bs) ≡ b ∷ undoubled false bs
unfolding undoubled
undoubled_byte b true e bs =
    ap (λ (u : Bool). undoubled false (cond u (39 ∷ 39 ∷ []) (b ∷ []) ++ bs)) e
    ∙ ap (λ (x : ℕ). x ∷ undoubled false bs) (sym (eqb-true b 39 e))
undoubled_byte b false e bs =
    ap (λ (u : Bool). undoubled false (cond u (39 ∷ 39 ∷ []) (b ∷ []) ++ bs)) e
    ∙ ap (λ (u : Bool). b ∷ undoubled u bs) e

-- taking the second quotes out undoes the doubling
pub undoubled-doubled : (text : List ℕ) → undoubled false (flat_map doubled text) ≡ text
unfolding undoubled
undoubled-doubled [] = refl
undoubled-doubled (b ∷ bs) = undoubled_byte b (b == 39) refl (flat_map doubled bs) ∙ ap (λ (l : List ℕ). b ∷ l) (undoubled-doubled bs)

-- one byte kept
pub undoubled_kept : (xs made : List ℕ) (after : Bool) (i : ℕ) → i < length xs → undoubled false xs ≡ made ++ undoubled after (drop i xs)
    → (after && (get_or xs i 0 == 39)) ≡ false → undoubled false xs ≡ (made ++ get_or xs i 0 ∷ []) ++ undoubled (get_or xs i 0 == 39) (drop (i + 1) xs)
unfolding undoubled
undoubled_kept xs made after i lt so kept =
    so ∙ ap (λ (l : List ℕ). made ++ undoubled after l) (drop-at xs i lt)
    ∙ ap (λ (t : Bool). made ++ cond t (undoubled false (drop (i + 1) xs)) (get_or xs i 0 ∷ undoubled (get_or xs i 0 == 39) (drop (i + 1) xs))) kept
    ∙ sym (append_assoc made (get_or xs i 0 ∷ []) (undoubled (get_or xs i 0 == 39) (drop (i + 1) xs)))

-- one quote left out
pub undoubled_left : (xs made : List ℕ) (after : Bool) (i : ℕ) → i < length xs → undoubled false xs ≡ made ++ undoubled after (drop i xs)
    → (after && (get_or xs i 0 == 39)) ≡ true → undoubled false xs ≡ made ++ undoubled false (drop (i + 1) xs)
unfolding undoubled
undoubled_left xs made after i lt so left =
    so ∙ ap (λ (l : List ℕ). made ++ undoubled after l) (drop-at xs i lt)
    ∙ ap (λ (t : Bool). made ++ cond t (undoubled false (drop (i + 1) xs)) (get_or xs i 0 ∷ undoubled (get_or xs i 0 == 39) (drop (i + 1) xs))) left

-- all bytes are done
pub undoubled_all : (xs made : List ℕ) (after : Bool) (i : ℕ) → length xs ≤ i → undoubled false xs ≡ made ++ undoubled after (drop i xs) → made ≡ undoubled false xs
unfolding undoubled
undoubled_all xs made after i le so = sym (so ∙ ap (λ (l : List ℕ). made ++ undoubled after l) (drop_all i xs le) ∙ append-nil made)

pub ruleset undoubling = (undoubled_kept, undoubled_left, undoubled_all)

-- a decimal text begins with a digit
first_digit : (n : ℕ) → n < 2 ^ 64 → (0 < length (decimal n)) × (48 ≤ get_or (decimal n) 0 0) × (get_or (decimal n) 0 0 ≤ 57)
first_digit n small =
    let P : ℕ → List ℕ → Type 0 = λ _ ds. (0 < length ds) × (48 ≤ get_or ds 0 0) × (get_or ds 0 0 ≤ 57) in
    decimal_by_steps P (λ m lt. (omega arith, omega arith, omega arith))
    (λ m ds _ p.
    let same : get_or (ds ++ (48 + m % 10) ∷ []) 0 0 ≡ get_or ds 0 0 = get_or-append ds ((48 + m % 10) ∷ []) 0 0 (p.0) in
    (omega (arith, p.0, length-append ds ((48 + m % 10) ∷ [])), omega (arith, p.1, same), omega (arith, p.2, same)))
    n small

-- the text of an integer begins with a digit or `-`
first_of_int : (n : ℤ) → FitsSigned w64 n → (45 ≤ get_or (signed_decimal n) 0 0) × (get_or (signed_decimal n) 0 0 ≤ 57)
first_of_int (pos n) fits = let p = first_digit n (omega (arith, fits.sfits)) in (omega (arith, p.1), omega (arith, p.2))
first_of_int (negsuc n) fits = (omega arith, omega arith)

-- the text of an integer is UTF-8
pub int_is_utf8 : (n : ℤ) → FitsSigned w64 n → IsUtf8 (signed_decimal n)
int_is_utf8 n fits = IsUtf8-from_ascii _ (IsAscii-signed n fits.sfits)

-- the digits of a reference are UTF-8
pub id_is_utf8 : (id : ℕ) → id < 2 ^ 64 → IsUtf8 (decimal id)
id_is_utf8 id small = IsUtf8-from_ascii _ (IsAscii-decimal id small)

-- equal texts have one first byte
first_is : (bs ds : List ℕ) (b : ℕ) → get_or bs 0 0 ≡ b → bs ≡ ds → get_or ds 0 0 ≡ b
first_is bs ds b f e = ap (λ (l : List ℕ). get_or l 0 0) (sym e) ∙ f

-- what begins with a quote is a text
text_only : (bytes : List ℕ) (found : Option Value) → get_or bytes 0 0 ≡ 39
    → ((text : List ℕ) → IsUtf8 text → bytes ≡ quoted text → found ≡ Some (Text text)) → IsCandidate bytes found
unfolding literal_of
text_only bytes found f only Null ok e = let h : get_or (literal_of Null) 0 0 ≡ 39 = first_is bytes (literal_of Null) 39 f e in absurd (omega (arith, h))
text_only bytes found f only (Int n) ok e = let p = first_of_int n ok in absurd (omega (arith, p.0, p.1, first_is bytes (literal_of (Int n)) 39 f e))
text_only bytes found f only (Text text) ok e = only text ok e
text_only bytes found f only (Reference id) ok e = let h : 35 ≡ 39 = first_is bytes (literal_of (Reference id)) 39 f e in absurd (omega (arith, h))

-- what begins with `#` is a reference
pub reference_only : (bytes : List ℕ) (found : Option Value) → get_or bytes 0 0 ≡ 35
    → ((id : ℕ) → id < 2 ^ 64 → bytes ≡ 35 ∷ decimal id → found ≡ Some (Reference id)) → IsCandidate bytes found
unfolding literal_of
reference_only bytes found f only Null ok e = let h : get_or (literal_of Null) 0 0 ≡ 35 = first_is bytes (literal_of Null) 35 f e in absurd (omega (arith, h))
reference_only bytes found f only (Int n) ok e = let p = first_of_int n ok in absurd (omega (arith, p.0, p.1, first_is bytes (literal_of (Int n)) 35 f e))
reference_only bytes found f only (Text text) ok e = let h : 39 ≡ 35 = first_is bytes (literal_of (Text text)) 35 f e in absurd (omega (arith, h))
reference_only bytes found f only (Reference id) ok e = only id ok e

-- what begins with `n` is null
pub null_only : (bytes : List ℕ) → get_or bytes 0 0 ≡ 110 → IsCandidate bytes (Some Null)
unfolding literal_of
null_only bytes f Null ok e = refl
null_only bytes f (Int n) ok e = let p = first_of_int n ok in absurd (omega (arith, p.0, p.1, first_is bytes (literal_of (Int n)) 110 f e))
null_only bytes f (Text text) ok e = let h : 39 ≡ 110 = first_is bytes (literal_of (Text text)) 110 f e in absurd (omega (arith, h))
null_only bytes f (Reference id) ok e = let h : 35 ≡ 110 = first_is bytes (literal_of (Reference id)) 110 f e in absurd (omega (arith, h))

-- what begins with none of these is an integer
pub int_only : (bytes : List ℕ) (found : Option Value) → get_or bytes 0 0 ≢ 39 → get_or bytes 0 0 ≢ 35 → get_or bytes 0 0 ≢ 110
    → ((n : ℤ) → FitsSigned w64 n → bytes ≡ signed_decimal n → found ≡ Some (Int n)) → IsCandidate bytes found
unfolding literal_of
int_only bytes found q h n only Null ok e = absurd (n (ap (λ (l : List ℕ). get_or l 0 0) e))
int_only bytes found q h n only (Int k) ok e = only k ok e
int_only bytes found q h n only (Text text) ok e = absurd (q (ap (λ (l : List ℕ). get_or l 0 0) e))
int_only bytes found q h n only (Reference id) ok e = absurd (h (ap (λ (l : List ℕ). get_or l 0 0) e))

-- the same of an answer that may be want of memory
pub text_answers : (bytes : List ℕ) (r : Result (Option Value) Memory) → get_or bytes 0 0 ≡ 39
    → IfOk r (λ found. (text : List ℕ) → IsUtf8 text → bytes ≡ quoted text → found ≡ Some (Text text)) → IfOk r (λ found. IsCandidate bytes found)
text_answers bytes (Ok found) f only = text_only bytes found f only
text_answers bytes (Err e) f only = tt

-- quoting joins no two texts
same_text : (text others : List ℕ) → quoted text ≡ quoted others → text ≡ others
same_text text others e =
    let inner : flat_map doubled text ++ 39 ∷ [] ≡ flat_map doubled others ++ 39 ∷ [] = cc in
    sym (undoubled-doubled text) ∙ ap (undoubled false) (append_cancel_right (flat_map doubled text) (flat_map doubled others) (39 ∷ []) inner) ∙ undoubled-doubled others

-- two references with one literal text are equal
same_id : (id other : ℕ) → id < 2 ^ 64 → other < 2 ^ 64 → 35 ∷ decimal id ≡ 35 ∷ decimal other → id ≡ other
same_id id other small small' e = let digits : decimal id ≡ decimal other = cc in decimal_injective id other small small' digits

-- a value is the one that its literal text can be that of
itself : (v : Value) → IsValue v → IsCandidate (literal_of v) (Some v)
unfolding literal_of
itself Null ok = null_only (literal_of Null) refl
itself (Int n) ok =
    let p = first_of_int n ok in
    int_only (literal_of (Int n)) (Some (Int n)) (λ e. omega (arith, e, p.0, p.1)) (λ e. omega (arith, e, p.0, p.1)) (λ e. omega (arith, e, p.0, p.1))
    (λ m fits e. ap (λ (k : ℤ). Some (Int k)) (signed_decimal_injective n m ok.sfits fits.sfits e))
itself (Text text) ok = text_only (literal_of (Text text)) (Some (Text text)) refl (λ others _ e. ap (λ (t : List ℕ). Some (Text t)) (same_text text others e))
itself (Reference id) ok = reference_only (literal_of (Reference id)) (Some (Reference id)) refl (λ other small e. ap (λ (n : ℕ). Some (Reference n)) (same_id id other ok small e))

-- two values with one literal text are equal
pub same_value : (v w : Value) → IsValue v → IsValue w → literal_of v ≡ literal_of w → v ≡ w
same_value v w okv okw e = let so = itself v okv w okw e in cc
