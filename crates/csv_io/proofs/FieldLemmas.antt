-- Which fields are the texts of numbers, and what is read back.
use Rattle.std.specs.Prelude.{◌==◌, ◌&&◌, Option, Some, None, option_map, decimal, bytes_eq, Result, Ok, Err, FitsSigned, IfSome, neg_ℤ, if◌then◌else◌}
use Rattle.std.specs.Char.{digit_value}
use Rattle.std.specs.Fmt.{signed_decimal}
use Rattle.std.specs.Option.{option_or}
use Rattle.std.specs.Str.Parse.{IsNumeral, ParsesSigned, ParsesUnsigned, digits_value, signed_digits_value}
use Rattle.std.proofs.Common.{◌≡◌, ◌^◌, ◌<◌, nat_lt, ◌∙◌, ℕ, suc, ℤ, pos, negsuc, List, [], ◌∷◌, Bool, true, false, length, unwrap_or, refl, sym, ap, subst, arith, w64}
use Rattle.std.proofs.lemmas.Bool.{and_from, and_parts, eqb-true, lt-ltb, ltb-true, ne_eqb}
use Rattle.std.proofs.lemmas.Fmt.{decimal_is_IsNumeral, parse-decimal, parse-signed_decimal}
use Rattle.std.proofs.lemmas.Slice.Eq.{bytes_eq-Decides}
use Rattle.par_base.specs.Literals.{IsValue, literal_of}
use Rattle.par_base.specs.declared.value.Value.{Value}
use Rattle.par_base.specs.declared.value.Value.TheVariants.{Null, Int, Text, Reference}
use Rattle.par_base.proofs.LiteralLaws.{same_value}
use Rattle.statements.specs.Texts.{ValueTexts}
use Rattle.csv_io.specs.Fields.{field_value, id_in, int_in, is_int, plain_value, reference_in, value_field}
use Rattle.csv_io.specs.Laws.{IsNoText}

-- ---- integers

fits_from : (z : ℤ) → is_int z ≡ true → FitsSigned w64 z
fits_from (pos n) e = record { sfits = ltb-true n (2 ^ 63) e }
fits_from (negsuc n) e = record { sfits = ltb-true n (2 ^ 63) e }

is_int_from : (z : ℤ) → FitsSigned w64 z → is_int z ≡ true
is_int_from (pos n) fits = lt-ltb n (2 ^ 63) fits.sfits
is_int_from (negsuc n) fits = lt-ltb n (2 ^ 63) fits.sfits

-- digits begin with no sign
unsigned : (ds : List ℕ) → IsNumeral 10 ds → signed_digits_value 10 ds ≡ pos (digits_value 10 ds)
unsigned [] h = absurd (omega (arith, h.0))
unsigned (c ∷ cs) h =
    let minus : (c == 45) ≡ false = ne_eqb c 45 (λ e. let k : digit_value 45 < 10 = subst (λ (x : ℕ). digit_value x < 10) e h.1.0 in omega (arith, k)) in
    let plus : (c == 43) ≡ false = ne_eqb c 43 (λ e. let k : digit_value 43 < 10 = subst (λ (x : ℕ). digit_value x < 10) e h.1.0 in omega (arith, k)) in
    rw (minus, plus) refl

-- the number of its decimal text
value_of_text : (z : ℤ) → FitsSigned w64 z → signed_digits_value 10 (signed_decimal z) ≡ z
value_of_text (pos n) fits =
    let k = decimal_is_IsNumeral n (omega (arith, fits.sfits)) in
    unsigned _ k.0 ∙ ap pos k.1
value_of_text (negsuc n) fits =
    let k = decimal_is_IsNumeral (suc n) (omega (arith, fits.sfits)) in
    ap (λ (m : ℕ). neg_ℤ (pos m)) k.1

-- a field that is an integer's text
pub int_is : (field : List ℕ) (z : ℤ) → FitsSigned w64 z → field ≡ signed_decimal z → Some z ≡ int_in field
int_is field z fits is =
    let v : signed_digits_value 10 field ≡ z = ap (signed_digits_value 10) is ∙ value_of_text z fits in
    let same : bytes_eq field (signed_decimal (signed_digits_value 10 field)) ≡ true = (bytes_eq-Decides _ _).1 (is ∙ ap signed_decimal (sym v)) in
    let small : is_int (signed_digits_value 10 field) ≡ true = ap is_int v ∙ is_int_from z fits in
    sym (ap (λ (b : Bool). if b then Some (signed_digits_value 10 field) else None) (and_from _ _ same small) ∙ ap (λ (n : ℤ). Some n) v)

-- what an integer's text is
abbrev pub IsIntText : List ℕ → ℤ → Type 0
IsIntText field z = FitsSigned w64 z × (field ≡ signed_decimal z)

pub int_text : (field : List ℕ) → IfSome (int_in field) (IsIntText field)
int_text field = turn (bytes_eq field (signed_decimal (signed_digits_value 10 field)) && is_int (signed_digits_value 10 field)) refl
  where
    turn : (b : Bool) → (bytes_eq field (signed_decimal (signed_digits_value 10 field)) && is_int (signed_digits_value 10 field)) ≡ b
        → IfSome (if b then Some (signed_digits_value 10 field) else None) (IsIntText field)
    turn true is = let p = and_parts _ _ is in (fits_from _ p.1, (bytes_eq-Decides _ _).0 p.0)
    turn false is = tt

-- a field that is no integer's text
pub int_none : (field : List ℕ) → ((z : ℤ) → FitsSigned w64 z → field ≡ signed_decimal z → ⊥) → None ≡ int_in field
int_none field other = turn (int_in field) (int_text field)
  where
    turn : (o : Option ℤ) → IfSome o (IsIntText field) → None ≡ o
    turn None text = refl
    turn (Some z) text = absurd (other z text.0 text.1)

-- what doesn't parse is no integer's text
pub int_unparsed : {E : Type 0} (field : List ℕ) (r : Result ℤ E) (e : E) → ParsesSigned w64 10 field r → r ≡ Err e → None ≡ int_in field
int_unparsed field r e parses is = int_none field (λ z fits text. let read = parse-signed_decimal w64 z field r fits fits.sfits text parses in cc)

-- ---- identifiers

pub id_is : (digits : List ℕ) (id : ℕ) → id < 2 ^ 64 → digits ≡ decimal id → Some id ≡ id_in digits
id_is digits id small is =
    let v : digits_value 10 digits ≡ id = ap (digits_value 10) is ∙ (decimal_is_IsNumeral id small).1 in
    let same : bytes_eq digits (decimal (digits_value 10 digits)) ≡ true = (bytes_eq-Decides _ _).1 (is ∙ ap decimal (sym v)) in
    let fits = lt-ltb (digits_value 10 digits) (2 ^ 64) (subst (λ (n : ℕ). n < 2 ^ 64) (sym v) small) in
    sym (ap (λ (b : Bool). if b then Some (digits_value 10 digits) else None) (and_from _ _ same fits) ∙ ap (λ (n : ℕ). Some n) v)

abbrev pub IsIdText : List ℕ → ℕ → Type 0
IsIdText digits id = (id < 2 ^ 64) × (digits ≡ decimal id)

id_text : (digits : List ℕ) → IfSome (id_in digits) (IsIdText digits)
id_text digits = turn (bytes_eq digits (decimal (digits_value 10 digits)) && nat_lt (digits_value 10 digits) (2 ^ 64)) refl
  where
    turn : (b : Bool) → (bytes_eq digits (decimal (digits_value 10 digits)) && nat_lt (digits_value 10 digits) (2 ^ 64)) ≡ b
        → IfSome (if b then Some (digits_value 10 digits) else None) (IsIdText digits)
    turn true is = let p = and_parts _ _ is in (ltb-true _ (2 ^ 64) p.1, (bytes_eq-Decides _ _).0 p.0)
    turn false is = tt

id_none : (digits : List ℕ) → ((id : ℕ) → id < 2 ^ 64 → digits ≡ decimal id → ⊥) → None ≡ id_in digits
id_none digits other = turn (id_in digits) (id_text digits)
  where
    turn : (o : Option ℕ) → IfSome o (IsIdText digits) → None ≡ o
    turn None text = refl
    turn (Some id) text = absurd (other id text.0 text.1)

pub id_unparsed : {E : Type 0} (digits : List ℕ) (r : Result ℕ E) (e : E) → ParsesUnsigned 64 10 digits r → r ≡ Err e → None ≡ id_in digits
id_unparsed digits r e parses is = id_none digits (λ id small text. let read = parse-decimal 64 id digits r small small text parses in cc)

pub id_parsed : {E : Type 0} (digits : List ℕ) (r : Result ℕ E) (id : ℕ) → ParsesUnsigned 64 10 digits r → r ≡ Ok id → digits ≡ decimal id → Some id ≡ id_in digits
id_parsed digits r id parses is text =
    let p = rw is at parses in
    id_is digits id (subst (λ (n : ℕ). n < 2 ^ 64) (sym p.1) p.0.1) text

pub id_other : {E : Type 0} (digits : List ℕ) (r : Result ℕ E) (id : ℕ) → ParsesUnsigned 64 10 digits r → r ≡ Ok id → (digits ≡ decimal id → ⊥) → None ≡ id_in digits
id_other digits r id parses is other =
    id_none digits (λ n small text.
    let read = parse-decimal 64 n digits r small small text parses in
    let one : n ≡ id = cc in
    other (text ∙ ap decimal one))

-- ---- fields

abbrev IsReferenceText : List ℕ → ℕ → Type 0
IsReferenceText field id = (id < 2 ^ 64) × (field ≡ 35 ∷ decimal id)

reference_text : (field : List ℕ) → IfSome (reference_in field) (IsReferenceText field)
reference_text [] = tt
reference_text (byte ∷ digits) = turn (byte == 35) refl
  where
    mark : byte ≡ 35 → (o : Option ℕ) → IfSome o (IsIdText digits) → IfSome o (IsReferenceText (byte ∷ digits))
    mark e None text = tt
    mark e (Some id) text = (text.0, ap (λ (b : ℕ). b ∷ digits) e ∙ ap (λ (l : List ℕ). 35 ∷ l) text.1)

    turn : (b : Bool) → (byte == 35) ≡ b → IfSome (if b then id_in digits else None) (IsReferenceText (byte ∷ digits))
    turn true is = mark (eqb-true byte 35 is) (id_in digits) (id_text digits)
    turn false is = tt

-- the value by what was found of it
abbrev chosen : Option ℤ → Option ℕ → List ℕ → Value
chosen int id field = unwrap_or (option_or (option_map Int int) (option_map Reference id)) (plain_value field)

chosen_text : (int : Option ℤ) (id : Option ℕ) (field : List ℕ) → IfSome int (IsIntText field) → IfSome id (IsReferenceText field) → value_field (chosen int id field) ≡ field
chosen_text (Some z) id field i r = sym i.1
chosen_text None (Some id) field i r = sym r.1
chosen_text None None [] i r = refl
chosen_text None None (b ∷ bs) i r = refl

-- a value is written as the field that it was read from
pub field_kept : (field : List ℕ) → value_field (field_value field) ≡ field
unfolding field_value
field_kept field = chosen_text (int_in field) (reference_in field) field (int_text field) (reference_text field)

chosen_texts : (P : List ℕ → Type 0) (int : Option ℤ) (id : Option ℕ) (field : List ℕ) → IfSome int (IsIntText field) → P field → ValueTexts P (chosen int id field)
chosen_texts P (Some z) id field fits p = fits.0
chosen_texts P None (Some id) field fits p = tt
chosen_texts P None None [] fits p = tt
chosen_texts P None None (b ∷ bs) fits p = p

-- what holds of a field holds of the text that is read of it
pub field_texts : (P : List ℕ → Type 0) (field : List ℕ) → P field → ValueTexts P (field_value field)
unfolding field_value
field_texts P field p = chosen_texts P (int_in field) (reference_in field) field (int_text field) p

-- ---- values

-- the text of a reference is no integer's
no_int : (id : ℕ) (z : ℤ) → id < 2 ^ 64 → FitsSigned w64 z → 35 ∷ decimal id ≡ signed_decimal z → ⊥
unfolding literal_of
no_int id z small fits e = let one = same_value (Reference id) (Int z) small fits e in cc

-- an integer's text isn't empty
no_empty : (z : ℤ) → FitsSigned w64 z → [] ≡ signed_decimal z → ⊥
no_empty (pos n) fits e =
    let some = (decimal_is_IsNumeral n (omega (arith, fits.sfits))).0.0 in
    let none : 0 ≡ length (decimal n) = ap (λ (l : List ℕ). length l) e in
    omega (arith, some, none)
no_empty (negsuc n) fits e = cc

-- null, an integer and a reference are read back
pub value_back : (value : Value) → IsValue value → IsNoText value → field_value (value_field value) ≡ value
unfolding field_value
value_back Null ok plain = ap (λ (o : Option ℤ). chosen o None []) (sym (int_none [] (λ z fits e. no_empty z fits e)))
value_back (Int z) ok plain = ap (λ (o : Option ℤ). chosen o (reference_in (signed_decimal z)) (signed_decimal z)) (sym (int_is (signed_decimal z) z ok refl))
value_back (Text text) ok plain = absurd plain
value_back (Reference id) ok plain =
    ap (λ (o : Option ℤ). chosen o (id_in (decimal id)) (35 ∷ decimal id)) (sym (int_none (35 ∷ decimal id) (λ z fits e. no_int id z ok fits e)))
    ∙ ap (λ (o : Option ℕ). chosen None o (35 ∷ decimal id)) (sym (id_is (decimal id) id ok refl))
