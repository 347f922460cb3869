-- Single tokens of canonical texts: words, names, signs, literals.
use Rattle.std.proofs.Common.{◌≡◌, ◌++◌, ◌∷◌, [], ℕ, suc, ◌+◌, ◌-◌, ◌*◌, ◌^◌, ◌≤◌, ◌<◌, List, Bool, true, false, length, length-append, take, flat_map, cond, nat_le, refl, ap, ◌∙◌, sym, subst, append_assoc, arith}
use Rattle.std.specs.Prelude.{Option, Some, None, map, ◌==◌, ◌&&◌, not, codes, decimal, IsUtf8, pos, negsuc}
use Rattle.std.specs.List.{list_all, AllPass}
use Rattle.std.proofs.lemmas.Str.{is_utf8-from_IsUtf8}
use Rattle.std.proofs.lemmas.Bool.{and_parts, le-leb, leb-true}
use Rattle.std.proofs.lemmas.Bool.Decides.{nat_tests}
use Rattle.std.proofs.lemmas.List.Sums.{AllPass-from_list_all}
use Rattle.std.proofs.lemmas.List.{take-append-le, take_all}
use Rattle.std.specs.Char.{digit_value}
use Rattle.std.specs.Str.Parse.{AllDigits, digits_value_after}
use Rattle.std.proofs.lemmas.Str.{digit_value_digit}
use Rattle.std.proofs.lemmas.Str.Parse.{digit_from_value}
use Rattle.std.proofs.lemmas.Fmt.{decimal_is_IsNumeral}
use Rattle.par_base.specs.Names.{is_name, is_name_byte, begins_with_digit, is_reserved, folded}
use Rattle.par_base.specs.Names as names
use Rattle.par_base.specs.declared.value.Value.{Value}
use Rattle.par_base.specs.declared.value.Value.TheVariants.{Null, Int, Text, Reference}
use Rattle.par_base.specs.Literals.{literal_of, quoted, doubled, undoubled}
use Rattle.par_base.proofs.LiteralLaws.{undoubled-doubled}
use Rattle.bidel_lex.specs.declared.tokens.TokenKind.{TokenKind}
use Rattle.bidel_lex.specs.declared.tokens.TokenKind.TheVariants as kind
use Rattle.bidel_lex.specs.Classes.{is_word_start, is_word_byte}
use Rattle.bidel_lex.specs.Spelled.{CanFollow, Spells, IsWord, goes_on, doubled as doubled_bytes}
use Rattle.phrases.specs.Phrases.{Nothing, Seq, OneOf}
use Rattle.bidel_expr.specs.Lexemes.{Lexeme, word, number, reference, «text», lexeme_of, name_of, between, unsigned_of, negative_of, value_after}
use Rattle.bidel_text.proofs.Written.{Written, token, ends, word_end, digit_end, quote_end, Front, blank}

-- ---- what may follow

-- anything may follow a sign that no byte makes longer
pub lone_follows : (s : ℕ) → ((b : ℕ) → goes_on kind.Symbol (s ∷ []) b ≡ false) → (rest : List ℕ) → CanFollow kind.Symbol (s ∷ []) true rest
lone_follows s h [] = refl
lone_follows s h (b ∷ rest) = h b

pub word_follows : (w rest : List ℕ) → ends rest ≡ true → CanFollow kind.Word w true rest
word_follows w [] h = refl
word_follows w (b ∷ rest) h = word_end b h

pub number_follows : (w rest : List ℕ) → ends rest ≡ true → CanFollow kind.Number w true rest
number_follows w [] h = refl
number_follows w (b ∷ rest) h = digit_end b h

pub reference_follows : (w rest : List ℕ) → ends rest ≡ true → CanFollow kind.Reference w true rest
reference_follows w [] h = refl
reference_follows w (b ∷ rest) h = digit_end b h

pub text_follows : (w rest : List ℕ) → ends rest ≡ true → CanFollow kind.Text w true rest
text_follows w [] h = refl
text_follows w (b ∷ rest) h = quote_end b h

-- ---- a token and what stands behind it

module _ {X B : Type 0} (f : Lexeme → Option X) (x : X) (k : TokenKind) (w : List ℕ) (spells : Spells k w) (is : f (lexeme_of k w) ≡ Some x) where
  pub then_token : (T : X → List Lexeme → B → Type 0) (bytes : List ℕ) (b : B)
      → ((rest : List ℕ) → ends rest ≡ true → CanFollow k w true (bytes ++ rest)) → Front (T x) bytes b → Front (Seq (OneOf f) T) (w ++ bytes) b
  then_token T bytes b follows h = record {
    tokens = lexeme_of k w ∷ h.tokens;
    spelled = record { value = x; left = lexeme_of k w ∷ []; right = h.tokens; whole = refl; first = (lexeme_of k w, refl, is); second = h.spelled };
    written = λ rest us e r. subst (λ (l : List ℕ). Written l (lexeme_of k w ∷ (h.tokens ++ us))) (sym (append_assoc w bytes rest))
        (token k w (bytes ++ rest) (h.tokens ++ us) spells (follows rest e) (h.written rest us e r));
  }

-- nothing more
pub nothing_front : {A : Type 0} (a : A) → Front (Nothing a) [] a
nothing_front a = record { tokens = []; spelled = (refl, refl); written = λ rest us e r. r }

-- a space before a phrase
pub spaced : {A : Type 0} (S : List Lexeme → A → Type 0) (bytes : List ℕ) (a : A) → Front S bytes a → Front S (32 ∷ bytes) a
spaced S bytes a h = record { tokens = h.tokens; spelled = h.spelled; written = λ rest us e r. blank (bytes ++ rest) (h.tokens ++ us) (h.written rest us e r) }

-- ---- words

abbrev pub is_word_text : List ℕ → Bool
is_word_text [] = false
is_word_text (b ∷ bytes) = is_word_start b && (list_all is_word_byte bytes && nat_le (length bytes) 63)

pub word_spelled : (w : List ℕ) → is_word_text w ≡ true → Spells kind.Word w
word_spelled [] h = cc
word_spelled (b ∷ bytes) h =
    let p = and_parts (is_word_start b) (list_all is_word_byte bytes && nat_le (length bytes) 63) h in
    let q = and_parts (list_all is_word_byte bytes) (nat_le (length bytes) 63) p.1 in
    (p.0, AllPass-from_list_all is_word_byte bytes q.0, omega (arith, leb-true (length bytes) 63 q.1))

-- a name is a word in lower case
name_byte_word : (b : ℕ) → is_name_byte b ≡ true → is_word_byte b ≡ true
name_byte_word b h = grind (arith, nat_tests)

name_byte_start : (b : ℕ) → is_name_byte b ≡ true → not (names.is_digit b) ≡ true → is_word_start b ≡ true
name_byte_start b h k = grind (arith, nat_tests)

name_byte_folded : (b : ℕ) → is_name_byte b ≡ true → folded b ≡ b
name_byte_folded b h = let small : nat_le 65 b && nat_le b 90 ≡ false = grind (arith, nat_tests) in ap (λ (t : Bool). cond t (b + 32) b) small

name_bytes_word : (bs : List ℕ) → list_all is_name_byte bs ≡ true → AllPass is_word_byte bs
name_bytes_word bs h = AllPass-from_list_all is_word_byte bs (by bs h)
  where
    by : (bs : List ℕ) → list_all is_name_byte bs ≡ true → list_all is_word_byte bs ≡ true
    by [] h = refl
    by (b ∷ bs) h = let p = and_parts (is_name_byte b) (list_all is_name_byte bs) h in rw (name_byte_word b p.0, by bs p.1) refl

name_bytes_folded : (bs : List ℕ) → list_all is_name_byte bs ≡ true → map folded bs ≡ bs
name_bytes_folded [] h = refl
name_bytes_folded (b ∷ bs) h =
    let p = and_parts (is_name_byte b) (list_all is_name_byte bs) h in
    ap (λ (n : ℕ). n ∷ map folded bs) (name_byte_folded b p.0) ∙ ap (λ (l : List ℕ). b ∷ l) (name_bytes_folded bs p.1)

pub record NameParts (w : List ℕ) : Type 0 where
  pub one : 1 ≤ length w
  pub most : length w ≤ 64
  pub each : list_all is_name_byte w ≡ true
  pub no_digit : not (begins_with_digit w) ≡ true

pub name_parts : (w : List ℕ) → is_name w ≡ true → NameParts w
unfolding is_name
name_parts w h =
    let p = and_parts (nat_le 1 (length w) && nat_le (length w) 64) (list_all is_name_byte w && (not (begins_with_digit w) && not (is_reserved w))) h in
    let s = and_parts (nat_le 1 (length w)) (nat_le (length w) 64) p.0 in
    let q = and_parts (list_all is_name_byte w) (not (begins_with_digit w) && not (is_reserved w)) p.1 in
    let r = and_parts (not (begins_with_digit w)) (not (is_reserved w)) q.1 in
    record { one = leb-true 1 (length w) s.0; most = leb-true (length w) 64 s.1; each = q.0; no_digit = r.0 }

pub name_spelled : (w : List ℕ) → is_name w ≡ true → Spells kind.Word w
name_spelled w h = by w (name_parts w h)
  where
    by : (w : List ℕ) → NameParts w → IsWord w
    by [] p = absurd (omega (arith, p.one))
    by (b ∷ bs) p =
        let q = and_parts (is_name_byte b) (list_all is_name_byte bs) p.each in
        (name_byte_start b q.0 p.no_digit, name_bytes_word bs q.1, omega (arith, p.most))

pub name_said : (w : List ℕ) → is_name w ≡ true → name_of (lexeme_of kind.Word w) ≡ Some w
name_said w h =
    let p = name_parts w h in
    ap (λ (l : List ℕ). name_of (word l)) (name_bytes_folded w p.each) ∙ ap (λ (t : Bool). cond t (Some w) None) h

-- ---- literals

-- a value that a literal can write
abbrev pub IsWritable : Value → Type 0
IsWritable Null = Unit {0}
IsWritable (Int (pos n)) = n ≤ 2 ^ 63 - 1
IsWritable (Int (negsuc n)) = n + 1 ≤ 2 ^ 63
IsWritable (Text bytes) = IsUtf8 bytes
IsWritable (Reference id) = id ≤ 2 ^ 64 - 1

-- a number in decimal
pub number_spelled : (n : ℕ) → n ≤ 2 ^ 63 → Spells kind.Number (decimal n)
number_spelled n small = let d = decimal_is_IsNumeral n (omega (arith, small)) in (d.0, omega (arith, d.1, small))

-- digits have the value that they write in decimal
digits_say : (value : ℕ) (digits : List ℕ) → AllDigits 10 digits → value_after value digits ≡ digits_value_after 10 value digits
unfolding value_after
digits_say value [] h = refl
digits_say value (digit ∷ digits) h =
    let same : 10 * value + (digit - 48) ≡ value * 10 + digit_value digit = omega (arith, digit_value_digit digit (digit_from_value digit h.0)) in
    digits_say (10 * value + (digit - 48)) digits h.1 ∙ ap (λ (n : ℕ). digits_value_after 10 n digits) same

pub number_value : (n : ℕ) → n < 2 ^ 64 → value_after 0 (decimal n) ≡ n
number_value n small = let d = decimal_is_IsNumeral n small in digits_say 0 (decimal n) d.0.1 ∙ d.1

-- the lexer's words for a quote twice
doubled_more : (b : ℕ) (bytes more : List ℕ) → doubled_bytes bytes ≡ more → doubled_bytes (b ∷ bytes) ≡ doubled b ++ more
unfolding doubled_bytes
doubled_more b bytes more same = by (b == 39)
  where
    by : (t : Bool) → cond t (39 ∷ 39 ∷ doubled_bytes bytes) (b ∷ doubled_bytes bytes) ≡ cond t (39 ∷ 39 ∷ []) (b ∷ []) ++ more
    by true = ap (λ (l : List ℕ). 39 ∷ 39 ∷ l) same
    by false = ap (λ (l : List ℕ). b ∷ l) same

one_doubling : (bytes : List ℕ) → doubled_bytes bytes ≡ flat_map doubled bytes
unfolding doubled_bytes
one_doubling [] = refl
one_doubling (b ∷ bytes) = doubled_more b bytes (flat_map doubled bytes) (one_doubling bytes)

between_quotes : (body : List ℕ) → between (39 ∷ (body ++ 39 ∷ [])) ≡ body
between_quotes body = let long : length (39 ∷ (body ++ 39 ∷ [])) - 2 ≡ length body = omega (arith, length-append body (39 ∷ [])) in
    ap (λ (n : ℕ). take n (body ++ 39 ∷ [])) long ∙ take-append-le (length body) body (39 ∷ []) (omega arith) ∙ take_all (length body) body (omega arith)

pub text_spelled : (bytes : List ℕ) → IsUtf8 bytes → Spells kind.Text (quoted bytes)
text_spelled bytes h = record { body = bytes; utf8 = h; quoted = ap (λ (l : List ℕ). 39 ∷ (l ++ 39 ∷ [])) (sym (one_doubling bytes)) }

pub text_said : (bytes : List ℕ) → undoubled false (between (quoted bytes)) ≡ bytes
text_said bytes = ap (undoubled false) (between_quotes (flat_map doubled bytes)) ∙ undoubled-doubled bytes

-- a literal of one token
pub record OneToken (v : Value) : Type 0 where
  pub kind : TokenKind
  pub spelled : Spells kind (literal_of v)
  pub says : unsigned_of (lexeme_of kind (literal_of v)) ≡ Some v
  pub follows : (rest : List ℕ) → ends rest ≡ true → CanFollow kind (literal_of v) true rest

abbrev pub is_negative : Value → Bool
is_negative Null = false
is_negative (Int (pos n)) = false
is_negative (Int (negsuc n)) = true
is_negative (Text bytes) = false
is_negative (Reference id) = false

pub one_token : (v : Value) → IsWritable v → is_negative v ≡ false → OneToken v
unfolding literal_of
one_token Null h p = record { kind = kind.Word; spelled = word_spelled (codes "null") refl; says = refl; follows = word_follows (codes "null") }
one_token (Int (pos n)) h p = record {
  kind = kind.Number;
  spelled = number_spelled n (omega (arith, h));
  says = ap (λ (m : ℕ). unsigned_of (number m)) (number_value n (omega (arith, h))) ∙ ap (λ (b : Bool). cond b (Some (Int (pos n))) None) (le-leb n (2 ^ 63 - 1) h);
  follows = number_follows (decimal n);
}
one_token (Int (negsuc n)) h p = cc
one_token (Text bytes) h p = record {
  kind = kind.Text;
  spelled = text_spelled bytes h;
  says = ap (λ (l : List ℕ). unsigned_of («text» l)) (text_said bytes) ∙ ap (λ (b : Bool). cond b (Some (Text bytes)) None) (is_utf8-from_IsUtf8 bytes h);
  follows = text_follows (quoted bytes);
}
one_token (Reference id) h p =
    let d = decimal_is_IsNumeral id (omega (arith, h)) in record {
      kind = kind.Reference;
      spelled = (refl, (d.0, omega (arith, d.1, h)));
      says = ap (λ (m : ℕ). unsigned_of (reference m)) (number_value id (omega (arith, h))) ∙ ap (λ (b : Bool). cond b (Some (Reference id)) None) (le-leb id (2 ^ 64 - 1) h);
      follows = reference_follows (35 ∷ decimal id);
    }

-- the number behind a sign
pub negative_said : (n : ℕ) → n + 1 ≤ 2 ^ 63 → negative_of (lexeme_of kind.Number (decimal (suc n))) ≡ Some (Int (negsuc n))
negative_said n h =
    ap (λ (m : ℕ). negative_of (number m)) (number_value (suc n) (omega (arith, h)))
    ∙ ap (λ (b : Bool). cond b (Some (Int (negsuc n))) None) (le-leb (suc n) (2 ^ 63) (omega (arith, h)))

-- the literal text of a text
pub text_literal : (bytes : List ℕ) → literal_of (Text bytes) ≡ quoted bytes
unfolding literal_of
text_literal bytes = refl
