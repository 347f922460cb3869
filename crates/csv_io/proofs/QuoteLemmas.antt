-- A record of texts is written as a text.
use Rattle.std.specs.Prelude.{◌==◌, IsUtf8, encode_utf8, encode_utf8_all, if◌then◌else◌}
use Rattle.std.specs.List.{list_any}
use Rattle.std.specs.Str.{all_scalars}
use Rattle.std.proofs.Common.{◌≡◌, ◌≤◌, ◌<◌, ℕ, List, [], ◌∷◌, ◌++◌, Bool, true, false, refl, sym, subst, ⊎_elim, arith}
use Rattle.std.proofs.lemmas.Bool.{cases_lt, ne_eqb, or_from}
use Rattle.std.proofs.lemmas.Str.{IsUtf8-append, IsUtf8-nil, encode_ascii}
use Rattle.csv.specs.Records.{AllText}
use Rattle.csv.specs.Writing.{default_writer, escaped, field_text, fields_text, is_blank, needs_quotes, quoted, row_body, row_text}
use Rattle.csv.proofs.WriteFacts.{escaped-append, escaped-none}
use Rattle.csv_io.proofs.ByteLemmas.{AreHigh, ascii_cons, ascii_text, char_high, first_char}
use Rattle.csv_io.proofs.RecordLemmas.{if_all}

-- no byte above ASCII is a quote
no_quote : (xs : List ℕ) → AreHigh xs → list_any (λ b. b == 34) xs ≡ false
no_quote [] h = refl
no_quote (b ∷ bs) h = or_from (b == 34) _ (ne_eqb b 34 (λ e. let l = h.0 in omega (arith, e, l))) (no_quote bs h.1)

-- a character between quotes
escaped_char : (c : ℕ) → IsUtf8 (encode_utf8 c) → IsUtf8 (escaped default_writer (encode_utf8 c))
unfolding escaped
escaped_char c u = ⊎_elim low high (cases_lt c 128)
  where
    high : 128 ≤ c → IsUtf8 (escaped default_writer (encode_utf8 c))
    high l = subst IsUtf8 (sym (escaped-none default_writer (encode_utf8 c) (no_quote (encode_utf8 c) (char_high c l)))) u

    one : c < 128 → IsUtf8 (escaped default_writer (c ∷ []))
    one l = if_all IsUtf8 (c == 34) (34 ∷ c ∷ []) (c ∷ []) (ascii_cons 34 (c ∷ []) (omega arith) (ascii_text c l)) (ascii_text c l)

    low : c < 128 → IsUtf8 (escaped default_writer (encode_utf8 c))
    low l = subst (λ (w : List ℕ). IsUtf8 (escaped default_writer w)) (sym (encode_ascii c l)) (one l)

escaped_chars : (cs : List ℕ) → all_scalars cs ≡ true → IsUtf8 (escaped default_writer (encode_utf8_all cs))
unfolding escaped
escaped_chars [] e = IsUtf8-nil
escaped_chars (c ∷ cs) e =
    let p = first_char c cs e in
    subst IsUtf8 (sym (escaped-append default_writer (encode_utf8 c) (encode_utf8_all cs)))
    (IsUtf8-append (escaped default_writer (encode_utf8 c)) (escaped default_writer (encode_utf8_all cs)) (escaped_char c p.0) (escaped_chars cs p.1))

quoted_utf8 : (field : List ℕ) → IsUtf8 field → IsUtf8 (quoted default_writer field)
quoted_utf8 field u =
    let inner = subst (λ (w : List ℕ). IsUtf8 (escaped default_writer w)) u.1.1 (escaped_chars u.0 u.1.0) in
    ascii_cons 34 _ (omega arith) (IsUtf8-append (escaped default_writer field) (34 ∷ []) inner (ascii_text 34 (omega arith)))

field_utf8 : (field : List ℕ) → IsUtf8 field → IsUtf8 (field_text default_writer field)
field_utf8 field u = if_all IsUtf8 (needs_quotes default_writer field) (quoted default_writer field) field (quoted_utf8 field u) u

fields_utf8 : (fields : List (List ℕ)) → AllText fields → IsUtf8 (fields_text default_writer fields)
unfolding AllText fields_text
fields_utf8 [] h = IsUtf8-nil
fields_utf8 (f ∷ fs) h = ascii_cons 44 _ (omega arith) (IsUtf8-append (field_text default_writer f) (fields_text default_writer fs) (field_utf8 f h.0) (fields_utf8 fs h.1))

body_utf8 : (fields : List (List ℕ)) → AllText fields → IsUtf8 (row_body default_writer fields)
unfolding AllText
body_utf8 [] h = IsUtf8-nil
body_utf8 (f ∷ fs) h = IsUtf8-append (field_text default_writer f) (fields_text default_writer fs) (field_utf8 f h.0) (fields_utf8 fs h.1)

end_utf8 : (b : Bool) → IsUtf8 ((if b then 34 ∷ 34 ∷ [] else []) ++ 10 ∷ [])
end_utf8 true = ascii_cons 34 _ (omega arith) (ascii_cons 34 _ (omega arith) (ascii_text 10 (omega arith)))
end_utf8 false = ascii_text 10 (omega arith)

-- a record of texts
pub row_utf8 : (fields : List (List ℕ)) → AllText fields → IsUtf8 (row_text default_writer fields)
row_utf8 fields h = IsUtf8-append (row_body default_writer fields) _ (body_utf8 fields h) (end_utf8 (is_blank default_writer fields))
