-- The records of a text: how far they reach, that they are all, and how long their fields are.
use Rattle.std.specs.Prelude.{◌==◌, ◌&&◌, ◌-◌, Option, Some, None, ⊤, if◌then◌else◌}
use Rattle.std.specs.List.{All}
use Rattle.std.proofs.Common.{◌≡◌, ◌<◌, ◌≤◌, ◌+◌, ◌∙◌, ℕ, zero, suc, List, [], ◌∷◌, ◌++◌, Bool, true, false, length, map, length-append, refl, sym, ap, subst, arith}
use Rattle.statements.specs.Texts.{RowTexts}
use Rattle.csv.specs.Machine.{Read, after_end, carriage_return, ends_at_end, ends_with, field_after, fields_after, in_field, is_byte, is_end, line_feed, next_record, start_field, start_record, step}
use Rattle.csv.specs.Reading.{Reached, default_config, is_bom, records_from, records_next, strip_bom}
use Rattle.csv.specs.declared.parser.Action.{Action}
use Rattle.csv.specs.declared.parser.Action.TheVariants as act
use Rattle.csv.specs.declared.parser.Config.{Config}
use Rattle.csv.specs.declared.parser.State.{State}
use Rattle.csv.specs.declared.parser.State.TheVariants as st
use Rattle.csv.specs.declared.parser.Terminator.{Terminator}
use Rattle.csv.specs.declared.parser.Terminator.TheVariants as term
use Rattle.csv_io.specs.Fields.{field_value}
use Rattle.csv_io.specs.Tables.{csv_rows}
use Rattle.csv_io.proofs.FieldLemmas.{field_texts}

pub if_all : {X : Type 0} (Q : X → Type 0) (b : Bool) (x y : X) → Q x → Q y → Q (if b then x else y)
if_all Q true x y p q = p
if_all Q false x y p q = q

-- ---- the state after a record

-- a step that ends a record leaves no record begun
abbrev EndsWell : State × Action → Type 0
EndsWell q = is_end q.1 ≡ true → ends_at_end q.0 ≡ false

end_well : (t : Terminator) (c : ℕ) → EndsWell (after_end t c, act.EndRecord)
end_well term.CRLF c e = if_all (λ (s : State). ends_at_end s ≡ false) (c == carriage_return) st.AfterCr st.StartRecord refl refl
end_well (term.Any t) c e = refl

in_field_well : (cfg : Config) (c : ℕ) → EndsWell (in_field cfg c)
in_field_well cfg c =
    if_all EndsWell (c == cfg.delimiter) _ _ (λ e. cc)
    (if_all EndsWell (ends_with cfg.terminator c) (after_end cfg.terminator c, act.EndRecord) (st.InField, act.Copy) (end_well cfg.terminator c) (λ e. cc))

start_field_well : (cfg : Config) (c : ℕ) → EndsWell (start_field cfg c)
start_field_well cfg c = if_all EndsWell (cfg.quoting && (c == cfg.quote)) (st.InQuoted, act.Skip) (in_field cfg c) (λ e. cc) (in_field_well cfg c)

start_record_well : (cfg : Config) (c : ℕ) → EndsWell (start_record cfg c)
start_record_well cfg c =
    if_all EndsWell (ends_with cfg.terminator c) (st.StartRecord, act.Skip) _ (λ e. cc)
    (if_all EndsWell (is_byte cfg.comment c) (st.InComment, act.Skip) (start_field cfg c) (λ e. cc) (start_field_well cfg c))

step_well : (cfg : Config) (s : State) (c : ℕ) → EndsWell (step cfg s c)
step_well cfg st.StartRecord c = start_record_well cfg c
step_well cfg st.StartField c = start_field_well cfg c
step_well cfg st.InField c = in_field_well cfg c
step_well cfg st.InQuoted c =
    if_all EndsWell (cfg.quoting && (c == cfg.quote)) (st.AfterQuote, act.Skip) _ (λ e. cc)
    (if_all EndsWell (cfg.quoting && is_byte cfg.escape c) (st.InEscape, act.Skip) (st.InQuoted, act.Copy) (λ e. cc) (λ e. cc))
step_well cfg st.InEscape c = λ e. cc
step_well cfg st.AfterQuote c = if_all EndsWell (cfg.quoting && cfg.double_quote && (c == cfg.quote)) (st.InQuoted, act.Copy) (in_field cfg c) (λ e. cc) (in_field_well cfg c)
step_well cfg st.InComment c = if_all EndsWell (c == line_feed) (st.StartRecord, act.Skip) (st.InComment, act.Skip) (λ e. cc) (λ e. cc)
step_well cfg st.AfterCr c = if_all EndsWell (c == line_feed) (st.StartRecord, act.Skip) (start_record cfg c) (λ e. cc) (start_record_well cfg c)

-- ---- one record

-- each field has at most n bytes
abbrev pub AreShort : ℕ → List (List ℕ) → Type 0
AreShort n [] = ⊤
AreShort n (f ∷ fs) = (length f ≤ n) × AreShort n fs

short_more : (n : ℕ) (fs : List (List ℕ)) (f : List ℕ) → AreShort n fs → length f ≤ n → AreShort n (fs ++ f ∷ [])
short_more n [] f h l = (l, tt)
short_more n (x ∷ fs) f h l = (h.0, short_more n fs f h.1 l)

-- a record was read of these bytes
pub record IsRead (n : ℕ) (xs : List ℕ) (p : Read) : Type 0 where
  pub fields : AreShort n p.0
  pub rest : length p.2 ≤ length xs - 1
  pub between : ends_at_end p.1 ≡ false

short_after : (n : ℕ) (a : Action) (fields : List (List ℕ)) (field : List ℕ) → AreShort n fields → length field ≤ n → AreShort n (fields_after a fields field)
short_after n act.EndField fields field h l = short_more n fields field h l
short_after n act.Skip fields field h l = h
short_after n act.Copy fields field h l = h
short_after n act.EndRecord fields field h l = short_more n fields field h l

field_grows : (a : Action) (c : ℕ) (field : List ℕ) → length (field_after a c field) ≤ length field + 1
field_grows act.Copy c field = omega (arith, length-append field (c ∷ []))
field_grows act.EndField c field = omega arith
field_grows act.Skip c field = omega arith
field_grows act.EndRecord c field = omega arith

pub read_is : (cfg : Config) (n : ℕ) (s : State) (fields : List (List ℕ)) (field xs : List ℕ) (p : Read) → AreShort n fields → length field + length xs ≤ n
    → next_record cfg s fields field xs ≡ Some p → IsRead n xs p
unfolding next_record
read_is cfg n s fields field [] p short l is = turn (ends_at_end s) is
  where
    turn : (b : Bool) → (if b then Some (fields ++ (field ∷ []), st.StartRecord, []) else None) ≡ Some p → IsRead n [] p
    turn true e =
        let q : (fields ++ (field ∷ []), st.StartRecord, []) ≡ p = cc in
        subst (IsRead n []) q (record { fields = short_more n fields field short (omega (arith, l)); rest = omega arith; between = refl })
    turn false e = cc
read_is cfg n s fields field (c ∷ rest) p short l is =
    turn (is_end (step cfg s c).1) refl is
    (read_is cfg n (step cfg s c).0 (fields_after (step cfg s c).1 fields field) (field_after (step cfg s c).1 c field) rest p
    (short_after n (step cfg s c).1 fields field short (omega (arith, l))) (let g = field_grows (step cfg s c).1 c field in omega (arith, g, l)))
  where
    Next : Bool → Option Read
    Next b = if b then Some (fields_after (step cfg s c).1 fields field, (step cfg s c).0, rest) else next_record cfg (step cfg s c).0 (fields_after (step cfg s c).1 fields field) (field_after (step cfg s c).1 c field) rest

    turn : (b : Bool) → is_end (step cfg s c).1 ≡ b → Next b ≡ Some p
        → (next_record cfg (step cfg s c).0 (fields_after (step cfg s c).1 fields field) (field_after (step cfg s c).1 c field) rest ≡ Some p → IsRead n rest p)
        → IsRead n (c ∷ rest) p
    turn true ends e more =
        let q : (fields_after (step cfg s c).1 fields field, (step cfg s c).0, rest) ≡ p = cc in
        subst (IsRead n (c ∷ rest)) q (record { fields = short_after n (step cfg s c).1 fields field short (omega (arith, l)); rest = omega arith; between = step_well cfg s c ends })
    turn false ends e more =
        let r = more e in
        let less = r.rest in
        record { fields = r.fields; rest = omega (arith, less); between = r.between }

-- ---- all records

-- where no record has begun, the end of the text is no record
none_at_end : (cfg : Config) (s : State) → ends_at_end s ≡ false → next_record cfg s [] [] [] ≡ None
unfolding next_record
none_at_end cfg s b = ap (λ (t : Bool). if t then Some ([] ∷ [], st.StartRecord, []) else None) b

some_left : (cfg : Config) (s : State) (xs : List ℕ) (p : Read) → ends_at_end s ≡ false → next_record cfg s [] [] xs ≡ Some p → 0 < length xs
some_left cfg s [] p b is = let none = none_at_end cfg s b in cc
some_left cfg s (c ∷ rest) p b is = omega arith

-- records up to the end of the text are all of its records
pub records_are : (cfg : Config) (rows : List (List (List ℕ))) (n : ℕ) (s s2 : State) (xs ys : List ℕ) → ends_at_end s ≡ false → length xs < n
    → Reached cfg s xs rows s2 ys → next_record cfg s2 [] [] ys ≡ None → rows ≡ records_from cfg n s xs
unfolding Reached records_from
records_are cfg rows zero s s2 xs ys b l h none = absurd (omega (arith, l))
records_are cfg [] (suc n) s s2 xs ys b l h none =
    let here : next_record cfg s [] [] xs ≡ None = rw (h.0, h.1) none in
    sym (ap (records_next (records_from cfg n)) here)
records_are cfg (r ∷ rs) (suc n) s s2 xs ys b l h none =
    let read = read_is cfg (length xs) s [] [] xs h.0 tt (omega arith) h.1 in
    let some = some_left cfg s xs h.0 b h.1 in
    let less = read.rest in
    let more = records_are cfg rs n h.0.1 s2 h.0.2 ys read.between (omega (arith, less, some, l)) h.3 none in
    ap (λ (f : List (List ℕ)). f ∷ rs) h.2 ∙ ap (λ (t : List (List (List ℕ))). h.0.0 ∷ t) more ∙ sym (ap (records_next (records_from cfg n)) h.1)

-- each record's fields have at most n bytes
abbrev AllShort : ℕ → List (List (List ℕ)) → Type 0
AllShort n [] = ⊤
AllShort n (r ∷ rs) = AreShort n r × AllShort n rs

all_short : (cfg : Config) (n k : ℕ) (s : State) (xs : List ℕ) → length xs ≤ n → AllShort n (records_from cfg k s xs)
unfolding records_from
all_short cfg n zero s xs l = tt
all_short cfg n (suc k) s xs l = turn (next_record cfg s [] [] xs) refl (all_short cfg n k)
  where
    turn : (o : Option Read) → next_record cfg s [] [] xs ≡ o → ((t : State) (ys : List ℕ) → length ys ≤ n → AllShort n (records_from cfg k t ys))
        → AllShort n (records_next (records_from cfg k) o)
    turn None is more = tt
    turn (Some p) is more =
        let read = read_is cfg n s [] [] xs p tt (omega (arith, l)) is in
        let less = read.rest in
        (read.fields, more p.1 p.2 (omega (arith, less, l)))

-- ---- rows

row_texts : (n : ℕ) (fields : List (List ℕ)) → AreShort n fields → RowTexts (λ bytes. length bytes ≤ n) (map field_value fields)
row_texts n [] h k d lt = absurd (omega (arith, lt))
row_texts n (f ∷ fs) h zero d lt = field_texts (λ bytes. length bytes ≤ n) f h.0
row_texts n (f ∷ fs) h (suc k) d lt = row_texts n fs h.1 k d (omega (arith, lt))

rows_texts : (n : ℕ) (rs : List (List (List ℕ))) → AllShort n rs → All (RowTexts (λ bytes. length bytes ≤ n)) (map (map field_value) rs)
rows_texts n [] h k d lt = absurd (omega (arith, lt))
rows_texts n (r ∷ rs) h zero d lt = row_texts n r h.0
rows_texts n (r ∷ rs) h (suc k) d lt = rows_texts n rs h.1 k d (omega (arith, lt))

strip_short : (text : List ℕ) → length (strip_bom text) ≤ length text
unfolding strip_bom
strip_short [] = omega arith
strip_short (a ∷ []) = omega arith
strip_short (a ∷ b ∷ []) = omega arith
strip_short (a ∷ b ∷ c ∷ rest) = if_all (λ (l : List ℕ). length l ≤ length (a ∷ b ∷ c ∷ rest)) (is_bom a b c) rest (a ∷ b ∷ c ∷ rest) (omega arith) (omega arith)

pub texts_within : (text : List ℕ) → All (RowTexts (λ bytes. length bytes ≤ length text)) (csv_rows text)
unfolding csv_rows
texts_within text = rows_texts (length text) _ (all_short default_config (length text) _ st.StartRecord (strip_bom text) (strip_short text))
