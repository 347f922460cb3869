-- The fields of a text are texts, so that a read from memory fails for nothing else.
use Rattle.std.specs.Prelude.{◌==◌, Option, Some, None, ⊤, IsUtf8, encode_utf8_all, if◌then◌else◌}
use Rattle.std.specs.Char.{encode_utf8}
use Rattle.std.specs.Str.{all_scalars}
use Rattle.std.proofs.Common.{◌≡◌, ◌≤◌, ◌<◌, ◌∙◌, ℕ, List, [], ◌∷◌, ◌++◌, Bool, true, false, length, append_assoc, refl, sym, ap, subst, ⊎_elim, arith}
use Rattle.std.proofs.lemmas.Bool.{and_parts, cases_lt, eqb-true, ne_eqb}
use Rattle.std.proofs.lemmas.Str.{IsUtf8-append, IsUtf8-nil, IsUtf8-past_char, encode_ascii}
use Rattle.csv.specs.Machine.{Read, Runs, ends_at_end, ends_with, field_after, fields_after, in_field, is_end, next_record, start_field, start_record, step}
use Rattle.csv.specs.Reading.{ExplainsRead, NextIs, ReadRecord, ReadsNext, default_config, is_bom, pending_of, source_of, stops_reader, strip_bom}
use Rattle.csv.specs.Records.{AllText}
use Rattle.csv.specs.declared.error.ErrorKind.{ErrorKind}
use Rattle.csv.specs.declared.error.ErrorKind.TheVariants as kind
use Rattle.csv.specs.declared.parser.Action.{Action}
use Rattle.csv.specs.declared.parser.Action.TheVariants as act
use Rattle.csv.specs.declared.parser.State.{State}
use Rattle.csv.specs.declared.parser.State.TheVariants as st
use Rattle.csv.specs.declared.reader.Reader.{Reader}
use Rattle.csv.proofs.ReadFacts.{run-copies}
use Rattle.csv.proofs.RecordFacts.{text-more}
use Rattle.csv_io.proofs.ByteLemmas.{AreHigh, ascii_text, char_high, char_some, first_char}
use Rattle.csv_io.proofs.RecordLemmas.{if_all}

-- ---- states

-- no comment has begun
abbrev pub IsPlain : State → Type 0
IsPlain st.StartRecord = ⊤
IsPlain st.StartField = ⊤
IsPlain st.InField = ⊤
IsPlain st.InQuoted = ⊤
IsPlain st.AfterQuote = ⊤
IsPlain st.InEscape = ⊤
IsPlain st.InComment = ⊥
IsPlain st.AfterCr = ⊤

abbrev GoesPlain : State × Action → Type 0
GoesPlain q = IsPlain q.0

in_field_plain : (c : ℕ) → GoesPlain (in_field default_config c)
in_field_plain c =
    if_all GoesPlain (c == 44) _ _ tt
    (if_all GoesPlain (ends_with default_config.terminator c) _ _ (if_all IsPlain (c == 13) st.AfterCr st.StartRecord tt tt) tt)

start_field_plain : (c : ℕ) → GoesPlain (start_field default_config c)
start_field_plain c = if_all GoesPlain (c == 34) (st.InQuoted, act.Skip) (in_field default_config c) tt (in_field_plain c)

start_record_plain : (c : ℕ) → GoesPlain (start_record default_config c)
start_record_plain c = if_all GoesPlain (ends_with default_config.terminator c) (st.StartRecord, act.Skip) (start_field default_config c) tt (start_field_plain c)

plain_step : (s : State) (c : ℕ) → IsPlain s → IsPlain (step default_config s c).0
plain_step st.StartRecord c p = start_record_plain c
plain_step st.StartField c p = start_field_plain c
plain_step st.InField c p = in_field_plain c
plain_step st.InQuoted c p = if_all GoesPlain (c == 34) (st.AfterQuote, act.Skip) (st.InQuoted, act.Copy) tt tt
plain_step st.AfterQuote c p = if_all GoesPlain (c == 34) (st.InQuoted, act.Copy) (in_field default_config c) tt (in_field_plain c)
plain_step st.InEscape c p = tt
plain_step st.InComment c p = absurd p
plain_step st.AfterCr c p = if_all GoesPlain (c == 10) (st.StartRecord, act.Skip) (start_record default_config c) tt (start_record_plain c)

-- the state after a byte above ASCII
abbrev joined : State → State
joined st.StartRecord = st.InField
joined st.StartField = st.InField
joined st.InField = st.InField
joined st.InQuoted = st.InQuoted
joined st.AfterQuote = st.InField
joined st.InEscape = st.InQuoted
joined st.InComment = st.InComment
joined st.AfterCr = st.InField

joined_plain : (s : State) → IsPlain s → IsPlain (joined s)
joined_plain st.StartRecord p = tt
joined_plain st.StartField p = tt
joined_plain st.InField p = tt
joined_plain st.InQuoted p = tt
joined_plain st.AfterQuote p = tt
joined_plain st.InEscape p = tt
joined_plain st.InComment p = p
joined_plain st.AfterCr p = tt

joined_twice : (s : State) → joined (joined s) ≡ joined s
joined_twice st.StartRecord = refl
joined_twice st.StartField = refl
joined_twice st.InField = refl
joined_twice st.InQuoted = refl
joined_twice st.AfterQuote = refl
joined_twice st.InEscape = refl
joined_twice st.InComment = refl
joined_twice st.AfterCr = refl

-- a byte above ASCII joins the field
joins : (s : State) (b : ℕ) → IsPlain s → 128 ≤ b → step default_config s b ≡ (joined s, act.Copy)
joins s b p l =
    at s p (ne_eqb b 13 (λ e. omega (arith, e, l))) (ne_eqb b 10 (λ e. omega (arith, e, l))) (ne_eqb b 34 (λ e. omega (arith, e, l))) (ne_eqb b 44 (λ e. omega (arith, e, l)))
  where
    at : (s : State) → IsPlain s → (b == 13) ≡ false → (b == 10) ≡ false → (b == 34) ≡ false → (b == 44) ≡ false → step default_config s b ≡ (joined s, act.Copy)
    at st.StartRecord p r n q k = rw (r, n, q, k) refl
    at st.StartField p r n q k = rw (r, n, q, k) refl
    at st.InField p r n q k = rw (r, n, k) refl
    at st.InQuoted p r n q k = rw q refl
    at st.AfterQuote p r n q k = rw (r, n, q, k) refl
    at st.InEscape p r n q k = refl
    at st.InComment p r n q k = absurd p
    at st.AfterCr p r n q k = rw (r, n, q, k) refl

runs : (x : List ℕ) (s : State) → AreHigh x → IsPlain s → joined s ≡ s → Runs default_config s x
unfolding Runs
runs [] s h p e = tt
runs (b ∷ x) s h p e = (joins s b p h.0 ∙ ap (λ (t : State). (t, act.Copy)) e, runs x s h.1 p e)

-- the bytes of a character above ASCII
char_run : (s : State) (fields : List (List ℕ)) (field w tail : List ℕ) → IsPlain s → 0 < length w → AreHigh w
    → next_record default_config s fields field (w ++ tail) ≡ next_record default_config (joined s) fields (field ++ w) tail
unfolding next_record
char_run s fields field [] tail p some h = absurd (omega (arith, some))
char_run s fields field (b ∷ x) tail p some h =
    rw (joins s b p h.0) (run-copies default_config (joined s) fields (field ++ b ∷ []) x tail (runs x (joined s) h.1 (joined_plain s p) (joined_twice s))
    ∙ ap (λ (f : List ℕ). next_record default_config (joined s) fields f tail) (append_assoc field (b ∷ []) x))

-- ---- a record

-- a record of texts was read, and a text is left
pub record IsTextRead (p : Read) : Type 0 where
  pub fields : AllText p.0
  pub state : IsPlain p.1
  pub rest : IsUtf8 p.2

texts_after : (a : Action) (fields : List (List ℕ)) (field : List ℕ) → AllText fields → IsUtf8 field → AllText (fields_after a fields field)
texts_after act.EndField fields field h u = text-more fields field h u
texts_after act.Skip fields field h u = h
texts_after act.Copy fields field h u = h
texts_after act.EndRecord fields field h u = text-more fields field h u

text_after : (a : Action) (c : ℕ) (field : List ℕ) → c < 128 → IsUtf8 field → IsUtf8 (field_after a c field)
text_after act.Copy c field l u = IsUtf8-append field (c ∷ []) u (ascii_text c l)
text_after act.EndField c field l u = IsUtf8-nil
text_after act.Skip c field l u = u
text_after act.EndRecord c field l u = IsUtf8-nil

-- what is left reads on as a text does
abbrev ReadsText : List ℕ → Type 0
ReadsText xs = (s : State) (fields : List (List ℕ)) (field : List ℕ) (p : Read) → IsPlain s → AllText fields → IsUtf8 field
    → next_record default_config s fields field xs ≡ Some p → IsTextRead p

end_reads : ReadsText []
unfolding next_record
end_reads s fields field p plain h u is = turn (ends_at_end s) is
  where
    turn : (b : Bool) → (if b then Some (fields ++ (field ∷ []), st.StartRecord, []) else None) ≡ Some p → IsTextRead p
    turn true e =
        let q : (fields ++ (field ∷ []), st.StartRecord, []) ≡ p = cc in
        subst IsTextRead q (record { fields = text-more fields field h u; state = tt; rest = IsUtf8-nil })
    turn false e = cc

ascii_reads : (c : ℕ) (rest : List ℕ) → c < 128 → IsUtf8 rest → ReadsText rest → ReadsText (c ∷ rest)
unfolding next_record
ascii_reads c rest l left more s fields field p plain h u is = turn (is_end (step default_config s c).1) is
  where
    a : Action
    a = (step default_config s c).1

    turn : (b : Bool) → (if b then Some (fields_after a fields field, (step default_config s c).0, rest) else next_record default_config (step default_config s c).0 (fields_after a fields field) (field_after a c field) rest) ≡ Some p → IsTextRead p
    turn true e =
        let q : (fields_after a fields field, (step default_config s c).0, rest) ≡ p = cc in
        subst IsTextRead q (record { fields = texts_after a fields field h u; state = plain_step s c plain; rest = left })
    turn false e = more (step default_config s c).0 (fields_after a fields field) (field_after a c field) p (plain_step s c plain) (texts_after a fields field h u) (text_after a c field l u) e

chars_read : (cs : List ℕ) → all_scalars cs ≡ true → ReadsText (encode_utf8_all cs)
chars_read [] e = end_reads
chars_read (c ∷ cs) e = ⊎_elim (low (chars_read cs (first_char c cs e).1)) (high (chars_read cs (first_char c cs e).1)) (cases_lt c 128)
  where
    low : ReadsText (encode_utf8_all cs) → c < 128 → ReadsText (encode_utf8_all (c ∷ cs))
    low more l = subst ReadsText (ap (λ (w : List ℕ). w ++ encode_utf8_all cs) (sym (encode_ascii c l)))
        (ascii_reads c (encode_utf8_all cs) l (cs, ((first_char c cs e).1, refl)) more)

    high : ReadsText (encode_utf8_all cs) → 128 ≤ c → ReadsText (encode_utf8_all (c ∷ cs))
    high more l s fields field p plain h u is =
        more (joined s) fields (field ++ encode_utf8 c) p (joined_plain s plain) h (IsUtf8-append field (encode_utf8 c) u (first_char c cs e).0)
        (sym (char_run s fields field (encode_utf8 c) (encode_utf8_all cs) plain (char_some c) (char_high c l)) ∙ is)

pub read_text : (s : State) (xs : List ℕ) (p : Read) → IsPlain s → IsUtf8 xs → next_record default_config s [] [] xs ≡ Some p → IsTextRead p
unfolding AllText
read_text s xs p plain u is = chars_read u.0 u.1.0 s [] [] p plain tt IsUtf8-nil (ap (next_record default_config s [] []) u.1.1 ∙ is)

-- ---- a reader

mark_bytes : encode_utf8 65279 ≡ 239 ∷ 187 ∷ 191 ∷ []
unfolding encode_utf8
mark_bytes = refl

-- a text without its byte order mark
pub strip_text : (text : List ℕ) → IsUtf8 text → IsUtf8 (strip_bom text)
unfolding strip_bom
strip_text [] u = u
strip_text (a ∷ []) u = u
strip_text (a ∷ b ∷ []) u = u
strip_text (a ∷ b ∷ c ∷ rest) u = turn (is_bom a b c) refl
  where
    turn : (t : Bool) → is_bom a b c ≡ t → IsUtf8 (if t then rest else a ∷ b ∷ c ∷ rest)
    turn true is =
        let p = and_parts _ _ is in
        let q = and_parts _ _ p.0 in
        let x = eqb-true a 239 q.0 in
        let y = eqb-true b 187 q.1 in
        let z = eqb-true c 191 p.1 in
        let same : a ∷ b ∷ c ∷ rest ≡ encode_utf8 65279 ++ rest = rw (x, y, z, mark_bytes) refl in
        IsUtf8-past_char (a ∷ b ∷ c ∷ rest) rest 65279 u same
    turn false is = u

-- the record that was found
found_text : (o : Option Read) (fields : List (List ℕ)) (s : State) (z : List ℕ) → NextIs o true fields s z → ((p : Read) → o ≡ Some p → IsTextRead p)
    → AllText fields × IsPlain s × IsUtf8 z
found_text None fields s z n h = cc n
found_text (Some p) fields s z n h =
    let read = h p refl in
    (subst AllText (sym n.1) read.fields, subst IsPlain (sym n.2) read.state, subst IsUtf8 (sym n.3) read.rest)

-- a text is left after a record
pub text_goes : {R : Type 0} (rem : R → Option (List ℕ)) (old new : Reader R) (fields : List (List ℕ)) (y z : List ℕ) → old.config ≡ default_config
    → source_of rem old ≡ Some y → source_of rem new ≡ Some z → IsPlain old.state → IsUtf8 y → ReadRecord rem old new true fields → IsPlain new.state × IsUtf8 z
text_goes rem old new fields y z config before after plain u read =
    let pending : pending_of (rem new.rdr) new ≡ Some z = rw read.1 at after in
    let next : ReadsNext default_config old.state (Some y) (Some z) true fields new.state = rw (config, before, pending) at read.0 in
    let found = found_text (next_record default_config old.state [] [] y) fields new.state z next (λ p is. read_text old.state y p plain u is) in
    (found.1, found.2)

-- a record that was taken is of texts
took_text : (s t : State) (y : List ℕ) (k : Option (List ℕ)) (fields : List (List ℕ)) → IsPlain s → IsUtf8 y → ReadsNext default_config s (Some y) k true fields t → AllText fields
took_text s t y None fields plain u next = absurd next
took_text s t y (Some z) fields plain u next = (found_text (next_record default_config s [] [] y) fields t z next (λ p is. read_text s y p plain u is)).0

-- a read of a text, of records of any length, fails for nothing but the reader underneath and memory
pub fails_so : {R : Type 0} (rem : R → Option (List ℕ)) (old new : Reader R) (y : List ℕ) (why : ErrorKind) → old.config ≡ default_config → old.flexible ≡ true
    → source_of rem old ≡ Some y → IsPlain old.state → IsUtf8 y → ExplainsRead rem old new true why → stops_reader why ≡ true
fails_so rem old new y (kind.Io e) config flexible before plain u x = refl
fails_so rem old new y kind.OutOfMemory config flexible before plain u x = refl
fails_so rem old new y (kind.UnequalLengths pos expected len) config flexible before plain u x = let other = x.0 in cc
fails_so rem old new y (kind.Utf8 pos err) config flexible before plain u x =
    absurd (x.3 (took_text old.state new.state y (pending_of (rem new.rdr) new) x.1 plain u (rw (config, before) at x.2)))
fails_so rem old new y (kind.Serialize text) config flexible before plain u x = absurd x
fails_so rem old new y (kind.Deserialize pos err) config flexible before plain u x = absurd x
