-- Reading on over a text.
use Rattle.std.proofs.Common.{◌≡◌, ◌⊎◌, inl, inr, ◌+◌, ◌/◌, ◌<◌, ◌≤◌, ◌==◌, ℕ, true, false, List, [], ◌∷◌, ◌++◌, cond, refl, sym, ap, ◌∙◌, subst, arith}
use lib.Utf8.{encode, encodes, next, scalar, scalars, scalar_cases}
use Rattle.std.specs.Str.{IsUtf8}
use Rattle.std.proofs.lemmas.Bool.{and_parts, cases_lt}
use Rattle.std.proofs.lemmas.Str.{encode_ascii}
use Rattle.bidel_lex.specs.declared.texts.Wanted.{Wanted}
use Rattle.bidel_lex.specs.declared.texts.Wanted.TheVariants.{Character, Last, LastTwo, LastThree, AfterE0, AfterED, AfterF0, AfterF4}
use Rattle.bidel_lex.specs.declared.tokens.TokenKind.TheVariants as kind
use Rattle.bidel_lex.specs.declared.unfinished.Unfinished.TheVariants.{Text, Quote}
use Rattle.bidel_lex.specs.declared.unfinished.Step.TheVariants as step
use Rattle.bidel_lex.specs.Classes.{is_between}
use Rattle.bidel_lex.specs.Texts.{lead_step, text_step}
use Rattle.bidel_lex.specs.Spelled.{doubled, IsText}
use Rattle.bidel_lex.specs.Next.{first_of, kind_of, step_of}
use Rattle.bidel_lex.proofs.Characters.{doubled-append, doubled_one, doubled_quote, IsIn, is_four, is_three, is_two, plain_more, plain_nil}
use Rattle.bidel_lex.proofs.Held.{same_byte}
use Rattle.bidel_lex.proofs.Runs.{closes, opened_reads, Reads, run_append, run_nil, Runs, step_runs}
use Rattle.bidel_lex.proofs.ByteTests.{between_test}

-- the first byte of a character
lead_ascii : (a : ℕ) → a ≤ 127 → a == 39 ≡ false → lead_step a ≡ step.Longer (Text Character)
lead_ascii a h q = grind arith

lead_two : (a : ℕ) → IsIn 194 223 a → lead_step a ≡ step.Longer (Text Last)
lead_two a h = grind arith

lead_e0 : lead_step 224 ≡ step.Longer (Text AfterE0)
lead_e0 = refl

lead_three_low : (a : ℕ) → IsIn 225 236 a → lead_step a ≡ step.Longer (Text LastTwo)
lead_three_low a h = grind arith

lead_ed : lead_step 237 ≡ step.Longer (Text AfterED)
lead_ed = refl

lead_three_high : (a : ℕ) → IsIn 238 239 a → lead_step a ≡ step.Longer (Text LastTwo)
lead_three_high a h = grind arith

lead_f0 : lead_step 240 ≡ step.Longer (Text AfterF0)
lead_f0 = refl

lead_four : (a : ℕ) → IsIn 241 243 a → lead_step a ≡ step.Longer (Text LastThree)
lead_four a h = grind arith

lead_f4 : lead_step 244 ≡ step.Longer (Text AfterF4)
lead_f4 = refl

text_of : (wanted : Wanted) (b : ℕ) → step_of (Text wanted) b ≡ text_step wanted b
unfolding step_of
text_of wanted b = refl

-- a further byte of a character
goes_within : (low high b : ℕ) (wanted : Wanted) → IsIn low high b → cond (is_between low high b) (step.Longer (Text wanted)) step.Over ≡ step.Longer (Text wanted)
goes_within low high b wanted h = ap (λ c. cond c (step.Longer (Text wanted)) step.Over) (between_test low high b h.0 h.1)

text_runs : (wanted mid next : Wanted) (b : ℕ) (text : List ℕ) → text_step wanted b ≡ step.Longer (Text mid) → Runs (Text mid) text (Text next) → Runs (Text wanted) (b ∷ text) (Text next)
text_runs wanted mid next b text e r = step_runs (Text wanted) (Text mid) (Text next) b text (text_of wanted b ∙ e) r

-- the last byte, and the last two
last_run : (x : ℕ) → IsIn 128 191 x → Runs (Text Last) (x ∷ []) (Text Character)
last_run x h = text_runs Last Character Character x [] (goes_within 128 191 x Character h) (run_nil (Text Character))

last_two_run : (x y : ℕ) → IsIn 128 191 x → IsIn 128 191 y → Runs (Text LastTwo) (x ∷ y ∷ []) (Text Character)
last_two_run x y h k = text_runs LastTwo Last Character x (y ∷ []) (goes_within 128 191 x Last h) (last_run y k)

two_run : (a x : ℕ) → IsIn 194 223 a → IsIn 128 191 x → Runs (Text Character) (a ∷ x ∷ []) (Text Character)
two_run a x h k = text_runs Character Last Character a (x ∷ []) (lead_two a h) (last_run x k)

three_run : (a x y : ℕ) → lead_step a ≡ step.Longer (Text LastTwo) → IsIn 128 191 x → IsIn 128 191 y → Runs (Text Character) (a ∷ x ∷ y ∷ []) (Text Character)
three_run a x y e h k = text_runs Character LastTwo Character a (x ∷ y ∷ []) e (last_two_run x y h k)

e0_run : (a x y : ℕ) → a ≡ 224 → IsIn 160 191 x → IsIn 128 191 y → Runs (Text Character) (a ∷ x ∷ y ∷ []) (Text Character)
e0_run a x y e h k =
    text_runs Character AfterE0 Character a (x ∷ y ∷ []) (ap lead_step e ∙ lead_e0) (text_runs AfterE0 Last Character x (y ∷ []) (goes_within 160 191 x Last h) (last_run y k))

ed_run : (a x y : ℕ) → a ≡ 237 → IsIn 128 159 x → IsIn 128 191 y → Runs (Text Character) (a ∷ x ∷ y ∷ []) (Text Character)
ed_run a x y e h k =
    text_runs Character AfterED Character a (x ∷ y ∷ []) (ap lead_step e ∙ lead_ed) (text_runs AfterED Last Character x (y ∷ []) (goes_within 128 159 x Last h) (last_run y k))

four_run : (a x y z : ℕ) → IsIn 241 243 a → IsIn 128 191 x → IsIn 128 191 y → IsIn 128 191 z → Runs (Text Character) (a ∷ x ∷ y ∷ z ∷ []) (Text Character)
four_run a x y z h k l m =
    text_runs Character LastThree Character a (x ∷ y ∷ z ∷ []) (lead_four a h) (text_runs LastThree LastTwo Character x (y ∷ z ∷ []) (goes_within 128 191 x LastTwo k) (last_two_run y z l m))

f0_run : (a x y z : ℕ) → a ≡ 240 → IsIn 144 191 x → IsIn 128 191 y → IsIn 128 191 z → Runs (Text Character) (a ∷ x ∷ y ∷ z ∷ []) (Text Character)
f0_run a x y z e k l m =
    text_runs Character AfterF0 Character a (x ∷ y ∷ z ∷ []) (ap lead_step e ∙ lead_f0) (text_runs AfterF0 LastTwo Character x (y ∷ z ∷ []) (goes_within 144 191 x LastTwo k) (last_two_run y z l m))

f4_run : (a x y z : ℕ) → a ≡ 244 → IsIn 128 143 x → IsIn 128 191 y → IsIn 128 191 z → Runs (Text Character) (a ∷ x ∷ y ∷ z ∷ []) (Text Character)
f4_run a x y z e k l m =
    text_runs Character AfterF4 Character a (x ∷ y ∷ z ∷ []) (ap lead_step e ∙ lead_f4) (text_runs AfterF4 LastTwo Character x (y ∷ z ∷ []) (goes_within 128 143 x LastTwo k) (last_two_run y z l m))

-- a character's bytes in a text
abbrev CharRun : List ℕ → Type 0
CharRun bytes = Runs (Text Character) (doubled bytes) (Text Character)

high_byte : (x : ℕ) → 128 ≤ x → x == 39 ≡ false
high_byte x h = grind arith

-- a doubled quote
quote_run : (c : ℕ) → c ≡ 39 → Runs (Text Character) (39 ∷ c ∷ []) (Text Character)
unfolding step_of
quote_run c e =
    step_runs (Text Character) Quote (Text Character) 39 (c ∷ []) refl
    (step_runs Quote (Text Character) (Text Character) c [] (ap (step_of Quote) e) (run_nil (Text Character)))

ascii_char : (c : ℕ) → c < 128 → CharRun (c ∷ [])
ascii_char c h =
    elim (c == 39) as (λ t. c == 39 ≡ t → CharRun (c ∷ [])) [
      | true ↦ λ e. subst (λ (l : List ℕ). Runs (Text Character) l (Text Character)) (sym (doubled_quote c (same_byte c 39 e))) (quote_run c (same_byte c 39 e))
      | false ↦ λ e. subst (λ (l : List ℕ). Runs (Text Character) l (Text Character)) (sym (doubled_one c e))
          (text_runs Character Character Character c [] (lead_ascii c (omega arith) e) (run_nil (Text Character)))
    ] refl

plain_char : (bytes : List ℕ) → doubled bytes ≡ bytes → Runs (Text Character) bytes (Text Character) → CharRun bytes
plain_char bytes e r = subst (λ (l : List ℕ). Runs (Text Character) l (Text Character)) (sym e) r

plain_two : (a x : ℕ) → 128 ≤ a → 128 ≤ x → doubled (a ∷ x ∷ []) ≡ a ∷ x ∷ []
plain_two a x h k = plain_more (a ∷ []) x (doubled_one a (high_byte a h)) (high_byte x k)

plain_three : (a x y : ℕ) → 128 ≤ a → 128 ≤ x → 128 ≤ y → doubled (a ∷ x ∷ y ∷ []) ≡ a ∷ x ∷ y ∷ []
plain_three a x y h k l = plain_more (a ∷ x ∷ []) y (plain_two a x h k) (high_byte y l)

plain_four : (a x y z : ℕ) → 128 ≤ a → 128 ≤ x → 128 ≤ y → 128 ≤ z → doubled (a ∷ x ∷ y ∷ z ∷ []) ≡ a ∷ x ∷ y ∷ z ∷ []
plain_four a x y z h k l m = plain_more (a ∷ x ∷ y ∷ []) z (plain_three a x y h k l) (high_byte z m)

next_in : (c : ℕ) → IsIn 128 191 (next c)
next_in c = (omega arith, omega arith)

two_char : (c : ℕ) → 128 ≤ c → c < 2048 → CharRun ((192 + c / 64) ∷ next c ∷ [])
two_char c h k =
    plain_char ((192 + c / 64) ∷ next c ∷ []) (plain_two (192 + c / 64) (next c) (omega arith) (omega arith))
    (two_run (192 + c / 64) (next c) (omega arith, omega arith) (next_in c))

three_run_of : (c a : ℕ) → a ≡ 224 + c / 4096 → 2048 ≤ c → c < 65536 → (c < 55296) ⊎ ((57344 ≤ c) × (c < 1114112)) → Runs (Text Character) (a ∷ next (c / 64) ∷ next c ∷ []) (Text Character)
three_run_of c a e h k s =
    elim (cases_lt a 225) [
      | inl low ↦ e0_run a (next (c / 64)) (next c) (omega arith) (omega arith, omega arith) (next_in c)
      | inr above ↦ elim (cases_lt a 237) [
        | inl low ↦ three_run a (next (c / 64)) (next c) (lead_three_low a (above, omega arith)) (next_in (c / 64)) (next_in c)
        | inr above ↦ elim s [
          | inl low ↦ ed_run a (next (c / 64)) (next c) (omega arith) (omega arith, omega arith) (next_in c)
          | inr high ↦ three_run a (next (c / 64)) (next c) (lead_three_high a (omega arith, omega arith)) (next_in (c / 64)) (next_in c)
        ]
      ]
    ]

three_char : (c : ℕ) → 2048 ≤ c → c < 65536 → (c < 55296) ⊎ ((57344 ≤ c) × (c < 1114112)) → CharRun ((224 + c / 4096) ∷ next (c / 64) ∷ next c ∷ [])
three_char c h k s =
    plain_char ((224 + c / 4096) ∷ next (c / 64) ∷ next c ∷ []) (plain_three (224 + c / 4096) (next (c / 64)) (next c) (omega arith) (omega arith) (omega arith))
    (three_run_of c (224 + c / 4096) refl h k s)

four_run_of : (c a : ℕ) → a ≡ 240 + c / 262144 → 65536 ≤ c → c < 1114112 → Runs (Text Character) (a ∷ next (c / 4096) ∷ next (c / 64) ∷ next c ∷ []) (Text Character)
four_run_of c a e h k =
    elim (cases_lt a 241) [
      | inl low ↦ f0_run a (next (c / 4096)) (next (c / 64)) (next c) (omega arith) (omega arith, omega arith) (next_in (c / 64)) (next_in c)
      | inr above ↦ elim (cases_lt a 244) [
        | inl low ↦ four_run a (next (c / 4096)) (next (c / 64)) (next c) (above, omega arith) (next_in (c / 4096)) (next_in (c / 64)) (next_in c)
        | inr above ↦ f4_run a (next (c / 4096)) (next (c / 64)) (next c) (omega arith) (omega arith, omega arith) (next_in (c / 64)) (next_in c)
      ]
    ]

four_char : (c : ℕ) → 65536 ≤ c → c < 1114112 → CharRun ((240 + c / 262144) ∷ next (c / 4096) ∷ next (c / 64) ∷ next c ∷ [])
four_char c h k =
    plain_char ((240 + c / 262144) ∷ next (c / 4096) ∷ next (c / 64) ∷ next c ∷ [])
    (plain_four (240 + c / 262144) (next (c / 4096)) (next (c / 64)) (next c) (omega arith) (omega arith) (omega arith) (omega arith))
    (four_run_of c (240 + c / 262144) refl h k)

below_last : (c : ℕ) → (c < 55296) ⊎ ((57344 ≤ c) × (c < 1114112)) → c < 1114112
below_last c (inl h) = omega arith
below_last c (inr h) = h.1

char_run : (c : ℕ) → scalar c ≡ true → CharRun (encode c)
char_run c s =
    elim (cases_lt c 128) [
      | inl low ↦ subst CharRun (sym (encode_ascii c low)) (ascii_char c low)
      | inr above ↦ elim (cases_lt c 2048) [
        | inl low ↦ subst CharRun (sym (is_two c above low)) (two_char c above low)
        | inr above ↦ elim (cases_lt c 65536) [
          | inl low ↦ subst CharRun (sym (is_three c above low)) (three_char c above low (scalar_cases c s))
          | inr above ↦ subst CharRun (sym (is_four c above)) (four_char c above (below_last c (scalar_cases c s)))
        ]
      ]
    ]

body_run : (cs : List ℕ) → scalars cs ≡ true → CharRun (encodes cs)
body_run [] s = subst (λ (l : List ℕ). Runs (Text Character) l (Text Character)) (sym plain_nil) (run_nil (Text Character))
body_run (c ∷ cs) s =
    let b : (scalar c ≡ true) × (scalars cs ≡ true) = and_parts (scalar c) (scalars cs) s in
    subst (λ (l : List ℕ). Runs (Text Character) l (Text Character)) (sym (doubled-append (encode c) (encodes cs)))
    (run_append (Text Character) (Text Character) (Text Character) (doubled (encode c)) (doubled (encodes cs)) (char_run c b.0) (body_run cs b.1))

quote_over : (b : ℕ) → b == 39 ≡ false → step_of Quote b ≡ step.Over
unfolding step_of
quote_over b h = ap (λ c. cond c (step.Longer (Text Character)) step.Over) h

quoted_reads : (body : List ℕ) → IsUtf8 body → Reads kind.Text (39 ∷ (doubled body ++ 39 ∷ []))
unfolding first_of kind_of step_of
quoted_reads body u =
    let r : CharRun body = subst CharRun u.1.1 (body_run u.0 u.1.0) in
    opened_reads 39 (Text Character) Quote (doubled body ++ 39 ∷ []) kind.Text refl
    (run_append (Text Character) (Text Character) Quote (doubled body) (39 ∷ []) r (step_runs (Text Character) Quote Quote 39 [] refl (run_nil Quote)))
    (closes Quote kind.Text (39 ∷ (doubled body ++ 39 ∷ [])) refl refl quote_over)

pub text_reads : (text : List ℕ) → IsText text → Reads kind.Text text
text_reads text t = subst (λ (l : List ℕ). Reads kind.Text l) (sym t.quoted) (quoted_reads t.body t.utf8)
