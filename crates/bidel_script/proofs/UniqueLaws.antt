-- Bytes fix one list of statements, and one thing stands behind them.
use Rattle.std.proofs.Common.{◌≡◌, ◌+◌, ◌≤◌, ◌<◌, ℕ, List, [], ◌∷◌, ◌++◌, Bool, true, false, inl, inr, refl, sym, ap, subst, ◌∙◌, append_assoc, append-nil, take-append-drop, drop, take, length, arith, length-drop}
use Rattle.std.proofs.lemmas.Bool.Decides.{leb_tells}
use Rattle.std.proofs.lemmas.Bool.{ltb-true}
use Rattle.std.proofs.lemmas.List.{length-map, take-take}
use Rattle.phrases.specs.Phrases.{Begins}
use Rattle.bidel_lex.specs.declared.tokens.Token.{Token}
use Rattle.bidel_lex.specs.declared.tokens.Lexed.{Lexed}
use Rattle.bidel_lex.specs.declared.tokens.Lexed.TheVariants.{More, End, BadToken}
use Rattle.bidel_expr.specs.Lexemes.{Lexeme, lexeme, lexemes}
use Rattle.statements.specs.Views.{StatementView}
use Rattle.bidel_parser.specs.Statements.{Script}
use Rattle.bidel_parser.specs.Parsing.{IsFront, NoFront, FirstFault, start_of}
use Rattle.bidel_parser.proofs.ScriptLaws.{one_front, no_script}
use Rattle.bidel_script.specs.declared.tokens.Tail.{Tail}
use Rattle.bidel_script.specs.Tails.{AreAll, is_over, earlier, last_end, begun_at}
use Rattle.bidel_script.specs.Lengths.{IsLong, is_long, is_long_fault, whole, part}
use Rattle.bidel_script.specs.Script.{Leads, Comes, Outcome, Over, Fault, Long, Open, IsFaulty, IsOpen, StandsBehind, FaultIsNoScript}
use Rattle.bidel_script.proofs.TokenLaws.{tokens_are_one, all_are_one, more_open}
use Rattle.bidel_script.proofs.ScriptLaws.{front_some, script_behind, over_script, drop_both, says_none}

-- ---- beginnings of scripts

-- fewer tokens begin a script too
pub begins_less : (ts : List Lexeme) (m n : ℕ) → m ≤ n → Begins Script (take n ts) → Begins Script (take m ts)
begins_less ts m n le b =
    let front : take m (take n ts) ≡ take m ts = take-take m n ts le in
    let whole : take n ts ≡ take m ts ++ drop m (take n ts) = sym (take-append-drop m (take n ts)) ∙ ap (λ (l : List Lexeme). l ++ drop m (take n ts)) front in
    record {
      more = drop m (take n ts) ++ b.more;
      value = b.value;
      spelled = subst (λ (l : List Lexeme). Script l b.value) (ap (λ (l : List Lexeme). l ++ b.more) whole ∙ append_assoc (take m ts) (drop m (take n ts)) b.more) b.spelled;
    }

-- the first tokens of those that begin a script begin one
pub begins_front : (ts : List Lexeme) (m : ℕ) → Begins Script ts → Begins Script (take m ts)
begins_front ts m b = record {
  more = drop m ts ++ b.more;
  value = b.value;
  spelled = subst (λ (l : List Lexeme). Script l b.value) (ap (λ (l : List Lexeme). l ++ b.more) (sym (take-append-drop m ts)) ∙ append_assoc (take m ts) (drop m ts) b.more) b.spelled;
}

script_begins : (ts : List Lexeme) (sts : List StatementView) → Script ts sts → Begins Script ts
script_begins ts sts s = record { more = []; value = sts; spelled = subst (λ (l : List Lexeme). Script l sts) (sym (append-nil ts)) s }

-- no first fault is before another
not_before : (ts : List Lexeme) (m n : ℕ) → m < n → n ≤ length ts → FirstFault ts m → FirstFault ts n → ⊥
not_before ts m n lt le h k = h.1 (omega (arith, lt, le)) (begins_less ts (m + 1) n (omega (arith, lt)) k.0)

pub first_once : (ts : List Lexeme) (m n : ℕ) → m ≤ length ts → n ≤ length ts → FirstFault ts m → FirstFault ts n → m ≡ n
first_once ts m n hm hn h k = elim (leb_tells m n) [
  | inl a ↦ elim (leb_tells n m) [ inl b ↦ omega (arith, a.1, b.1) | inr b ↦ absurd (not_before ts m n (omega (arith, b.1)) hn h k) ]
  | inr a ↦ absurd (not_before ts n m (omega (arith, a.1)) hm k h)
]

-- ---- what is not at the front

-- no tokens have no front
pub no_empty_front : (over : Bool) (ts : List Lexeme) (s : StatementView) (n : ℕ) → ts ≡ [] → IsFront over ts s n → ⊥
no_empty_front over ts s n e f = omega (arith, front_some over ts s n f, f.within, ap length e)

pub no_front_at : (over : Bool) (ts : List Lexeme) (s : StatementView) (n : ℕ) → NoFront over ts → IsFront over ts s n → ⊥
no_front_at over ts s n none f = none s (take n ts) (drop n ts) (sym (take-append-drop n ts)) f.spelled f.over

-- no statement that is known to end and isn't too long is at the front of these tokens
abbrev pub Blocked : List ℕ → Tail → List Token → Type 0
Blocked bytes tail tokens = (s : StatementView) (n : ℕ) → IsFront (is_over tail.last) (lexemes bytes tokens) s n → ¬ IsLong bytes tail tokens → ⊥

pub blocked : (bytes : List ℕ) (tail : Tail) (tokens : List Token) (used : ℕ) (o : Outcome) → StandsBehind bytes tail tokens used o → Blocked bytes tail (drop used tokens)
blocked bytes tail tokens used Over h = λ s n f short. no_empty_front (is_over tail.last) (lexemes bytes (drop used tokens)) s n (says_none bytes (drop used tokens) h.0) f
blocked bytes tail tokens used (Fault at) h = λ s n f short. no_front_at (is_over tail.last) (lexemes bytes (drop used tokens)) s n h.none f
blocked bytes tail tokens used Long h = λ s n f short. short h
blocked bytes tail tokens used Open h = λ s n f short.
    no_front_at false (lexemes bytes (drop used tokens)) s n h.none
    (subst (λ (b : Bool). IsFront b (lexemes bytes (drop used tokens)) s n) (more_open tail.last h.more) f)

-- one statement is at the front
pub fronts_are_one : (bytes : List ℕ) (over : Bool) (tokens : List Token) (s t : StatementView) (m n : ℕ) → IsFront over (lexemes bytes tokens) s m → IsFront over (lexemes bytes tokens) t n
    → (s ≡ t) × (m ≡ n)
fronts_are_one bytes over tokens s t m n f g =
    let ts : List Lexeme = lexemes bytes tokens in
    let same = one_front over ts (take m ts) (drop m ts) s (take n ts) (drop n ts) t
    (sym (take-append-drop m ts)) f.spelled f.over (sym (take-append-drop n ts)) g.spelled g.over in
    (same.0, omega (arith, f.within, g.within, ap length same.1, length-drop m ts, length-drop n ts))

module _ (bytes : List ℕ) (tail : Tail) where
  not_blocked : (tokens : List Token) (m : ℕ) (st : StatementView) (used : ℕ) → m ≡ 0 → Blocked bytes tail (drop m tokens)
      → IsFront (is_over tail.last) (lexemes bytes tokens) st used → ¬ IsLong bytes tail tokens → ⊥
  not_blocked tokens m st used e none f short = subst (λ (k : ℕ). Blocked bytes tail (drop k tokens)) e none st used f short

  -- the statements before the tokens at which none stands
  pub leads_once : (tokens : List Token) (one other : List StatementView) (m n : ℕ) → Leads bytes tail tokens one m → Blocked bytes tail (drop m tokens)
      → Leads bytes tail tokens other n → Blocked bytes tail (drop n tokens) → (one ≡ other) × (m ≡ n)
  leads_once tokens [] [] m n h none k none2 = (refl, omega (arith, h, k))
  leads_once tokens [] (t ∷ other) m n h none k none2 = absurd (not_blocked tokens m t k.0 h none k.3 k.4)
  leads_once tokens (s ∷ one) [] m n h none k none2 = absurd (not_blocked tokens n s h.0 k none2 h.3 h.4)
  leads_once tokens (s ∷ one) (t ∷ other) m n h none k none2 =
      let same = fronts_are_one bytes (is_over tail.last) tokens s t h.0 k.0 h.3 k.3 in
      let back : drop k.0 tokens ≡ drop h.0 tokens = ap (λ (i : ℕ). drop i tokens) (sym same.1) in
      let rest = leads_once (drop h.0 tokens) one other h.1 k.1 h.5
      (subst (Blocked bytes tail) (drop_both bytes tail tokens m h.0 h.1 h.2) none)
      (subst (λ (l : List Token). Leads bytes tail l other k.1) back k.5)
      (subst (Blocked bytes tail) (drop_both bytes tail tokens n k.0 k.1 k.2 ∙ ap (drop k.1) back) none2) in
      (ap (λ (x : StatementView). x ∷ one) same.0 ∙ ap (λ (l : List StatementView). t ∷ l) rest.0, omega (arith, h.2, k.2, same.1, rest.1))

  -- the statements begin those before the tokens at which none stands
  pub leads_first : (tokens : List Token) (sts before : List StatementView) (m n : ℕ) → Leads bytes tail tokens sts m → Leads bytes tail tokens before n
      → Blocked bytes tail (drop n tokens) → (rest : List StatementView) × (before ≡ sts ++ rest)
  leads_first tokens [] before m n h k none = (before, refl)
  leads_first tokens (s ∷ sts) [] m n h k none = absurd (not_blocked tokens n s h.0 k none h.3 h.4)
  leads_first tokens (s ∷ sts) (t ∷ before) m n h k none =
      let same = fronts_are_one bytes (is_over tail.last) tokens s t h.0 k.0 h.3 k.3 in
      let back : drop k.0 tokens ≡ drop h.0 tokens = ap (λ (i : ℕ). drop i tokens) (sym same.1) in
      let inner = leads_first (drop h.0 tokens) sts before h.1 k.1 h.5 (subst (λ (l : List Token). Leads bytes tail l before k.1) back k.5)
      (subst (Blocked bytes tail) (drop_both bytes tail tokens n k.0 k.1 k.2 ∙ ap (drop k.1) back) none) in
      (inner.0, ap (λ (x : StatementView). x ∷ before) (sym same.0) ∙ ap (λ (l : List StatementView). s ∷ l) inner.1)

-- ---- one outcome

-- so many bytes from a place to the same one are not too many
never_long : (n : ℕ) → is_long n n ≡ true → ⊥
never_long n h = omega (arith, ltb-true (n + 65536) n h)

over_fault : (bytes : List ℕ) (tail : Tail) (tokens : List Token) (sts : List StatementView) (used at : ℕ) → Leads bytes tail tokens sts used
    → drop used tokens ≡ [] → tail.last ≡ End → IsFaulty bytes tail tokens used at → ⊥
over_fault bytes tail tokens sts used at l none end f = elim f.seen [
  | inl lt ↦ f.first.1 (omega (arith, lt, length-map tokens (lexeme bytes)))
      (begins_front (lexemes bytes tokens) (f.token + 1) (script_begins (lexemes bytes tokens) sts (over_script bytes tail tokens sts used l none)))
  | inr more ↦ elim more.1 [
    | inl lt ↦ omega (arith, lt, ap length none, length-drop used tokens)
    | inr bad ↦ (let clash : End ≡ BadToken bad.0 = sym end ∙ bad.1 in cc)
  ]
]

over_long : (bytes : List ℕ) (ended : Bool) (tail : Tail) (tokens rest : List Token) → AreAll bytes ended tokens tail → rest ≡ [] → tail.last ≡ End → IsLong bytes tail rest → ⊥
over_long bytes ended tail tokens rest all none end (whole s used f long) = no_empty_front true (lexemes bytes rest) s used (says_none bytes rest none) f
over_long bytes ended tail tokens rest all none end (part at le nf first long) =
    let begun : tail.begun ≡ length bytes = all.begun ∙ ap (begun_at bytes (last_end 0 tokens)) end in
    never_long (length bytes) (at_end rest tail.last none end begun long)
  where
    at_end : (rest : List Token) (last : Lexed) → rest ≡ [] → tail.last ≡ End → tail.begun ≡ length bytes → is_long_fault bytes tail rest at ≡ true → is_long (length bytes) (length bytes) ≡ true
    at_end [] last none end begun h = rw (end, begun) at h
    at_end (t ∷ ts) last none end begun h = cc

fault_open : (bytes : List ℕ) (tail : Tail) (tokens : List Token) (used at : ℕ) → IsFaulty bytes tail tokens used at → IsOpen bytes tail tokens used → ⊥
fault_open bytes tail tokens used at f o = elim f.seen [
  | inl lt ↦ f.first.1 (omega (arith, lt, length-map tokens (lexeme bytes))) (begins_front (lexemes bytes tokens) (f.token + 1) o.begins)
  | inr more ↦ (let clash : true ≡ false = sym more.0 ∙ more_open tail.last o.more in cc)
]

same_fault : (bytes : List ℕ) (tail : Tail) (tokens : List Token) (used at place : ℕ) → IsFaulty bytes tail tokens used at → IsFaulty bytes tail tokens used place → at ≡ place
same_fault bytes tail tokens used at place f g =
    let size = length-map tokens (lexeme bytes) in
    let same = first_once (lexemes bytes tokens) f.token g.token (omega (arith, f.within, size)) (omega (arith, g.within, size)) f.first g.first in
    f.place ∙ ap (λ (n : ℕ). earlier (start_of (length bytes) (drop n tokens)) tail.last) same ∙ sym g.place

one_outcome : (bytes : List ℕ) (ended : Bool) (tail : Tail) (tokens : List Token) (sts : List StatementView) (used : ℕ) (o p : Outcome) → AreAll bytes ended tokens tail
    → Leads bytes tail tokens sts used → StandsBehind bytes tail tokens used o → StandsBehind bytes tail tokens used p → o ≡ p
one_outcome bytes ended tail tokens sts used Over Over all l h k = refl
one_outcome bytes ended tail tokens sts used Over (Fault at) all l h k = absurd (over_fault bytes tail tokens sts used at l h.0 h.1 k)
one_outcome bytes ended tail tokens sts used Over Long all l h k = absurd (over_long bytes ended tail tokens (drop used tokens) all h.0 h.1 k)
one_outcome bytes ended tail tokens sts used Over Open all l h k = let clash : End ≡ More = sym h.1 ∙ k.more in cc
one_outcome bytes ended tail tokens sts used (Fault at) Over all l h k = absurd (over_fault bytes tail tokens sts used at l k.0 k.1 h)
one_outcome bytes ended tail tokens sts used (Fault at) (Fault place) all l h k = ap (λ (n : ℕ). Fault n) (same_fault bytes tail tokens used at place h k)
one_outcome bytes ended tail tokens sts used (Fault at) Long all l h k = absurd (h.short k)
one_outcome bytes ended tail tokens sts used (Fault at) Open all l h k = absurd (fault_open bytes tail tokens used at h k)
one_outcome bytes ended tail tokens sts used Long Over all l h k = absurd (over_long bytes ended tail tokens (drop used tokens) all k.0 k.1 h)
one_outcome bytes ended tail tokens sts used Long (Fault at) all l h k = absurd (k.short h)
one_outcome bytes ended tail tokens sts used Long Long all l h k = refl
one_outcome bytes ended tail tokens sts used Long Open all l h k = absurd (k.short h)
one_outcome bytes ended tail tokens sts used Open Over all l h k = let clash : End ≡ More = sym k.1 ∙ h.more in cc
one_outcome bytes ended tail tokens sts used Open (Fault at) all l h k = absurd (fault_open bytes tail tokens used at k h)
one_outcome bytes ended tail tokens sts used Open Long all l h k = absurd (h.short k)
one_outcome bytes ended tail tokens sts used Open Open all l h k = refl

-- the bytes fix one list of statements, and one thing stands behind them
pub one_comes : (bytes : List ℕ) (ended : Bool) (one other : List StatementView) (o p : Outcome) → Comes bytes ended one o → Comes bytes ended other p → (one ≡ other) × (o ≡ p)
one_comes bytes ended one other o p h k =
    let same = all_are_one bytes ended h.tokens k.tokens h.tail k.tail h.all k.all in
    go k.tokens k.tail same.0 same.1 k.all k.leads k.behind
  where
    go : (tokens : List Token) (tail : Tail) → h.tokens ≡ tokens → h.tail ≡ tail → AreAll bytes ended tokens tail → Leads bytes tail tokens other k.used
        → StandsBehind bytes tail tokens k.used p → (one ≡ other) × (o ≡ p)
    go tokens tail e g all leads behind =
        let leads2 = subst (λ (t : Tail). Leads bytes t tokens one h.used) g (subst (λ (l : List Token). Leads bytes h.tail l one h.used) e h.leads) in
        let behind2 = subst (λ (t : Tail). StandsBehind bytes t tokens h.used o) g (subst (λ (l : List Token). StandsBehind bytes h.tail l h.used o) e h.behind) in
        let once = leads_once bytes tail tokens one other h.used k.used leads2 (blocked bytes tail tokens h.used o behind2) leads (blocked bytes tail tokens k.used p behind) in (
          once.0,
          one_outcome bytes ended tail tokens other k.used o p all leads (subst (λ (n : ℕ). StandsBehind bytes tail tokens n o) once.1 behind2) behind,
        )

pub fault_is_no_script : FaultIsNoScript
fault_is_no_script bytes before statements at c s =
    let same = tokens_are_one true bytes 0 s.tokens c.tokens End c.tail.last s.found c.all.found in
    let spelled = subst (λ (l : List Token). Script (lexemes bytes l) statements) same.0 s.spelled in
    let f = c.behind in
    elim f.seen [
      | inl lt ↦ f.first.1 (omega (arith, lt, length-map c.tokens (lexeme bytes))) (begins_front (lexemes bytes c.tokens) (f.token + 1) (script_begins (lexemes bytes c.tokens) statements spelled))
      | inr more ↦ elim more.1 [
        | inl lt ↦ (let behind = script_behind bytes c.tail c.tokens before c.used c.leads statements spelled in
            let empty = no_script (lexemes bytes (drop c.used c.tokens)) (subst (λ (b : Bool). NoFront b (lexemes bytes (drop c.used c.tokens))) more.0 f.none) behind.0 behind.2 in
            omega (arith, lt, ap length empty, length-drop c.used c.tokens, length-map (drop c.used c.tokens) (lexeme bytes)))
        | inr bad ↦ (let clash : End ≡ BadToken bad.0 = same.1 ∙ bad.1 in cc)
      ]
    ]
