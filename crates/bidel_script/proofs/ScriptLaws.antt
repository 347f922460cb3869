-- Statements at the front of a script, scripts, and what stands behind statements.
use Rattle.std.proofs.Common.{◌≡◌, ◌+◌, ◌≤◌, ◌<◌, ℕ, zero, suc, List, [], ◌∷◌, ◌++◌, Bool, true, false, inl, inr, refl, sym, ap, subst, ◌∙◌, drop, take, length, arith, length-drop, length-append, append-nil}
use Rattle.std.proofs.lemmas.List.{take_at, drop_at, drop-drop, drop-append-le, length-map}
use Rattle.phrases.specs.Phrases.{Begins}
use Rattle.bidel_lex.specs.declared.tokens.Token.{Token}
use Rattle.bidel_lex.specs.declared.tokens.Lexed.{Lexed}
use Rattle.bidel_lex.specs.declared.tokens.Lexed.TheVariants as lexed
use Rattle.bidel_lex.specs.declared.tokens.Lexed.TheVariants.{End}
use Rattle.bidel_lex.specs.Tokens.{AreTokens, HasTokens}
use Rattle.bidel_expr.specs.Lexemes.{Lexeme, lexeme, lexemes}
use Rattle.statements.specs.Views.{StatementView}
use Rattle.bidel_parser.specs.Statements.{Script, IsStatement, stays_open}
use Rattle.bidel_parser.specs.Parsing.{IsFront, FirstFault, start_of}
use Rattle.bidel_parser.proofs.StatementLaws.{script_over, statement_long}
use Rattle.bidel_parser.proofs.ScriptLaws.{front_stays, front_leads, front_precedes, empty_script, fault_follows}
use Rattle.bidel_script.specs.declared.tokens.Tail.{Tail}
use Rattle.bidel_script.specs.Tails.{earlier, is_over}
use Rattle.bidel_script.specs.Lengths.{IsLong}
use Rattle.bidel_script.specs.Script.{Leads, Outcome, Over, Fault, Long, Open, IsFaulty, StandsBehind, OneScript, OverIsScript}
use Rattle.bidel_script.proofs.TokenLaws.{tokens_are_one, lexemes-drop, are_tokens_drop, start_within, more_open}

-- a statement has tokens
pub front_some : (over : Bool) (ts : List Lexeme) (statement : StatementView) (used : ℕ) → IsFront over ts statement used → 0 < used
front_some over ts statement zero f = absurd (omega (arith, statement_long [] statement f.spelled))
front_some over ts statement (suc used) f = omega arith

-- a statement whose end is fixed is a front of all that comes
pub front_at_end : (over : Bool) (ts : List Lexeme) (statement : StatementView) (used : ℕ) → IsFront over ts statement used → IsFront true ts statement used
front_at_end true ts statement used f = f
front_at_end false ts statement used f = subst (λ (l : List Lexeme). IsFront true l statement used) (append-nil ts) (front_stays ts [] true statement used f)

pub front_within : (bytes : List ℕ) (over : Bool) (tokens : List Token) (statement : StatementView) (used : ℕ) → IsFront over (lexemes bytes tokens) statement used → used ≤ length tokens
front_within bytes over tokens statement used f = omega (arith, f.within, length-map tokens (lexeme bytes))

module _ (bytes : List ℕ) (tail : Tail) where
  -- what lies behind so many tokens, and then so many
  pub drop_both : (tokens : List Token) (used m n : ℕ) → used ≡ m + n → drop used tokens ≡ drop n (drop m tokens)
  drop_both tokens used m n h = ap (λ (k : ℕ). drop k tokens) h ∙ sym (drop-drop n m tokens)

  says_both : (tokens : List Token) (used m n : ℕ) → used ≡ m + n → lexemes bytes (drop used tokens) ≡ lexemes bytes (drop n (drop m tokens))
  says_both tokens used m n h = ap (lexemes bytes) (drop_both tokens used m n h)

  pub leads_within : (tokens : List Token) (sts : List StatementView) (used : ℕ) → Leads bytes tail tokens sts used → used ≤ length tokens
  leads_within tokens [] used h = omega (arith, h)
  leads_within tokens (st ∷ sts) used h =
      omega (arith, h.2, front_within bytes (is_over tail.last) tokens st h.0 h.3, leads_within (drop h.0 tokens) sts h.1 h.5, length-drop h.0 tokens)

  -- one statement more
  pub leads_more : (tokens : List Token) (sts : List StatementView) (used : ℕ) (st : StatementView) (n : ℕ)
      → Leads bytes tail tokens sts used → IsFront (is_over tail.last) (lexemes bytes (drop used tokens)) st n → ¬ IsLong bytes tail (drop used tokens)
      → Leads bytes tail tokens (sts ++ st ∷ []) (used + n)
  leads_more tokens [] used st n h f short = (
    n,
    0,
    omega (arith, h),
    subst (λ (k : ℕ). IsFront (is_over tail.last) (lexemes bytes (drop k tokens)) st n) h f,
    subst (λ (k : ℕ). ¬ IsLong bytes tail (drop k tokens)) h short,
    refl,
  )
  leads_more tokens (s ∷ sts) used st n h f short = (
    h.0,
    h.1 + n,
    omega (arith, h.2),
    h.3,
    h.4,
    leads_more (drop h.0 tokens) sts h.1 st n h.5
        (subst (λ (l : List Token). IsFront (is_over tail.last) (lexemes bytes l) st n) (drop_both tokens used h.0 h.1 h.2) f)
        (subst (λ (l : List Token). ¬ IsLong bytes tail l) (drop_both tokens used h.0 h.1 h.2) short),
  )

  -- the statements and a script behind them are a script
  pub leads_script : (tokens : List Token) (sts : List StatementView) (used : ℕ) → Leads bytes tail tokens sts used
      → (rest : List StatementView) → Script (lexemes bytes (drop used tokens)) rest → Script (lexemes bytes tokens) (sts ++ rest)
  leads_script tokens [] used h rest s = subst (λ (k : ℕ). Script (lexemes bytes (drop k tokens)) rest) h s
  leads_script tokens (st ∷ sts) used h rest s =
      front_precedes (lexemes bytes tokens) h.0 st (front_at_end (is_over tail.last) (lexemes bytes tokens) st h.0 h.3) (sts ++ rest)
      (subst (λ (l : List Lexeme). Script l (sts ++ rest)) (lexemes-drop bytes h.0 tokens)
      (leads_script (drop h.0 tokens) sts h.1 h.5 rest (subst (λ (l : List Lexeme). Script l rest) (says_both tokens used h.0 h.1 h.2) s)))

  -- every script begins with the statements, and its rest stands behind them
  pub script_behind : (tokens : List Token) (sts : List StatementView) (used : ℕ) → Leads bytes tail tokens sts used
      → (all : List StatementView) → Script (lexemes bytes tokens) all → (rest : List StatementView) × (all ≡ sts ++ rest) × Script (lexemes bytes (drop used tokens)) rest
  script_behind tokens [] used h all s = (all, refl, subst (λ (k : ℕ). Script (lexemes bytes (drop k tokens)) all) (sym h) s)
  script_behind tokens (st ∷ sts) used h all s =
      let after = front_leads (lexemes bytes tokens) h.0 st (front_at_end (is_over tail.last) (lexemes bytes tokens) st h.0 h.3) all s in
      let inner = script_behind (drop h.0 tokens) sts h.1 h.5 after.0 (subst (λ (l : List Lexeme). Script l after.0) (sym (lexemes-drop bytes h.0 tokens)) after.2) in (
        inner.0,
        after.1 ∙ ap (λ (l : List StatementView). st ∷ l) inner.1,
        subst (λ (l : List Lexeme). Script l inner.0) (sym (says_both tokens used h.0 h.1 h.2)) inner.2,
      )

  -- the first fault behind the statements is the first fault of all
  pub leads_fault : (tokens : List Token) (sts : List StatementView) (used : ℕ) → Leads bytes tail tokens sts used
      → (token : ℕ) → token ≤ length (drop used tokens) → FirstFault (lexemes bytes (drop used tokens)) token → FirstFault (lexemes bytes tokens) (used + token)
  leads_fault tokens [] used h token le f =
      let same : token ≡ used + token = omega (arith, h) in
      subst (λ (k : ℕ). FirstFault (lexemes bytes tokens) k) same (subst (λ (k : ℕ). FirstFault (lexemes bytes (drop k tokens)) token) h f)
  leads_fault tokens (st ∷ sts) used h token le f =
      let both = drop_both tokens used h.0 h.1 h.2 in
      let within = leads_within (drop h.0 tokens) sts h.1 h.5 in
      let inner = leads_fault (drop h.0 tokens) sts h.1 h.5 token (subst (λ (l : List Token). token ≤ length l) both le)
      (subst (λ (l : List Token). FirstFault (lexemes bytes l) token) both f) in
      let behind = subst (λ (l : List Lexeme). FirstFault l (h.1 + token)) (lexemes-drop bytes h.0 tokens) inner in
      let short : h.1 + token ≤ length (drop h.0 (lexemes bytes tokens)) =
      omega (arith, le, ap length both, length-drop h.1 (drop h.0 tokens), within, ap length (lexemes-drop bytes h.0 tokens), length-map (drop h.0 tokens) (lexeme bytes)) in
      let sum : h.0 + (h.1 + token) ≡ used + token = omega (arith, h.2) in
      subst (λ (k : ℕ). FirstFault (lexemes bytes tokens) k) sum
      (fault_follows (lexemes bytes tokens) h.0 (h.1 + token) st (front_at_end (is_over tail.last) (lexemes bytes tokens) st h.0 h.3) short behind)

  -- where more tokens come, the statements and a script that goes on behind them are one
  leads_on : (more : List Lexeme) → is_over tail.last ≡ false → (tokens : List Token) (sts : List StatementView) (used : ℕ) → Leads bytes tail tokens sts used
      → (rest : List StatementView) → Script (lexemes bytes (drop used tokens) ++ more) rest → Script (lexemes bytes tokens ++ more) (sts ++ rest)
  leads_on more open' tokens [] used h rest s = subst (λ (k : ℕ). Script (lexemes bytes (drop k tokens) ++ more) rest) h s
  leads_on more open' tokens (st ∷ sts) used h rest s =
      let ts : List Lexeme = lexemes bytes tokens in
      let front = subst (λ (b : Bool). IsFront b ts st h.0) open' h.3 in
      let inner = leads_on more open' (drop h.0 tokens) sts h.1 h.5 rest (subst (λ (l : List Lexeme). Script (l ++ more) rest) (says_both tokens used h.0 h.1 h.2) s) in
      front_precedes (ts ++ more) h.0 st (front_stays ts more true st h.0 front) (sts ++ rest)
      (subst (λ (l : List Lexeme). Script l (sts ++ rest)) (ap (λ (l : List Lexeme). l ++ more) (lexemes-drop bytes h.0 tokens) ∙ sym (drop-append-le h.0 ts more front.within)) inner)

  -- where more tokens come, and a script may go on behind the statements, it may go on from all
  pub leads_begins : is_over tail.last ≡ false → (tokens : List Token) (sts : List StatementView) (used : ℕ) → Leads bytes tail tokens sts used
      → Begins Script (lexemes bytes (drop used tokens)) → Begins Script (lexemes bytes tokens)
  leads_begins open' tokens sts used h b = record { more = b.more; value = sts ++ b.value; spelled = leads_on b.more open' tokens sts used h b.value b.spelled }

-- ---- scripts

-- no tokens say nothing
pub says_none : (bytes : List ℕ) (tokens : List Token) → tokens ≡ [] → lexemes bytes tokens ≡ []
says_none bytes tokens e = ap (lexemes bytes) e

pub over_script : (bytes : List ℕ) (tail : Tail) (tokens : List Token) (sts : List StatementView) (used : ℕ) → Leads bytes tail tokens sts used → drop used tokens ≡ []
    → Script (lexemes bytes tokens) sts
over_script bytes tail tokens sts used l none =
    subst (λ (k : List StatementView). Script (lexemes bytes tokens) k) (append-nil sts)
    (leads_script bytes tail tokens sts used l [] (subst (λ (l : List Lexeme). Script l []) (sym (says_none bytes (drop used tokens) none)) empty_script.0))

pub over_is_script : OverIsScript
over_is_script bytes sts c = record {
  tokens = c.tokens;
  found = subst (λ (x : Lexed). HasTokens true bytes 0 c.tokens x) c.behind.1 c.all.found;
  spelled = over_script bytes c.tail c.tokens sts c.used c.leads c.behind.0;
}

-- the tokens are the script of one list of statements
spelled_once : (ts : List Lexeme) (one other : List StatementView) → Script ts one → Script ts other → one ≡ other
spelled_once ts [] other h k = sym (empty_script.1 other (subst (λ (l : List Lexeme). Script l other) h k))
spelled_once ts (st ∷ sts) other h k =
    let us : List Lexeme = h.0 in
    let vs : List Lexeme = h.1 in
    let front : IsFront true ts st (length us) = record {
      within = omega (arith, ap length h.2, length-append us vs);
      spelled = subst (λ (l : List Lexeme). IsStatement l st) (sym (ap (take (length us)) h.2 ∙ take_at us vs (length us) refl)) h.3;
      over = ap (stays_open st true) (ap (drop (length us)) h.2 ∙ drop_at us vs (length us) refl) ∙ script_over st sts vs h.4;
    } in
    let after = front_leads ts (length us) st front other k in
    let same = spelled_once vs sts after.0 h.4 (subst (λ (l : List Lexeme). Script l after.0) (ap (drop (length us)) h.2 ∙ drop_at us vs (length us) refl) after.2) in
    ap (λ (l : List StatementView). st ∷ l) same ∙ sym after.1

pub one_script : OneScript
one_script bytes one other h k =
    let same = tokens_are_one true bytes 0 h.tokens k.tokens End End h.found k.found in
    spelled_once (lexemes bytes h.tokens) one other h.spelled
    (subst (λ (l : List Token). Script (lexemes bytes l) other) (sym same.0) k.spelled)

-- ---- what stands behind statements

-- what stands behind the tokens that are left stands behind all
pub stands_up : (bytes : List ℕ) (tail : Tail) (tokens : List Token) (sts : List StatementView) (used : ℕ) (o : Outcome) → used ≤ length tokens
    → Leads bytes tail tokens sts used → StandsBehind bytes tail (drop used tokens) 0 o → StandsBehind bytes tail tokens used o
stands_up bytes tail tokens sts used Over within l h = h
stands_up bytes tail tokens sts used (Fault at) within l h = record {
  none = h.none;
  short = h.short;
  token = used + h.token;
  within = omega (arith, within, h.within, length-drop used tokens);
  first = leads_fault bytes tail tokens sts used l h.token h.within h.first;
  seen = elim h.seen [
    | inl lt ↦ inl (omega (arith, lt, length-drop used tokens))
    | inr more ↦ inr (more.0, elim more.1 [ inl lt ↦ inl (omega (arith, lt, length-drop used tokens)) | inr bad ↦ inr bad ])
  ];
  place = h.place ∙ ap (λ (l : List Token). earlier (start_of (length bytes) l) tail.last) (drop-drop h.token used tokens);
}
stands_up bytes tail tokens sts used Long within l h = h
stands_up bytes tail tokens sts used Open within l h = record {
  more = h.more;
  none = h.none;
  begins = leads_begins bytes tail (more_open tail.last h.more) tokens sts used l h.begins;
  short = h.short;
}

earlier_within : (last : Lexed) (at : ℕ) → earlier at last ≤ at
earlier_within (lexed.Token t) at = omega arith
earlier_within lexed.More at = omega arith
earlier_within lexed.End at = omega arith
earlier_within (lexed.BadToken bad) at = omega arith

-- a fault is at one of the bytes, or behind the last one
pub at_within : (bytes : List ℕ) (tail : Tail) (tokens : List Token) (used at : ℕ) → AreTokens bytes tokens → IsFaulty bytes tail tokens used at → at ≤ length bytes
at_within bytes tail tokens used at are f =
    let start = start_of (length bytes) (drop f.token tokens) in
    omega (arith, f.place, earlier_within tail.last start, start_within bytes (drop f.token tokens) (are_tokens_drop bytes f.token tokens are))
