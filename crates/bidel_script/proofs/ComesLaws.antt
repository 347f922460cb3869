-- One thing comes of any bytes.
use Rattle.std.proofs.Common.{◌≡◌, ◌+◌, ◌-◌, ◌≤◌, ◌<◌, ◌⊎◌, ℕ, zero, suc, List, [], ◌∷◌, Bool, Ok, Err, true, false, inl, inr, refl, sym, ap, subst, ◌∙◌, drop, length, arith, length-drop}
use Rattle.std.proofs.lemmas.List.{drop-drop, length-map}
use Rattle.std.proofs.lemmas.Bool.Decides.{leb_tells}
use Rattle.phrases.specs.Reading.{Read}
use Rattle.phrases.specs.Phrases.{Begins}
use Rattle.phrases.proofs.FrontsLaws.{whole_front, no_front, first_fault, begins_all, fault_within}
use Rattle.bidel_lex.specs.declared.tokens.Token.{Token}
use Rattle.bidel_lex.specs.declared.tokens.Lexed.{Lexed}
use Rattle.bidel_lex.specs.declared.tokens.Lexed.TheVariants as lexed
use Rattle.bidel_lex.specs.Next.{next_of}
use Rattle.bidel_lex.specs.Tokens.{HasTokens, is_token}
use Rattle.bidel_lex.proofs.WithinLaws.{within_along}
use Rattle.bidel_expr.specs.Lexemes.{Lexeme, lexeme, lexemes}
use Rattle.statements.specs.Views.{StatementView}
use Rattle.bidel_parser.specs.Statements.{IsStatement, Script, stays_open}
use Rattle.bidel_parser.specs.inner.StatementReaders.{statement_at}
use Rattle.bidel_parser.specs.Parsing.{IsFront, NoFront, FirstFault, start_of}
use Rattle.bidel_parser.proofs.StatementLaws.{statement-last, script_over}
use Rattle.bidel_script.specs.declared.tokens.Tail.{Tail}
use Rattle.bidel_script.specs.Tails.{is_over, begun_at, last_end, earlier}
use Rattle.bidel_script.specs.Lengths.{IsLong, is_long_front, is_long_fault, whole, part}
use Rattle.bidel_script.specs.Script.{Leads, Comes, Outcome, Over, Fault, Long, Open, StandsBehind, OneComes}
use Rattle.bidel_script.proofs.TokenLaws.{over_not}
use Rattle.bidel_script.proofs.ScriptLaws.{front_some, leads_within, stands_up}
use Rattle.bidel_script.proofs.UniqueLaws.{one_comes}
use Rattle.bidel_script.proofs.LengthLemmas.{front_short, fault_short}

-- ---- tokens

-- the tokens from a place on, and what is behind them
record Found (ended : Bool) (bytes : List ℕ) (from : ℕ) : Type 0 where
  tokens : List Token
  last : Lexed
  found : HasTokens ended bytes from tokens last
  none : is_token last ≡ false

found_next : (ended : Bool) (bytes : List ℕ) (from : ℕ) (answer : Lexed) → next_of bytes from ended ≡ answer
    → ((token : Token) → from < token.end → token.end ≤ length bytes → Found ended bytes token.end) → Found ended bytes from
found_next ended bytes from (lexed.Token token) e go =
    let within = within_along bytes from ended (lexed.Token token) e in
    let rest = go token (omega (arith, within.0, within.1)) within.2 in
    record { tokens = token ∷ rest.tokens; last = rest.last; found = (e, rest.found); none = rest.none }
found_next ended bytes from lexed.More e go = record { tokens = []; last = lexed.More; found = (e, refl); none = refl }
found_next ended bytes from lexed.End e go = record { tokens = []; last = lexed.End; found = (e, refl); none = refl }
found_next ended bytes from (lexed.BadToken at) e go = record { tokens = []; last = lexed.BadToken at; found = (e, refl); none = refl }

found_from : (ended : Bool) (fuel : ℕ) (bytes : List ℕ) (from : ℕ) → length bytes - from < fuel → Found ended bytes from
found_from ended zero bytes from h = absurd (omega (arith, h))
found_from ended (suc fuel) bytes from h =
    found_next ended bytes from (next_of bytes from ended) refl (λ token lt le. found_from ended fuel bytes token.end (omega (arith, h, lt, le)))

-- ---- statements

true_or_not : (b : Bool) → (b ≡ true) ⊎ (b ≡ false)
true_or_not true = inl refl
true_or_not false = inr refl

module _ (bytes : List ℕ) (tail : Tail) (none : is_token tail.last ≡ false) where
  -- the statement at the front is too long or isn't
  long_or_not : (tokens : List Token) → IsLong bytes tail tokens ⊎ (¬ IsLong bytes tail tokens)
  long_or_not tokens = go (statement_at true (lexemes bytes tokens)) refl
    where
      go : (r : Read Lexeme StatementView) → statement_at true (lexemes bytes tokens) ≡ r → IsLong bytes tail tokens ⊎ (¬ IsLong bytes tail tokens)
      go (Ok p) e =
          let ts : List Lexeme = lexemes bytes tokens in
          let used : ℕ = length ts - length p.1 in
          let front : IsFront true ts p.0 used = whole_front stays_open IsStatement statement_at statement-last true ts p.1 p.0 e in
          elim (true_or_not (is_long_front bytes tail tokens p.0 used)) [ inl long ↦ inl (whole p.0 used front long) | inr short ↦ inr (front_short bytes tail tokens p.0 used front short) ]
      go (Err left) e =
          let ts : List Lexeme = lexemes bytes tokens in
          let at : ℕ = length ts - length left in
          let nf = no_front stays_open IsStatement statement_at statement-last true ts left e in
          let first = first_fault stays_open IsStatement statement_at statement-last script_over true ts left e in
          let within : at ≤ length tokens = omega (arith, length-map tokens (lexeme bytes)) in
          elim (true_or_not (is_long_fault bytes tail tokens at)) [ inl long ↦ inl (part at within nf first long) | inr short ↦ inr (fault_short bytes tail tokens at within nf first short) ]

  -- the statements at the front of some tokens, and what stands behind them
  record Lead (tokens : List Token) : Type 0 where
    statements : List StatementView
    outcome : Outcome
    used : ℕ
    leads : Leads bytes tail tokens statements used
    behind : StandsBehind bytes tail (drop used tokens) 0 outcome

  nothing_behind : (tokens : List Token) (o : Outcome) → StandsBehind bytes tail tokens 0 o → Lead tokens
  nothing_behind tokens o h = record { statements = []; outcome = o; used = 0; leads = refl; behind = h }

  -- with no statement at the front that is known to end, and none that is too long
  stopped_at : (tokens : List Token) (left : List Lexeme) → ¬ IsLong bytes tail tokens → (over : Bool) → is_over tail.last ≡ over → statement_at over (lexemes bytes tokens) ≡ Err left → Lead tokens
  stopped_at tokens left short over o e =
      let ts : List Lexeme = lexemes bytes tokens in
      let at : ℕ = length ts - length left in
      let nf : NoFront over ts = no_front stays_open IsStatement statement_at statement-last over ts left e in
      let first : FirstFault ts at = first_fault stays_open IsStatement statement_at statement-last script_over over ts left e in
      let size = length-map tokens (lexeme bytes) in
      elim (leb_tells (length tokens) at) [
        | inl k ↦ at_end over o at (omega (arith, k.1, size)) first nf
            (begins_all stays_open IsStatement statement_at statement-last over ts left e (omega (arith, k.1, size, fault_within stays_open IsStatement statement_at statement-last over ts left e)))
        | inr k ↦ faulty at (omega (arith, size)) first (subst (λ (b : Bool). NoFront b ts) (sym o) nf) (inl (omega (arith, k.1)))
      ]
    where
      faulty : (at : ℕ) → at ≤ length tokens → FirstFault (lexemes bytes tokens) at → NoFront (is_over tail.last) (lexemes bytes tokens)
          → (at < length tokens) ⊎ ((is_over tail.last ≡ true) × ((0 < length tokens) ⊎ ((bad : ℕ) × (tail.last ≡ lexed.BadToken bad)))) → Lead tokens
      faulty at le first nf seen = nothing_behind tokens (Fault (earlier (start_of (length bytes) (drop at tokens)) tail.last)) (record {
        none = nf;
        short = short;
        token = at;
        within = le;
        first = first;
        seen = seen;
        place = refl;
      })

      at_end : (over : Bool) → is_over tail.last ≡ over → (at : ℕ) → at ≡ length tokens → FirstFault (lexemes bytes tokens) at → NoFront over (lexemes bytes tokens)
          → Begins Script (lexemes bytes tokens) → Lead tokens
      at_end false o at all first nf begins =
          nothing_behind tokens Open (record { more = over_not tail.last none o; none = nf; begins = begins; short = short })
      at_end true o at all first nf begins = by_tokens tokens refl tail.last refl
        where
          by_tokens : (ts : List Token) → tokens ≡ ts → (last : Lexed) → tail.last ≡ last → Lead tokens
          by_tokens (t ∷ ts) e last l = faulty at (omega (arith, all)) first (subst (λ (b : Bool). NoFront b (lexemes bytes tokens)) (sym o) nf) (inr (o, inl (omega (arith, ap length e))))
          by_tokens [] e (lexed.BadToken bad) l = faulty at (omega (arith, all)) first (subst (λ (b : Bool). NoFront b (lexemes bytes tokens)) (sym o) nf) (inr (o, inr (bad, l)))
          by_tokens [] e lexed.End l = nothing_behind tokens Over (e, l)
          by_tokens [] e lexed.More l = let clash : false ≡ true = sym (ap is_over l) ∙ o in cc
          by_tokens [] e (lexed.Token t) l = let clash : true ≡ false = sym (ap is_token l) ∙ none in cc

  lead_next : (tokens : List Token) (r : Read Lexeme StatementView) → ¬ IsLong bytes tail tokens → statement_at (is_over tail.last) (lexemes bytes tokens) ≡ r
      → ((used : ℕ) → 0 < used → used ≤ length tokens → Lead (drop used tokens)) → Lead tokens
  lead_next tokens (Ok p) short e go =
      let ts : List Lexeme = lexemes bytes tokens in
      let used : ℕ = length ts - length p.1 in
      let front : IsFront (is_over tail.last) ts p.0 used = whole_front stays_open IsStatement statement_at statement-last (is_over tail.last) ts p.1 p.0 e in
      let rest = go used (front_some (is_over tail.last) ts p.0 used front) (omega (arith, front.within, length-map tokens (lexeme bytes))) in
      record {
        statements = p.0 ∷ rest.statements;
        outcome = rest.outcome;
        used = used + rest.used;
        leads = (used, rest.used, refl, front, short, rest.leads);
        behind = subst (λ (l : List Token). StandsBehind bytes tail l 0 rest.outcome) (drop-drop rest.used used tokens) rest.behind;
      }
  lead_next tokens (Err left) short e go = stopped_at tokens left short (is_over tail.last) refl e

  lead_from : (fuel : ℕ) (tokens : List Token) → length tokens < fuel → Lead tokens
  lead_from zero tokens h = absurd (omega (arith, h))
  lead_from (suc fuel) tokens h = elim (long_or_not tokens) [
    | inl long ↦ nothing_behind tokens Long long
    | inr short ↦ lead_next tokens (statement_at (is_over tail.last) (lexemes bytes tokens)) short refl
        (λ used some within. lead_from fuel (drop used tokens) (omega (arith, h, some, within, length-drop used tokens)))
  ]

-- ---- what comes

tail_of : (bytes : List ℕ) (ended : Bool) → Found ended bytes 0 → Tail
tail_of bytes ended f = record { last = f.last; begun = begun_at bytes (last_end 0 f.tokens) f.last }

pub something_comes : (bytes : List ℕ) (ended : Bool) → (statements : List StatementView) × (outcome : Outcome) × Comes bytes ended statements outcome
unfolding tail_of
something_comes bytes ended =
    let f = found_from ended (length bytes + 1) bytes 0 (omega arith) in
    let tail : Tail = tail_of bytes ended f in
    let l = lead_from bytes tail f.none (length f.tokens + 1) f.tokens (omega arith) in (
      l.statements,
      l.outcome,
      record {
        tokens = f.tokens;
        tail = tail;
        all = record { found = f.found; begun = refl };
        used = l.used;
        leads = l.leads;
        behind = stands_up bytes tail f.tokens l.statements l.used l.outcome (leads_within bytes tail f.tokens l.statements l.used l.leads) l.leads l.behind;
      },
    )

pub run_is_one : OneComes
run_is_one bytes ended =
    let c = something_comes bytes ended in
    (c.0, c.1, c.2, λ others other d. one_comes bytes ended others c.0 other c.1 d c.2)
