-- Statements that are too long, and those that aren't.
use Rattle.std.proofs.Common.{◌≡◌, ◌≢◌, ◌≤◌, ◌<◌, ◌-◌, ℕ, zero, suc, List, [], ◌∷◌, Bool, true, false, Ok, Err, inl, inr, refl, sym, ap, subst, ◌∙◌, drop, length, get_or, arith}
use Rattle.std.specs.Prelude.{Some, None, slice_get, min}
use Rattle.std.proofs.lemmas.List.{length-map}
use Rattle.phrases.specs.Reading.{Read}
use Rattle.phrases.proofs.FrontsLaws.{whole_front, no_front, first_fault}
use Rattle.bidel_lex.specs.declared.tokens.Token.{Token}
use Rattle.bidel_lex.specs.declared.tokens.Lexed.{Lexed}
use Rattle.bidel_lex.specs.declared.tokens.Lexed.TheVariants as lexed
use Rattle.bidel_lex.specs.Next.{next_of}
use Rattle.bidel_lex.specs.Tokens.{AreTokens, is_token}
use Rattle.bidel_lex.proofs.WithinLaws.{within_along}
use Rattle.bidel_expr.specs.Lexemes.{Lexeme, lexeme, lexemes}
use Rattle.statements.specs.Views.{StatementView, statement_view}
use Rattle.statements.specs.declared.statement.Statement.{Statement}
use Rattle.bidel_parser.specs.Statements.{IsStatement, stays_open}
use Rattle.bidel_parser.specs.inner.StatementReaders.{statement_at}
use Rattle.bidel_parser.specs.Parsing.{IsFront, NoFront, FirstFault, IsFault, start_of}
use Rattle.bidel_parser.proofs.StatementLaws.{statement-last, script_over, statement_long}
use Rattle.bidel_script.specs.declared.tokens.Tail.{Tail}
use Rattle.bidel_script.specs.Tails.{is_over, earlier}
use Rattle.bidel_script.specs.Calls.{Finds}
use Rattle.bidel_script.specs.declared.front.Stop.TheVariants as stop
use Rattle.bidel_script.specs.declared.front.Found.{Found}
use Rattle.bidel_script.specs.declared.front.Found.TheVariants as found
use Rattle.bidel_script.specs.Lengths.{IsLong, is_long_front, is_long_fault, whole, part}
use Rattle.bidel_script.proofs.TokenLaws.{same_token}
use Rattle.bidel_script.proofs.ScriptLaws.{front_at_end}
use Rattle.bidel_script.proofs.UniqueLaws.{first_once, no_front_at, fronts_are_one}

-- ---- tokens and where they start

-- the token at a place
pub some_at : (tokens : List Token) (at : ℕ) (t : Token) → at < length tokens → t ≡ get_or tokens at t → slice_get tokens at ≡ Some t
some_at [] at t lt e = absurd (omega (arith, lt))
some_at (u ∷ us) zero t lt e = ap (λ (x : Token). Some x) (sym e)
some_at (u ∷ us) (suc at) t lt e = some_at us at t (omega (arith, lt)) e

-- none is behind the last one
pub none_at : (tokens : List Token) (at : ℕ) → length tokens ≤ at → slice_get tokens at ≡ None
none_at [] at le = refl
none_at (u ∷ us) zero le = absurd (omega (arith, le))
none_at (u ∷ us) (suc at) le = none_at us at (omega (arith, le))

-- a token lies within the bytes
pub token_fits : (bytes : List ℕ) (tokens : List Token) (at : ℕ) (token : Token) → AreTokens bytes tokens → slice_get tokens at ≡ Some token
    → (token.start ≤ token.end) × (token.end ≤ length bytes)
token_fits bytes [] at token h e = cc
token_fits bytes (t ∷ ts) zero token h e =
    let same : t ≡ token = cc in
    let w = within_along bytes t.start true (lexed.Token t) h.0 in
    subst (λ (x : Token). (x.start ≤ x.end) × (x.end ≤ length bytes)) same (omega (arith, w.1), w.2)
token_fits bytes (t ∷ ts) (suc at) token h e = token_fits bytes ts at token h.2 e

-- the token that starts where the one at a place does is that one
pub token_from : (bytes : List ℕ) (tokens : List Token) (at : ℕ) (token : Token) → AreTokens bytes tokens
    → next_of bytes (start_of (length bytes) (drop at tokens)) true ≡ lexed.Token token → slice_get tokens at ≡ Some token
token_from bytes [] zero token h e = let w = within_along bytes (length bytes) true (lexed.Token token) e in absurd (omega (arith, w.0, w.1, w.2))
token_from bytes [] (suc at) token h e = let w = within_along bytes (length bytes) true (lexed.Token token) e in absurd (omega (arith, w.0, w.1, w.2))
token_from bytes (t ∷ ts) zero token h e = ap (λ (x : Token). Some x) (same_token t token (sym h.0 ∙ e))
token_from bytes (t ∷ ts) (suc at) token h e = token_from bytes ts at token h.2 e

-- where no token starts, there is none at the place
pub none_from : (bytes : List ℕ) (tokens : List Token) (at : ℕ) → AreTokens bytes tokens
    → is_token (next_of bytes (start_of (length bytes) (drop at tokens)) true) ≡ false → slice_get tokens at ≡ None
none_from bytes [] zero h e = refl
none_from bytes [] (suc at) h e = refl
none_from bytes (t ∷ ts) zero h e = let clash = sym e ∙ ap is_token h.0 in cc
none_from bytes (t ∷ ts) (suc at) h e = none_from bytes ts at h.2 e

-- an answer that is no token
pub not_token : (answer : Lexed) → ((t : Token) → answer ≡ lexed.Token t → ⊥) → is_token answer ≡ false
not_token (lexed.Token t) h = absurd (h t refl)
not_token lexed.More h = refl
not_token lexed.End h = refl
not_token (lexed.BadToken at) h = refl

-- ---- fronts and faults

-- with a fault at one of the tokens no statement is at the front, whether or not more come
pub none_at_end : (ts : List Lexeme) (at : ℕ) → NoFront false ts → FirstFault ts at → at < length ts → NoFront true ts
none_at_end ts at none first lt = go (statement_at false ts) refl
  where
    go : (r : Read Lexeme StatementView) → statement_at false ts ≡ r → NoFront true ts
    go (Ok p) e = absurd (no_front_at false ts p.0 (length ts - length p.1) none (whole_front stays_open IsStatement statement_at statement-last false ts p.1 p.0 e))
    go (Err left) e =
        let fault : FirstFault ts (length ts - length left) = first_fault stays_open IsStatement statement_at statement-last script_over false ts left e in
        let same : at ≡ length ts - length left = first_once ts at (length ts - length left) (omega (arith, lt)) (omega arith) first fault in
        let some : left ≢ [] = λ n. let z : length left ≡ 0 = ap length n in omega (arith, same, lt, z) in
        let stop = statement-last.stops false ts left e in
        no_front stays_open IsStatement statement_at statement-last true ts left (ap (statement_at true) stop.whole ∙ stop.first true left some refl)

module _ (bytes : List ℕ) (tail : Tail) (tokens : List Token) where
  -- a whole statement that isn't too long
  pub front_short : (s : StatementView) (used : ℕ) → IsFront true (lexemes bytes tokens) s used → is_long_front bytes tail tokens s used ≡ false → ¬ IsLong bytes tail tokens
  front_short s used f short (whole t n g long) =
      let same = fronts_are_one bytes true tokens s t used n f g in
      let clash : true ≡ false = sym long ∙ ap (λ (x : StatementView). is_long_front bytes tail tokens x n) (sym same.0) ∙ ap (is_long_front bytes tail tokens s) (sym same.1) ∙ short in cc
  front_short s used f short (part at le nf first long) = no_front_at true (lexemes bytes tokens) s used nf f

  -- a part of a statement that isn't too long
  pub fault_short : (at : ℕ) → at ≤ length tokens → NoFront true (lexemes bytes tokens) → FirstFault (lexemes bytes tokens) at → is_long_fault bytes tail tokens at ≡ false
      → ¬ IsLong bytes tail tokens
  fault_short at le nf first short (whole t n g long) = no_front_at true (lexemes bytes tokens) t n nf g
  fault_short at le nf first short (part at2 le2 nf2 first2 long) =
      let size = length-map tokens (lexeme bytes) in
      let same = first_once (lexemes bytes tokens) at at2 (omega (arith, le, size)) (omega (arith, le2, size)) first first2 in
      let clash : true ≡ false = sym long ∙ ap (is_long_fault bytes tail tokens) (sym same) ∙ short in cc

-- the token of a fault
pub fault_token : (bytes : List ℕ) (tokens : List Token) (ended : Bool) (at : ℕ) → (f : IsFault bytes tokens ended at) → f.token ≤ length tokens
fault_token bytes tokens ended at f = elim f.within [ inl k ↦ omega (arith, k) | inr k ↦ omega (arith, k.1) ]

-- no statement has no tokens
pub none_empty : (over : Bool) (ts : List Lexeme) → ts ≡ [] → NoFront over ts
none_empty over ts e s [] rest w k o = absurd (omega (arith, statement_long [] s k))
none_empty over ts e s (t ∷ front) rest w k o = absurd (omega (arith, ap length (sym e ∙ w)))

-- where no tokens are left, the fault is behind the last one
pub first_empty : (ts : List Lexeme) → ts ≡ [] → FirstFault ts 0
first_empty ts e = (record { more = []; value = []; spelled = refl }, λ lt. absurd (omega (arith, lt, ap length e)))

-- with a fault no statement is at the front of all that comes
pub none_true : (bytes : List ℕ) (tokens : List Token) (over : Bool) (at : ℕ) → NoFront over (lexemes bytes tokens) → IsFault bytes tokens over at → NoFront true (lexemes bytes tokens)
none_true bytes tokens true at none f = none
none_true bytes tokens false at none f = elim f.within [
  | inl lt ↦ none_at_end (lexemes bytes tokens) f.token none f.first (omega (arith, lt, length-map tokens (lexeme bytes)))
  | inr k ↦ (let clash : false ≡ true = k.0 in cc)
]

-- what is over, no token and no fault is the end
pub over_end : (last : Lexed) → is_token last ≡ false → is_over last ≡ true → ((at : ℕ) → last ≡ lexed.BadToken at → ⊥) → last ≡ lexed.End
over_end (lexed.Token t) h k n = cc
over_end lexed.More h k n = cc
over_end lexed.End h k n = refl
over_end (lexed.BadToken at) h k n = absurd (n at refl)

-- behind no tokens the fault is the byte that continues none
pub bad_place : (bytes : List ℕ) (tokens : List Token) (last : Lexed) (at : ℕ) → tokens ≡ [] → last ≡ lexed.BadToken at → at ≤ length bytes
    → at ≡ earlier (start_of (length bytes) (drop 0 tokens)) last
bad_place bytes tokens last at none bad le =
    let start : start_of (length bytes) (drop 0 tokens) ≡ length bytes = ap (start_of (length bytes)) none in
    let first : at ≡ min at (start_of (length bytes) (drop 0 tokens)) = omega (arith, start, le) in
    first ∙ sym (ap (earlier (start_of (length bytes) (drop 0 tokens))) bad)

-- the front of the tokens, where it isn't too long
pub finds_unless : (bytes : List ℕ) (tail : Tail) (tokens : List Token) (statement : Statement) (used : ℕ) (long : Bool) (r : Found)
    → IsFront (is_over tail.last) (lexemes bytes tokens) (statement_view statement) used → long ≡ is_long_front bytes tail tokens (statement_view statement) used
    → (long ≡ true → r ≡ found.Stops stop.Long) → (long ≡ false → r ≡ found.Whole statement used) → Finds bytes tail tokens r
finds_unless bytes tail tokens statement used true r f e so nay =
    subst (Finds bytes tail tokens) (sym (so refl)) (whole (statement_view statement) used (front_at_end (is_over tail.last) (lexemes bytes tokens) (statement_view statement) used f) (sym e))
finds_unless bytes tail tokens statement used false r f e so nay =
    subst (Finds bytes tail tokens) (sym (nay refl))
    (f, front_short bytes tail tokens (statement_view statement) used (front_at_end (is_over tail.last) (lexemes bytes tokens) (statement_view statement) used f) (sym e))
