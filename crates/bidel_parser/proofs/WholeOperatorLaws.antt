-- What reading an operator says of all the tokens together.
use Rattle.std.proofs.Common.{◌≡◌, ◌≢◌, ◌++◌, ◌-◌, ◌+◌, ◌≤◌, ◌<◌, ℕ, List, [], ◌∷◌, Ok, Err, refl, ap, ◌∙◌, sym, subst, length, ◌==◌, true, take, drop, arith, append_assoc, length-append}
use Rattle.std.specs.Prelude.{Result}
use Rattle.std.proofs.lemmas.Bool.{eqb-true}
use Rattle.std.proofs.lemmas.List.{length-map}
use Rattle.std.proofs.Math.Seq.{take-append_seam}
use Rattle.phrases.specs.Phrases.{Begins}
use Rattle.phrases.specs.Reads.{FaultAt}
use Rattle.phrases.proofs.ReadersLaws.{same_answer}
use Rattle.bidel_parser.proofs.WholeReads.{exact_read, exact_spelled, fault_stops, fault_left}
use Rattle.bidel_lex.specs.declared.tokens.Token.{Token}
use Rattle.bidel_expr.specs.declared.cursor.Cursor.{Cursor}
use Rattle.bidel_expr.specs.declared.read_error.ReadError.TheVariants.{Left}
use Rattle.bidel_expr.specs.Lexemes.{Lexeme, lexeme, lexemes}
use Rattle.bidel_expr.specs.ReadAnswers.{ahead, Fails}
use Rattle.bidel_expr.proofs.CursorsLaws.{ahead_length}
use Rattle.statements.specs.Views.{OpView}
use Rattle.bidel_parser.specs.Operators.{Operator}
use Rattle.bidel_parser.specs.inner.OperatorReaders.{operator_at}
use Rattle.bidel_parser.specs.Parsing.{NoOperator, IsOperatorFault, start_of}
use Rattle.bidel_parser.specs.Laws.{OneOperator}
use Rattle.bidel_parser.proofs.OperatorLaws.{operator_goes, operator-reads}

pub one_operator : OneOperator
one_operator ts o other h k =
    let a = exact_spelled operator_goes Operator operator_at operator-reads ts o h in
    let b = exact_spelled operator_goes Operator operator_at operator-reads ts other k in
    ap (λ (q : OpView × List Lexeme). q.0) (same_answer (o, []) (other, []) (sym a ∙ b))

-- a fault is no value
no_value : {A B : Type 0} (e : B) (x : A) (r : Result A B) → r ≡ Err e → r ≡ Ok x → ⊥
no_value e x r h k = cc

-- a list of no tokens
pub no_tokens : (tokens : List Token) → (length tokens == 0) ≡ true → tokens ≡ []
no_tokens [] h = refl
no_tokens (token ∷ tokens) h = absurd (omega (arith, eqb-true (length (token ∷ tokens)) 0 h))

module _ (bytes : List ℕ) (tokens : List Token) where
  abbrev ts : List Lexeme
  ts = lexemes bytes tokens

  -- tokens that come to a fault at these
  pub record Stop (left : ℕ) : Type 0 where
    pub rest : List Lexeme
    pub fault : FaultAt Operator ts rest
    pub no : NoOperator ts
    pub count : left ≡ length rest

  pub stopped : (left : ℕ) → Fails (Left left) (operator_at ts) → Stop left
  stopped left h = record {
    rest = h.0;
    fault = fault_stops operator_goes Operator operator_at operator-reads ts h.0 h.1;
    no = λ o s. let k = exact_spelled operator_goes Operator operator_at operator-reads ts o s in no_value h.0 (o, []) (operator_at ts) h.1 k;
    count = h.2;
  }

  pub left_over : (rest : Cursor) (o : OpView) → operator_at ts ≡ Ok (o, ahead rest) → 0 < length rest.tokens.now → Stop (length rest.tokens.now)
  left_over rest o h some =
      let more : ahead rest ≢ [] = λ e. (let none : length (ahead rest) ≡ 0 = ap length e in omega (arith, ahead_length rest, none, some)) in
      record {
        rest = ahead rest;
        fault = fault_left operator_goes Operator operator_at operator-reads ts (ahead rest) o more h;
        no = λ other s. more (ap (λ (q : OpView × List Lexeme). q.1) (same_answer (o, ahead rest) (other, []) (sym h ∙ exact_spelled operator_goes Operator operator_at operator-reads ts other s)));
        count = sym (ahead_length rest);
      }

  pub none_left : (rest : Cursor) (o : OpView) → operator_at ts ≡ Ok (o, ahead rest) → rest.tokens.now ≡ [] → Operator ts o
  none_left rest o h none =
      let over : ahead rest ≡ [] = ap (λ (l : List Token). lexemes rest.bytes.now l) none in
      exact_read operator_goes Operator operator_at operator-reads ts o (h ∙ ap (λ (l : List Lexeme). Ok (o, l)) over)

  module _ (left : ℕ) (h : Stop left) where
    pub stop_within : left ≤ length tokens
    stop_within = omega (arith, h.count, ap length h.fault.whole, length-append h.fault.front h.rest, length-map tokens (lexeme bytes))

    front_is : length tokens - left ≡ length h.fault.front
    front_is = omega (arith, h.count, ap length h.fault.whole, length-append h.fault.front h.rest, length-map tokens (lexeme bytes))

    before : take (length tokens - left) ts ≡ h.fault.front
    before = ap (λ (n : ℕ). take n ts) front_is ∙ ap (λ (l : List Lexeme). take (length h.fault.front) l) h.fault.whole ∙ take-append_seam h.fault.front h.rest

    pub fault : (at : ℕ) → at ≡ start_of (length bytes) (drop (length tokens - left) tokens) → IsOperatorFault bytes tokens at
    fault at place = record {
      token = length tokens - left;
      within = omega arith;
      begins = subst (Begins Operator) (sym before) h.fault.begins;
      first = λ some b. by h.rest refl some b;
      place = place;
    }
      where
        by : (rest : List Lexeme) → h.rest ≡ rest → length tokens - left < length tokens → Begins Operator (take (length tokens - left + 1) ts) → ⊥
        by [] e some b = omega (arith, h.count, ap length e, some)
        by (t ∷ rest) e some b =
            let whole : ts ≡ (h.fault.front ++ t ∷ []) ++ rest = h.fault.whole ∙ ap (λ (l : List Lexeme). h.fault.front ++ l) e ∙ sym (append_assoc h.fault.front (t ∷ []) rest) in
            let size : length tokens - left + 1 ≡ length (h.fault.front ++ t ∷ []) = omega (arith, front_is, length-append h.fault.front (t ∷ [])) in
            let one : take (length tokens - left + 1) ts ≡ h.fault.front ++ t ∷ [] =
            ap (λ (n : ℕ). take n ts) size ∙ ap (λ (l : List Lexeme). take (length (h.fault.front ++ t ∷ [])) l) whole ∙ take-append_seam (h.fault.front ++ t ∷ []) rest in
            h.fault.first t rest e (subst (Begins Operator) one b)
