-- What reading a statement says of the answer.
use Rattle.std.proofs.Common.{◌≡◌, ◌-◌, ◌≤◌, ◌<◌, ◌⊎◌, ℕ, zero, suc, List, [], ◌∷◌, Bool, true, false, Ok, refl, ◌∙◌, sym, subst, length, ◌==◌, take, drop, arith, inl, inr, length-drop}
use Rattle.std.proofs.lemmas.List.{length-map, take_all}
use Rattle.phrases.specs.Phrases.{Begins}
use Rattle.phrases.proofs.FrontsLaws.{whole_front, no_front, first_fault, begins_all, rest_within, fault_within}
use Rattle.bidel_lex.specs.declared.tokens.Token.{Token}
use Rattle.bidel_expr.specs.declared.cursor.Cursor.{Cursor}
use Rattle.bidel_expr.specs.declared.read_error.ReadError.TheVariants.{Left}
use Rattle.bidel_expr.specs.Lexemes.{Lexeme, lexeme, lexemes}
use Rattle.statements.specs.Views.{StatementView}
use Rattle.bidel_parser.specs.Statements.{IsStatement, Script, stays_open}
use Rattle.bidel_parser.specs.inner.StatementReaders.{statement_at}
use Rattle.bidel_parser.specs.Parsing.{IsFront, NoFront, FirstFault, start_of, IsFault}
use Rattle.bidel_expr.specs.ReadAnswers.{ahead, Fails}
use Rattle.bidel_expr.proofs.CursorsLaws.{ahead_length}
use Rattle.bidel_parser.proofs.StatementLaws.{statement-last, script_over}

module _ (bytes : List ℕ) (tokens : List Token) (ended : Bool) where
  abbrev ts : List Lexeme
  ts = lexemes bytes tokens

  ts_length : length ts ≡ length tokens
  ts_length = length-map tokens (lexeme bytes)

  module _ (s : StatementView) (rest : Cursor) (h : statement_at ended ts ≡ Ok (s, ahead rest)) where
    pub whole_within : length rest.tokens.now ≤ length tokens
    whole_within = omega (arith, rest_within stays_open IsStatement statement_at statement-last ended ts (ahead rest) s h, ts_length, ahead_length rest)

    pub whole : IsFront ended ts s (length tokens - length rest.tokens.now)
    whole =
        let used : length ts - length (ahead rest) ≡ length tokens - length rest.tokens.now = omega (arith, ts_length, ahead_length rest) in
        subst (λ (n : ℕ). IsFront ended ts s n) used (whole_front stays_open IsStatement statement_at statement-last ended ts (ahead rest) s h)

  module _ (left : ℕ) (h : Fails (Left left) (statement_at ended ts)) where
    pub left_within : left ≤ length tokens
    left_within = omega (arith, fault_within stays_open IsStatement statement_at statement-last ended ts h.0 h.1, ts_length, h.2)

    pub none_whole : NoFront ended ts
    none_whole = no_front stays_open IsStatement statement_at statement-last ended ts h.0 h.1

    pub begins : left ≡ 0 → Begins Script ts
    begins none = begins_all stays_open IsStatement statement_at statement-last ended ts h.0 h.1 (sym h.2 ∙ none)

    pub fault : (at : ℕ) → (0 < left) ⊎ ((ended ≡ true) × (0 < length tokens)) → at ≡ start_of (length bytes) (drop (length tokens - left) tokens) → IsFault bytes tokens ended at
    fault at some place =
        let first = first_fault stays_open IsStatement statement_at statement-last script_over ended ts h.0 h.1 in
        let token : length ts - length h.0 ≡ length tokens - left = omega (arith, ts_length, h.2) in
        record {
          token = length tokens - left;
          first = subst (λ (n : ℕ). FirstFault ts n) token first;
          within = elim some [ inl k ↦ inl (omega (arith, left_within, k)) | inr k ↦ split left refl k ];
          place = place;
        }
      where
        split : (n : ℕ) → left ≡ n → (ended ≡ true) × (0 < length tokens)
            → (length tokens - left < length tokens) ⊎ ((ended ≡ true) × (length tokens - left ≡ length tokens) × (0 < length tokens))
        split zero e k = inr (k.0, omega (arith, e), k.1)
        split (suc n) e k = inl (omega (arith, e, k.1))

-- all that follows a place
pub rest_is : (tokens : List Token) (at size : ℕ) → size ≡ length tokens - at → take size (drop at tokens) ≡ drop at tokens
rest_is tokens at size h = take_all size (drop at tokens) (omega (arith, length-drop at tokens))

-- a list that isn't empty
pub some_length : (tokens : List Token) → (length tokens == 0) ≡ false → 0 < length tokens
some_length [] h = cc
some_length (token ∷ tokens) h = omega arith
