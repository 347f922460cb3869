-- What the readers of the code answer, step by step.
use Rattle.std.proofs.Common.{◌≡◌, ◌∷◌, [], ◌≤◌, List, Bool, true, false, Result, Ok, Err, refl, ap, ◌∙◌, arith, length}
use Rattle.std.specs.Prelude.{Option, Some, None, not, ◌||◌, ◌&&◌}
use Rattle.phrases.specs.Reading.{Read, ◌>>=◌, and_then, starts, one_at, is, is_some, either, done, with_front}
use Rattle.phrases.proofs.StepsLaws.{one_starts, either_left}
use Rattle.bidel_expr.specs.Lexemes.{Lexeme}
use Rattle.bidel_expr.specs.declared.cursor.Cursor.{Cursor}
use Rattle.bidel_expr.specs.declared.read_error.ReadError.{ReadError}
use Rattle.bidel_expr.specs.declared.read_error.ReadError.TheVariants.{Memory, Left}
use Rattle.bidel_expr.specs.ReadAnswers.{ahead, ReadsAs}
use Rattle.bidel_parser.specs.declared.first_words.OperatorWord.{OperatorWord}
use Rattle.bidel_parser.specs.Words.{choice_of}
use Rattle.bidel_parser.specs.Operators.{shared_words, goes_on_with, shows_operator, begins_operator}
use Rattle.bidel_parser.specs.inner.OperatorReaders.{closed_operator_at, operators_at, listed_operators_at, further_operators_at}
use Rattle.statements.specs.Views.{OpView}
use Rattle.bidel_parser.proofs.OperatorListLaws.{lone, shared}

-- what the rest gives, the whole gives
pub gives_same : {X Y : Type 0} (view : X → Y) (p q : List Lexeme → Read Lexeme Y) (c d : Cursor) (result : Result (X × Cursor) ReadError)
    → p (ahead c) ≡ q (ahead d) → ReadsAs view q d result → ReadsAs view p c result
gives_same view p q c d (Ok x) e h = e ∙ h
gives_same view p q c d (Err (Memory memory)) e h = tt
gives_same view p q c d (Err (Left n)) e h = (h.0, e ∙ h.1, h.2)

-- behind what is read, the rest is read
pub behind : {A B : Type 0} (p : List Lexeme → Read Lexeme A) (f : A → List Lexeme → Read Lexeme B) (ts us : List Lexeme) (a : A) → p ts ≡ Ok (a, us) → and_then p f ts ≡ f a us
behind p f ts us a h = ap (λ (r : Read Lexeme _). r >>= λ x. f x.0 x.1) h

-- where a token of f comes, it is read
pub choice_behind : {A B : Type 0} (f : Lexeme → Option A) (g : A → List Lexeme → Read Lexeme B) (q : List Lexeme → Read Lexeme B) (ts us : List Lexeme) (a : A) → one_at f ts ≡ Ok (a, us)
    → either (is f) (and_then (one_at f) g) q ts ≡ g a us
choice_behind f g q ts us a h = either_left (is f) (and_then (one_at f) g) q ts (one_starts f ts (a, us) h) ∙ behind (one_at f) g ts us a h

-- one operator, and those behind it
consed : (o : OpView) (r : Read Lexeme (List OpView)) → (r >>= λ x. done (o ∷ x.0) x.1) ≡ with_front (o ∷ []) r
consed o (Ok x) = refl
consed o (Err e) = refl

pub listed_behind : (ended : Bool) (ts us : List Lexeme) (o : OpView) → closed_operator_at ts ≡ Ok (o, us) → listed_operators_at ended ts ≡ further_operators_at ended o us
listed_behind ended ts us o h = behind closed_operator_at (λ o. and_then (operators_at ended) λ os. done (o ∷ os)) ts us o h ∙ consed o (operators_at ended us)

-- ---- where an operator begins

-- one token of them is known by the end of the input
pub alone_begins : (ended : Bool) (ts : List Lexeme) → length ts ≡ 1 → starts lone ts ≡ false → starts shared ts ≡ true → begins_operator ended ts ≡ not ended
alone_begins ended [] n a b = absurd (omega arith)
alone_begins ended (t ∷ []) n a b = ap (λ (x : Bool). x || (shared t && not ended)) a ∙ ap (λ (x : Bool). x && not ended) b
alone_begins ended (t ∷ u ∷ ts) n a b = absurd (omega arith)

-- two tokens show it
pub pair_begins : (ended : Bool) (ts : List Lexeme) → 2 ≤ length ts → starts lone ts ≡ false → begins_operator ended ts ≡ shows_operator ts
pair_begins ended [] n a = absurd (omega arith)
pair_begins ended (t ∷ []) n a = absurd (omega arith)
pair_begins ended (t ∷ u ∷ ts) n a = ap (λ (x : Bool). x || (shared t && goes_on_with (choice_of shared_words t) u)) a ∙ by (choice_of shared_words t)
  where
    by : (o : Option OperatorWord) → (is_some o && goes_on_with o u) ≡ goes_on_with o u
    by (Some k) = refl
    by None = refl
