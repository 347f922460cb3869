-- What a reader of the code answers, by what reading gives.
use Rattle.std.specs.Prelude.{◌≡◌, ◌∷◌, [], ℕ, List, length, Result, Ok, Err, Option, Some, None, ⊤, false, MatchResult}
use Rattle.expr_lang.specs.declared.tree.ExprText.{ExprText}
use Rattle.expr_lang.specs.Terms.{Term, text_term}
use Rattle.phrases.specs.Reading.{Read, starts, one_at, is}
use Rattle.bidel_expr.specs.Lexemes.{Lexeme, lexemes, lexeme_of}
use Rattle.bidel_expr.specs.declared.cursor.Cursor.{Cursor}
use Rattle.bidel_expr.specs.declared.cursor.Next.{Next}
use Rattle.bidel_expr.specs.declared.read_error.ReadError.{ReadError}
use Rattle.bidel_expr.specs.declared.read_error.ReadError.TheVariants.{Memory, Left}

-- the tokens from a place on
abbrev pub ahead : Cursor → List Lexeme
ahead cursor = lexemes cursor.bytes.now cursor.tokens.now

-- the reader stopped because memory ran out
abbrev pub ran_out : ReadError → Type 0
ran_out (Memory memory) = ⊤
ran_out (Left left) = ⊥

-- the fault stands where so many tokens are left, and is none where memory ran out
abbrev pub Fails : {Y : Type 0} → ReadError → Read Lexeme Y → Type 0
Fails (Memory memory) read = ⊤
Fails (Left left) read = (rest : List Lexeme) × (read ≡ Err rest) × (left ≡ length rest)

-- a value, seen in this way, and the place behind it: what is read from here
abbrev pub ReadsAs : {X Y : Type 0} → (X → Y) → (List Lexeme → Read Lexeme Y) → Cursor → Result (X × Cursor) ReadError → Type 0
ReadsAs view p cursor (Ok x) = p (ahead cursor) ≡ Ok (view x.0, ahead x.1)
ReadsAs view p cursor (Err e) = Fails e (p (ahead cursor))

-- the place behind what is read from here
abbrev pub Passes : (List Lexeme → Read Lexeme (Unit {0})) → Cursor → Result Cursor ReadError → Type 0
Passes p cursor (Ok rest) = p (ahead cursor) ≡ Ok (tt, ahead rest)
Passes p cursor (Err e) = Fails e (p (ahead cursor))

-- the token that comes next, where there is one
abbrev pub IsFirst : Cursor → Option Next → Type 0
IsFirst cursor None = ahead cursor ≡ []
IsFirst cursor (Some next) = ahead cursor ≡ lexeme_of next.kind next.written.now ∷ ahead next.rest

-- the value of a token of f and the place behind it, where one comes next
abbrev pub IsNext : {X : Type 0} → (Lexeme → Option X) → Cursor → Option (X × Cursor) → Type 0
IsNext f cursor None = starts (is f) (ahead cursor) ≡ false
IsNext f cursor (Some x) = one_at f (ahead cursor) ≡ Ok (x.0, ahead x.1)

-- the place behind a token of f, where one comes next
abbrev pub IsThere : (Lexeme → Option (Unit {0})) → Cursor → Option Cursor → Type 0
IsThere f cursor None = starts (is f) (ahead cursor) ≡ false
IsThere f cursor (Some rest) = one_at f (ahead cursor) ≡ Ok (tt, ahead rest)

-- this value, where memory is found
abbrev pub Finds : {X : Type 0} → X → Result X ReadError → Type 0
Finds value result = MatchResult result (λ found. found ≡ value) ran_out

-- an expression with this tree, where memory is found
abbrev pub Makes : Term (List ℕ) → Result ExprText ReadError → Type 0
Makes tree result = MatchResult result (λ made. text_term made ≡ tree) ran_out
