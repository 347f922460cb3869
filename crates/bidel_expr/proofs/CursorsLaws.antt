-- What is ahead of a cursor, and faults that go through.
use Rattle.std.proofs.Common.{◌≡◌, ◌∙◌, List, length, Result, Ok, Err}
use Rattle.std.proofs.lemmas.List.{length-map}
use Rattle.phrases.specs.Reading.{Read}
use Rattle.bidel_expr.specs.declared.cursor.Cursor.{Cursor}
use Rattle.bidel_expr.specs.declared.read_error.ReadError.{ReadError}
use Rattle.bidel_expr.specs.declared.read_error.ReadError.TheVariants.{Memory, Left}
use Rattle.bidel_expr.specs.Lexemes.{Lexeme, lexeme}
use Rattle.bidel_expr.specs.ReadAnswers.{ahead, Fails, ReadsAs}

-- each token says one thing
pub ahead_length : (cursor : Cursor) → length (ahead cursor) ≡ length cursor.tokens.now
ahead_length cursor = length-map cursor.tokens.now (lexeme cursor.bytes.now)

-- a fault of a part is the fault of the whole
pub fails_through : {X Y : Type 0} (e : ReadError) (part : Read Lexeme X) (whole : Read Lexeme Y) → Fails e part
    → ((rest : List Lexeme) → part ≡ Err rest → whole ≡ Err rest) → Fails e whole
fails_through (Memory memory) part whole h f = tt
fails_through (Left left) part whole h f = (h.0, f h.0 h.1, h.2)

-- what is read at one place is what is read at another, where both read the same
pub gives_through : {X Y : Type 0} (view : X → Y) (p q : List Lexeme → Read Lexeme Y) (whole part : Cursor) (result : Result (X × Cursor) ReadError)
    → p (ahead whole) ≡ q (ahead part) → ReadsAs view q part result → ReadsAs view p whole result
gives_through view p q whole part (Ok x) same h = same ∙ h
gives_through view p q whole part (Err e) same h = fails_through e (q (ahead part)) (p (ahead whole)) h (λ rest k. same ∙ k)
