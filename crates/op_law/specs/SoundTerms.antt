-- Which expressions may stand while n is the next identifier.
use Rattle.std.specs.Prelude.{ℕ, ◌≤◌, List}
use Rattle.par_base.specs.declared.value.Value.{Value}
use Rattle.expr_lang.specs.Terms.{Term, Literal, Column, Unary, Binary}
use Rattle.expr_lang.specs.Val.{val}
use Rattle.op_law.specs.Sound.{ValueSound, ValuesSound}

-- each literal of the expression may stand
abbrev pub TermSound : ℕ → Term ℕ → Type 0
TermSound n (Literal v) = ValueSound n v
TermSound n (Column place) = Unit {0}
TermSound n (Unary op t) = TermSound n t
TermSound n (Binary op t u) = TermSound n t × TermSound n u

-- at a row whose values may stand, such an expression has a value that may stand
abbrev pub SoundTermsGiveSoundValues : Type 0
SoundTermsGiveSoundValues = (n : ℕ) (e : Term ℕ) (row : List Value) → TermSound n e → ValuesSound n row → ValueSound n (val e row)

-- an expression that may stand may stand while a greater identifier is the next one
abbrev pub SoundTermsStaySound : Type 0
SoundTermsStaySound = (n k : ℕ) (e : Term ℕ) → n ≤ k → TermSound n e → TermSound k e
