-- What is computed with the refusals of a call, and what the call answers, unless memory ran out.
use Rattle.std.specs.Prelude.{◌≡◌, ⊤, Result, Ok, Err}
use Rattle.par_base.specs.declared.fault.Fault.{Fault}
use Rattle.par_base.specs.declared.fault.Fault.TheVariants.{Refused, Memory as OutOfMemory}
use Rattle.par_base.specs.declared.refusal.Refusal.{Refusal}

-- a value, or the refusal that stands in its place
abbrev pub Checked : Type 0 → Type 0
Checked A = Result A Refusal

-- a check and then another, which may depend on what the first gave
infixl 10 ◌then◌
abbrev pub ◌then◌ : {A B : Type 0} → Checked A → (A → Checked B) → Checked B
(Ok x) then f = f x
(Err r) then f = Err r

-- the call answers what is computed, seen so, unless memory ran out
abbrev pub Gives : {X Y : Type 0} → (X → Y) → Result X (Fault Refusal) → Checked Y → Type 0
Gives view (Ok x) checked = checked ≡ Ok (view x)
Gives view (Err (Refused r)) checked = checked ≡ Err r
Gives view (Err (OutOfMemory memory)) checked = ⊤

-- the error isn't a refusal
abbrev pub ran_out : {X : Type 0} → Fault X → Type 0
ran_out (Refused x) = ⊥
ran_out (OutOfMemory memory) = ⊤
