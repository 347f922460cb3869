-- When a count of faults rose, and what a failure goes with.
use Rattle.std.specs.Prelude.{◌≡◌, ℕ, ◌+◌, ◌-◌, ◌≤◌, ◌^◌, ◌⊎◌, min, Result, OnErr, OnOk}

-- one call failed: the count is one more; one that stands at the greatest u64 stays there
abbrev pub Rose : ℕ → ℕ → Type 0
Rose before now = now ≡ min (before + 1) (2 ^ 64 - 1)

-- at most one call failed
abbrev pub RoseOnce : ℕ → ℕ → Type 0
RoseOnce before now = (now ≡ before) ⊎ Rose before now

-- the count never falls; it stays in a call that answers, and a failure is counted once
pub record HasCause {T E : Type 0} (before now : ℕ) (result : Result T E) : Type 0 where
  pub later : before ≤ now
  pub stays : OnOk result (now ≡ before)
  pub failed : OnErr result (Rose before now)

-- the count never falls; it stays in a call that answers, and a failure is counted once, and only under the condition
pub record HasCauseIf {T E : Type 0} (P : Type 0) (before now : ℕ) (result : Result T E) : Type 0 where
  pub later : before ≤ now
  pub stays : OnOk result (now ≡ before)
  pub rises : (now ≡ before) ⊎ (P × Rose before now)
