-- Symbols that a further byte may make longer: what that byte is to them.
use Rattle.std.specs.Prelude.{◌==◌, ◌||◌, ℕ, if◌then◌else◌}
use Rattle.bidel_lex.specs.declared.unfinished.Step.{Step}
use Rattle.bidel_lex.specs.declared.unfinished.Step.TheVariants.{Last, Comment, Over}

-- after `-`, which begins a comment with another one
abbrev pub minus_step : ℕ → Step
minus_step b = if b == 45 then Comment else Over

-- after `<`: `<=` and `<>`
abbrev pub less_step : ℕ → Step
less_step b = if b == 61 || b == 62 then Last else Over

-- after `>`: `>=`
abbrev pub greater_step : ℕ → Step
greater_step b = if b == 61 then Last else Over

-- after `|`: `||`
abbrev pub bar_step : ℕ → Step
bar_step b = if b == 124 then Last else Over
