use Rattle.std.proofs.Common.{take, string_bytes}
use Rattle.std.specs.List.{All}
use Rattle.run_words.specs.inner.Reading.{IsFair}
use Rattle.run_words.proofs.fair.are_fair.Given as goal

-- the words so far are fair
abbrev pub invariant-loop-word : goal.invariant-loop-word
invariant-loop-word l = All (λ word. IsFair (string_bytes word)) (take l.word-index l.words)
