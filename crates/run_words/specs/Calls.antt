-- What reading the words answers.
use Rattle.std.specs.Prelude.{ℕ, List, option_map, Result, Ok, Err, ⊤}
use Rattle.par_base.specs.declared.fault.Fault.{Fault}
use Rattle.par_base.specs.declared.fault.Fault.TheVariants.{Refused, Memory}
use Rattle.run_words.specs.Words.{Asked, Says}
use Rattle.run_words.specs.declared.words.BadWords.{BadWords}
use Rattle.run_words.specs.declared.words.RunWords.{RunWords}

abbrev pub asked_of : RunWords → Asked
asked_of w = record { load = option_map (λ s. s.now) w.load; dump = option_map (λ s. s.now) w.dump; max_id = w.max_id; generate = w.generate }

-- what the words say, or a refusal exactly where they say nothing
abbrev pub Reads : List (List ℕ) → Result RunWords (Fault BadWords) → Type 0
Reads words (Ok w) = Says words (asked_of w)
Reads words (Err (Refused r)) = (asked : Asked) → Says words asked → ⊥
Reads words (Err (Memory memory)) = ⊤
