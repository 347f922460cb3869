-- What is read with clap, and what the program looks at itself.
use Rattle.std.specs.Prelude.{◌≡◌, ◌≢◌, ℕ, true, List, [], Option, Some, None, codes, IsSome, Result, Ok, Err, ⊤}
use Rattle.std.specs.List.{All}
use Rattle.par_base.specs.declared.fault.Fault.{Fault}
use Rattle.par_base.specs.declared.fault.Fault.TheVariants.{Refused, Memory}
use Rattle.clap.specs.Lexer.{long_of}
use Rattle.clap.specs.Walk.{Rule, rows_of}
use Rattle.clap.specs.Simple.{App, matches_of, new_app, new_rule, on_top, with_rule}
use Rattle.clap.specs.Faults.{fault_of}
use Rattle.clap.specs.Matches.{found_of}
use Rattle.clap.specs.declared.parser.matches.ArgMatches.{ArgMatches}
use Rattle.clap.specs.declared.builder.action.ArgAction.TheVariants.{Set}
use Rattle.run_words.specs.Words.{IsCount, IsLimit, IsNumber, IsValue}
use Rattle.run_words.specs.declared.words.BadWords.{BadWords}

-- ---- the command

-- an option of this name, which takes one value
abbrev pub option_rule : List ℕ → Rule
option_rule name = record (new_rule name) { long = Some name; action = Some Set }

-- the program, without a name of its own among the words, and without help
abbrev pub bare : App
bare = on_top (λ s. record s { no_binary_name = true; disable_help_flag = true }) (new_app (codes "inverda"))

abbrev pub program : App
program =
    with_rule (with_rule (with_rule (with_rule bare (option_rule (codes "load"))) (option_rule (codes "dump"))) (option_rule (codes "max-ids"))) (option_rule (codes "generate"))

-- the matches of the words, or a refusal where clap finds a fault
abbrev pub Matches : List (List ℕ) → Result ArgMatches (Fault BadWords) → Type 0
Matches words (Ok m) = (fault_of program words ≡ []) × (rows_of (found_of m) ≡ matches_of program words)
Matches words (Err (Refused r)) = fault_of program words ≢ []
Matches words (Err (Memory memory)) = ⊤

-- ---- what clap leaves open

abbrev pub IsFairOption : Option (List ℕ) → Type 0
IsFairOption None = ⊤
IsFairOption (Some value) = IsValue value

abbrev pub IsFairLong : List ℕ → Option (List ℕ × Option (List ℕ)) → Type 0
IsFairLong word None = IsValue word
IsFairLong word (Some named) = IsFairOption named.1

-- a word is `--name`, or `--name=` and a value, or a value
abbrev pub IsFair : List ℕ → Type 0
IsFair word = IsFairLong word (long_of word)

abbrev pub AreFair : List (List ℕ) → Type 0
AreFair words = All IsFair words

-- the number that a text is, or that it is none
abbrev pub FindsNumber : List ℕ → Option ℕ → Type 0
FindsNumber text (Some n) = IsNumber text n
FindsNumber text None = (n : ℕ) → IsNumber text n → ⊥

-- the greatest identifier that a value gives, or that it gives none
abbrev pub FindsLimit : Option (List ℕ) → Option ℕ → Type 0
FindsLimit text (Some n) = IsLimit text n
FindsLimit text None = (n : ℕ) → IsLimit text n → ⊥

-- how many rows a value gives, or that it gives no such number
abbrev pub FindsCount : Option (List ℕ) → Option (Option ℕ) → Type 0
FindsCount text (Some count) = IsCount text count
FindsCount text None = (count : Option ℕ) → IsCount text count → ⊥

-- beside a number of rows neither a file to load nor a greatest identifier is given
abbrev pub IsAlone : Option ℕ → Option (List ℕ) → Option (List ℕ) → Type 0
IsAlone count load max_ids = IsSome count → (load ≡ None) × (max_ids ≡ None)
