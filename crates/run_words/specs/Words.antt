-- What the words of a run say.
use Rattle.std.specs.Prelude.{◌≡◌, ◌≢◌, ◌≤◌, ◌<◌, ◌^◌, ◌-◌, ◌⊎◌, ◌++◌, ℕ, true, List, [], ◌∷◌, length, find, Option, Some, None, IsSome, option_map, codes, ⊤}
use Rattle.std.specs.Str.{all_ascii_digits, bytes_eq}
use Rattle.std.specs.Str.Parse.{digits_value}

-- ---- options with their values

-- an option and its value
pub record Given : Type 0 where
  pub name : List ℕ
  pub value : List ℕ

-- the options that there are
abbrev pub IsOption : List ℕ → Type 0
IsOption name = (name ≡ codes "load") ⊎ (name ≡ codes "dump") ⊎ (name ≡ codes "max-ids") ⊎ (name ≡ codes "generate")

-- a value isn't empty and doesn't begin with a hyphen (45)
abbrev pub IsValue : List ℕ → Type 0
IsValue [] = ⊥
IsValue (byte ∷ bytes) = byte ≢ 45

-- the words begin with the option, as `--name value` or as `--name=value`
abbrev pub BeginsWith : List (List ℕ) → Given → List (List ℕ) → Type 0
BeginsWith words g rest =
    (words ≡ (codes "--" ++ g.name) ∷ g.value ∷ rest) ⊎ (words ≡ (codes "--" ++ (g.name ++ (codes "=" ++ g.value))) ∷ rest)

-- the words are these options, one after the other
abbrev pub Spells : List (List ℕ) → List Given → Type 0
Spells words [] = words ≡ []
Spells words (g ∷ gs) = IsOption g.name × IsValue g.value × (rest : List (List ℕ)) × BeginsWith words g rest × Spells rest gs

-- the value that is given to a name
abbrev pub value_of : List ℕ → List Given → Option (List ℕ)
value_of name gs = option_map (λ (g : Given). g.value) (find (λ (g : Given). bytes_eq g.name name) gs)

-- each option is given at most once
abbrev pub Once : List Given → Type 0
Once [] = ⊤
Once (g ∷ gs) = (value_of g.name gs ≡ None) × Once gs

-- ---- what they ask for

-- the file that is loaded, the file that the database is dumped to, the greatest identifier that may be drawn, and
-- how many rows the generated script begins with, where one is run in place of the source's
pub record Asked : Type 0 where
  pub load : Option (List ℕ)
  pub dump : Option (List ℕ)
  pub max_id : ℕ
  pub generate : Option ℕ

-- the text is one to nineteen decimal digits, and their number is from 1 to 2 ^ 63 - 1
pub record IsNumber (text : List ℕ) (n : ℕ) : Type 0 where
  pub digits : all_ascii_digits text ≡ true
  pub most : length text ≤ 19
  pub value : n ≡ digits_value 10 text
  pub least : 1 ≤ n
  pub within : n < 2 ^ 63

-- the greatest identifier, as the words give it or else the greatest that there is
abbrev pub IsLimit : Option (List ℕ) → ℕ → Type 0
IsLimit None n = n ≡ 2 ^ 63 - 1
IsLimit (Some text) n = IsNumber text n

-- the most rows that a generated script begins with
abbrev pub greatest_count : ℕ
greatest_count = 100000

-- how many rows the generated script begins with, where the words ask for one
abbrev pub IsCount : Option (List ℕ) → Option ℕ → Type 0
IsCount None count = count ≡ None
IsCount (Some text) None = ⊥
IsCount (Some text) (Some n) = IsNumber text n × (n ≤ greatest_count)

-- THE WORDS SAY THIS: they are options, each at most once and in any order; beside the number of rows of a generated
-- script neither a file to load nor a greatest identifier is given
pub record Says (words : List (List ℕ)) (asked : Asked) : Type 0 where
  pub given : List Given
  pub spelled : Spells words given
  pub once : Once given
  pub load : asked.load ≡ value_of (codes "load") given
  pub dump : asked.dump ≡ value_of (codes "dump") given
  pub limit : IsLimit (value_of (codes "max-ids") given) asked.max_id
  pub generate : IsCount (value_of (codes "generate") given) asked.generate
  pub alone : IsSome asked.generate → (value_of (codes "load") given ≡ None) × (value_of (codes "max-ids") given ≡ None)
