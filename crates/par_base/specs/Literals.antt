-- The literal text of a value.
use Rattle.std.specs.Prelude.{◌≡◌, ◌<◌, ◌^◌, ℕ, List, [], ◌∷◌, ◌++◌, codes, decimal, flat_map, ◌==◌, ◌&&◌, Bool, false, if◌then◌else◌, Option, Some, ⊤, IsUtf8, FitsSigned}
use Rattle.std.specs.Fmt.{signed_decimal}
use Rattle.std.specs.Int.{w64}
use Rattle.par_base.specs.declared.value.Value.{Value}
use Rattle.par_base.specs.declared.value.Value.TheVariants.{Null, Int, Text, Reference}

-- a quote twice, and every other byte as it is
abbrev pub doubled : ℕ → List ℕ
doubled b = if b == 39 then 39 ∷ 39 ∷ [] else b ∷ []

-- the bytes without each quote that comes right after a quote that stays
unfoldable pub undoubled : Bool → List ℕ → List ℕ
undoubled after_quote [] = []
undoubled after_quote (b ∷ bytes) = if after_quote && b == 39 then undoubled false bytes else b ∷ undoubled (b == 39) bytes

-- the text between quotes, each quote of it doubled
abbrev pub quoted : List ℕ → List ℕ
quoted text = 39 ∷ (flat_map doubled text ++ 39 ∷ [])

-- the literal text: `null`, `-12`, `'it''s'`, `#7`
unfoldable pub literal_of : Value → List ℕ
literal_of Null = codes "null"
literal_of (Int n) = signed_decimal n
literal_of (Text text) = quoted text
literal_of (Reference id) = 35 ∷ decimal id

-- an integer that fits 64 bits with a sign, a text in UTF-8, a reference below 2 ^ 64
abbrev pub IsValue : Value → Type 0
IsValue Null = ⊤
IsValue (Int n) = FitsSigned w64 n
IsValue (Text text) = IsUtf8 text
IsValue (Reference id) = id < 2 ^ 64

-- where the bytes are the literal text of a value, this is the value
abbrev pub IsCandidate : List ℕ → Option Value → Type 0
IsCandidate bytes found = (value : Value) → IsValue value → bytes ≡ literal_of value → found ≡ Some value
