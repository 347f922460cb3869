-- Memories of pairs as JSON.
use Rattle.std.specs.Prelude.{ℕ, ◌+◌, ◌&&◌, nat_le, [], ◌∷◌, ◌++◌, Bool, true, false, not, is_some, Option, Some, None, option_map, option_and_then, if◌then◌else◌}
use Rattle.id_memory.specs.Pairs.{Pairs, id_of as id_in}
use Rattle.serde_json.specs.Data.{Data, array, Items, no_items, item}
use Rattle.serde_json.specs.View.{items_of}
use Rattle.serde_json.specs.Find.{as_array}
use Rattle.json_members.specs.Members.{both, id_of, list_json, number_json, number_of}

-- an identifier with its pair
abbrev pub triple_json : ℕ × ℕ × ℕ → Data
triple_json e = array (items_of (number_json e.0 ∷ number_json e.1 ∷ number_json e.2 ∷ []))

abbrev pub is_end : Items → Bool
is_end no_items = true
is_end (item d ds) = false

-- one number, and nothing behind it
abbrev pub last_of : Items → Option ℕ
last_of no_items = None
last_of (item t ds) = if is_end ds then number_of t else None

-- two numbers, and nothing behind them
abbrev pub two_of : Items → Option (ℕ × ℕ)
two_of no_items = None
two_of (item s ds) = both (number_of s) (last_of ds)

-- an identifier and two numbers, and nothing behind them
abbrev pub three_of : Items → Option (ℕ × ℕ × ℕ)
three_of no_items = None
three_of (item p ds) = option_map (λ (f : ℕ × (ℕ × ℕ)). (f.0, f.1.0, f.1.1)) (both (id_of p) (two_of ds))

abbrev pub triple_of : Data → Option (ℕ × ℕ × ℕ)
triple_of d = option_and_then three_of (as_array d)

-- a memory: its entries
abbrev pub pairs_json : Pairs → Data
pairs_json es = list_json triple_json es

-- an entry may come behind these: its identifier isn't below the least that may come, and its pair doesn't stand among them
abbrev pub may_follow : Pairs → ℕ → ℕ × ℕ × ℕ → Bool
may_follow made least e = nat_le least e.0 && not (is_some (id_in made e.1 e.2))

-- entries whose identifiers rise, each pair once, behind those that were read
abbrev pub pairs_behind : Pairs → ℕ → Items → Option Pairs
pairs_behind made least no_items = Some made
pairs_behind made least (item d ds) = option_and_then (λ (e : ℕ × ℕ × ℕ). if may_follow made least e then pairs_behind (made ++ e ∷ []) (e.0 + 1) ds else None) (triple_of d)

abbrev pub pairs_of : Data → Option Pairs
pairs_of d = option_and_then (pairs_behind [] 1) (as_array d)
