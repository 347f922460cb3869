-- Values and rows as JSON.
use Rattle.std.specs.Prelude.{ℕ, codes, List, ◌∷◌, map, Option, Some, None, option_map, option_and_then}
use Rattle.par_base.specs.declared.value.Value.{Value}
use Rattle.par_base.specs.declared.value.Value.TheVariants.{Null, Int, Text, Reference}
use Rattle.serde_json.specs.Data.{Data, null, boolean, number, string, array, object, Items, no_items, item, no_members, member}
use Rattle.serde_json.specs.View.{items_of}
use Rattle.serde_json.specs.Find.{as_array, as_i64, of_integer}
use Rattle.json_members.specs.Members.{both, id_of, list_of, member_of, number_json, of_size}

-- a value: null, a whole number, a string, or an object whose one member is the reference
abbrev pub value_json : Value → Data
value_json Null = null
value_json (Int z) = number (of_integer z)
value_json (Text text) = string text
value_json (Reference id) = object (member (codes "ref") (number_json id) no_members)

-- an object with the one member `ref`, an identifier
abbrev pub reference_of : Data → Option Value
reference_of d = of_size 1 d (option_map Reference (member_of id_of (codes "ref") d))

-- the value that JSON spells; an integer has 64 bits
abbrev pub value_of : Data → Option Value
value_of null = Some Null
value_of (boolean b) = None
value_of (number n) = option_map Int (as_i64 n)
value_of (string s) = Some (Text s)
value_of (array ds) = None
value_of (object ms) = reference_of (object ms)

-- a row: its identifier and then its values
abbrev pub row_json : ℕ × List Value → Data
row_json row = array (items_of (number_json row.0 ∷ map value_json row.1))

-- the first item is the identifier, and the others are the values
abbrev pub row_of_items : Items → Option (ℕ × List Value)
row_of_items no_items = None
row_of_items (item d ds) = both (id_of d) (list_of value_of ds)

abbrev pub row_of : Data → Option (ℕ × List Value)
row_of d = option_and_then row_of_items (as_array d)
