-- The JSON that a tree over borrowed text spells.
use Rattle.std.specs.Prelude.{◌≡◌, ℕ, ◌&&◌, Bool, true, List, Option, Some, None, is_some, IsUtf8}
use Rattle.std.specs.Borrow.{Bor}
use Rattle.json.specs.Json as json
use Rattle.json.specs.Value as tree
use Rattle.json.specs.declared.value.Value.{Value}
use Rattle.serde_json.specs.Data.{Num, unsigned, Data, null, boolean, number, string, array, object, Items, no_items, item, Members, no_members, put}
use Rattle.serde_json.specs.Read.{number_of as number_in, read}

-- the number, and 0 where there is none
abbrev pub number_or_0 : Option Num → Num
number_or_0 None = unsigned 0
number_or_0 (Some n) = n

-- what `of_json` gives where it gives something; where it refuses a number, 0 stands for that
abbrev mutual
  pub json_data : json.Json → Data
  json_data json.null = null
  json_data (json.boolean b) = boolean b
  json_data (json.number s) = number (number_or_0 (number_in s))
  json_data (json.string s) = string s
  json_data (json.array js) = array (items_data js)
  json_data (json.object ms) = object (members_data ms no_members)

  pub items_data : json.Items → Items
  items_data json.no_items = no_items
  items_data (json.item j js) = item (json_data j) (items_data js)

  pub members_data : json.Members → Members → Members
  members_data json.no_members found = found
  members_data (json.member k j ms) found = members_data ms (put k (json_data j) found)

-- whether `of_json` refuses no number
abbrev mutual
  pub is_read : json.Json → Bool
  is_read json.null = true
  is_read (json.boolean b) = true
  is_read (json.number s) = is_some (number_in s)
  is_read (json.string s) = true
  is_read (json.array js) = are_read js
  is_read (json.object ms) = members_read ms

  pub are_read : json.Items → Bool
  are_read json.no_items = true
  are_read (json.item j js) = is_read j && are_read js

  pub members_read : json.Members → Bool
  members_read json.no_members = true
  members_read (json.member k j ms) = is_read j && members_read ms

abbrev pub tree_view : {A : Type 0} → Value A → Data
tree_view t = json_data (tree.value_view t)

abbrev pub trees_view : {A : Type 0} → List (Value A) → Items
trees_view ts = items_data (tree.items_view ts)

abbrev pub entries_view : {A : Type 0} → List (Bor (List ℕ) × Value A) → Members
entries_view ms = members_data (tree.members_view ms) no_members

-- the JSON that the bytes spell, or none where they spell none
abbrev pub FindsTree : List ℕ → Option Data → Type 0
FindsTree bytes (Some d) = IsUtf8 bytes × (read bytes ≡ Some d)
FindsTree bytes None = IsUtf8 bytes → read bytes ≡ None
