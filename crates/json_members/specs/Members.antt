-- Numbers, lists and members of objects as JSON.
use Rattle.std.specs.Prelude.{◌≡◌, ℕ, suc, ◌&&◌, ◌==◌, nat_le, List, [], ◌∷◌, map, Option, Some, None, option_map, option_and_then, if◌then◌else◌}
use Rattle.std.specs.Option.{option_map_or}
use Rattle.serde_json.specs.Data.{Data, number, array, unsigned, Items, no_items, item, Members, no_members, member}
use Rattle.serde_json.specs.View.{items_of}
use Rattle.serde_json.specs.Find.{as_array, as_number, as_object, as_u64, get, get_member}

-- ---- numbers

-- a number from 0 on
abbrev pub number_json : ℕ → Data
number_json n = number (unsigned n)

-- the whole number below 2^64 that JSON spells
abbrev pub number_of : Data → Option ℕ
number_of d = option_and_then as_u64 (as_number d)

-- the number, where it stands between these two
abbrev pub within : ℕ → ℕ → ℕ → Option ℕ
within least most n = if nat_le least n && nat_le n most then Some n else None

-- a number of 32 bits
abbrev pub small_of : Data → Option ℕ
small_of d = option_and_then (within 0 4294967295) (number_of d)

-- an identifier: from 1 on, and below 2^63
abbrev pub id_of : Data → Option ℕ
id_of d = option_and_then (within 1 9223372036854775807) (number_of d)

-- the identifier that is drawn next, which is at most 2^63
abbrev pub next_of : Data → Option ℕ
next_of d = option_and_then (within 1 9223372036854775808) (number_of d)

-- ---- lists

-- a list of what is written so
abbrev pub list_json : {A : Type 0} → (A → Data) → List A → Data
list_json write xs = array (items_of (map write xs))

-- what the items spell, where each of them spells something
abbrev pub list_of : {A : Type 0} → (Data → Option A) → Items → Option (List A)
list_of read no_items = Some []
list_of read (item d ds) = option_and_then (λ x. option_map (λ xs. x ∷ xs) (list_of read ds)) (read d)

-- the same of an array
abbrev pub array_of : {A : Type 0} → (Data → Option A) → Data → Option (List A)
array_of read d = option_and_then (list_of read) (as_array d)

-- the numbers of tables or operators
abbrev pub numbers_json : List ℕ → Data
numbers_json ns = list_json number_json ns

abbrev pub numbers_of : Data → Option (List ℕ)
numbers_of d = array_of small_of d

-- ---- members

abbrev pub member_count : Members → ℕ
member_count no_members = 0
member_count (member k d ms) = suc (member_count ms)

-- how many members an object has; none where it is no object
abbrev pub count_of : Data → ℕ
count_of d = option_map_or member_count (as_object d) 0

-- what was found in an object with this number of members, and in no other
abbrev pub of_size : {A : Type 0} → ℕ → Data → Option A → Option A
of_size n d found = if count_of d == n then found else None

-- what a member of an object spells
abbrev pub member_of : {A : Type 0} → (Data → Option A) → List ℕ → Data → Option A
member_of read key d = option_and_then read (get key d)

-- the list that a member of an object spells
abbrev pub list_at : {A : Type 0} → (Data → Option A) → List ℕ → Data → Option (List A)
list_at read key d = option_and_then (list_of read) (member_of as_array key d)

-- two things, where both were found
abbrev pub both : {A B : Type 0} → Option A → Option B → Option (A × B)
both found other = option_and_then (λ x. option_map (λ y. (x, y)) other) found

-- what stands under other keys stays when one is taken out
abbrev pub LeavesOthers : List ℕ → Members → Members → Type 0
LeavesOthers key before after = (other : List ℕ) → (other ≡ key → ⊥) → get_member other after ≡ get_member other before
