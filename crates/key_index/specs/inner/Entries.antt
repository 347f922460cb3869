-- The entries of an index, which are in the order of keys, by their identifiers.
use Rattle.std.specs.Prelude.{◌≡◌, ℕ, ◌+◌, ◌==◌, nat_lt, List, [], ◌∷◌, if◌then◌else◌, Option, Some}
use Rattle.par_base.specs.declared.value.Value.{Value}
use Rattle.row_store.specs.Rows.{Rows, row_of}
use Rattle.ordered_pages.specs.Orders.{Order}
use Rattle.ordered_pages.specs.Entries.{entry_of, count_of}
use Rattle.key_index.specs.declared.keyed.Keyed.{Keyed}
use Rattle.key_index.specs.Keys.{keyed_cmp}

-- entries by their keys, and of one key by their identifiers
abbrev pub keyed_order : Order Keyed (List Value × ℕ)
keyed_order = record { key = λ e. (e.key, e.id); cmp = keyed_cmp }

-- no identifier has two keys
abbrev pub HaveOneEach : List Keyed → Type 0
HaveOneEach es = (some other : List Value) (id : ℕ) (a b : Keyed) → entry_of keyed_order es (some, id) ≡ Some a → entry_of keyed_order es (other, id) ≡ Some b → some ≡ other

-- the rows with this key at the identifier
abbrev pub with_row : ℕ → List Value → Rows → Rows
with_row id key [] = (id, key) ∷ []
with_row id key (r ∷ rs) = if nat_lt id r.0 then (id, key) ∷ r ∷ rs else (if r.0 == id then (id, key) ∷ rs else r ∷ with_row id key rs)

-- the keys by ascending identifiers
abbrev pub keys_by_id : List Keyed → Rows
keys_by_id [] = []
keys_by_id (e ∷ es) = with_row e.id e.key (keys_by_id es)

-- the rows with this key at the identifier, or with none there
abbrev pub PutsRow : ℕ → Option (List Value) → Rows → Rows → Type 0
PutsRow id slot before now = (q : ℕ) → row_of now q ≡ (if id == q then slot else row_of before q)

-- how many keys are ready
abbrev pub count_ready : List (Option (List Value)) → ℕ
count_ready [] = 0
count_ready (slot ∷ slots) = count_of slot + count_ready slots
