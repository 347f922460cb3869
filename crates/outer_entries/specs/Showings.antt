-- What the laws see of an outer join by its places, and of the entries of a new source.
use Rattle.std.specs.Prelude.{◌≡◌, ℕ, ◌+◌, List, length, true}
use Rattle.expr_lang.specs.Terms.{expr_term}
use Rattle.expr_lang.specs.Val.{fits_row}
use Rattle.row_store.specs.Rows.{RiseFrom}
use Rattle.id_memory.specs.Pairs.{Pairs}
use Rattle.pair_rows.specs.Shown.{Joining}
use Rattle.outer_law.specs.Entries.{entries, new_entries}
use Rattle.outer_entries.specs.declared.outer.Outer.{Outer}
use Rattle.outer_entries.specs.declared.showing.Showing.{Showing}

-- what the laws see
abbrev pub joining_of : Outer → Joining
joining_of join = record { first = join.first.now; second = join.second.now; condition = expr_term join.condition.now }

-- the condition reads only columns that a joined row has
abbrev pub Reads : Outer → Type 0
Reads join = fits_row (expr_term join.condition.now) (length join.first.now + length join.second.now) ≡ true

abbrev pub joining_in : Showing → Joining
joining_in it = joining_of it.join.now

abbrev pub ReadsIn : Showing → Type 0
ReadsIn it = Reads it.join.now

-- no new row has the identifier of an absent half
abbrev pub AreFromOne : Showing → Type 0
AreFromOne it = RiseFrom 1 it.new_s.now.rows × RiseFrom 1 it.new_t.now.rows

-- the new entries' pairs
abbrev pub new_in : Showing → List (ℕ × ℕ)
new_in it = new_entries (joining_in it) it.s.now.rows it.t.now.rows it.memory.now.entries it.new_s.now.rows it.new_t.now.rows

-- the entries of the new memory
abbrev pub entries_in : Showing → ℕ → Pairs
entries_in it n = entries (joining_in it) it.s.now.rows it.t.now.rows it.memory.now.entries it.new_s.now.rows it.new_t.now.rows n
