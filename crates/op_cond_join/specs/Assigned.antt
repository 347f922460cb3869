-- The pairs that the rows of a new joined table get.
use Rattle.std.specs.Prelude.{ℕ, List, [], ◌∷◌, ◌++◌, Option, Some, None, if◌then◌else◌}
use Rattle.std.specs.Option.{option_map}
use Rattle.par_base.specs.declared.value.Value.{Value}
use Rattle.row_store.specs.Rows.{Rows, row_of}
use Rattle.id_memory.specs.Pairs.{Pairs, pair_of}
use Rattle.row_parts.specs.Places.{pick as part}
use Rattle.pair_rows.specs.Shown.{Joining, has}
use Rattle.pair_rows.specs.Given.{least, unchanged, kept_entry, kept_in, Got, got, own, or_id, side_got}

-- the rows of both tables, old ones and then drawn ones, the pairs that are taken, and the next identifier
pub record Assigning : Type 0 where
  pub first : Rows
  pub second : Rows
  pub taken : Pairs
  pub next : ℕ

-- where the pair is taken, a new row is drawn in place of the first
abbrev pub fresh_got : Joining → Pairs → List Value → Got → Got → Got
fresh_got j taken row a b = got (if has taken a.id b.id then None else Some a.id) a.rows (part j.first row) b.next

-- the pair that a row gets, and what is assigned after it
pub record Placed : Type 0 where
  pub first : ℕ
  pub second : ℕ
  pub after : Assigning

-- the first row of a changed row
abbrev pub first_got : Joining → Rows → Pairs → Assigning → ℕ × List Value → Got
first_got j r m d x = side_got j.first (row_of r x.0) (option_map (λ pair. pair.0) (pair_of m x.0)) x.1 d.first d.next

-- its second row
abbrev pub second_got : Joining → Rows → Pairs → Assigning → ℕ × List Value → Got
second_got j r m d x = side_got j.second (row_of r x.0) (option_map (λ pair. pair.1) (pair_of m x.0)) x.1 d.second (first_got j r m d x).next

-- its first row, where the pair may be taken
abbrev pub last_got : Joining → Rows → Pairs → Assigning → ℕ × List Value → Got
last_got j r m d x = fresh_got j d.taken x.1 (first_got j r m d x) (second_got j r m d x)

-- the pair of a changed row
abbrev pub place_changed : Joining → Rows → Pairs → Assigning → ℕ × List Value → Placed
place_changed j r m d x =
    let a = last_got j r m d x in
    let b = second_got j r m d x in
    record { first = a.id; second = b.id; after = record { first = a.rows; second = b.rows; taken = d.taken ++ (x.0, a.id, b.id) ∷ []; next = a.next } }

-- a row that is unchanged keeps its pair
abbrev pub place_by : Joining → Rows → Pairs → Assigning → ℕ × List Value → Option (ℕ × ℕ) → Placed
place_by j r m d x (Some pair) = record { first = pair.0; second = pair.1; after = d }
place_by j r m d x None = place_changed j r m d x

-- the pair of each row
abbrev pub place_row : Joining → Rows → Pairs → Assigning → ℕ × List Value → Placed
place_row j r m d x = place_by j r m d x (unchanged (row_of r x.0) (pair_of m x.0) x.1)

-- the pairs of rows one after the other, and what is assigned at the end
abbrev pub assigned : Joining → Rows → Pairs → Assigning → Rows → Pairs
assigned j r m d [] = []
assigned j r m d (x ∷ xs) = (x.0, (place_row j r m d x).first, (place_row j r m d x).second) ∷ assigned j r m (place_row j r m d x).after xs

-- and what is assigned then
abbrev pub ending : Joining → Rows → Pairs → Assigning → Rows → Assigning
ending j r m d [] = d
ending j r m d (x ∷ xs) = ending j r m (place_row j r m d x).after xs

-- at the start the kept pairs are taken
abbrev pub beginning : Rows → Rows → Rows → Pairs → Rows → ℕ → Assigning
beginning s t r m near n = record { first = s; second = t; taken = kept_in r m near; next = n }
