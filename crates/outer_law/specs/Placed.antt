-- The entries that the rows of a new outer join get.
use Rattle.std.specs.Prelude.{ℕ, ◌==◌, List, [], ◌∷◌, ◌++◌, filter, Bool, true, false, ◌&&◌, ◌||◌, not, Option, Some, None, is_some, if◌then◌else◌}
use Rattle.std.specs.Option.{option_map}
use Rattle.par_base.specs.declared.value.Value.{Value}
use Rattle.par_base.specs.declared.value.Value.TheVariants.{Null}
use Rattle.row_store.specs.Rows.{Rows, row_of}
use Rattle.id_memory.specs.Pairs.{Pairs, pair_of}
use Rattle.row_parts.specs.Places.{pick as part}
use Rattle.row_parts.specs.RowCells.{Cell}
use Rattle.pair_rows.specs.Halves.{first_of, second_of}
use Rattle.pair_rows.specs.Stays.{stands}
use Rattle.pair_rows.specs.Shown.{Joining, has}
use Rattle.pair_rows.specs.Given.{least, unchanged, kept_in, Got, got, own, or_id}
use Rattle.outer_law.specs.Entries.{with_half}

abbrev pub null_value : Value → Bool
null_value Null = true
null_value _ = false

-- all values of a row are null; a row without columns is null
abbrev pub is_null : List Value → Bool
is_null [] = true
is_null (v ∷ vs) = null_value v && is_null vs

-- a half that is there
abbrev pub half_there : Option ℕ → Option ℕ
half_there None = None
half_there (Some id) = if id == 0 then None else Some id

-- the old half, where it was there and the old row has the same part
abbrev pub own_half : List ℕ → Cell → Option ℕ → List Value → Option ℕ
own_half places old id row = own places old (half_there id) row

-- the rows of both tables, old ones and then drawn ones; those of them that further entries may share; the entries that are kept or given; and the next identifier
pub record Placing : Type 0 where
  pub first : Rows
  pub second : Rows
  pub first_shared : Rows
  pub second_shared : Rows
  pub taken : Pairs
  pub next : ℕ

-- the first half of the row's old entry, where the row keeps it
abbrev pub first_own : Joining → Rows → Pairs → ℕ × List Value → Option ℕ
first_own j r m x = own_half j.first (row_of r x.0) (option_map (λ pair. pair.0) (pair_of m x.0)) x.1

-- the second one
abbrev pub second_own : Joining → Rows → Pairs → ℕ × List Value → Option ℕ
second_own j r m x = own_half j.second (row_of r x.0) (option_map (λ pair. pair.1) (pair_of m x.0)) x.1

-- one part of a row: its own half, where it keeps one, and its values
pub record Part : Type 0 where
  pub own : Option ℕ
  pub values : List Value

-- both parts
pub record Parts : Type 0 where
  pub first : Part
  pub second : Part

-- the parts of a row of the new target
abbrev pub parts_of : Joining → Rows → Pairs → ℕ × List Value → Parts
parts_of j r m x = record {
  first = record { own = first_own j r m x; values = part j.first x.1 };
  second = record { own = second_own j r m x; values = part j.second x.1 };
}

-- a half is present where its part isn't null, or where it is the old one
abbrev pub is_present : Part → Bool
is_present half = not (is_null half.values) || is_some half.own

-- an entry and what is there after it
pub record Placed : Type 0 where
  pub first : ℕ
  pub second : ℕ
  pub after : Placing

-- with both halves the first row is the own one, else the least shared one with the values of the part, else a drawn one
abbrev pub first_both : Parts → Placing → Option ℕ
first_both parts d = or_id parts.first.own (least d.first_shared parts.first.values)

abbrev pub first_got : Parts → Placing → Got
first_got parts d = got (first_both parts d) d.first parts.first.values d.next

-- the second row likewise
abbrev pub second_both : Parts → Placing → Option ℕ
second_both parts d = or_id parts.second.own (least d.second_shared parts.second.values)

abbrev pub second_got : Parts → Placing → Got
second_got parts d = got (second_both parts d) d.second parts.second.values (first_got parts d).next

-- where the entry is taken, a new row is drawn in place of the first
abbrev pub last_both : Parts → Placing → Option ℕ
last_both parts d = if has d.taken (first_got parts d).id (second_got parts d).id then None else Some (first_got parts d).id

abbrev pub last_got : Parts → Placing → Got
last_got parts d = got (last_both parts d) (first_got parts d).rows parts.first.values (second_got parts d).next

-- rows that were drawn for an entry with both halves may be shared
abbrev pub first_more : Parts → Placing → Rows
first_more parts d =
    let one = got (first_both parts d) d.first_shared parts.first.values d.next in
    (got (last_both parts d) one.rows parts.first.values (second_got parts d).next).rows

abbrev pub second_more : Parts → Placing → Rows
second_more parts d = (got (second_both parts d) d.second_shared parts.second.values (first_got parts d).next).rows

-- the entry of a changed row that has both halves
abbrev pub place_both : Parts → Placing → ℕ → Placed
place_both parts d p =
    let a = last_got parts d in
    let b = second_got parts d in
    record {
      first = a.id;
      second = b.id;
      after = record {
        first = a.rows;
        second = b.rows;
        first_shared = first_more parts d;
        second_shared = second_more parts d;
        taken = d.taken ++ (p, a.id, b.id) ∷ [];
        next = a.next;
      };
    }

-- the own half, where no other old entry had it
abbrev pub own_alone : (ℕ × ℕ × ℕ → ℕ) → Pairs → Option ℕ → Option ℕ
own_alone pick m None = None
own_alone pick m (Some id) = if with_half pick id m == 1 then Some id else None

-- a row of the first table alone: the own one, where no other old entry had it, else a drawn one
abbrev pub first_alone : Pairs → Parts → Placing → Got
first_alone m parts d = got (own_alone first_of m parts.first.own) d.first parts.first.values d.next

-- a row of the second table alone
abbrev pub second_alone : Pairs → Parts → Placing → Got
second_alone m parts d = got (own_alone second_of m parts.second.own) d.second parts.second.values d.next

-- the entry of a changed row that has the first half alone
abbrev pub place_first : Pairs → Parts → Placing → ℕ → Placed
place_first m parts d p =
    let a = first_alone m parts d in
    record { first = a.id; second = 0; after = record d { first = a.rows; taken = d.taken ++ (p, a.id, 0) ∷ []; next = a.next } }

-- the entry of a changed row that has the second half alone
abbrev pub place_second : Pairs → Parts → Placing → ℕ → Placed
place_second m parts d p =
    let b = second_alone m parts d in
    record { first = 0; second = b.id; after = record d { second = b.rows; taken = d.taken ++ (p, 0, b.id) ∷ []; next = b.next } }

-- by which halves are present; where neither is, the first counts as present
abbrev pub place_halves : Pairs → Parts → Placing → ℕ → Bool → Bool → Placed
place_halves m parts d p true true = place_both parts d p
place_halves m parts d p true false = place_first m parts d p
place_halves m parts d p false true = place_second m parts d p
place_halves m parts d p false false = place_first m parts d p

-- the entry of a changed row
abbrev pub place_changed : Pairs → Parts → Placing → ℕ → Placed
place_changed m parts d p = place_halves m parts d p (is_present parts.first) (is_present parts.second)

-- a row that is unchanged keeps its entry
abbrev pub place_by : Joining → Rows → Pairs → Placing → ℕ × List Value → Option (ℕ × ℕ) → Placed
place_by j r m d x (Some pair) = record { first = pair.0; second = pair.1; after = d }
place_by j r m d x None = place_changed m (parts_of j r m x) d x.0

-- the entry of each row
abbrev pub place_row : Joining → Rows → Pairs → Placing → ℕ × List Value → Placed
place_row j r m d x = place_by j r m d x (unchanged (row_of r x.0) (pair_of m x.0) x.1)

-- the entries of rows one after the other
abbrev pub placed : Joining → Rows → Pairs → Placing → Rows → Pairs
placed j r m d [] = []
placed j r m d (x ∷ xs) = (x.0, (place_row j r m d x).first, (place_row j r m d x).second) ∷ placed j r m (place_row j r m d x).after xs

-- and what is there then
abbrev pub ending : Joining → Rows → Pairs → Placing → Rows → Placing
ending j r m d [] = d
ending j r m d (x ∷ xs) = ending j r m (place_row j r m d x).after xs

-- the entries with both halves
abbrev pub full : Pairs → Pairs
full es = filter (λ e. not (e.1 == 0) && not (e.2 == 0)) es

-- the rows that stand in one of these entries
abbrev pub standing : (ℕ × ℕ × ℕ → ℕ) → Pairs → Rows → Rows
standing pick es rows = filter (λ r. stands pick es r.0) rows

-- at the start the kept entries are taken, and rows in full ones may be shared
abbrev pub beginning : Rows → Rows → Rows → Pairs → Rows → ℕ → Placing
beginning s t r m near n =
    let kept = kept_in r m near in
    record { first = s; second = t; first_shared = standing first_of (full kept) s; second_shared = standing second_of (full kept) t; taken = kept; next = n }
