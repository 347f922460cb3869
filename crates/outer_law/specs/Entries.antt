-- The entries of an outer join on a condition, and what a new source makes of them. An absent half is a row of nulls under the identifier 0, which no row has.
use Rattle.std.specs.Prelude.{◌≡◌, ℕ, ◌≤◌, ◌==◌, List, [], ◌∷◌, ◌++◌, length, filter, count_by, Bool, true, false, ◌&&◌, not, IsSome, is_some, if◌then◌else◌}
use Rattle.row_store.specs.Rows.{Rows, RiseFrom, row_of}
use Rattle.id_memory.specs.Pairs.{Pairs, has_pair}
use Rattle.row_parts.specs.Places.{nulls}
use Rattle.pair_rows.specs.Halves.{first_of, second_of}
use Rattle.pair_rows.specs.Shown.{Joining, IsJoined, has, is_shown, all_pairs, numbered}

-- the rows of a table, and the absent one in front
abbrev pub with_absent : List ℕ → Rows → Rows
with_absent places rows = (0, nulls (length places)) ∷ rows

-- how many entries have this half
abbrev pub with_half : (ℕ × ℕ × ℕ → ℕ) → ℕ → Pairs → ℕ
with_half pick id m = count_by (λ e. pick e == id) m

-- how many entries have this half alone
abbrev pub with_half_alone : (pick other : ℕ × ℕ × ℕ → ℕ) → ℕ → Pairs → ℕ
with_half_alone pick other id m = count_by (λ e. pick e == id && other e == 0) m

-- the rows are from 1 on, each row is in some entry, and a row that is in an entry alone is in no other
pub record AreHalves (pick other : ℕ × ℕ × ℕ → ℕ) (rows : Rows) (m : Pairs) : Type 0 where
  pub rise : RiseFrom 1 rows
  pub each : (id : ℕ) → IsSome (row_of rows id) → 1 ≤ with_half pick id m
  pub alone : (id : ℕ) → 1 ≤ with_half_alone pick other id m → with_half pick id m ≤ 1

-- each identifier of r has one entry of halves that are there or absent, no entry stands twice, and the row of r joins the halves; no entry has both halves absent
pub record IsOuter (j : Joining) (s t r : Rows) (m : Pairs) : Type 0 where
  pub joined : IsJoined j (with_absent j.first s) (with_absent j.second t) r m
  pub none : count_by (has_pair 0 0) m ≡ 0
  pub first : AreHalves first_of second_of s m
  pub second : AreHalves second_of first_of t m

-- some row of these passes
abbrev pub some_row : (ℕ → Bool) → Rows → Bool
some_row test [] = false
some_row test (r ∷ rs) = if test r.0 then true else some_row test rs

-- a row that is in no full entry with a row of the other table
abbrev pub is_alone : Rows → (ℕ → Bool) → Rows → ℕ → Bool
is_alone rows full others id = is_some (row_of rows id) && not (some_row full others)

-- the entries of a new source: full ones are those that JOIN on the condition shows; a row in none of these has an entry alone
abbrev pub is_entry : Joining → Rows → Rows → Pairs → Rows → Rows → ℕ → ℕ → Bool
is_entry j s t m ns nt a b =
    if a == 0 then (if b == 0 then false else is_alone nt (λ a. is_shown j s t m ns nt a b) ns b)
    else (if b == 0 then is_alone ns (λ b. is_shown j s t m ns nt a b) nt a else is_shown j s t m ns nt a b)

-- the entries that are new, in order of the first half and then of the second, with 0 first
abbrev pub new_entries : Joining → Rows → Rows → Pairs → Rows → Rows → List (ℕ × ℕ)
new_entries j s t m ns nt = filter (λ x. is_entry j s t m ns nt x.0 x.1 && not (has m x.0 x.1)) (all_pairs (with_absent j.first ns) (with_absent j.second nt))

-- the new memory: an entry that stood in the old one keeps its identifier, and the others draw theirs in order
abbrev pub entries : Joining → Rows → Rows → Pairs → Rows → Rows → ℕ → Pairs
entries j s t m ns nt n = filter (λ e. is_entry j s t m ns nt e.1 e.2) m ++ numbered n (new_entries j s t m ns nt)
