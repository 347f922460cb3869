-- The pairs of rows that a joined table shows, and what a new source makes of them.
use Rattle.std.specs.Prelude.{◌≡◌, ℕ, ◌+◌, List, [], ◌∷◌, ◌++◌, filter, Bool, false, ◌&&◌, ◌||◌, not, Some, None, IsSome, is_some}
use Rattle.expr_lang.specs.Terms.{Term}
use Rattle.expr_lang.specs.Val.{holds_at}
use Rattle.row_store.specs.Rows.{Rows, row_of}
use Rattle.id_memory.specs.Pairs.{Pairs, RiseFrom, IsOneToOne, id_of}
use Rattle.op_rows.specs.Cells.{with_row}
use Rattle.row_parts.specs.RowCells.{Cell}
use Rattle.row_parts.specs.Places.{row_of_both as joined_row}

-- where the columns of both tables stand in a joined row, and the condition over it
pub record Joining : Type 0 where
  pub first : List ℕ
  pub second : List ℕ
  pub condition : Term ℕ

-- the joined row, where there are both rows
abbrev pub join_cells : Joining → Cell → Cell → Cell
join_cells j (Some a) (Some b) = Some (joined_row j.first j.second a b)
join_cells j (Some a) None = None
join_cells j None b = None

-- the joined row of a pair of identifiers
abbrev pub row_at : Joining → Rows → Rows → ℕ → ℕ → Cell
row_at j s t a b = join_cells j (row_of s a) (row_of t b)

-- the condition holds of the row, where there is one
abbrev pub holds_in : Term ℕ → Cell → Bool
holds_in condition None = false
holds_in condition (Some row) = holds_at condition row

-- both rows are there, and the condition holds of the joined row
abbrev pub matches : Joining → Rows → Rows → ℕ → ℕ → Bool
matches j s t a b = holds_in j.condition (row_at j s t a b)

-- the joined rows of the pairs of a memory, each under its identifier
abbrev pub joined : Joining → Rows → Rows → Pairs → Rows
joined j s t [] = []
joined j s t (e ∷ es) = with_row e.0 (row_at j s t e.1 e.2) (joined j s t es)

-- each pair is one of rows that are there
abbrev pub AreThere : Rows → Rows → Pairs → Type 0
AreThere s t [] = Unit {0}
AreThere s t (e ∷ es) = (IsSome (row_of s e.1) × IsSome (row_of t e.2)) × AreThere s t es

-- each identifier of r has one pair of rows that are there, no pair stands twice, and the row of r is the joined row
pub record IsJoined (j : Joining) (s t r : Rows) (m : Pairs) : Type 0 where
  pub rises : RiseFrom 0 m
  pub one : IsOneToOne m
  pub there : AreThere s t m
  pub rows : r ≡ joined j s t m

-- whether the pair is in the memory
abbrev pub has : Pairs → ℕ → ℕ → Bool
has m a b = is_some (id_of m a b)

-- a deleted pair: its two old rows were there and matched, and it wasn't in the old memory
abbrev pub is_deleted : Joining → Rows → Rows → Pairs → ℕ → ℕ → Bool
is_deleted j s t m a b = matches j s t a b && not (has m a b)

-- a pair of new rows is shown where it was in the old memory and its old rows didn't match, or where its new rows match and it isn't deleted
abbrev pub is_shown : Joining → Rows → Rows → Pairs → Rows → Rows → ℕ → ℕ → Bool
is_shown j s t m ns nt a b = is_some (row_at j ns nt a b) && ((has m a b && not (matches j s t a b)) || (matches j ns nt a b && not (is_deleted j s t m a b)))

-- the pairs of an identifier with those of a table
abbrev pub pairs_with : ℕ → Rows → List (ℕ × ℕ)
pairs_with a [] = []
pairs_with a (r ∷ rs) = (a, r.0) ∷ pairs_with a rs

-- all pairs of rows, in order of the first and then of the second
abbrev pub all_pairs : Rows → Rows → List (ℕ × ℕ)
all_pairs [] t = []
all_pairs (r ∷ rs) t = pairs_with r.0 t ++ all_pairs rs t

-- the pairs that are shown and were not in the old memory
abbrev pub new_pairs : Joining → Rows → Rows → Pairs → Rows → Rows → List (ℕ × ℕ)
new_pairs j s t m ns nt = filter (λ x. is_shown j s t m ns nt x.0 x.1 && not (has m x.0 x.1)) (all_pairs ns nt)

-- pairs with the identifiers that are drawn for them, from n on
abbrev pub numbered : ℕ → List (ℕ × ℕ) → Pairs
numbered n [] = []
numbered n (x ∷ xs) = (n, x.0, x.1) ∷ numbered (n + 1) xs

-- the entries of the old memory that are still shown
abbrev pub kept_pairs : Joining → Rows → Rows → Pairs → Rows → Rows → Pairs
kept_pairs j s t m ns nt = filter (λ e. is_shown j s t m ns nt e.1 e.2) m

-- the new memory: a pair that was in the old one keeps its identifier, and the others draw theirs in order
abbrev pub shown_pairs : Joining → Rows → Rows → Pairs → Rows → Rows → ℕ → Pairs
shown_pairs j s t m ns nt n = kept_pairs j s t m ns nt ++ numbered n (new_pairs j s t m ns nt)
