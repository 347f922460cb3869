-- DECOMPOSE ON FK. The source is R, and the targets are S and T. OUTER JOIN ON FK is its flip.
use Rattle.std.specs.Prelude.{◌≡◌, ℕ, ◌+◌, List, [], ◌∷◌, Bool, true, false, not, ◌&&◌, ◌||◌, cond, length, Option, Some, None}
use Rattle.par_base.specs.declared.value.Value.{Value}
use Rattle.par_base.specs.declared.value.Value.TheVariants.{Null, Reference}
use Rattle.row_store.specs.Rows.{Rows, row_of}
use Rattle.op_law.specs.Tables.{Tables, Heading}
use Rattle.op_law.specs.Identifiers.{ids_in, ids_over}
use Rattle.op_law.specs.Meaning.{Meaning, Mapped, PairState}
use Rattle.op_rows.specs.Cells.{table_from}
use Rattle.row_parts.specs.RowCells.{Cell, is_there, or_else, kept_if, map_cell, in_cell, id_or, value_or}
use Rattle.foreign_keys.specs.KeyParts.{FkParts}
use Rattle.foreign_keys.specs.References.{goal_of, dangles, referred, far_part}
use Rattle.foreign_keys.specs.DrawnIds.{numbered, place, drawn}
use Rattle.foreign_keys.specs.Least.{least_with}
use Rattle.foreign_keys.specs.Shared.{head_or_null, second_part_at}
use Rattle.foreign_keys.specs.Seeking.{seek, goals_in}
use Rattle.op_tables.specs.SideTables.{first_table, second_table, third_table}
use Rattle.par_base.specs.SameRows.{same_row}

-- S and T, beside what takes their rows apart
pub record TargetRows (P : Type 0) : Type 0 where
  pub by : P
  pub s : Rows
  pub t : Rows

module _ (k : FkParts) where
  -- a row of T that S lacks and to which no row of S refers
  abbrev pub alone : Rows → Rows → ℕ → Bool
  alone s t q = is_there (row_of t q) && (not (is_there (row_of s q)) && not (referred k s q))

  -- what R has where S and T have this
  abbrev pub joined_in : Cell → Cell → Bool → Rows → Cell
  joined_in (Some v) there is_alone t = Some (k.join (k.part v) (far_part k t (k.key v)))
  joined_in None there true t = map_cell (k.join k.null_first) there
  joined_in None there false t = None

  -- what R has at p
  abbrev pub joined : Rows → Rows → ℕ → Cell
  joined s t p = joined_in (row_of s p) (row_of t p) (alone s t p) t

  -- a row of T that isn't alone may be shared
  abbrev pub may_share : Rows → Rows → ℕ → List Value → Bool
  may_share s t q row = not (alone s t q)

  -- the least of these rows of T that has the value b and wasn't alone
  abbrev pub least_in : Rows → Rows → Rows → List Value → Option ℕ
  least_in s t rows b = least_with (may_share s t) rows b

  -- the foreign key of an old row stays where the T part is unchanged
  abbrev pub key_of_old : Rows → List Value → List Value → Option Value
  key_of_old t v y = cond (same_row y (far_part k t (k.key v))) (Some (k.key v)) None

  -- the foreign key of a new row with the parts x and y, from the old S row, or whether it was alone. None: it stays alone, without a row of S. Some None: the key is the reference to a row of its T part. Some (Some f): the key is f
  abbrev pub how_in : Cell → Bool → ℕ → Rows → List Value → List Value → Option (Option Value)
  how_in (Some v) is_alone p t x y = Some (key_of_old t v y)
  how_in None true p t x y = cond (same_row x k.null_first) None (Some (Some (Reference p)))
  how_in None false p t x y = Some None

  -- the foreign key of a new row of R
  abbrev pub how : Rows → Rows → ℕ → List Value → Option (Option Value)
  how s t p row = how_in (row_of s p) (alone s t p) p t (k.first row) (k.second row)

  -- whether an identifier is drawn for the T part, where none was drawn for it before
  abbrev pub draws_for : Option (Option Value) → Option ℕ → Bool → Bool
  draws_for None least null = false
  draws_for (Some (Some f)) least null = false
  draws_for (Some None) (Some q) null = false
  draws_for (Some None) None null = not null

  -- whether an identifier is drawn for the T part of a row
  abbrev pub needs : Rows → Rows → ℕ → List Value → Bool
  needs s t p row = draws_for (how s t p row) (least_in s t t (k.second row)) (same_row (k.second row) k.null_second)

  -- the values for which identifiers are drawn
  abbrev pub values_drawn : Rows → Rows → Rows → List (List Value)
  values_drawn s t near = drawn k (needs s t) [] near

  -- the reference to a row of T of value b: null where b is null, else the least old row that wasn't alone, else the drawn one
  abbrev pub ref : Rows → Rows → ℕ → List (List Value) → List Value → Value
  ref s t n d b = cond (same_row b k.null_second) Null (Reference (id_or (n + place d b) (least_in s t t b)))

  -- the new row of S with the S part x, where it has one: its key is the one told, or else f
  abbrev pub near_row : Option (Option Value) → Value → List Value → Cell
  near_row None f x = None
  near_row (Some h) f x = Some (k.put x (value_or f h))

  -- the row of new S that a row of new R makes
  abbrev pub made_row : Rows → Rows → ℕ → List (List Value) → ℕ → List Value → Cell
  made_row s t n d p row = near_row (how s t p row) (ref s t n d (k.second row)) (k.first row)

  -- new S at p, from the row of new R
  abbrev pub new_first : Rows → Rows → ℕ → List (List Value) → Rows → ℕ → Cell
  new_first s t n d near p = in_cell (row_of near p) (made_row s t n d p)

  -- new T at q, with the drawn rows and new S: an alone row's new T part, else an old row to which a row refers or whose identifier is in S, else a drawn row
  abbrev pub second_from : Rows → Rows → Rows → Rows → Rows → ℕ → Cell
  second_from s t made near new q =
      or_else (kept_if (alone s t q) (map_cell k.second (row_of near q)))
      (or_else (kept_if (referred k new q || is_there (row_of new q)) (row_of t q)) (row_of made q))

  -- new T at q, from the drawn values
  abbrev pub new_second : Rows → Rows → ℕ → List (List Value) → Rows → Rows → ℕ → Cell
  new_second s t n d near new q = second_from s t (numbered n d) near new q

  -- new S
  abbrev pub new_s : Rows → Rows → ℕ → List (List Value) → Rows → Rows
  new_s s t n d near = table_from (ids_in near []) (new_first s t n d near)

  -- new T, with the drawn rows and new S
  abbrev pub t_from : Rows → Rows → Rows → Rows → Rows → Rows
  t_from s t made near new = table_from (ids_over (near ∷ t ∷ made ∷ []) []) (second_from s t made near new)

  -- new T, from the drawn values
  abbrev pub new_t : Rows → Rows → ℕ → List (List Value) → Rows → Rows → Rows
  new_t s t n d near new = t_from s t (numbered n d) near new

  -- S and T after a mapping from new R
  abbrev pub s_after : Rows → Rows → Rows → ℕ → Rows
  s_after s t near n = new_s s t n (values_drawn s t near) near

  abbrev pub t_after : Rows → Rows → Rows → ℕ → Rows
  t_after s t near n = new_t s t n (values_drawn s t near) near (s_after s t near n)

  -- R
  abbrev pub joined_table : Rows → Rows → Rows
  joined_table s t = table_from (ids_over (s ∷ t ∷ []) []) (joined s t)

  -- each identifier of S with its foreign key
  abbrev pub ref_at : Rows → ℕ → Cell
  ref_at s p = map_cell (λ v. k.key v ∷ []) (row_of s p)

  -- each identifier of S with its foreign key
  abbrev pub refs : Rows → Rows
  refs s = table_from (ids_in s []) (ref_at s)

  -- the identifiers of S whose foreign key is a reference that T lacks
  abbrev pub dangling_at : Rows → Rows → ℕ → Cell
  dangling_at s t p = in_cell (row_of s p) (λ v. kept_if (dangles t (goal_of (k.key v))) (Some []))

  -- the identifiers of S whose foreign key is a reference that T lacks
  abbrev pub dangling : Rows → Rows → Rows
  dangling s t = table_from (ids_in s []) (dangling_at s t)

  -- the rows of T whose identifier is in S, and to which no row of S refers
  abbrev pub kept_at : Rows → Rows → ℕ → Cell
  kept_at s t q = kept_if (is_there (row_of s q) && not (referred k s q)) (row_of t q)

  -- the rows of T whose identifier is in S, and to which no row of S refers
  abbrev pub kept_rows : Rows → Rows → Rows
  kept_rows s t = table_from (ids_in t []) (kept_at s t)

-- the goal, where the reference isn't noted as dangling
abbrev pub live : Cell → Option ℕ → Option ℕ
live None o = o
live (Some v) o = None

module _ (k : FkParts) where
  -- S from R and the foreign keys
  abbrev pub first_again : Rows → Rows → ℕ → Cell
  first_again r fs p = in_cell (row_of fs p) (λ f. map_cell (λ row. k.put (k.first row) (head_or_null f)) (row_of r p))

  -- S from R and the foreign keys
  abbrev pub get_first : Rows → Rows → Rows
  get_first r fs = table_from (ids_in fs []) (first_again r fs)

  -- where a row of S leads in T
  abbrev pub leads : Rows → ℕ → List Value → Option ℕ
  leads dang p v = live (row_of dang p) (goal_of (k.key v))

  -- T at q, from R, S, what dangles and the kept rows: a kept row, else the T part of a row that refers to q, else that of an alone row
  abbrev pub get_at : Rows → Rows → Rows → Rows → ℕ → Cell
  get_at r s dang kept q = or_else (row_of kept q) (or_else (seek (leads dang) (second_part_at k r) s q) (kept_if (not (is_there (row_of s q))) (second_part_at k r q)))

  -- T from R, S, what dangles and the kept rows
  abbrev pub get_second : Rows → Rows → Rows → Rows → Rows
  get_second r s dang kept = table_from (ids_over (r ∷ kept ∷ []) (goals_in (leads dang) s)) (get_at r s dang kept)

-- S and T from a new R: the values are drawn for first
abbrev pub target_from : FkParts → Rows → Rows → Rows → ℕ → Mapped
target_from k s t near n = record {
  far = s_after k s t near n ∷ t_after k s t near n ∷ [];
  memory = [];
  next = n + length (values_drawn k s t near);
}

-- the target from a new source
abbrev pub decompose_forward : FkParts → Tables → PairState → ℕ → Mapped
decompose_forward k near old n = target_from k (first_table old.target) (second_table old.target) (first_table near) n

-- the source from a new target
abbrev pub decompose_source : FkParts → Tables → Tables
decompose_source k st = joined_table k (first_table st) (second_table st) ∷ []

-- what is kept beside of S and T: the foreign keys, those that dangle, and the rows of T that R doesn't show
abbrev pub aux_from : FkParts → Rows → Rows → Tables
aux_from k s t = refs k s ∷ dangling k s t ∷ kept_rows k s t ∷ []

-- what a stored source keeps beside
abbrev pub decompose_aux : FkParts → Tables → Tables
decompose_aux k st = aux_from k (first_table st) (second_table st)

-- the target from R, the foreign keys that are kept beside, those that dangle, and the rows of T that are kept
abbrev pub read_under : FkParts → Rows → Rows → Rows → Rows → Tables
read_under k r keys dangling kept = let s = get_first k r keys in s ∷ get_second k r s dangling kept ∷ []

-- the target from a source and what it keeps beside
abbrev pub decompose_read : FkParts → Tables → Tables → Tables
decompose_read k r aux = read_under k (first_table r) (first_table aux) (second_table aux) (third_table aux)

-- DECOMPOSE ON FK for headings that fit, with these parts
abbrev pub decompose_fk : (List Heading → List Heading → Type 0) → FkParts → Meaning
decompose_fk Fits k = record {
  Fits = Fits;
  Closed = λ n. Unit {0};
  Related = λ r st memory. (memory ≡ []) × ((p : ℕ) → row_of (first_table r) p ≡ joined k (first_table st) (second_table st) p);
  forward = decompose_forward k;
  backward = λ near old n. record { far = decompose_source k near; memory = []; next = n };
  aux_at_source = λ p. decompose_aux k p.target;
  aux_at_target = λ p. [];
  read_target = λ r aux memory. decompose_read k r aux;
  read_source = λ st aux memory. decompose_source k st;
  reads_target = true;
  reads_source = true;
  is_local = false;
}
