-- JOIN ON FK. The sources are S and T, and the target is R.
use Rattle.std.specs.Prelude.{◌≡◌, ℕ, ◌+◌, List, [], ◌∷◌, Bool, true, false, not, cond, length, Option, Some, None}
use Rattle.par_base.specs.declared.value.Value.{Value}
use Rattle.par_base.specs.declared.value.Value.TheVariants.{Reference}
use Rattle.row_store.specs.Rows.{Rows, row_of}
use Rattle.op_law.specs.Tables.{Tables, Heading}
use Rattle.op_law.specs.Identifiers.{ids_in, ids_over}
use Rattle.op_law.specs.Meaning.{Meaning, Mapped, PairState}
use Rattle.op_rows.specs.Cells.{table_from}
use Rattle.row_parts.specs.RowCells.{Cell, is_there, or_else, kept_if, map_cell, in_cell, id_or, value_or}
use Rattle.op_tables.specs.SideTables.{first_table, second_table, third_table}
use Rattle.foreign_keys.specs.KeyParts.{FkParts}
use Rattle.foreign_keys.specs.References.{goal_of, at_goal, referred}
use Rattle.foreign_keys.specs.DrawnIds.{numbered, place, drawn}
use Rattle.foreign_keys.specs.Seeking.{seek, goals_in}
use Rattle.foreign_keys.specs.Shared.{head_or_null, second_part_at}
use Rattle.par_base.specs.SameRows.{same_row}
pub use Rattle.key_index.specs.Found.{first_with}

-- R, from S and T

module _ (k : FkParts) where
  -- what R has where S has this: the row of both, where it refers to a row of T
  abbrev pub joined_row : Cell → Rows → Cell
  joined_row None t = None
  joined_row (Some v) t = map_cell (k.join (k.part v)) (at_goal t (goal_of (k.key v)))

  -- what R has at p
  abbrev pub joined_here : Rows → Rows → ℕ → Cell
  joined_here s t p = joined_row (row_of s p) t

  -- R
  abbrev pub join_table : Rows → Rows → Rows
  join_table s t = table_from (ids_in s []) (joined_here s t)

-- S and T, from new R

-- the foreign key stays where the T part is that of the row to which it refers
abbrev pub stays_at : Value → Cell → List Value → Option Value
stays_at f None y = None
stays_at f (Some u) y = cond (same_row y u) (Some f) None

-- a row draws where its key doesn't stay and no old row of T has its T part
abbrev pub draws_join : Option Value → Option ℕ → Bool
draws_join (Some f) least = false
draws_join None (Some q) = false
draws_join None None = true

-- where new R lacks an identifier of S: gone if old R had it, else as it was
abbrev pub left_in : Cell → Cell → Cell
left_in (Some row) c = None
left_in None c = c

-- new T at q: all old rows, and the drawn ones
abbrev pub join_second_from : Rows → Rows → ℕ → Cell
join_second_from t made q = or_else (row_of t q) (row_of made q)

-- new T at q, from the values that identifiers from n on are drawn for
abbrev pub join_second : Rows → ℕ → List (List Value) → ℕ → Cell
join_second t n d q = join_second_from t (numbered n d) q

-- new T
abbrev pub t_from : Rows → Rows → Rows
t_from t made = table_from (ids_over (t ∷ made ∷ []) []) (join_second_from t made)

module _ (k : FkParts) where
  -- the foreign key that a row keeps, from the old row of S and the new T part
  abbrev pub key_kept : Cell → Rows → List Value → Option Value
  key_kept None t y = None
  key_kept (Some v) t y = stays_at (k.key v) (at_goal t (goal_of (k.key v))) y

  -- whether an identifier is drawn for the T part of a row, where none was drawn for it before
  abbrev pub needs_join : Rows → Rows → ℕ → List Value → Bool
  needs_join s t p row = draws_join (key_kept (row_of s p) t (k.second row)) (first_with t (k.second row))

  -- the values for which identifiers are drawn
  abbrev pub join_drawn : Rows → Rows → Rows → List (List Value)
  join_drawn s t near = drawn k (needs_join s t) [] near

  -- the reference to the least old row of value b, else to the drawn one
  abbrev pub ref_join : Rows → ℕ → List (List Value) → List Value → Value
  ref_join t n d b = Reference (id_or (n + place d b) (first_with t b))

  -- new S, from the row of new R and that of old S
  abbrev pub join_first_in : Cell → Cell → Rows → ℕ → List (List Value) → Cell
  join_first_in None c t n d = left_in (joined_row k c t) c
  join_first_in (Some row) c t n d = Some (k.put (k.first row) (value_or (ref_join t n d (k.second row)) (key_kept c t (k.second row))))

  -- new S at p
  abbrev pub join_first : Rows → Rows → ℕ → List (List Value) → Rows → ℕ → Cell
  join_first s t n d near p = join_first_in (row_of near p) (row_of s p) t n d

  -- new S, from the values that identifiers from n on are drawn for
  abbrev pub s_from : Rows → Rows → ℕ → List (List Value) → Rows → Rows
  s_from s t n d near = table_from (ids_over (near ∷ s ∷ []) []) (join_first s t n d near)

  -- S after a mapping from new R
  abbrev pub s_before : Rows → Rows → Rows → ℕ → Rows
  s_before s t near n = s_from s t n (join_drawn s t near) near

  -- T after a mapping from new R
  abbrev pub t_before : Rows → Rows → Rows → ℕ → Rows
  t_before s t near n = t_from t (numbered n (join_drawn s t near))

-- what a stored R keeps beside

-- a row of S that R lacks
abbrev pub unjoined_here : Rows → Rows → ℕ → Cell
unjoined_here s r p = kept_if (not (is_there (row_of r p))) (row_of s p)

-- the rows of S that R lacks
abbrev pub unjoined : Rows → Rows → Rows
unjoined s r = table_from (ids_in s []) (unjoined_here s r)

module _ (k : FkParts) where
  -- the foreign key of an identifier of R
  abbrev pub key_here : Rows → Rows → ℕ → Cell
  key_here s r p = in_cell (row_of r p) (λ row. map_cell (λ v. k.key v ∷ []) (row_of s p))

  -- each identifier of R with its foreign key
  abbrev pub join_refs : Rows → Rows → Rows
  join_refs s r = table_from (ids_in r []) (key_here s r)

  -- a row of T to which no row of S refers
  abbrev pub unreferred_here : Rows → Rows → ℕ → Cell
  unreferred_here s t q = kept_if (not (referred k s q)) (row_of t q)

  -- the rows of T to which no row of S refers
  abbrev pub unreferred : Rows → Rows → Rows
  unreferred s t = table_from (ids_in t []) (unreferred_here s t)

-- S and T, from R and what it keeps beside

-- where a foreign key leads that is kept beside
abbrev pub key_leads : ℕ → List Value → Option ℕ
key_leads p f = goal_of (head_or_null f)

module _ (k : FkParts) where
  -- S at p: a row that R lacks, else the S part of R with the foreign key
  abbrev pub back_first_at : Rows → Rows → Rows → ℕ → Cell
  back_first_at r keys others p = or_else (row_of others p) (in_cell (row_of r p) (λ row. map_cell (λ f. k.put (k.first row) (head_or_null f)) (row_of keys p)))

  -- S
  abbrev pub back_first : Rows → Rows → Rows → Rows
  back_first r keys others = table_from (ids_over (r ∷ others ∷ []) []) (back_first_at r keys others)

  -- T at q: a row to which none refers, else the T part of the least row of R that refers to q
  abbrev pub back_second_at : Rows → Rows → Rows → ℕ → Cell
  back_second_at r keys others q = or_else (row_of others q) (seek key_leads (second_part_at k r) keys q)

  -- T
  abbrev pub back_second : Rows → Rows → Rows → Rows
  back_second r keys others = table_from (ids_over (others ∷ []) (goals_in key_leads keys)) (back_second_at r keys others)

-- the target of a source
abbrev pub join_target : FkParts → Tables → Tables
join_target k st = join_table k (first_table st) (second_table st) ∷ []

-- S and T from a new R: the values are drawn for first
abbrev pub source_from : FkParts → Rows → Rows → Rows → ℕ → Mapped
source_from k s t near n = record {
  far = s_before k s t near n ∷ t_before k s t near n ∷ [];
  memory = [];
  next = n + length (join_drawn k s t near);
}

-- the source from a new target: the values are drawn for first
abbrev pub join_backward : FkParts → Tables → PairState → ℕ → Mapped
join_backward k near old n = source_from k (first_table old.source) (second_table old.source) (first_table near) n

-- what is kept beside, of S, T and R
abbrev pub aux_from : FkParts → Rows → Rows → Rows → Tables
aux_from k s t r = join_refs k s r ∷ unjoined s r ∷ unreferred k s t ∷ []

-- what a stored target keeps beside, of the source and the target
abbrev pub join_aux : FkParts → Tables → Tables → Tables
join_aux k st r = aux_from k (first_table st) (second_table st) (first_table r)

-- the source from R, the references that are kept beside, and the rows of S and of T that R lacks
abbrev pub read_under : FkParts → Rows → Rows → Rows → Rows → Tables
read_under k r keys others more = back_first k r keys others ∷ back_second k r keys more ∷ []

-- the source from a target and what it keeps beside
abbrev pub join_read : FkParts → Tables → Tables → Tables
join_read k r aux = read_under k (first_table r) (first_table aux) (second_table aux) (third_table aux)

-- the operator: R has the joined rows, and nothing is remembered
abbrev pub join_fk : (List Heading → List Heading → Type 0) → FkParts → Meaning
join_fk Fits k = record {
  Fits = Fits;
  Closed = λ n. Unit {0};
  Related = λ st r memory. (memory ≡ []) × ((p : ℕ) → row_of (first_table r) p ≡ joined_here k (first_table st) (second_table st) p);
  forward = λ near old n. record { far = join_target k near; memory = []; next = n };
  backward = join_backward k;
  aux_at_source = λ p. [];
  aux_at_target = λ p. join_aux k p.source p.target;
  read_target = λ st aux memory. join_target k st;
  read_source = λ r aux memory. join_read k r aux;
  reads_target = true;
  reads_source = true;
  is_local = false;
}
