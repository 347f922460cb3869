-- SPLIT. MERGE is its flip.
use Rattle.std.specs.Prelude.{◌≡◌, ℕ, List, [], ◌∷◌, Bool, true, false, length, Option, Some, None}
use Rattle.expr_lang.specs.Terms.{Term}
use Rattle.expr_lang.specs.Val.{holds_at, fits_row}
use Rattle.op_law.specs.Tables.{Heading, widths}
use Rattle.op_law.specs.SoundTerms.{TermSound}
use Rattle.op_rows.specs.Cells.{Cells, nth_cell}
use Rattle.op_rows.specs.RowMeaning.{RowMeaning}
use Rattle.op_split_merge.specs.Twins.{Test, first_to, second_to, AreTwinsOf, rest_of, source_to}
use Rattle.op_split_merge.specs.Sides.{targets_of}
use Rattle.op_split_merge.specs.Auxiliary.{split_aux, shown_by, second_by}

-- which rows meet a condition; where there is none, no row does
abbrev pub test_of : Option (Term ℕ) → Test
test_of None row = false
test_of (Some condition) row = holds_at condition row

-- a condition reads only columns that a row of so many values has
abbrev pub reads_within : Option (Term ℕ) → ℕ → Bool
reads_within None width = true
reads_within (Some condition) width = fits_row condition width

-- the literals of a condition may stand
abbrev pub ConditionSound : ℕ → Option (Term ℕ) → Type 0
ConditionSound n None = Unit {0}
ConditionSound n (Some condition) = TermSound n condition

-- two auxiliary tables for the first target, and with a second target five
abbrev pub aux_count : Option (Term ℕ) → ℕ
aux_count None = 2
aux_count (Some condition) = 5

-- all tables have so many columns, and the conditions read them
pub record SplitFits (width : ℕ) (first : Term ℕ) (second : Option (Term ℕ)) (hs ht : List Heading) : Type 0 where
  pub source : widths hs ≡ width ∷ []
  pub target : widths ht ≡ targets_of second width width
  pub first_reads : fits_row first width ≡ true
  pub second_reads : reads_within second width ≡ true

module _ (first : Term ℕ) (second : Option (Term ℕ)) where
  -- both sides are related
  abbrev pub SplitRelated : Cells → Cells → Type 0
  SplitRelated s t = AreTwinsOf (holds_at first) (test_of second) (nth_cell 0 s) (nth_cell 0 t) (nth_cell 1 t)

  -- the new targets, from the new source and the old targets
  abbrev pub split_forward : Cells → Cells → Cells
  split_forward near t =
      let p = holds_at first in
      let q = test_of second in
      targets_of second (first_to p q (nth_cell 0 near) (nth_cell 0 t) (nth_cell 1 t)) (second_to p q (nth_cell 0 near) (nth_cell 0 t) (nth_cell 1 t))

  -- the auxiliary rows where the source is stored
  abbrev pub split_aux_at_source : Cells → Cells → Cells
  split_aux_at_source s t = split_aux (holds_at first) (test_of second) second (nth_cell 0 s) (nth_cell 0 t) (nth_cell 1 t)

  -- the targets from the source and its auxiliary rows
  abbrev pub split_read_target : Cells → Cells → Cells
  split_read_target s aux =
      targets_of second (shown_by (holds_at first) (nth_cell 0 s) (nth_cell 0 aux) (nth_cell 1 aux)) (second_by (test_of second) (nth_cell 0 s) (nth_cell 2 aux) (nth_cell 3 aux) (nth_cell 4 aux))

-- where the targets are stored, the row that is in neither is kept beside
abbrev pub split_aux_at_target : Cells → Cells → Cells
split_aux_at_target s t = rest_of (nth_cell 0 s) (nth_cell 0 t) (nth_cell 1 t) ∷ []

-- the source, from the targets and the row that was in neither
abbrev pub split_read_source : Cells → Cells → Cells
split_read_source t rest = source_to (nth_cell 0 t) (nth_cell 1 t) (nth_cell 0 rest) ∷ []

abbrev pub split : ℕ → Term ℕ → Option (Term ℕ) → RowMeaning
split width first second = record {
  sources = 1;
  targets = length (targets_of second width width);
  source_aux = aux_count second;
  target_aux = 1;
  Fits = SplitFits width first second;
  Closed = λ n. TermSound n first × ConditionSound n second;
  Related = SplitRelated first second;
  forward = λ near s t. split_forward first second near t;
  backward = λ near s t. split_read_source near (split_aux_at_target s t);
  aux_at_source = split_aux_at_source first second;
  aux_at_target = split_aux_at_target;
  read_target = split_read_target first second;
  read_source = split_read_source;
  reads_target = true;
  reads_source = true;
}
