-- An operator that treats each identifier by itself: what it is at one identifier, and what that makes of tables.
use Rattle.std.specs.Prelude.{◌≡◌, ℕ, ◌≤◌, ◌⊎◌, List, [], length, Bool, true}
use Rattle.op_law.specs.Tables.{Heading}
use Rattle.op_law.specs.Identifiers.{ids_over}
use Rattle.op_law.specs.Meaning.{Meaning}
use Rattle.op_rows.specs.Cells.{Cells, cells_at, nones, tables_from, AreCellsOf, CellsSound}

pub record RowMeaning : Type 1 where
  -- how many tables each side has, and how many auxiliary tables
  pub sources : ℕ
  pub targets : ℕ
  pub source_aux : ℕ
  pub target_aux : ℕ
  -- it is built for sources and targets with these headings
  pub Fits : List Heading → List Heading → Type 0
  -- its expressions are closed
  pub Closed : ℕ → Type 0
  -- the rows of one identifier in source and target are related
  pub Related : Cells → Cells → Type 0
  -- from the new source, the old source and the old target: the new target
  pub forward : Cells → Cells → Cells → Cells
  -- from the new target, the old source and the old target: the new source
  pub backward : Cells → Cells → Cells → Cells
  -- the auxiliary rows of source and target, where the source is stored
  pub aux_at_source : Cells → Cells → Cells
  -- the auxiliary rows of source and target, where the target is stored
  pub aux_at_target : Cells → Cells → Cells
  -- the target from the source and its auxiliary rows
  pub read_target : Cells → Cells → Cells
  -- the source from the target and its auxiliary rows
  pub read_source : Cells → Cells → Cells
  -- the target of a related pair is read back so
  pub reads_target : Bool
  -- the source of a related pair is read back so
  pub reads_source : Bool

-- the operator with its sides exchanged
abbrev pub flip_row : RowMeaning → RowMeaning
flip_row r = record {
  sources = r.targets;
  targets = r.sources;
  source_aux = r.target_aux;
  target_aux = r.source_aux;
  Fits = λ hs ht. r.Fits ht hs;
  Closed = r.Closed;
  Related = λ s t. r.Related t s;
  forward = λ near s t. r.backward near t s;
  backward = λ near s t. r.forward near t s;
  aux_at_source = λ s t. r.aux_at_target t s;
  aux_at_target = λ s t. r.aux_at_source t s;
  read_target = r.read_source;
  read_source = r.read_target;
  reads_target = r.reads_source;
  reads_source = r.reads_target;
}

-- the operator on tables that is this one at each identifier
abbrev pub rowwise : RowMeaning → Meaning
rowwise r = record {
  Fits = r.Fits;
  Closed = r.Closed;
  Related = λ s t memory. (memory ≡ []) × ((id : ℕ) → r.Related (cells_at s id) (cells_at t id));
  forward = λ near old n. record {
    far = tables_from r.targets (ids_over near (ids_over old.source (ids_over old.target []))) (λ id. r.forward (cells_at near id) (cells_at old.source id) (cells_at old.target id));
    memory = [];
    next = n;
  };
  backward = λ near old n. record {
    far = tables_from r.sources (ids_over near (ids_over old.target (ids_over old.source []))) (λ id. r.backward (cells_at near id) (cells_at old.source id) (cells_at old.target id));
    memory = [];
    next = n;
  };
  aux_at_source = λ p. tables_from r.source_aux (ids_over p.source (ids_over p.target [])) (λ id. r.aux_at_source (cells_at p.source id) (cells_at p.target id));
  aux_at_target = λ p. tables_from r.target_aux (ids_over p.target (ids_over p.source [])) (λ id. r.aux_at_target (cells_at p.source id) (cells_at p.target id));
  read_target = λ s aux memory. tables_from r.targets (ids_over s (ids_over aux [])) (λ id. r.read_target (cells_at s id) (cells_at aux id));
  read_source = λ t aux memory. tables_from r.sources (ids_over t (ids_over aux [])) (λ id. r.read_source (cells_at t id) (cells_at aux id));
  reads_target = r.reads_target;
  reads_source = r.reads_source;
  is_local = true;
}

-- what is related at one identifier
pub record RowPair (r : RowMeaning) (hs ht : List Heading) (s t : Cells) : Type 0 where
  pub fits : r.Fits hs ht
  pub related : r.Related s t
  pub source_of : AreCellsOf hs s
  pub target_of : AreCellsOf ht t

-- what the laws suppose of a mapping forward at one identifier
pub record MayRow (r : RowMeaning) (hs ht : List Heading) (near s t : Cells) (n : ℕ) : Type 0 where
  pub pair : RowPair r hs ht s t
  pub closed : r.Closed n
  pub source_sound : CellsSound n s
  pub target_sound : CellsSound n t
  pub near_of : AreCellsOf hs near
  pub near_sound : CellsSound n near

-- the laws of one direction, at one identifier
pub record RowHalf (r : RowMeaning) : Type 0 where
  pub related : (hs ht : List Heading) (near s t : Cells) → RowPair r hs ht s t → AreCellsOf hs near → r.Related near (r.forward near s t)
  pub wide : (hs ht : List Heading) (near s t : Cells) → RowPair r hs ht s t → AreCellsOf hs near → AreCellsOf ht (r.forward near s t)
  pub still : (hs ht : List Heading) (s t : Cells) → RowPair r hs ht s t → r.forward s s t ≡ t
  pub below : (hs ht : List Heading) (near s t : Cells) (n : ℕ) → MayRow r hs ht near s t n → CellsSound n (r.forward near s t)
  pub recovered : (hs ht : List Heading) (s t : Cells) → r.reads_target ≡ true → RowPair r hs ht s t → r.read_target s (r.aux_at_source s t) ≡ t
  pub readable : (hs ht : List Heading) → r.Fits hs ht → (hs ≡ []) ⊎ (r.reads_target ≡ true)
  pub aux_long : (hs ht : List Heading) (s t : Cells) → RowPair r hs ht s t → length (r.aux_at_source s t) ≡ r.source_aux
  pub aux_nothing : r.aux_at_source (nones r.sources) (nones r.targets) ≡ nones r.source_aux
  pub fits_long : (hs ht : List Heading) → r.Fits hs ht → (length hs ≡ r.sources) × (length ht ≡ r.targets)
  pub closed_more : (n k : ℕ) → n ≤ k → r.Closed n → r.Closed k
  pub empty : r.Related (nones r.sources) (nones r.targets)

-- the laws at one identifier, both ways
abbrev pub RowLaws : RowMeaning → Type 0
RowLaws r = RowHalf r × RowHalf (flip_row r)
