-- What the operator on tables gives at each identifier: what the row operator gives there.
use Rattle.std.specs.Prelude.{◌≡◌, ℕ, List, true}
use Rattle.op_law.specs.Tables.{Tables, Heading, AreTablesOf}
use Rattle.op_law.specs.Meaning.{PairState}
use Rattle.op_law.specs.Premises.{IsPair}
use Rattle.op_rows.specs.Cells.{cells_at}
use Rattle.op_rows.specs.RowMeaning.{RowMeaning, flip_row, rowwise}

-- in one direction: the far side, the auxiliary tables, and what is read back with them
pub record HalfGivesAtEach (r : RowMeaning) : Type 0 where
  pub far : (hs ht : List Heading) (near : Tables) (old : PairState) (n : ℕ) → IsPair (rowwise r) hs ht old → AreTablesOf hs near → (id : ℕ) → cells_at ((rowwise r).forward near old n).far id ≡ r.forward (cells_at near id) (cells_at old.source id) (cells_at old.target id)
  pub aux : (hs ht : List Heading) (p : PairState) → IsPair (rowwise r) hs ht p → (id : ℕ) → cells_at ((rowwise r).aux_at_source p) id ≡ r.aux_at_source (cells_at p.source id) (cells_at p.target id)
  pub back : (hs ht : List Heading) (p : PairState) → r.reads_target ≡ true → IsPair (rowwise r) hs ht p → (id : ℕ) → cells_at ((rowwise r).read_target p.source ((rowwise r).aux_at_source p) p.memory) id ≡ r.read_target (cells_at p.source id) (cells_at ((rowwise r).aux_at_source p) id)

-- in both directions
abbrev pub GivesAtEach : RowMeaning → Type 0
GivesAtEach r = HalfGivesAtEach r × HalfGivesAtEach (flip_row r)
