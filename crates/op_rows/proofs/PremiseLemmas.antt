-- What a call on tables supposes gives what its calls at each identifier suppose.
use Rattle.std.proofs.Common.{◌≡◌, ℕ, ◌≤◌, List, [], ◌∷◌, suc, length, refl, ap, ◌∙◌, arith}
use Rattle.id_memory.specs.Pairs.{Pairs}
use Rattle.row_store.specs.States.{TableState}
use Rattle.op_law.specs.Tables.{Tables, Heading, contents}
use Rattle.op_law.specs.Meaning.{PairState}
use Rattle.op_law.specs.Premises.{Belongs, SomePair, SomeMap, SomeStored, SomeNear}
use Rattle.op_rows.specs.Cells.{Cells, cells_at, tables_from}
use Rattle.op_rows.specs.RowMeaning.{RowMeaning, RowHalf, rowwise}
use Rattle.op_rows.specs.RowCalls.{SomeRows, MayRows, RowBelongs, StoredRows, NearRows}
use Rattle.op_rows.specs.inner.Tabulated.{cells_well}
use Rattle.op_rows.specs.inner.RowwiseAt.{pair_at, aux_at}
use Rattle.op_rows.specs.inner.RowwiseLocal.{made_long}

module _ (r : RowMeaning) (h : RowHalf r) where
  pub may_rows : (near : Tables) (old : PairState) (n : ℕ) → SomeMap (rowwise r) near old n → (id : ℕ) → MayRows r (cells_at near id) (cells_at old.source id) (cells_at old.target id)
  may_rows near old n some id = record {
    hs = some.hs;
    ht = some.ht;
    pair = pair_at r h some.hs some.ht old some.may.sound.pair id;
    near_of = cells_well some.hs near id some.may.near_of;
  }

  pub some_rows : (p : PairState) → SomePair (rowwise r) p → (id : ℕ) → SomeRows r (cells_at p.source id) (cells_at p.target id)
  some_rows p some id = record { hs = some.hs; ht = some.ht; pair = pair_at r h some.hs some.ht p some.pair id }

  -- what belongs together belongs together at each identifier
  pub belongs_at : (hs ht : List Heading) (aux : Tables) (p : PairState) → Belongs (rowwise r) hs ht aux p → (id : ℕ) → RowBelongs r hs ht (cells_at aux id) (cells_at p.source id) (cells_at p.target id)
  belongs_at hs ht aux p belongs id = record {
    pair = pair_at r h hs ht p belongs.pair id;
    aux_is = ap (λ (ts : Tables). cells_at ts id) belongs.aux_is ∙ aux_at r h hs ht p belongs.pair id;
  }

  pub stored_rows : (near aux : Tables) (memory : Pairs) → SomeStored (rowwise r) near aux memory → (id : ℕ) → StoredRows r (cells_at near id) (cells_at aux id)
  stored_rows near aux memory some id = record {
    hs = some.hs;
    ht = some.ht;
    far = cells_at some.far id;
    belongs = belongs_at some.hs some.ht aux (record { source = near; target = some.far; memory = memory }) some.belongs id;
  }

  pub near_rows : (near : Tables) → SomeNear (rowwise r) near → (id : ℕ) → NearRows r (cells_at near id)
  near_rows near some id = record { hs = some.hs; ht = some.ht; fits = some.fits; near_of = cells_well some.hs near id some.near_of }

pub contents_long : (tables : List TableState) → length (contents tables) ≡ length tables
contents_long [] = refl
contents_long (t ∷ ts) = ap suc (contents_long ts)

-- made tables are as many as they were to be
pub few_made : (tables : List TableState) (k : ℕ) (ids : List ℕ) (f : ℕ → Cells) → contents tables ≡ tables_from k ids f → k ≤ 2 → length tables ≤ 2
few_made tables k ids f made few = omega (arith, contents_long tables, ap length made, made_long k ids f)
