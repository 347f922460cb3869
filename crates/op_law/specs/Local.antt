-- The law of operators that treat each identifier by itself.
use Rattle.std.specs.Prelude.{◌≡◌, ℕ, Bool, true, List, [], ◌∷◌, map, if◌then◌else◌}
use Rattle.row_store.specs.Rows.{Rows}
use Rattle.op_law.specs.Tables.{Tables, Heading, AreTablesOf}
use Rattle.op_law.specs.Meaning.{Meaning, PairState, flip}
use Rattle.op_law.specs.Premises.{IsPair, MayMap}

-- the rows of the identifiers that pass the test
abbrev pub rows_only : (ℕ → Bool) → Rows → Rows
rows_only test [] = []
rows_only test (r ∷ rs) = if test r.0 then r ∷ rows_only test rs else rows_only test rs

-- each table with the rows of these identifiers alone
abbrev pub only : (ℕ → Bool) → Tables → Tables
only test tables = map (rows_only test) tables

-- both sides with the rows of these identifiers alone
abbrev pub pair_only : (ℕ → Bool) → PairState → PairState
pair_only test p = record { source = only test p.source; target = only test p.target; memory = p.memory }

-- an identifier is among some for which the tables are a pair
pub record PairAmong (m : Meaning) (hs ht : List Heading) (p : PairState) (id : ℕ) : Type 0 where
  pub test : ℕ → Bool
  pub among : test id ≡ true
  pub pair : IsPair m hs ht (pair_only test p)

-- local: there is no memory, nothing is drawn, and whatever is given these identifiers alone gives its result at these alone
pub record HalfLocal (m : Meaning) : Type 0 where
  pub no_memory : (hs ht : List Heading) (p : PairState) → IsPair m hs ht p → p.memory ≡ []
  pub related : (test : ℕ → Bool) (hs ht : List Heading) (p : PairState) → IsPair m hs ht p → IsPair m hs ht (pair_only test p)
  -- joined: tables that are a pair at every identifier are one
  pub joined : (hs ht : List Heading) (p : PairState) → p.memory ≡ [] → AreTablesOf hs p.source → AreTablesOf ht p.target → ((id : ℕ) → PairAmong m hs ht p id) → IsPair m hs ht p
  pub draws_none : (hs ht : List Heading) (near : Tables) (old : PairState) (n : ℕ) → MayMap m hs ht near old n → (m.forward near old n).next ≡ n
  pub forward : (test : ℕ → Bool) (hs ht : List Heading) (near : Tables) (old : PairState) (n : ℕ) → MayMap m hs ht near old n → (m.forward (only test near) (pair_only test old) n).far ≡ only test (m.forward near old n).far
  pub aux : (test : ℕ → Bool) (hs ht : List Heading) (p : PairState) → IsPair m hs ht p → m.aux_at_source (pair_only test p) ≡ only test (m.aux_at_source p)
  pub read : (test : ℕ → Bool) (hs ht : List Heading) (p : PairState) → m.reads_target ≡ true → IsPair m hs ht p → m.read_target (only test p.source) (only test (m.aux_at_source p)) p.memory ≡ only test (m.read_target p.source (m.aux_at_source p) p.memory)

-- the law both ways
abbrev pub IsLocal : Meaning → Type 0
IsLocal m = HalfLocal m × HalfLocal (flip m)
