-- The laws of an operator, for one direction and both.
use Rattle.std.specs.Prelude.{◌≡◌, ℕ, ◌≤◌, ◌⊎◌, List, [], length, true}
use Rattle.op_law.specs.Tables.{Tables, Heading, AllRise, empty_tables}
use Rattle.op_law.specs.Sound.{TablesSound, PairsSound, HasRow}
use Rattle.op_law.specs.Meaning.{Meaning, PairState, Mapped, flip}
use Rattle.op_law.specs.Premises.{IsPair, MayMap, pair_after}
use Rattle.op_law.specs.Local.{HalfLocal}

-- a row of the identifier stands on either side
abbrev pub InPair : ℕ → PairState → Type 0
InPair id p = HasRow id p.source ⊎ HasRow id p.target

-- what a mapping gives may stand while its own next identifier is the next one, and a row that neither the near side nor the old pair has is one that it drew, not below the old next identifier
pub record IsBelowNext (near : Tables) (old : PairState) (n : ℕ) (to : Mapped) : Type 0 where
  pub rises : n ≤ to.next
  pub far : TablesSound to.next to.far
  pub memory : PairsSound to.next to.memory
  pub drawn : (id : ℕ) → HasRow id to.far → HasRow id near ⊎ (InPair id old ⊎ (n ≤ id))

-- the laws of mapping forward, and of a stored source
pub record HalfLaws (m : Meaning) : Type 0 where
  -- kept: the new pair is related
  pub kept : (hs ht : List Heading) (near : Tables) (old : PairState) (n : ℕ) → MayMap m hs ht near old n → IsPair m hs ht (pair_after m near old n)
  -- still: a side that didn't change changes nothing
  pub still : (hs ht : List Heading) (old : PairState) (n : ℕ) → MayMap m hs ht old.source old n → m.forward old.source old n ≡ record { far = old.target; memory = old.memory; next = n }
  -- below: identifiers stay below the next one, and new ones are drawn
  pub below : (hs ht : List Heading) (near : Tables) (old : PairState) (n : ℕ) → MayMap m hs ht near old n → IsBelowNext near old n (m.forward near old n)
  -- recovered: a source with its auxiliary tables and the memory gives back the target
  pub recovered : (hs ht : List Heading) (p : PairState) → m.reads_target ≡ true → IsPair m hs ht p → m.read_target p.source (m.aux_at_source p) p.memory ≡ p.target
  -- only an operator without sources may lack that
  pub readable : (hs ht : List Heading) → m.Fits hs ht → (hs ≡ []) ⊎ (m.reads_target ≡ true)
  -- empty: empty tables are related
  pub empty : (hs ht : List Heading) → m.Fits hs ht → m.Related (empty_tables hs) (empty_tables ht) []
  -- expressions that are closed stay so while identifiers are drawn
  pub closed_more : (n k : ℕ) → n ≤ k → m.Closed n → m.Closed k
  -- auxiliary tables ascend
  pub aux_rises : (hs ht : List Heading) (p : PairState) → IsPair m hs ht p → AllRise (m.aux_at_source p)
  -- as many are kept beside one related pair as beside another
  pub aux_many : (hs ht : List Heading) (p q : PairState) → IsPair m hs ht p → IsPair m hs ht q → length (m.aux_at_source p) ≡ length (m.aux_at_source q)
  -- local: one that says that it treats each identifier by itself does
  pub local : m.is_local ≡ true → HalfLocal m

-- the laws both ways
abbrev pub Laws : Meaning → Type 0
Laws m = HalfLaws m × HalfLaws (flip m)

-- they hold of a flip as well: the flip of a flip computes to the operator, so the two halves change places
pub flip_laws : (m : Meaning) → Laws m → Laws (flip m)
flip_laws m laws = (laws.1, laws.0)
