-- The laws of one operator after another, with three sides in place of two.
use Rattle.std.specs.Prelude.{◌≡◌, ℕ, ◌≤◌, ◌⊎◌, List, [], true}
use Rattle.op_law.specs.Tables.{Tables, Heading, empty_tables}
use Rattle.op_law.specs.Sound.{TablesSound, PairsSound, HasRow}
use Rattle.op_law.specs.Meaning.{Meaning, PairState, Mapped}
use Rattle.op_law.specs.Premises.{IsPair, pair_after}
use Rattle.op_law.specs.Laws.{InPair}
use Rattle.op_law.specs.Chained.{MayChain, chain_forward, chain_read}

-- the new pairs are related, and share the middle side
pub record ChainKept (a b : Meaning) (hs hm ht : List Heading) (near : Tables) (first second : PairState) (n : ℕ) : Type 0 where
  pub first_kept : IsPair a hs hm (pair_after a near first n)
  pub second_kept : IsPair b hm ht (pair_after b (a.forward near first n).far second (a.forward near first n).next)

-- what both mappings give may stand while the last next identifier is the next one, and new rows are drawn
pub record ChainBelowNext (near : Tables) (first second : PairState) (n : ℕ) (middle far : Mapped) : Type 0 where
  pub rises : n ≤ far.next
  pub middle_sound : TablesSound far.next middle.far
  pub far_sound : TablesSound far.next far.far
  pub first_sound : PairsSound far.next middle.memory
  pub second_sound : PairsSound far.next far.memory
  pub drawn : (id : ℕ) → HasRow id middle.far ⊎ HasRow id far.far → HasRow id near ⊎ (InPair id first ⊎ (InPair id second ⊎ (n ≤ id)))

-- the laws of mapping forward, and of a stored source
pub record ChainLaws (a b : Meaning) : Type 0 where
  pub kept : (near : Tables) (first second : PairState) (n : ℕ) → (may : MayChain a b near first second n) → ChainKept a b may.hs may.hm may.ht near first second n
  pub still : (first second : PairState) (n : ℕ) → MayChain a b first.source first second n → chain_forward a b first.source first second n ≡ (record { far = first.target; memory = first.memory; next = n }, record { far = second.target; memory = second.memory; next = n })
  pub below : (near : Tables) (first second : PairState) (n : ℕ) → MayChain a b near first second n → ChainBelowNext near first second n (chain_forward a b near first second n).0 (chain_forward a b near first second n).1
  pub recovered : (hs hm ht : List Heading) (first second : PairState) → a.reads_target ≡ true → b.reads_target ≡ true → IsPair a hs hm first → IsPair b hm ht second → first.target ≡ second.source → chain_read a b first.source (a.aux_at_source first) (b.aux_at_source second) first.memory second.memory ≡ (first.target, second.target)
  pub empty : (hs hm ht : List Heading) → a.Fits hs hm → b.Fits hm ht → a.Related (empty_tables hs) (empty_tables hm) [] × b.Related (empty_tables hm) (empty_tables ht) []
