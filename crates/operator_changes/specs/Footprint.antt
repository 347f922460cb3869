-- Which identifiers a mapping of changes has to see.
use Rattle.std.specs.Prelude.{◌≡◌, ℕ, zero, suc, ◌+◌, ◌-◌, nat_lt, ◌||◌, not, Bool, List, [], ◌∷◌, ◌++◌, if◌then◌else◌}
use Rattle.op_law.specs.Local.{only}
use Rattle.op_law.specs.Meaning.{Meaning, PairState}
use Rattle.op_law.specs.Premises.{SomeMap}
use Rattle.op_law.specs.Identifiers.{has_id, IdsRise, ids_over}
use Rattle.row_changes.specs.Changed.{TableChanges, changed_tables}
use Rattle.row_changes.specs.Touched.{EachPass, touched_over}
use Rattle.pair_parts.specs.Parts.{memory_only, part_of_pair}

-- one of these identifiers, or one that isn't drawn yet
abbrev pub passes : List ℕ → ℕ → ℕ → Bool
passes ids n q = has_id ids q || not (nat_lt q n)

-- those of these that are below n
abbrev pub ids_under : ℕ → List ℕ → List ℕ
ids_under n [] = []
ids_under n (x ∷ xs) = if nat_lt x n then x ∷ ids_under n xs else ids_under n xs

-- so many identifiers from n on
abbrev pub drawn_from : ℕ → ℕ → List ℕ
drawn_from zero n = []
drawn_from (suc k) n = n ∷ drawn_from k (n + 1)

-- with those that were drawn
abbrev pub with_drawn : List ℕ → ℕ → ℕ → List ℕ
with_drawn ids n next = ids_under n ids ++ drawn_from (next - n) n

-- A FOOTPRINT OF CHANGES: mapping what stands at these identifiers, with their entries, gives what the mapping gives there and draws, and changes nothing else
pub record IsFootprint (m : Meaning) (near : TableChanges) (p : PairState) (n : ℕ) (ids : List ℕ) : Type 0 where
  pub rise : IdsRise 0 ids
  -- all that is changed is in it
  pub touches : EachPass (has_id ids) near
  -- the part is a pair by itself, which may be mapped
  pub may : SomeMap m (only (passes ids n) (changed_tables p.source near)) (part_of_pair (passes ids n) p) n
  -- it gives the part of the result, and draws the same
  pub far : (m.forward (only (passes ids n) (changed_tables p.source near)) (part_of_pair (passes ids n) p) n).far ≡ only (passes ids n) (m.forward (changed_tables p.source near) p n).far
  pub memory : (m.forward (only (passes ids n) (changed_tables p.source near)) (part_of_pair (passes ids n) p) n).memory ≡ memory_only (passes ids n) (m.forward (changed_tables p.source near) p n).memory
  pub next : (m.forward (only (passes ids n) (changed_tables p.source near)) (part_of_pair (passes ids n) p) n).next ≡ (m.forward (changed_tables p.source near) p n).next
  -- elsewhere nothing is changed
  pub rest : only (λ q. not (passes ids n q)) (m.forward (changed_tables p.source near) p n).far ≡ only (λ q. not (passes ids n q)) p.target
  pub memory_rest : memory_only (λ q. not (passes ids n q)) (m.forward (changed_tables p.source near) p n).memory ≡ memory_only (λ q. not (passes ids n q)) p.memory

-- all identifiers of the changes, of the near side that they make, and of the old pair
abbrev pub whole_ids : TableChanges → PairState → List ℕ
whole_ids near p = touched_over near (ids_over (changed_tables p.source near) (ids_over p.source (ids_over p.target [])))
