-- Mapping along a crossing: from its near tables as they are now to its far ones.
use Rattle.std.specs.Prelude.{ℕ, Bool, true, false, List, [], ◌∷◌, map}
use Rattle.version_graph.specs.Forest.{Crossing}
use Rattle.op_law.specs.Tables.{Heading}
use Rattle.op_law.specs.Meaning.{Meaning, PairState, Mapped, flip}
use Rattle.op_law.specs.Premises.{IsPair}
use Rattle.version_model.specs.Put.{put}
use Rattle.version_model.specs.States.{State}

-- backward an operator is crossed as its flip is forward
abbrev pub directed : Bool → Meaning → Meaning
directed false m = m
directed true m = flip m

-- the pair of a crossing, from its near side to its far one
abbrev pub pair_in : {O : Type 0} → State → Crossing O → PairState
pair_in s p = record { source = map s.tables p.near; target = map s.tables p.far; memory = s.memory p.number }

-- the operator relates both sides
abbrev pub IsRelated : {O : Type 0} → (O → Meaning) → (ℕ → Heading) → State → Crossing O → Type 0
IsRelated meaning heading s p = IsPair (directed p.backward (meaning p.operator)) (map heading p.near) (map heading p.far) (pair_in s p)

-- what a crossing gives: from the old pair, and the near side as it is now
abbrev pub mapped : {O : Type 0} → (O → Meaning) → State → State → Crossing O → Mapped
mapped meaning old now p = (directed p.backward (meaning p.operator)).forward (map now.tables p.near) (pair_in old p) now.next

-- the state after a crossing: its far side and its memory are replaced
abbrev pub after : {O : Type 0} → (O → Meaning) → State → State → Crossing O → State
after meaning old now p =
    let to = mapped meaning old now p in
    record { tables = put now.tables p.far to.far; memory = put now.memory (p.number ∷ []) (to.memory ∷ []); next = to.next }

-- the crossings in order, each with its pair in the old state
abbrev pub run : {O : Type 0} → (O → Meaning) → State → State → List (Crossing O) → State
run meaning old now [] = now
run meaning old now (p ∷ ps) = run meaning old (after meaning old now p) ps
