-- One operator's data moves to its other side.
use Rattle.std.specs.Prelude.{◌≡◌, ◌⊎◌, ℕ, zero, suc, List, [], ◌∷◌, map}
use Rattle.version_graph.specs.Sets.{In}
use Rattle.version_graph.specs.Forest.{Link}
use Rattle.op_law.specs.Tables.{Tables}
use Rattle.op_law.specs.Meaning.{Meaning, PairState}
use Rattle.layout_rules.specs.Moves.{Flips, PutsIn, TakesOut}
use Rattle.version_model.specs.Put.{put}
use Rattle.version_model.specs.Steps.{directed}
use Rattle.storage_law.specs.Storage.{Storage, stored_way}
use Rattle.storage_law.specs.Reading.{far_read}

-- the second layout is the first with this operator on its other side
abbrev pub Turns : ℕ → List ℕ → List ℕ → Type 0
Turns n layout new = (In n layout × TakesOut n layout new) ⊎ ((In n layout → ⊥) × PutsIn n layout new)

-- no rows for each of these tables
abbrev pub none_for : List ℕ → Tables
none_for ts = map (λ t. []) ts

-- the pair of an operator, as it is read from its stored side
abbrev pub pair_read : {O : Type 0} → (O → Meaning) → Storage → Link O → PairState
pair_read meaning storage e =
    let p = stored_way storage.layout e in
    record { source = map storage.stored p.near; target = far_read meaning storage p storage.stored; memory = storage.memory e.number }

-- what is stored after: the side that is read is stored in place of the other, with the auxiliary tables that belong there
abbrev pub flipped : {O : Type 0} → (O → Meaning) → Storage → Link O → List ℕ → Storage
flipped meaning storage e new =
    let p = stored_way storage.layout e in
    let pair = pair_read meaning storage e in
    record {
      layout = new;
      stored = put (put storage.stored p.near (none_for p.near)) p.far pair.target;
      aux = put storage.aux (e.number ∷ []) ((directed p.backward (meaning e.operator)).aux_at_target pair ∷ []);
      memory = storage.memory;
    }

-- so many flips of a move towards a goal, from the first parts to the last
abbrev pub MovesStorage : {O : Type 0} → (O → Meaning) → List (Link O) → List ℕ → ℕ → Storage → Storage → Type 0
MovesStorage meaning es goal zero storage last = storage ≡ last
MovesStorage meaning es goal (suc n) storage last = (new : List ℕ) × (flip : Flips es goal storage.layout new) × MovesStorage meaning es goal n (flipped meaning storage flip.0 new) last
