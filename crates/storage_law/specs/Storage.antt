-- What is stored of a database under a layout, and the state for which it stands.
use Rattle.std.specs.Prelude.{◌≡◌, ℕ, List, []}
use Rattle.row_store.specs.Rows.{Rows}
use Rattle.id_memory.specs.Pairs.{Pairs}
use Rattle.version_graph.specs.Sets.{In, Each}
use Rattle.version_graph.specs.Edges.{is_in, numbers}
use Rattle.version_graph.specs.Forest.{Crossing, Link, crossing, forest}
use Rattle.version_graph.specs.declared.parts.Placed.{Placed}
use Rattle.op_law.specs.Tables.{Heading, Tables}
use Rattle.op_law.specs.Meaning.{Meaning}
use Rattle.layout_rules.specs.Layouts.{IsStored}
use Rattle.version_model.specs.States.{State, headings}
use Rattle.version_model.specs.Steps.{IsRelated, pair_in, directed}

-- the layout, the rows of each stored table, and the auxiliary tables and the memory of each operator, by their numbers
pub record Storage : Type 0 where
  pub layout : List ℕ
  pub stored : ℕ → Rows
  pub aux : ℕ → Tables
  pub memory : ℕ → Pairs

-- an operator is crossed from the side on which it is stored: its near tables are those that it keeps, its far ones those that are read
abbrev pub stored_way : {O : Type 0} → List ℕ → Link O → Crossing O
stored_way layout e = crossing (is_in e.number layout) e

-- the auxiliary tables of a crossing's pair: those of a pair whose near side is stored
abbrev pub aux_of : {O : Type 0} → (O → Meaning) → State → Crossing O → Tables
aux_of meaning s p = (directed p.backward (meaning p.operator)).aux_at_source (pair_in s p)

-- the operator relates its two sides in the state, and what is stored of it is its pair's
pub record StandsOver {O : Type 0} (meaning : O → Meaning) (heading : ℕ → Heading) (storage : Storage) (s : State) (p : Crossing O) : Type 0 where
  pub related : IsRelated meaning heading s p
  pub aux : storage.aux p.number ≡ aux_of meaning s p
  pub memory : storage.memory p.number ≡ s.memory p.number

-- no table that the layout doesn't store has rows, and no operator that doesn't live has auxiliary tables or a memory
pub record HasNoMore {O : Type 0} (es : List (Placed O)) (storage : Storage) : Type 0 where
  pub stored : (t : ℕ) → (IsStored (forest es) storage.layout t → ⊥) → storage.stored t ≡ []
  pub aux : (n : ℕ) → (In n (numbers es) → ⊥) → storage.aux n ≡ []
  pub memories : (n : ℕ) → (In n (numbers es) → ⊥) → storage.memory n ≡ []

-- what is stored stand for the state
pub record Stands {O : Type 0} (meaning : O → Meaning) (es : List (Placed O)) (storage : Storage) (s : State) : Type 0 where
  pub edges : Each (λ (e : Link O). StandsOver meaning (headings es) storage s (stored_way storage.layout e)) (forest es)
  pub stored : (t : ℕ) → IsStored (forest es) storage.layout t → storage.stored t ≡ s.tables t
  pub no_more : HasNoMore es storage
