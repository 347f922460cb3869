-- What is stored after evolutions and drops. Neither moves data.
use Rattle.std.specs.Prelude.{◌≡◌, ◌↔◌, ℕ, ◌+◌, Bool, cond, List, [], ◌∷◌, ◌++◌, filter, length, map, if◌then◌else◌}
use Rattle.version_graph.specs.Sets.{In}
use Rattle.version_graph.specs.Tables.{table_numbers}
use Rattle.version_graph.specs.Edges.{is_in, made, numbers}
use Rattle.version_graph.specs.Evolve.{placed_next}
use Rattle.version_graph.specs.Forest.{Link, crossing, forest, link}
use Rattle.version_graph.specs.declared.parts.Edge.{Edge}
use Rattle.version_graph.specs.declared.parts.Placed.{Placed}
use Rattle.op_law.specs.Meaning.{Meaning}
use Rattle.layout_rules.specs.Changes.{is_empty}
use Rattle.layout_rules.specs.Layouts.{IsCreate}
use Rattle.version_model.specs.Put.{put}
use Rattle.version_model.specs.States.{State}
use Rattle.version_model.specs.Evolving.{with_link}
use Rattle.storage_law.specs.Storage.{Storage, aux_of}

-- one operator more, in the state that it leaves: a CREATE TABLE comes into the layout with its tables, and another one stays on its source side
abbrev pub with_storage : {O : Type 0} → (O → Meaning) → Storage → State → Link O → Bool → Storage
with_storage meaning storage s e create = record {
  layout = storage.layout ++ cond create (e.number ∷ []) [];
  stored = cond create (put storage.stored e.targets (map s.tables e.targets)) storage.stored;
  aux = put storage.aux (e.number ∷ []) (aux_of meaning s (crossing create e) ∷ []);
  memory = put storage.memory (e.number ∷ []) (s.memory e.number ∷ []);
}

-- what is stored with further operators, each on the working set that the one before it leaves
abbrev pub grown_storage : {O : Type 0} → (O → Meaning) → List (Placed O) → ℕ → ℕ → ℕ → List (Edge O) → State → Storage → Storage
grown_storage meaning es parent operator table [] s storage = storage
grown_storage meaning es parent operator table (e ∷ edges) s storage =
    let new = placed_next parent operator table e in
    let next = with_link meaning s (link es new) in
    grown_storage meaning (new ∷ es) (operator + 1) (operator + 1) (table + length e.targets) edges next (with_storage meaning storage next (link es new) (is_empty e.sources))

-- what is stored of these edges alone
abbrev pub staying_storage : {O : Type 0} → List (Placed O) → Storage → Storage
staying_storage es storage = record {
  layout = filter (λ n. is_in n (numbers es)) storage.layout;
  stored = λ t. if is_in t (table_numbers (made es)) then storage.stored t else [];
  aux = λ n. if is_in n (numbers es) then storage.aux n else [];
  memory = λ n. if is_in n (numbers es) then storage.memory n else [];
}

-- each operator that doesn't stay is stored on its source side, or is a CREATE TABLE
abbrev pub GoFromSources : {O : Type 0} → List (Placed O) → List (Placed O) → List ℕ → Type 0
GoFromSources {O} es left layout = (e : Link O) → In e (forest es) → In e.number layout → (In e.number (numbers left) → ⊥) → IsCreate e

-- the second layout is the first without the operators that don't stay, but with the CREATE TABLE operators among them
abbrev pub LeavesTo : {O : Type 0} → List (Placed O) → List (Placed O) → List ℕ → List ℕ → Type 0
LeavesTo {O} es left layout new = (n : ℕ) → In n new ↔ (In n layout × ((e : Link O) → In e (forest es) → n ≡ e.number → (In n (numbers left) → ⊥) → IsCreate e))
