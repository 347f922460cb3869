-- What is stored of a state under a layout.
use Rattle.std.specs.Prelude.{◌≡◌, ℕ, Bool, cond, not, ◌==◌, ◌&&◌, List, [], ◌∷◌}
use Rattle.std.specs.List.{list_any}
use Rattle.row_store.specs.Rows.{Rows}
use Rattle.version_graph.specs.Edges.{is_in}
use Rattle.version_graph.specs.Forest.{Link, forest}
use Rattle.version_graph.specs.declared.parts.Placed.{Placed}
use Rattle.op_law.specs.Tables.{Tables}
use Rattle.op_law.specs.Meaning.{Meaning}
use Rattle.version_model.specs.States.{State}
use Rattle.storage_law.specs.Storage.{Storage, aux_of, stored_way}

-- whether an operator of the layout made the table
abbrev pub is_made : {O : Type 0} → List (Link O) → List ℕ → ℕ → Bool
is_made {O} es layout t = list_any (λ (e : Link O). is_in e.number layout && is_in t e.targets) es

-- whether an operator of the layout takes the table
abbrev pub is_taken : {O : Type 0} → List (Link O) → List ℕ → ℕ → Bool
is_taken {O} es layout t = list_any (λ (e : Link O). is_in e.number layout && is_in t e.sources) es

-- the rows of the tables that the layout stores
abbrev pub stored_of : {O : Type 0} → List (Link O) → List ℕ → State → ℕ → Rows
stored_of es layout s t = cond (is_made es layout t && not (is_taken es layout t)) (s.tables t) []

-- the auxiliary tables of each operator
abbrev pub auxes_of : {O : Type 0} → (O → Meaning) → List (Link O) → List ℕ → State → ℕ → Tables
auxes_of meaning [] layout s n = []
auxes_of meaning (e ∷ es) layout s n = cond (n == e.number) (aux_of meaning s (stored_way layout e)) (auxes_of meaning es layout s n)

-- what is stored of a state under a layout
abbrev pub storage_of : {O : Type 0} → (O → Meaning) → List (Placed O) → List ℕ → State → Storage
storage_of meaning es layout s = record {
  layout = layout;
  stored = stored_of (forest es) layout s;
  aux = auxes_of meaning (forest es) layout s;
  memory = s.memory;
}

-- what is stored is the same
pub record SameStored (p q : Storage) : Type 0 where
  pub stored : (t : ℕ) → p.stored t ≡ q.stored t
  pub aux : (n : ℕ) → p.aux n ≡ q.aux n
  pub memories : (n : ℕ) → p.memory n ≡ q.memory n
