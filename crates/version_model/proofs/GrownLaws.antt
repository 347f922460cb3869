-- The state after an evolution, operator by operator.
use Rattle.std.proofs.Common.{◌≡◌, ℕ, ◌+◌, List, [], ◌∷◌, refl, length}
use Rattle.version_graph.specs.Evolve.{placed_next}
use Rattle.version_graph.specs.Forest.{Link, link}
use Rattle.version_graph.specs.declared.parts.Edge.{Edge}
use Rattle.version_graph.specs.declared.parts.Placed.{Placed}
use Rattle.op_law.specs.Meaning.{Meaning}
use Rattle.version_model.specs.States.{State}
use Rattle.version_model.specs.Evolving.{grown_state, with_link}
use Rattle.version_model.specs.Making.{with_links}

-- the links of the new edges, in their order
abbrev pub grown_links : {O : Type 0} → List (Placed O) → ℕ → ℕ → ℕ → List (Edge O) → List (Link O)
grown_links es parent operator table [] = []
grown_links es parent operator table (e ∷ edges) =
    let new = placed_next parent operator table e in
    link es new ∷ grown_links (new ∷ es) (operator + 1) (operator + 1) (table + length e.targets) edges

module _ {O : Type 0} where
  -- THE STATE AFTER AN EVOLUTION, operator by operator
  pub grown_by_links : (meaning : O → Meaning) (es : List (Placed O)) (parent operator table : ℕ) (edges : List (Edge O)) (s : State) → grown_state meaning es parent operator table edges s ≡ with_links meaning s (grown_links es parent operator table edges)
  grown_by_links meaning es parent operator table [] s = refl
  grown_by_links meaning es parent operator table (e ∷ edges) s =
      let new = placed_next parent operator table e in
      grown_by_links meaning (new ∷ es) (operator + 1) (operator + 1) (table + length e.targets) edges (with_link meaning s (link es new))
