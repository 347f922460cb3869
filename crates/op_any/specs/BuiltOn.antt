-- Operators that are built from the texts that they keep, each on the working set on which it stands.
use Rattle.std.specs.Prelude.{◌≡◌, ℕ, List, [], ◌∷◌, Ok, ⊤}
use Rattle.version_graph.specs.Tables.{headings_of}
use Rattle.version_graph.specs.Edges.{working}
use Rattle.version_graph.specs.declared.parts.Edge.{Edge}
use Rattle.version_graph.specs.declared.parts.Placed.{Placed}
use Rattle.op_kinds.specs.Operators.{AnyView}
use Rattle.op_any.specs.Build.{built}
use Rattle.op_any.specs.Texts.{TextsFit}

-- building the operator's text on a working set gives this edge, while `next` is the next identifier; no text literal is too long
pub record IsBuiltOn (next : ℕ) (es : List (Placed AnyView)) (set : ℕ) (e : Edge AnyView) : Type 0 where
  pub texts : TextsFit e.operator.text
  pub built : built (headings_of (working es set)) next e.operator.text ≡ Ok e

-- so it is for each operator on those before it; the newest comes first
abbrev pub AreBuiltOn : ℕ → List (Placed AnyView) → Type 0
AreBuiltOn next [] = ⊤
AreBuiltOn next (e ∷ es) = IsBuiltOn next es e.parent e.edge × AreBuiltOn next es
