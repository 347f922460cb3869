-- What the calls that build a graph again ensure.
use Rattle.std.specs.Prelude.{◌≡◌, ℕ, List, [], ◌∷◌, Option, Some, None, Result, Ok, Err, ⊤}
use Rattle.par_base.specs.declared.fault.Fault.{Fault}
use Rattle.par_base.specs.declared.fault.Fault.TheVariants.{Refused, Memory}
use Rattle.bidel_text.specs.OperatorText.{operator_text}
use Rattle.version_graph.specs.Edges.{Drawn}
use Rattle.version_graph.specs.Placing.{CanPlace, with_edge}
use Rattle.version_graph.specs.declared.parts.Edge.{Edge}
use Rattle.version_graph.specs.declared.parts.Placed.{Placed}
use Rattle.op_any.specs.Operators.{AnyView}
use Rattle.dump_values.specs.declared.lines.OperatorLine.{OperatorLine}
use Rattle.dump_graph.specs.Told.{operator_line}
use Rattle.dump_graph.specs.Texts.{IsFromText}
use Rattle.dump_graph.specs.declared.refused.DumpRefused.{DumpRefused}

-- ---- one operator

-- the edge is built from its text, which is this one, on a working set
pub record IsEdgeOf (next : ℕ) (es : List (Placed AnyView)) (parent : ℕ) (written : List ℕ) (e : Edge AnyView) : Type 0 where
  pub from : IsFromText next es parent e
  pub text : operator_text e.operator.text ≡ written

-- the one edge of a text, or that there is none
abbrev pub BuildsText : ℕ → List (Placed AnyView) → ℕ → List ℕ → Option (Edge AnyView) → Type 0
BuildsText next es parent written (Some e) = IsEdgeOf next es parent written e × ((other : Edge AnyView) → IsEdgeOf next es parent written other → other ≡ e)
BuildsText next es parent written None = (e : Edge AnyView) → IsEdgeOf next es parent written e → ⊥

-- the edge of a line, which may come next
pub record IsNext (next : ℕ) (g : Drawn AnyView) (line : OperatorLine) (e : Placed AnyView) : Type 0 where
  pub line_is : operator_line e ≡ line
  pub from : IsFromText next g.edges e.parent e.edge
  pub can : CanPlace g e

-- the graph with the one operator of a line, or a refusal where none may come
abbrev pub PlacesLine : ℕ → Drawn AnyView → OperatorLine → Result (Unit {0}) (Fault DumpRefused) → Drawn AnyView → Type 0
PlacesLine next g line (Ok done) new = (e : Placed AnyView) × IsNext next g line e × ((other : Placed AnyView) → IsNext next g line other → other ≡ e) × (new ≡ with_edge g e)
PlacesLine next g line (Err (Refused r)) new = (e : Placed AnyView) → IsNext next g line e → ⊥
PlacesLine next g line (Err (Memory memory)) new = ⊤

-- ---- all operators

-- the graph with the operators of lines, one after the other
abbrev pub ArePlaced : ℕ → Drawn AnyView → List OperatorLine → Drawn AnyView → Type 0
ArePlaced next g [] new = new ≡ g
ArePlaced next g (line ∷ lines) new = (e : Placed AnyView) × IsNext next g line e × ArePlaced next (with_edge g e) lines new

-- what placing lines answers
abbrev pub PlacesLines : ℕ → Drawn AnyView → List OperatorLine → Result (Unit {0}) (Fault DumpRefused) → Drawn AnyView → Type 0
PlacesLines next g lines (Ok done) new = ArePlaced next g lines new
PlacesLines next g lines (Err (Refused r)) new = (other : Drawn AnyView) → ArePlaced next g lines other → ⊥
PlacesLines next g lines (Err (Memory memory)) new = ⊤
