-- One line after the other.
use Rattle.std.specs.Prelude.{◌<◌, Some, None, Result}
use Rattle.std.proofs.Common.{◌≡◌, ℕ, ◌+◌, List, [], ◌∷◌, ◌++◌, Ok, Err, drop, get_or, length, take, sym, ap, subst, ◌∙◌}
use Rattle.std.proofs.lemmas.List.{drop_more, take_more}
use Rattle.statements.specs.Views.{OpView}
use Rattle.bidel_text.specs.OperatorText.{operator_text}
use Rattle.version_graph.specs.Tables.{FitsSet, headings_of}
use Rattle.version_graph.specs.Edges.{AreEdges, Drawn, IsGraph, working}
use Rattle.version_graph.specs.Placing.{CanPlace, FitsParent, with_edge}
use Rattle.version_graph.specs.declared.parts.Edge.{Edge}
use Rattle.version_graph.specs.declared.parts.Placed.{Placed}
use Rattle.version_graph.proofs.HeadingLaws.{headings_well}
use Rattle.op_any.specs.Operators.{AnyView}
use Rattle.op_any.specs.Build.{built}
use Rattle.op_any.specs.Texts.{TextsFit}
use Rattle.op_build.proofs.BuiltLaws.{built_suits}
use Rattle.dump_values.specs.declared.lines.OperatorLine.{OperatorLine}
use Rattle.dump_graph.specs.Texts.{IsFromText, IsSpelled}
use Rattle.dump_graph.specs.inner.Texts.{ReadsText}
use Rattle.dump_graph.specs.inner.Placing.{ArePlaced, BuildsText, IsEdgeOf, IsNext, PlacesLine}
use Rattle.dump_graph.specs.declared.refused.DumpRefused.{DumpRefused}
use Rattle.par_base.specs.declared.fault.Fault.TheVariants.{Refused}
use Rattle.par_base.specs.declared.refusal.Refusal.{Refusal}

-- ---- one text

-- a computation has one value
pub ok_is : {X E : Type 0} (r : Result X E) (x y : X) → r ≡ Ok x → r ≡ Ok y → x ≡ y
ok_is r x y is other = cc

-- each edge of a text is built from the operator that the text says
of_text : (next : ℕ) (es : List (Placed AnyView)) (set : ℕ) (written : List ℕ) (o : OpView) (e : Edge AnyView)
    → ReadsText written (Some o) → IsEdgeOf next es set written e → e.operator.text ≡ o
of_text next es set written o e reads is = reads.1 e.operator.text (is.from.spelled, is.text)

-- an edge that is built from the operator of a text is the text's one edge
pub edge_built : (next : ℕ) (es : List (Placed AnyView)) (set : ℕ) (written : List ℕ) (o : OpView) (e : Edge AnyView)
    → ReadsText written (Some o) → TextsFit o → built (headings_of (working es set)) next o ≡ Ok e → BuildsText next es set written (Some e)
edge_built next es set written o e reads fit is =
    let keeps : e.operator.text ≡ o = (built_suits (headings_of (working es set)) next o e is).keeps in
    let here : IsEdgeOf next es set written e = record {
      from = record {
        spelled = subst IsSpelled (sym keeps) reads.0.0;
        on = record { texts = subst TextsFit (sym keeps) fit; built = subst (λ t. built (headings_of (working es set)) next t ≡ Ok e) (sym keeps) is };
      };
      text = ap operator_text keeps ∙ reads.0.1;
    } in (
      here,
      λ other has.
          let same : other.operator.text ≡ o = of_text next es set written o other reads has in
          let makes : built (headings_of (working es set)) next o ≡ Ok other = subst (λ t. built (headings_of (working es set)) next t ≡ Ok other) same has.from.on.built in
          ok_is (built (headings_of (working es set)) next o) other e makes is,
    )

-- a text of no operator has no edge
pub no_edge : (next : ℕ) (es : List (Placed AnyView)) (set : ℕ) (written : List ℕ) → ReadsText written None → BuildsText next es set written None
no_edge next es set written none e is = none e.operator.text (is.from.spelled, is.text)

-- an operator with a text literal that is too long has no edge
pub no_long_edge : (next : ℕ) (es : List (Placed AnyView)) (set : ℕ) (written : List ℕ) (o : OpView)
    → ReadsText written (Some o) → (TextsFit o → ⊥) → BuildsText next es set written None
no_long_edge next es set written o reads long e is = long (subst TextsFit (of_text next es set written o e reads is) is.from.on.texts)

-- an operator that is refused has none
pub no_refused_edge : (next : ℕ) (es : List (Placed AnyView)) (set : ℕ) (written : List ℕ) (o : OpView) (r : Refusal)
    → ReadsText written (Some o) → built (headings_of (working es set)) next o ≡ Err r → BuildsText next es set written None
no_refused_edge next es set written o r reads refused e is =
    let same = of_text next es set written o e reads is in
    let makes : built (headings_of (working es set)) next o ≡ Ok e = subst (λ t. built (headings_of (working es set)) next t ≡ Ok e) same is.from.on.built in
    let clash : Ok e ≡ Err r = sym makes ∙ refused in cc

-- ---- one line

-- the placed edge of a line is the one of its text under its numbers
pub next_is : (next : ℕ) (g : Drawn AnyView) (line : OperatorLine) (e : Edge AnyView) (other : Placed AnyView)
    → BuildsText next g.edges line.parent line.text (Some e) → IsNext next g line other
    → other ≡ record { number = line.number; parent = line.parent; tables = line.targets; edge = e }
next_is next g line e other builds is =
    let number : other.number ≡ line.number = ap (λ (l : OperatorLine). l.number) is.line_is in
    let parent : other.parent ≡ line.parent = ap (λ (l : OperatorLine). l.parent) is.line_is in
    let targets : other.tables ≡ line.targets = ap (λ (l : OperatorLine). l.targets) is.line_is in
    let written : operator_text other.edge.operator.text ≡ line.text = ap (λ (l : OperatorLine). l.text) is.line_is in
    let edge : other.edge ≡ e = builds.1 other.edge (record { from = subst (λ p. IsFromText next g.edges p other.edge) parent is.from; text = written }) in
    λ i. record { number = number i; parent = parent i; tables = targets i; edge = edge i }

-- ---- working sets

-- an edge that is built from a text on a working set of a graph fits it
pub edge_fits : (next : ℕ) (es : List (Placed AnyView)) (set : ℕ) (e : Edge AnyView) → AreEdges es → IsFromText next es set e → FitsSet (headings_of (working es set)) e
edge_fits next es set e edges is = (built_suits (headings_of (working es set)) next e.operator.text e is.on.built).set_fits (headings_well es edges set)

-- so it fits its parent's working set
pub fits_parent : (next : ℕ) (g : Drawn AnyView) (written : List ℕ) (p : Placed AnyView) → IsGraph g → BuildsText next g.edges p.parent written (Some p.edge) → FitsParent g p
fits_parent next g written p graph builds = λ _. edge_fits next g.edges p.parent p.edge graph.edges builds.0.from

-- an edge under the numbers of a line
abbrev pub with_numbers : OperatorLine → Edge AnyView → Placed AnyView
with_numbers line e = record { number = line.number; parent = line.parent; tables = line.targets; edge = e }

-- the one edge of a line is placed
pub line_placed : (next : ℕ) (g : Drawn AnyView) (line : OperatorLine) (e : Edge AnyView) (new : Drawn AnyView)
    → BuildsText next g.edges line.parent line.text (Some e) → CanPlace g (with_numbers line e) × (new ≡ with_edge g (with_numbers line e)) → PlacesLine next g line (Ok tt) new
line_placed next g line e new builds can = (
  with_numbers line e,
  record {
    line_is = λ i. record { number = line.number; parent = line.parent; targets = line.targets; text = builds.0.text i };
    from = builds.0.from;
    can = can.0;
  },
  λ other is. next_is next g line e other builds is,
  can.1,
)

-- a line whose text builds no edge places none
pub line_unbuilt : (next : ℕ) (g : Drawn AnyView) (line : OperatorLine) (new : Drawn AnyView) (r : DumpRefused)
    → BuildsText next g.edges line.parent line.text None → PlacesLine next g line (Err (Refused r)) new
line_unbuilt next g line new r none e is =
    let parent : e.parent ≡ line.parent = ap (λ (l : OperatorLine). l.parent) is.line_is in
    let written : operator_text e.edge.operator.text ≡ line.text = ap (λ (l : OperatorLine). l.text) is.line_is in
    none e.edge (record { from = subst (λ p. IsFromText next g.edges p e.edge) parent is.from; text = written })

-- nor does a line whose edge can't come next
pub line_unplaced : (next : ℕ) (g : Drawn AnyView) (line : OperatorLine) (e : Edge AnyView) (new : Drawn AnyView) (r : DumpRefused)
    → BuildsText next g.edges line.parent line.text (Some e) → (CanPlace g (with_numbers line e) → ⊥) → PlacesLine next g line (Err (Refused r)) new
line_unplaced next g line e new r builds cant other is = cant (subst (λ p. CanPlace g p) (next_is next g line e other builds is) is.can)

-- ---- all lines

-- lines are placed one after the other
pub placed_next : (next : ℕ) (g : Drawn AnyView) (lines : List OperatorLine) (line : OperatorLine) (mid : Drawn AnyView) (e : Placed AnyView)
    → ArePlaced next g lines mid → IsNext next mid line e → ArePlaced next g (lines ++ line ∷ []) (with_edge mid e)
placed_next next g [] line mid e are is = (e, subst (λ m. IsNext next m line e) are is, ap (λ m. with_edge m e) are)
placed_next next g (l ∷ lines) line mid e are is = (are.0, are.1, placed_next next (with_edge g are.0) lines line mid e are.2 is)

-- whatever graph lines make, those behind the first make it of the graph with the first's edge
pub placed_behind : (next : ℕ) (g : Drawn AnyView) (line : OperatorLine) (lines : List OperatorLine) (new : Drawn AnyView) (e : Placed AnyView)
    → ((other : Placed AnyView) → IsNext next g line other → other ≡ e) → ArePlaced next g (line ∷ lines) new → ArePlaced next (with_edge g e) lines new
placed_behind next g line lines new e one are = subst (λ f. ArePlaced next (with_edge g f) lines new) (one are.0 are.1) are.2

-- where a line can't be placed, lines that begin with it make no graph
pub none_placed : (next : ℕ) (g : Drawn AnyView) (line : OperatorLine) (lines : List OperatorLine) (new : Drawn AnyView)
    → ((e : Placed AnyView) → IsNext next g line e → ⊥) → ArePlaced next g (line ∷ lines) new → ⊥
none_placed next g line lines new none are = none are.0 are.1

-- one line more is placed
pub placed_so_far : (next : ℕ) (first g : Drawn AnyView) (lines : List OperatorLine) (i : ℕ) (line : OperatorLine) (e : Placed AnyView) → i < length lines → line ≡ get_or lines i line
    → ArePlaced next first (take i lines) g → IsNext next g line e → ArePlaced next first (take (i + 1) lines) (with_edge g e)
placed_so_far next first g lines i line e within here are is =
    subst (λ ls. ArePlaced next first ls (with_edge g e)) (sym (take_more lines i line within ∙ ap (λ x. take i lines ++ x ∷ []) (sym here))) (placed_next next first (take i lines) line g e are is)

-- the lines that are left, from the first of them on
left_from : (lines : List OperatorLine) (i : ℕ) (line : OperatorLine) → i < length lines → line ≡ get_or lines i line → drop i lines ≡ line ∷ drop (i + 1) lines
left_from lines i line within here = drop_more lines i line within ∙ ap (λ x. x ∷ drop (i + 1) lines) (sym here)

-- whatever graph all lines make, those that are left make it
pub left_behind : (next : ℕ) (first g : Drawn AnyView) (lines : List OperatorLine) (i : ℕ) (line : OperatorLine) (e : Placed AnyView) → i < length lines → line ≡ get_or lines i line
    → ((new : Drawn AnyView) → ArePlaced next first lines new → ArePlaced next g (drop i lines) new) → ((other : Placed AnyView) → IsNext next g line other → other ≡ e)
    → (new : Drawn AnyView) → ArePlaced next first lines new → ArePlaced next (with_edge g e) (drop (i + 1) lines) new
left_behind next first g lines i line e within here others one new are =
    placed_behind next g line (drop (i + 1) lines) new e one (subst (λ ls. ArePlaced next g ls new) (left_from lines i line within here) (others new are))

-- where one of them can't be placed, all lines make no graph
pub none_left : (next : ℕ) (first g : Drawn AnyView) (lines : List OperatorLine) (i : ℕ) (line : OperatorLine) → i < length lines → line ≡ get_or lines i line
    → ((new : Drawn AnyView) → ArePlaced next first lines new → ArePlaced next g (drop i lines) new) → ((e : Placed AnyView) → IsNext next g line e → ⊥)
    → (new : Drawn AnyView) → ArePlaced next first lines new → ⊥
none_left next first g lines i line within here others none new are =
    none_placed next g line (drop (i + 1) lines) new none (subst (λ ls. ArePlaced next g ls new) (left_from lines i line within here) (others new are))
