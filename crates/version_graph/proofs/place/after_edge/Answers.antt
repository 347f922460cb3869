use Rattle.std.proofs.Common.{◌≡◌, ℕ, List, length, arith, refl, sym, ap, ◌∙◌, inl, inr, subst}
use Rattle.std.specs.Prelude.{Some, None}
use Rattle.version_graph.specs.Edges.{AreEdges, is_in, numbers}
use Rattle.version_graph.specs.Kept.{edges_of}
use Rattle.version_graph.specs.Placing.{top_of}
use Rattle.version_graph.specs.declared.node.Node.{Node}
use Rattle.version_graph.proofs.SetLaws.{in_of_test}
use Rattle.version_graph.proofs.PlaceLaws.{no_top, not_in, top_is}
use Rattle.version_graph.proofs.place.after_edge.Goals as goal
use Rattle.version_graph.proofs.place.after_edge.Goals.{else-placed-ne0-via-then-placed-ne0+else-not-is_live, else-placed-ne0-via-else-placed-ne0}

pub returns-then-not-is_live : goal.returns-then-not-is_live
returns-then-not-is_live g c can =
    let live = sym (ap (λ (l : List (Node _)). is_in c.args.placed.now.parent (numbers (edges_of l))) c.as_slice-nodes.ensures.value) ∙ sym c.is_live.ensures ∙ c.if-not-is_live.true in
    elim can.stands as (λ _. ⊥) [
      | inl z ↦ c.if-placed-ne0.true z
      | inr i ↦ not_in c.args.placed.now.parent (numbers (edges_of c.args.parts.now.nodes.items)) live i
    ]

pub returns-in-Some : goal.returns-in-Some
returns-in-Some g c =
    let p = c.args.parts.now in
    let e = c.args.placed.now in
    let nodes = ap (λ (l : List (Node _)). length (edges_of l)) c.as_slice-nodes.ensures.value in
    let found : top_of p.last.table e.tables ≡ Some c.in-Some.table = sym (ap (λ (l : List ℕ). top_of p.last.table l) c.as_slice.ensures) ∙ sym c.top_of.ensures ∙ c.in-Some.is in
    let top = top_is p.last.table e.tables c.in-Some.table found in
    let few = c.count.ensures ∙ nodes in (
      record {
        room = omega (arith, c.if-count-ge-MOST_OPERATORS.false, few);
        next = c.if-placed-parts.false;
        stands = elim c.else-placed-ne0.branch [
          | else-placed-ne0-via-then-placed-ne0+else-not-is_live w ↦ inr (in_of_test e.parent (numbers (edges_of p.nodes.items)) (sym (ap (λ (l : List (Node _)). is_in e.parent (numbers (edges_of l))) c.as_slice-nodes.ensures.value) ∙ sym w.is_live.ensures ∙ w.if-not-is_live.false))
          | else-placed-ne0-via-else-placed-ne0 w ↦ inl w.if-placed-ne0.false
        ];
        counted = sym c.len.ensures ∙ c.if-len.false ∙ c.len-2.ensures;
        rising = top.0;
      },
      refl,
      top.1,
    )

pub returns-in-None : goal.returns-in-None
returns-in-None g c can =
    let low = c.args.parts.now.last.table in
    let tables = c.args.placed.now.tables in
    let none : top_of low tables ≡ None = sym (ap (λ (l : List ℕ). top_of low l) c.as_slice.ensures) ∙ sym c.top_of.ensures ∙ c.in-None.is in
    no_top low tables none can.rising

pub returns-then-count-ge-MOST_OPERATORS : goal.returns-then-count-ge-MOST_OPERATORS
returns-then-count-ge-MOST_OPERATORS g c can =
    let nodes = ap (λ (l : List (Node _)). length (edges_of l)) c.as_slice-nodes.ensures.value in
    let few = c.count.ensures ∙ nodes in
    omega (arith, c.if-count-ge-MOST_OPERATORS.true, few, can.room)

pub returns-then-placed-parts : goal.returns-then-placed-parts
returns-then-placed-parts g c can = omega (arith, c.if-placed-parts.true, can.next)

pub returns-then-len : goal.returns-then-len
returns-then-len g c can = c.if-len.true (c.len.ensures ∙ can.counted ∙ sym c.len-2.ensures)

pub is_live-requires : goal.is_live-requires
is_live-requires g c = subst (λ (l : List (Node _)). AreEdges (edges_of l)) (sym c.as_slice-nodes.ensures.value) c.requires
