use Rattle.std.proofs.Common.{◌≡◌, List, true, false, refl, sym, ap, ◌∙◌}
use Rattle.version_graph.specs.Edges.{version_sets}
use Rattle.version_graph.specs.Finished.{are_needed}
use Rattle.version_graph.specs.Kept.{drawn, edges_of}
use Rattle.version_graph.specs.declared.node.Node.{Node}
use mathlib.Core.List.{reverse}
use Rattle.version_graph.proofs.MarkLemmas.{marked_more}
use Rattle.version_graph.proofs.PlaceLaws.{last_graph}
use Rattle.version_graph.proofs.FinishLemmas.{below_needed, needed_below}
use Rattle.version_graph.proofs.place.end_placing.Goals as goal

pub returns-then-not-are_needed-clause-answers : goal.returns-then-not-are_needed-clause-answers
returns-then-not-are_needed-clause-answers g c =
    let p = c.args.parts.now in
    let sets = version_sets p.versions.entries in
    let test = sym (ap (λ (l : List (Node _)). are_needed sets (edges_of l)) c.as_slice.ensures.value) ∙ sym c.are_needed.ensures ∙ c.if-not-are_needed.true in (
      λ can. let clash : true ≡ false = sym (below_needed (edges_of p.nodes.items) sets c.requires.kept.graph.edges can.finished) ∙ test in cc,
      refl,
    )

pub returns-clause-answers : goal.returns-clause-answers
returns-clause-answers g c =
    let p = c.args.parts.now in
    let sets = version_sets p.versions.entries in
    let test = sym (ap (λ (l : List (Node _)). are_needed sets (edges_of l)) c.as_slice.ensures.value) ∙ sym c.are_needed.ensures ∙ c.if-not-are_needed.false in (
      record {
        operators = c.if-operator-parts.false;
        tables = c.if-table-parts.false;
        finished = needed_below (edges_of p.nodes.items) sets c.requires.kept.graph.edges test;
      },
      refl,
    )

pub returns-clause-kept : goal.returns-clause-kept
returns-clause-kept g c = record {
  right = c.requires.kept.right;
  marked = marked_more (reverse c.args.parts.now.nodes.items) c.args.parts.now.last.table c.args.table c.if-table-parts.false c.requires.kept.marked;
  graph = last_graph (drawn c.args.parts.now) c.requires.kept.graph c.args.operator c.args.table c.if-operator-parts.false c.if-table-parts.false;
}

pub returns-clause-finished : goal.returns-clause-finished
returns-clause-finished g c =
    let p = c.args.parts.now in
    let sets = version_sets p.versions.entries in
    needed_below (edges_of p.nodes.items) sets c.requires.kept.graph.edges (sym (ap (λ (l : List (Node _)). are_needed sets (edges_of l)) c.as_slice.ensures.value) ∙ sym c.are_needed.ensures ∙ c.if-not-are_needed.false)
