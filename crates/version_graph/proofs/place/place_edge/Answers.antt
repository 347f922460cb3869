use mathlib.Core.List.{reverse}
use Rattle.std.proofs.Common.{◌<◌, ◌≤◌, ℕ, List, refl, sym, ap, subst}
use Rattle.version_graph.specs.Edges.{Drawn, IsGraph}
use Rattle.version_graph.specs.Kept.{AreMarked, AreRight, drawn, edges_of}
use Rattle.version_graph.specs.declared.node.Node.{Node}
use Rattle.version_graph.proofs.EvolveLaws.{drawn_is}
use Rattle.version_graph.proofs.GrowLaws.{added}
use Rattle.version_graph.proofs.MarkLemmas.{marked_added}
use Rattle.version_graph.proofs.PlaceLaws.{below_last, edge_graph, edge_is, last_above}
use Rattle.version_graph.proofs.SetLaws.{each_at, each_of}
use Rattle.version_graph.proofs.TableLaws.{rises_above}
use Rattle.version_graph.specs.Placing.{last_of}
use Rattle.version_graph.proofs.place.place_edge.Goals as goal

pub returns-clause-kept : goal.returns-clause-kept
returns-clause-kept g c =
    let p = c.args.parts.now in
    let e = c.args.placed in
    let after = c.in_ok-after.after in
    let found = c.in_ok-after.ensures in
    let add = added p.nodes.items c.add_placed.new.nodes.items p.last.table e c.in_ok-add_placed.ensures.ok c.requires.kept.right in
    let last = last_of p.last.table e.tables in
    let rises = found.0.rising in
    let tables = each_of (λ t. (p.last.table < t) × (t ≤ last)) e.tables (λ t i. (rises_above p.last.table e.tables rises t i, each_at (λ k. k ≤ last) e.tables t i (below_last p.last.table e.tables rises))) in
    let marked = marked_added p.nodes.items c.add_placed.new.nodes.items p.last.table last e c.in_ok-add_placed.ensures.ok c.requires.kept.marked (last_above p.last.table e.tables rises) tables in
    record {
      right = add.1;
      marked = subst (λ (t : ℕ). AreMarked t (reverse c.add_placed.new.nodes.items)) (sym found.2) marked;
      graph = subst (λ (d : Drawn _). IsGraph d) (sym (edge_is (drawn p) e (edges_of c.add_placed.new.nodes.items) after.operator after.table add.0 found.1 found.2)) (edge_graph (drawn p) c.requires.kept.graph e found.0 c.requires.fits);
    }

pub after_edge-requires : goal.after_edge-requires
after_edge-requires g c = c.requires.kept.graph.edges

pub add_placed-requires-clause-right : goal.add_placed-requires-clause-right
add_placed-requires-clause-right g c = c.requires.kept.right

pub add_placed-requires-clause-edges : goal.add_placed-requires-clause-edges
add_placed-requires-clause-edges g c = c.requires.kept.graph.edges

pub add_placed-requires-clause-live : goal.add_placed-requires-clause-live
add_placed-requires-clause-live g c = c.in_ok-after.ensures.0.stands

pub add_placed-requires-clause-counted : goal.add_placed-requires-clause-counted
add_placed-requires-clause-counted g c = c.in_ok-after.ensures.0.counted

pub add_placed-requires-clause-marked : goal.add_placed-requires-clause-marked
add_placed-requires-clause-marked g c = c.requires.kept.marked

pub returns-in_err-after-clause-kept : goal.returns-in_err-after-clause-kept
returns-in_err-after-clause-kept g c = c.requires.kept

pub returns-in_err-add_placed-clause-kept : goal.returns-in_err-add_placed-clause-kept
returns-in_err-add_placed-clause-kept g c =
    let p = c.args.parts.now in
    let same = c.in_err-add_placed.ensures.err in
    record {
      right = subst (λ (l : List (Node _)). AreRight (reverse l)) (sym same) c.requires.kept.right;
      marked = subst (λ (l : List (Node _)). AreMarked p.last.table (reverse l)) (sym same) c.requires.kept.marked;
      graph = subst (λ (d : Drawn _). IsGraph d) (sym (drawn_is {vs = p.versions.entries} {o = p.last.operator} {t = p.last.table} (ap (λ (l : List (Node _)). edges_of l) same) refl refl refl)) c.requires.kept.graph;
    }

pub returns-clause-answers : goal.returns-clause-answers
returns-clause-answers g c =
    let p = c.args.parts.now in
    let e = c.args.placed in
    let after = c.in_ok-after.after in
    let found = c.in_ok-after.ensures in
    let add = added p.nodes.items c.add_placed.new.nodes.items p.last.table e c.in_ok-add_placed.ensures.ok c.requires.kept.right in
    (found.0, edge_is (drawn p) e (edges_of c.add_placed.new.nodes.items) after.operator after.table add.0 found.1 found.2)
