use Rattle.std.proofs.Common.{◌≡◌, List, sym, subst}
use mathlib.Core.List.{reverse}
use Rattle.version_graph.specs.Edges.{Drawn, IsGraph, version_sets}
use Rattle.version_graph.specs.Dropped.{LeavesSets, other_versions, staying}
use Rattle.version_graph.specs.Kept.{AreMarked, AreRight, drawn, edges_of}
use Rattle.version_graph.specs.declared.node.Node.{Node}
use Rattle.version_graph.proofs.MarkLemmas.{marked_stays}
use Rattle.version_graph.proofs.StayLaws.{nodes_stay, dropped_graph, dropped_is, stays_as}
use Rattle.version_graph.specs.Finished.{IsFinished}
use Rattle.version_graph.proofs.UnneededLaws.{dropped_finished, sets_stay}
use Rattle.version_graph.proofs.shed.drop_version.Goals as goal

pub returns-clause-dropped : goal.returns-clause-dropped
returns-clause-dropped g c =
    let p = c.args.parts.now in
    let vs = c.shift_remove.new.self.entries in
    let named : vs ≡ other_versions p.versions.entries c.args.name.now = c.shift_remove.ensures.entries in
    dropped_is (edges_of c.shed.new.nodes.items) (staying (version_sets (other_versions p.versions.entries c.args.name.now)) (edges_of p.nodes.items)) vs (other_versions p.versions.entries c.args.name.now) p.last.operator p.last.table
    (stays_as p.nodes.items c.shed.new.nodes.items vs (other_versions p.versions.entries c.args.name.now) c.shed.ensures named) named

pub returns-clause-kept : goal.returns-clause-kept
returns-clause-kept g c =
    let p = c.args.parts.now in
    let vs = c.shift_remove.new.self.entries in
    let named : vs ≡ other_versions p.versions.entries c.args.name.now = c.shift_remove.ensures.entries in
    let is = dropped_is (edges_of c.shed.new.nodes.items) (staying (version_sets (other_versions p.versions.entries c.args.name.now)) (edges_of p.nodes.items)) vs (other_versions p.versions.entries c.args.name.now) p.last.operator p.last.table
    (stays_as p.nodes.items c.shed.new.nodes.items vs (other_versions p.versions.entries c.args.name.now) c.shed.ensures named) named in
    record {
      right = subst (λ (l : List (Node _)). AreRight l) (sym c.shed.ensures) (nodes_stay (reverse p.nodes.items) (version_sets vs) c.requires.kept.right);
      marked = subst (λ (l : List (Node _)). AreMarked p.last.table l) (sym c.shed.ensures) (marked_stays (reverse p.nodes.items) (version_sets vs) p.last.table c.requires.kept.marked);
      graph = subst (λ (d : Drawn _). IsGraph d) (sym is) (dropped_graph (drawn p) c.args.name.now c.requires.kept.graph);
    }

pub returns-clause-finished : goal.returns-clause-finished
returns-clause-finished g c =
    let p = c.args.parts.now in
    let vs = c.shift_remove.new.self.entries in
    let named : vs ≡ other_versions p.versions.entries c.args.name.now = c.shift_remove.ensures.entries in
    let is = dropped_is (edges_of c.shed.new.nodes.items) (staying (version_sets (other_versions p.versions.entries c.args.name.now)) (edges_of p.nodes.items)) vs (other_versions p.versions.entries c.args.name.now) p.last.operator p.last.table
    (stays_as p.nodes.items c.shed.new.nodes.items vs (other_versions p.versions.entries c.args.name.now) c.shed.ensures named) named in
    subst (λ (d : Drawn _). IsFinished d) (sym is) (dropped_finished (drawn p) c.args.name.now c.requires.kept.graph)

pub returns-clause-sets : goal.returns-clause-sets
returns-clause-sets g c =
    let p = c.args.parts.now in
    let vs = c.shift_remove.new.self.entries in
    let named : vs ≡ other_versions p.versions.entries c.args.name.now = c.shift_remove.ensures.entries in
    let is = dropped_is (edges_of c.shed.new.nodes.items) (staying (version_sets (other_versions p.versions.entries c.args.name.now)) (edges_of p.nodes.items)) vs (other_versions p.versions.entries c.args.name.now) p.last.operator p.last.table
    (stays_as p.nodes.items c.shed.new.nodes.items vs (other_versions p.versions.entries c.args.name.now) c.shed.ensures named) named in
    subst (λ (d : Drawn _). LeavesSets (drawn p) d) (sym is) (sets_stay (edges_of p.nodes.items) (version_sets (other_versions p.versions.entries c.args.name.now)) c.requires.kept.graph.edges)
