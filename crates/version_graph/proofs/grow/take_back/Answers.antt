use Rattle.std.proofs.Common.{ℕ, List, sym, ap, subst, refl}
use mathlib.Core.List.{reverse}
use Rattle.version_graph.specs.Edges.{Drawn, IsGraph}
use Rattle.version_graph.specs.Kept.{drawn, AreMarked, AreRight}
use Rattle.version_graph.specs.declared.node.Node.{Node}
use Rattle.version_graph.proofs.BackLaws.{back_to, front_right}
use Rattle.version_graph.proofs.MarkLemmas.{marked_back}
use Rattle.version_graph.proofs.grow.take_back.Goals as goal

pub returns-clause-back : goal.returns-clause-back
returns-clause-back g c before was =
    let p = c.args.parts.now in
    back_to before (drawn p) p.nodes.items c.truncate.new.self.items c.args.operators c.args.last.operator c.args.last.table c.len-named.result c.truncate-2.new.self.entries was refl c.truncate.ensures.items c.len-named.ensures.len c.truncate-2.ensures.entries

pub returns-clause-kept : goal.returns-clause-kept
returns-clause-kept g c =
    let p = c.args.parts.now in
    let was = c.requires.evolved in
    let same = back_to was.0 (drawn p) p.nodes.items c.truncate.new.self.items c.args.operators c.args.last.operator c.args.last.table c.len-named.result c.truncate-2.new.self.entries was.1 refl c.truncate.ensures.items c.len-named.ensures.len c.truncate-2.ensures.entries in
    let before = was.0 in
    let made = was.1.evolved in
    let edges = ap (λ (d : Drawn _). d.edges) made.3 in
    let tables = ap (λ (d : Drawn _). d.last_table) made.3 in
    let front = marked_back p.nodes.items c.args.operators before.edges made.1 before.last_operator before.last_table made.2 edges was.1.counted (subst (λ (t : ℕ). AreMarked t (reverse p.nodes.items)) tables c.requires.kept.marked) in
    record {
      right = subst (λ (l : List (Node _)). AreRight (reverse l)) (sym c.truncate.ensures.items) (front_right c.args.operators p.nodes.items c.requires.kept.right);
      marked = subst (λ (l : List (Node _)). AreMarked c.args.last.table (reverse l)) (sym c.truncate.ensures.items) (subst (λ (t : ℕ). AreMarked t (reverse (Rattle.std.proofs.Common.take c.args.operators p.nodes.items))) (sym was.1.table) front);
      graph = subst (λ (d : Drawn _). IsGraph d) (sym same) was.1.graph;
    }
