use Rattle.std.proofs.Common.{◌≡◌, ℕ, ◌+◌, ◌<◌, ◌^◌, List, [], ◌∷◌, ◌++◌, length, take, drop, refl, sym, ap, ◌∙◌, subst, arith}
use mathlib.Core.List.{reverse}
use Rattle.std.proofs.lemmas.List.{reverse-reverse, take_all, take_at}
use Rattle.version_graph.specs.Evolve.{grown, targets_in}
use Rattle.version_graph.specs.Calls.{CanGrow}
use Rattle.version_graph.specs.Kept.{AreMarked, edges_of}
use Rattle.version_graph.specs.declared.parts.Placed.{Placed}
use Rattle.version_graph.specs.declared.node.Node.{Node}
use Rattle.version_graph.specs.declared.parts.Edge.{Edge}
use Rattle.version_graph.proofs.GrowLaws.{grow_step, last_first}
use Rattle.version_graph.proofs.MarkLemmas.{marked_step}
use Rattle.version_graph.proofs.grow.add_edges.Goals as goal

empty : {X : Type 0} (xs : List X) → length xs ≡ 0 → xs ≡ []
empty [] none = refl
empty (x ∷ xs) none = absurd (omega arith)

-- a slice that fills a list takes its place
filled : {X : Type 0} (n : ℕ) (made items : List X) → n ≡ length items → length made ≡ length items → take n (made ++ drop (length made) items) ≡ made
filled {X} n made items all same =
    ap (λ (k : ℕ). take k (made ++ drop (length made) items)) (all ∙ sym same) ∙ take_at made (drop (length made) items) (length made) refl

-- there are numbers for the next edge
room : {O : Type 0} (es : List (Placed O)) (p o t : ℕ) (e : Edge O) (rest left : List (Edge O)) → left ≡ rest ++ e ∷ [] → CanGrow es p o t (reverse left) → (o + 1 < 2 ^ 32) × (t + length e.targets < 2 ^ 32)
room {O} es p o t e rest left is can =
    let here = subst (λ (l : List (Edge O)). CanGrow es p o t l) (ap (λ (l : List (Edge O)). reverse l) is ∙ last_first rest e) can in
    let a = here.few_operators in
    let b = here.few_tables in
    (omega arith, omega arith)

pub loop-edge-init : goal.loop-edge-init
loop-edge-init g c =
    let ns = c.args.nodes.now.items in
    let start = c.args.start in
    let vec = c.into_vec-left.result in
    let turned = filled vec.len c.reverse.new.self vec.items vec.ok.0 (c.reverse.ensures.len ∙ ap (λ (l : List (Edge _)). length l) c.as_mut_slice.ensures.value)
    ∙ c.reverse.ensures.after ∙ ap (λ (l : List (Edge _)). reverse l) (c.as_mut_slice.ensures.value ∙ c.into_vec-left.ensures) in
    let same = ap (λ (l : List (Edge _)). reverse l) turned ∙ reverse-reverse c.args.edges in
    record {
      right = c.requires.right;
      can = subst (λ (l : List (Edge _)). CanGrow (edges_of ns) c.args.set start.operator start.table l) (sym same) c.requires.can;
      front = take_all (length ns) ns (omega arith);
      rest = ap (λ (l : List (Edge _)). grown (edges_of ns) c.args.set start.operator start.table l) same;
      marked = c.requires.marked;
      tables = ap (λ (l : List (Edge _)). start.table + targets_in l) same;
    }

pub loop-edge-smaller : goal.loop-edge-smaller
loop-edge-smaller g c = omega (arith, c.in-Some.ensures.len)

pub loop-edge-preserved : goal.loop-edge-preserved
loop-edge-preserved g c =
    let inv = c.loop-edge.invariant in
    let step = grow_step c.loop-edge.nodes.items c.add_edge.new.nodes.items c.args.nodes.now.items c.loop-edge.left.items c.pop.new.self.items c.loop-edge.parent c.loop-edge.last.operator c.loop-edge.last.table c.len-targets.result
    c.in-Some.edge _ c.in-Some.ensures.items c.len-targets.ensures inv.can inv.right inv.front inv.rest c.in_ok-add_edge.ensures.ok in
    let marks = marked_step c.loop-edge.nodes.items c.add_edge.new.nodes.items c.loop-edge.left.items c.pop.new.self.items c.loop-edge.parent c.loop-edge.last.operator c.loop-edge.last.table c.len-targets.result
    _ c.in-Some.edge c.in-Some.ensures.items c.len-targets.ensures inv.marked inv.tables c.in_ok-add_edge.ensures.ok in
    record { right = step.0; can = step.1; front = step.2; rest = step.3; marked = marks.0; tables = marks.1 }

pub add_edge-requires-clause-right : goal.add_edge-requires-clause-right
add_edge-requires-clause-right g c = c.loop-edge.invariant.right

pub add_edge-requires-clause-can : goal.add_edge-requires-clause-can
add_edge-requires-clause-can g c =
    let l = c.loop-edge in
    let turned = ap (λ (es : List (Edge _)). reverse es) c.in-Some.ensures.items ∙ last_first c.pop.new.self.items c.in-Some.edge in
    (reverse c.pop.new.self.items, subst (λ (es : List (Edge _)). CanGrow (edges_of l.nodes.items) l.parent l.last.operator l.last.table es) turned l.invariant.can)

pub add_edge-requires-clause-marked : goal.add_edge-requires-clause-marked
add_edge-requires-clause-marked g c = c.loop-edge.invariant.marked

pub returns-in_err-add_edge-clause-front : goal.returns-in_err-add_edge-clause-front
returns-in_err-add_edge-clause-front g c =
    ap (λ (ns : List (Node _)). take (length c.args.nodes.now.items) ns) c.in_err-add_edge.ensures.err ∙ c.loop-edge.invariant.front

pub returns-clause-right : goal.returns-clause-right
returns-clause-right g c = c.loop-edge.invariant.right

pub returns-clause-front : goal.returns-clause-front
returns-clause-front g c = c.loop-edge.invariant.front

pub overflow_add-last : goal.overflow_add-last
overflow_add-last g c =
    let l = c.loop-edge in
    let fits = room (edges_of l.nodes.items) l.parent l.last.operator l.last.table c.in-Some.edge c.pop.new.self.items l.left.items c.in-Some.ensures.items l.invariant.can in
    omega (arith, fits.0, fits.1, c.len-targets.ensures)

pub overflow_cast-last : goal.overflow_cast-last
overflow_cast-last g c =
    let l = c.loop-edge in
    let fits = room (edges_of l.nodes.items) l.parent l.last.operator l.last.table c.in-Some.edge c.pop.new.self.items l.left.items c.in-Some.ensures.items l.invariant.can in
    omega (arith, fits.0, fits.1, c.len-targets.ensures)

pub overflow_add-last-in-Some : goal.overflow_add-last-in-Some
overflow_add-last-in-Some g c =
    let l = c.loop-edge in
    let fits = room (edges_of l.nodes.items) l.parent l.last.operator l.last.table c.in-Some.edge c.pop.new.self.items l.left.items c.in-Some.ensures.items l.invariant.can in
    omega (arith, fits.0, fits.1, c.len-targets.ensures)

pub returns-clause-grown : goal.returns-clause-grown
returns-clause-grown g c =
    let l = c.loop-edge in
    let none = empty l.left.items (sym l.left.ok.0 ∙ c.in_default.ensures.cases.0) in
    sym (ap (λ (es : List (Edge _)). grown (edges_of l.nodes.items) l.parent l.last.operator l.last.table (reverse es)) none) ∙ l.invariant.rest

pub returns-clause-marked : goal.returns-clause-marked
returns-clause-marked g c =
    let l = c.loop-edge in
    let none = empty l.left.items (sym l.left.ok.0 ∙ c.in_default.ensures.cases.0) in
    let sum : targets_in (reverse l.left.items) ≡ 0 = ap (λ (es : List (Edge _)). targets_in (reverse es)) none in
    let top : l.last.table ≡ c.args.start.table + targets_in c.args.edges = omega (arith, l.invariant.tables, sum) in
    subst (λ (t : ℕ). AreMarked t (reverse l.nodes.items)) top l.invariant.marked
