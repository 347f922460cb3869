use mathlib.Core.List.{reverse}
use Rattle.std.proofs.Common.{ℕ, List, ◌++◌, [], ◌∷◌, refl, sym, ap, ◌∙◌, subst}
use Rattle.std.specs.Prelude.{Err, unwrap_or}
use Rattle.std.specs.Option.{option_copied}
use Rattle.version_graph.specs.Kept.{AreMarked, AreRight, drawn, edges_of}
use Rattle.version_graph.specs.declared.node.Node.{Node}
use Rattle.version_graph.specs.declared.parts.Edge.{Edge}
use Rattle.version_graph.proofs.EvolveLaws.{drawn_is, goes_from, goes_can, goes_no_refusal, goes_to, goes_is_graph}
use Rattle.version_graph.specs.Edges.{Drawn, IsGraph, set_named}
use Rattle.version_graph.specs.Evolve.{EvolvesGraph, start_of}
use Rattle.version_graph.specs.Finished.{IsFinished}
use Rattle.version_graph.proofs.UnneededLaws.{evolved_finished}
use Rattle.version_graph.proofs.grow.evolve.Goals as goal

pub plan-requires : goal.plan-requires
plan-requires g c = c.requires.kept.graph

pub returns-in-Err-clause-answers : goal.returns-in-Err-clause-answers
returns-in-Err-clause-answers g c =
    let p = c.args.parts.now in
    subst (λ (es : List (Edge _)). EvolvesGraph (drawn p) c.args.name (option_copied c.args.from) es (Err c.in-Err.fault) (drawn p)) c.as_slice.ensures c.in-Err.ensures.refused

pub returns-in-Err-clause-kept : goal.returns-in-Err-clause-kept
returns-in-Err-clause-kept g c = c.requires.kept

pub returns-in-Err-clause-finished : goal.returns-in-Err-clause-finished
returns-in-Err-clause-finished g c finished = finished

pub grow_and_name-requires-clause-right : goal.grow_and_name-requires-clause-right
grow_and_name-requires-clause-right g c = c.requires.kept.right

pub grow_and_name-requires-clause-marked : goal.grow_and_name-requires-clause-marked
grow_and_name-requires-clause-marked g c = c.requires.kept.marked

pub grow_and_name-requires-clause-new : goal.grow_and_name-requires-clause-new
grow_and_name-requires-clause-new g c =
    ap (λ (n : List ℕ). set_named c.args.parts.now.versions.entries n) c.in-Ok.ensures.name ∙ c.in-Ok.ensures.unused

pub grow_and_name-requires-clause-can : goal.grow_and_name-requires-clause-can
grow_and_name-requires-clause-can g c =
    let p = c.args.parts.now in
    let from = option_copied c.args.from in
    let after = c.in-Ok.after in
    let goes = goes_from (drawn p) c.args.name from c.args.edges c.in-Ok.set _ p.last after c.as_slice.result.now c.requires.kept.graph c.requires.some c.requires.fits
    c.in-Ok.ensures.start c.in-Ok.ensures.unused refl c.as_slice.ensures refl refl c.in-Ok.ensures.room in
    goes_can (drawn p) c.args.name from c.args.edges c.in-Ok.set after.operator after.table goes

pub returns-in_err-grow_and_name-in-Ok-clause-kept : goal.returns-in_err-grow_and_name-in-Ok-clause-kept
returns-in_err-grow_and_name-in-Ok-clause-kept g c =
    let p = c.args.parts.now in
    let same = c.in_err-grow_and_name-in-Ok.ensures.err in
    record {
      right = subst (λ (l : List (Node _)). AreRight (reverse l)) (sym same.0) c.requires.kept.right;
      marked = subst (λ (l : List (Node _)). AreMarked p.last.table (reverse l)) (sym same.0) c.requires.kept.marked;
      graph = subst (λ (d : Drawn _). IsGraph d) (sym (drawn_is (ap (λ (l : List (Node _)). edges_of l) same.0) same.1 refl refl)) c.requires.kept.graph;
    }

pub returns-in_err-grow_and_name-in-Ok-clause-finished : goal.returns-in_err-grow_and_name-in-Ok-clause-finished
returns-in_err-grow_and_name-in-Ok-clause-finished g c finished =
    let p = c.args.parts.now in
    let same = c.in_err-grow_and_name-in-Ok.ensures.err in
    subst (λ (d : Drawn _). IsFinished d) (sym (drawn_is {o = p.last.operator} {t = p.last.table} (ap (λ (l : List (Node _)). edges_of l) same.0) same.1 refl refl)) finished

pub returns-in_ok-grow_and_name-in-Ok-clause-answers : goal.returns-in_ok-grow_and_name-in-Ok-clause-answers
returns-in_ok-grow_and_name-in-Ok-clause-answers g c =
    let p = c.args.parts.now in
    let from = option_copied c.args.from in
    let after = c.in-Ok.after in
    let goes = goes_from (drawn p) c.args.name from c.args.edges c.in-Ok.set _ p.last after c.as_slice.result.now c.requires.kept.graph c.requires.some c.requires.fits
    c.in-Ok.ensures.start c.in-Ok.ensures.unused refl c.as_slice.ensures refl refl c.in-Ok.ensures.room in
    let named = c.in_ok-grow_and_name-in-Ok.ensures.named ∙ ap (λ (n : List ℕ). p.versions.entries ++ (n, after.operator) ∷ []) c.in-Ok.ensures.name in (
      goes_no_refusal (drawn p) c.args.name from c.args.edges c.in-Ok.set after.operator after.table goes,
      goes_to (drawn p) c.args.name from c.args.edges c.in-Ok.set after.operator after.table goes (edges_of c.grow_and_name.new.nodes.items) c.grow_and_name.new.versions.entries c.in_ok-grow_and_name-in-Ok.ensures.grown named,
      refl,
    )

pub returns-in_ok-grow_and_name-in-Ok-clause-kept : goal.returns-in_ok-grow_and_name-in-Ok-clause-kept
returns-in_ok-grow_and_name-in-Ok-clause-kept g c =
    let p = c.args.parts.now in
    let from = option_copied c.args.from in
    let after = c.in-Ok.after in
    let goes = goes_from (drawn p) c.args.name from c.args.edges c.in-Ok.set _ p.last after c.as_slice.result.now c.requires.kept.graph c.requires.some c.requires.fits
    c.in-Ok.ensures.start c.in-Ok.ensures.unused refl c.as_slice.ensures refl refl c.in-Ok.ensures.room in
    let named = c.in_ok-grow_and_name-in-Ok.ensures.named ∙ ap (λ (n : List ℕ). p.versions.entries ++ (n, after.operator) ∷ []) c.in-Ok.ensures.name in
    record {
      right = c.in_ok-grow_and_name-in-Ok.ensures.right;
      marked = subst (λ (t : ℕ). AreMarked t (reverse c.grow_and_name.new.nodes.items)) (sym goes.last_table) c.in_ok-grow_and_name-in-Ok.ensures.marked;
      graph = goes_is_graph (drawn p) c.args.name from c.args.edges c.in-Ok.set after.operator after.table goes (edges_of c.grow_and_name.new.nodes.items) c.grow_and_name.new.versions.entries c.in_ok-grow_and_name-in-Ok.ensures.grown named;
    }

pub returns-in_ok-grow_and_name-in-Ok-clause-finished : goal.returns-in_ok-grow_and_name-in-Ok-clause-finished
returns-in_ok-grow_and_name-in-Ok-clause-finished g c finished =
    let p = c.args.parts.now in
    let from = option_copied c.args.from in
    let after = c.in-Ok.after in
    let goes = goes_from (drawn p) c.args.name from c.args.edges c.in-Ok.set _ p.last after c.as_slice.result.now c.requires.kept.graph c.requires.some c.requires.fits
    c.in-Ok.ensures.start c.in-Ok.ensures.unused refl c.as_slice.ensures refl refl c.in-Ok.ensures.room in
    let named = c.in_ok-grow_and_name-in-Ok.ensures.named ∙ ap (λ (n : List ℕ). p.versions.entries ++ (n, after.operator) ∷ []) c.in-Ok.ensures.name in
    let is = goes_to (drawn p) c.args.name from c.args.edges c.in-Ok.set after.operator after.table goes (edges_of c.grow_and_name.new.nodes.items) c.grow_and_name.new.versions.entries c.in_ok-grow_and_name-in-Ok.ensures.grown named in
    subst (λ (d : Drawn _). IsFinished d) (sym is) (evolved_finished (drawn p) c.args.name (unwrap_or (start_of p.versions.entries from) 0) c.args.edges c.requires.kept.graph finished)
