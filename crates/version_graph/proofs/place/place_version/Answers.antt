use Rattle.std.proofs.Common.{List, refl, sym, ap, ◌∙◌, subst}
use Rattle.version_graph.specs.Edges.{Drawn, IsGraph, is_in, numbers, version_sets}
use Rattle.version_graph.specs.Kept.{drawn, edges_of}
use Rattle.version_graph.specs.Placing.{CanName}
use Rattle.version_graph.specs.declared.node.Node.{Node}
use Rattle.version_graph.proofs.SetLaws.{in_of_test}
use Rattle.version_graph.proofs.PlaceLaws.{none_of, not_in, version_graph, version_is}
use Rattle.version_graph.proofs.place.place_version.Goals as goal

pub returns-then-not-is_live-clause-answers : goal.returns-then-not-is_live-clause-answers
returns-then-not-is_live-clause-answers g c =
    let live = sym (ap (λ (l : List (Node _)). is_in c.args.set (numbers (edges_of l))) c.as_slice.ensures.value) ∙ sym c.is_live.ensures ∙ c.if-not-is_live.true in (
      λ can. not_in c.args.set (numbers (edges_of c.args.parts.now.nodes.items)) live can.lives,
      refl,
    )

pub returns-then-has_set-clause-answers : goal.returns-then-has_set-clause-answers
returns-then-has_set-clause-answers g c = (
  λ can. can.unnamed (in_of_test c.args.set (version_sets c.args.parts.now.versions.entries) (sym c.has_set.ensures ∙ c.if-has_set.true)),
  refl,
)

pub returns-clause-answers : goal.returns-clause-answers
returns-clause-answers g c =
    let p = c.args.parts.now in (
      record {
        unused = sym c.set_named.ensures ∙ none_of c.set_named.result (sym c.is_some.ensures ∙ c.if-is_some.false);
        lives = in_of_test c.args.set (numbers (edges_of p.nodes.items)) (sym (ap (λ (l : List (Node _)). is_in c.args.set (numbers (edges_of l))) c.as_slice.ensures.value) ∙ sym c.is_live.ensures ∙ c.if-not-is_live.false);
        unnamed = not_in c.args.set (version_sets p.versions.entries) (sym c.has_set.ensures ∙ c.if-has_set.false);
      },
      version_is (drawn p) c.args.name c.args.set c.name_set.new.versions.entries c.in_ok-name_set.ensures.ok,
    )

pub returns-clause-kept : goal.returns-clause-kept
returns-clause-kept g c =
    let p = c.args.parts.now in
    let can : CanName (drawn p) c.args.name c.args.set = record {
      unused = sym c.set_named.ensures ∙ none_of c.set_named.result (sym c.is_some.ensures ∙ c.if-is_some.false);
      lives = in_of_test c.args.set (numbers (edges_of p.nodes.items)) (sym (ap (λ (l : List (Node _)). is_in c.args.set (numbers (edges_of l))) c.as_slice.ensures.value) ∙ sym c.is_live.ensures ∙ c.if-not-is_live.false);
      unnamed = not_in c.args.set (version_sets p.versions.entries) (sym c.has_set.ensures ∙ c.if-has_set.false);
    } in
    record {
      right = c.requires.kept.right;
      marked = c.requires.kept.marked;
      graph = subst (λ (d : Drawn _). IsGraph d) (sym (version_is (drawn p) c.args.name c.args.set c.name_set.new.versions.entries c.in_ok-name_set.ensures.ok)) (version_graph (drawn p) c.requires.kept.graph c.args.name c.args.set can);
    }
