use Rattle.std.proofs.Common.{◌≡◌, ℕ, List, filter, sym, subst, ◌∙◌, rules}
use Rattle.version_graph.specs.Edges.{Rises}
use Rattle.migration.specs.Sides.{changes_side, changing}
use Rattle.dump_formats.proofs.GoalLemmas.{changes_lead, none_changes, none_of, none_rises}
use Rattle.dump_formats.proofs.goals.pending_to.Goals as goal

pub returns-then-not-rises : goal.returns-then-not-rises
returns-then-not-rises c =
    none_rises c.args.graph.now.edges c.live_operators-live.ensures.graph.edges c.args.layout.now c.args.goal (λ rise.
    let on = c.rises.ensures.1 (subst (λ (l : List ℕ). Rises 0 l) (sym c.as_slice.ensures) rise) in
    let off = c.if-not-rises.true in
    let no : ⊥ = cc in
    no)

pub returns-then-is_empty : goal.returns-then-is_empty
returns-then-is_empty c =
    let made : c.in_ok-flips.flips ≡ changing c.args.graph.now.edges c.args.layout.now c.args.goal =
    c.in_ok-flips.ensures ∙ (λ i. filter (changes_side c.args.layout.now (c.as_slice-3.ensures i)) ((c.as_slice-2.ensures ∙ c.in_ok-operators.ensures.numbers) i)) in
    none_changes c.args.graph.now.edges c.live_operators-live.ensures.graph.edges c.args.layout.now c.args.goal (sym made ∙ none_of c.in_ok-flips.flips c.is_empty.result c.is_empty.ensures c.if-is_empty.true)

pub returns : goal.returns
returns c =
    let made : c.in_ok-flips.flips ≡ changing c.args.graph.now.edges c.args.layout.now c.args.goal =
    c.in_ok-flips.ensures ∙ (λ i. filter (changes_side c.args.layout.now (c.as_slice-3.ensures i)) ((c.as_slice-2.ensures ∙ c.in_ok-operators.ensures.numbers) i)) in
    changes_lead c.args.graph.now.edges c.live_operators-live.ensures.graph.edges c.args.layout.now c.args.goal
    (subst (λ (l : List ℕ). Rises 0 l) c.as_slice.ensures (c.rises.ensures.0 (search rules))) (search rules) c.in_ok-flips.flips made (λ empty. search rules)
