use Rattle.std.proofs.Common.{◌≡◌, ◌≤◌, sym, ap, subst, ◌∙◌}
use Rattle.serde_json.specs.Data.{Data, depth}
use Rattle.serde_json.specs.Read.{max_depth}
use Rattle.serde_json.specs.View.{view}
use Rattle.serde_json.specs.Written.{has_float}
use Rattle.layout_planner.specs.Counts.{counts_for}
use Rattle.dump_formats.specs.Formats.{counts_json, goal_json, goal_told, second_json}
use Rattle.dump_formats.proofs.SecondLemmas.{second_shallow, second_whole}
use Rattle.dump_formats.proofs.dumping.write_run.Goals as goal

pub returns-clause-whole : goal.returns-clause-whole
returns-clause-whole c =
    let first = view c.in_ok-first.first in
    let counts = counts_for c.args.counts.now c.as_slice.result.now in
    let goal = goal_told c.graph-2.result.now.edges c.as_slice-layout.result.now c.args.pending.now in
    let is : view c.in_ok-json.json ≡ second_json (counts_json counts) (goal_json goal) first = c.in_ok-json.ensures ∙ (λ i. second_json (c.in_ok-counts.ensures i) (c.in_ok-goal.ensures i) first) in
    ap has_float is ∙ second_whole counts goal first c.in_ok-first.ensures.whole

pub returns-clause-shallow : goal.returns-clause-shallow
returns-clause-shallow c =
    let first = view c.in_ok-first.first in
    let counts = counts_for c.args.counts.now c.as_slice.result.now in
    let goal = goal_told c.graph-2.result.now.edges c.as_slice-layout.result.now c.args.pending.now in
    let is : view c.in_ok-json.json ≡ second_json (counts_json counts) (goal_json goal) first = c.in_ok-json.ensures ∙ (λ i. second_json (c.in_ok-counts.ensures i) (c.in_ok-goal.ensures i) first) in
    subst (λ (d : Data). depth d ≤ max_depth) (sym is) (second_shallow counts goal first c.in_ok-first.ensures.shallow)
