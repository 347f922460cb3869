use Rattle.std.proofs.Common.{ℕ, List, ◌++◌, ap, ◌∙◌, arith}
use Rattle.layout_rules.specs.Lookups.{in_trees, needed_with, tables_with}
use Rattle.layout_rules.specs.Passes.{needed}
use Rattle.layout_rules.proofs.DownLaws.{below, below_all, need_step}
use Rattle.layout_rules.proofs.needing.needed.Goals as goal

pub loop-left-init : goal.loop-left-init
loop-left-init g c =
    let es = c.args.graph.now.edges in
    let count = c.live_operators-left.ensures.count in
    let named = in_trees es c.args.trees.now in
    record {
      within = omega (arith, count);
      so_far = ap (λ (l : List ℕ). l ++ needed named (below es c.live_operators-left.result) c.args.named.items) c.new-made.ensures.items ∙ ap (λ l. needed named l c.args.named.items) (below_all es c.live_operators-left.result count);
    }

pub loop-left-preserved : goal.loop-left-preserved
loop-left-preserved g c =
    let l = c.loop-left in
    let es = c.args.graph.now.edges in
    record {
      within = omega (arith, l.invariant.within);
      so_far = need_step es c.live_operators-left.ensures.graph.edges c.args.trees.now l.left l.tables.items l.made.items c.add_needed.new.tables.items c.add_needed.new.made.items c.loop-left-test.true
          (c.in_ok-add_needed.ensures.tables ∙ ap (λ o. tables_with es c.args.trees.now l.tables.items o) c.edge_at.ensures)
          (c.in_ok-add_needed.ensures.made ∙ ap (λ o. needed_with es c.args.trees.now l.tables.items l.made.items o) c.edge_at.ensures)
          ∙ l.invariant.so_far;
    }
