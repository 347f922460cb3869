use Rattle.std.proofs.Common.{◌≡◌, ℕ, ◌+◌, List, [], ◌∷◌, ◌++◌, take, arith, sym, ap, ◌∙◌}
use Rattle.version_graph.specs.Evolve.{numbers_after}
use Rattle.version_graph.proofs.GrowLaws.{after_more}
use Rattle.version_graph.proofs.grow.next_tables.Goals as goal

pub loop-target-preserved : goal.loop-target-preserved
loop-target-preserved c =
    let last = c.args.last in
    let i = c.loop-target._target-index in
    let next : c.loop-target.next + 1 ≡ last + i + 1 = omega arith in
    record {
      count = omega arith;
      made = c.in_ok-push.ensures.ok ∙ ap (λ (l : List ℕ). l ++ (c.loop-target.next + 1) ∷ []) c.loop-target.invariant.made
          ∙ ap (λ (n : ℕ). numbers_after last (take i c.args.targets.now) ++ n ∷ []) next
          ∙ sym (after_more last c.args.targets.now i c._target-item.result c.loop-target-test.true);
    }
