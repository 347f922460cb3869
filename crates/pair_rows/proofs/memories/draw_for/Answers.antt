use Rattle.std.proofs.Common.{ℕ, ◌++◌, ◌∷◌, [], slice_index_or, take, ap, ◌∙◌, sym}
use Rattle.id_memory.specs.Pairs.{Pairs}
use Rattle.pair_rows.specs.Shown.{numbered}
use Rattle.pair_rows.proofs.ShowingLemmas.{numbered_more, draw_step}
use Rattle.pair_rows.proofs.memories.draw_for.Goals as goal

pub loop-pair-preserved : goal.loop-pair-preserved
loop-pair-preserved c =
    let step = draw_step c.args.ids.now c.loop-pair.ids c.draw.new.self c.loop-pair.pair-index c.in-Ok.id c.loop-pair.invariant.next c.in-Ok.ensures.ok c.in-Ok.ensures.raised in
    record {
      made = c.in_ok-push-in-Ok.ensures.ok
          ∙ ap (λ (xs : Pairs). xs ++ (c.in-Ok.id, (slice_index_or c.args.pairs.now c.loop-pair.pair-index (0, 0)).0, (slice_index_or c.args.pairs.now c.loop-pair.pair-index (0, 0)).1) ∷ []) c.loop-pair.invariant.made
          ∙ ap (λ (id : ℕ). numbered c.args.ids.now.next (take c.loop-pair.pair-index c.args.pairs.now) ++ (id, (slice_index_or c.args.pairs.now c.loop-pair.pair-index (0, 0)).0, (slice_index_or c.args.pairs.now c.loop-pair.pair-index (0, 0)).1) ∷ []) step.0
          ∙ sym (numbered_more c.args.ids.now.next c.args.pairs.now c.loop-pair.pair-index c.loop-pair-test.true);
      next = step.1;
      within = step.2;
    }
