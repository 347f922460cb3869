use Rattle.std.proofs.Common.{sym, ◌∙◌}
use Rattle.std.proofs.lemmas.Bool.{false≢true}
use Rattle.pair_rows.specs.Halves.{pick_of}
use Rattle.op_outer_cond.specs.inner.Admitted.{other_of}
use Rattle.op_outer_cond.proofs.AdmissionLemmas.{once_more, once_each}
use Rattle.op_outer_cond.proofs.admission.are_once.Goals as goal

pub loop-entry-preserved : goal.loop-entry-preserved
loop-entry-preserved c =
    once_more (pick_of c.args.half) (other_of c.args.half) c.args.memory.now.entries c.args.entries.now c.loop-entry.entry-index c.loop-entry-test.true c.loop-entry.invariant (c.is_once.ensures.0 c.if-not-is_once.false)

pub returns-then-not-is_once : goal.returns-then-not-is_once
returns-then-not-is_once c = (
  λ f. absurd (false≢true f),
  λ all.
      let one = once_each (pick_of c.args.half) (other_of c.args.half) c.args.memory.now.entries c.args.entries.now c.loop-entry.entry-index c.loop-entry-test.true all in
      absurd (false≢true (sym c.if-not-is_once.true ∙ c.is_once.ensures.1 one)),
)
