use Rattle.std.proofs.Common.{◌∙◌, refl, sym, subst}
use Rattle.std.proofs.lemmas.List.{take_all}
use Rattle.id_memory.specs.Pairs.{Pairs}
use Rattle.pair_rows.specs.Shown.{AreThere}
use Rattle.std.proofs.lemmas.Bool.{and_parts, and_from, false≢true}
use Rattle.outer_law.specs.Entries.{with_absent}
use Rattle.op_outer_cond.proofs.AdmissionLemmas.{there_more, there_each}
use Rattle.op_outer_cond.proofs.admission.are_there.Goals as goal

pub loop-entry-preserved : goal.loop-entry-preserved
loop-entry-preserved c = λ first second.
    let both = and_parts _ _ (sym (c.has_halves.ensures first second) ∙ c.if-not-has_halves.false) in
    there_more (with_absent first c.args.s.now.rows) (with_absent second c.args.t.now.rows) c.args.entries.now c.loop-entry.entry-index c.loop-entry-test.true (c.loop-entry.invariant first second) both.0 both.1

pub returns-then-not-has_halves : goal.returns-then-not-has_halves
returns-then-not-has_halves c = λ first second. (
  λ f. absurd (false≢true f),
  λ there.
      let both = there_each (with_absent first c.args.s.now.rows) (with_absent second c.args.t.now.rows) c.args.entries.now c.loop-entry.entry-index c.loop-entry-test.true there in
      absurd (false≢true (sym c.if-not-has_halves.true ∙ c.has_halves.ensures first second ∙ and_from _ _ both.0 both.1)),
)

pub returns : goal.returns
returns c = λ first second. (
  λ yes. subst (λ (es : Pairs). AreThere (with_absent first c.args.s.now.rows) (with_absent second c.args.t.now.rows) es) (take_all c.loop-entry.entry-index c.args.entries.now c.loop-entry-test.false) (c.loop-entry.invariant first second),
  λ there. refl,
)
