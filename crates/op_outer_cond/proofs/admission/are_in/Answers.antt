use Rattle.std.proofs.Common.{length, ap, sym, ◌∙◌}
use Rattle.row_store.specs.Rows.{Rows}
use Rattle.pair_rows.specs.Halves.{pick_of}
use Rattle.op_outer_cond.specs.inner.Admitted.{other_of}
use Rattle.op_outer_cond.proofs.AdmissionLemmas.{none_left, all_in, half_picks, is_zero, zero_is}
use Rattle.op_outer_cond.proofs.admission.are_in.Goals as goal

pub returns : goal.returns
returns c =
    let half = c.args.half in
    let rows = c.args.table.now.rows in
    let m = c.args.memory.now.entries in
    let long = c.len.ensures ∙ ap (λ (rs : Rows). length rs) c.in_ok-left.ensures in (
      λ yes. none_left (pick_of half) (other_of half) (half_picks half) rows m (sym long ∙ is_zero c.len.result yes),
      λ each. zero_is c.len.result (long ∙ all_in (pick_of half) (other_of half) (half_picks half) rows m each),
    )
