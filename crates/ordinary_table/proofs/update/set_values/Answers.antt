use Rattle.std.proofs.Common.{◌≡◌, ◌∙◌, length, take, ap, sym, arith}
use Rattle.ordinary_table.specs.Shown.{shown}
use Rattle.ordinary_table.specs.Written.{sets_of}
use Rattle.ordinary_table.proofs.SetLemmas.{values_after_none, length-values_after, fits_at, values_after_more}
use Rattle.ordinary_table.proofs.update.set_values.Goals as goal

pub loop-set-init : goal.loop-set-init
loop-set-init g c = (c.into_vec-values.ensures ∙ c.in_ok-to_list.ensures ∙ sym (values_after_none (shown c.args.row.now) 0 c.args.row.now.1), omega arith)

pub set_value-requires : goal.set_value-requires
set_value-requires g c =
    (fits_at (length c.args.row.now.1) c.args.sets.now c.loop-set.set-index c.set-item.result c.requires.sets c.loop-set-test.true c.set-item.is).reads

pub index_mut-requires : goal.index_mut-requires
index_mut-requires g c =
    let long : length c.loop-set.values.items ≡ length c.args.row.now.1 =
    ap length c.loop-set.invariant.0 ∙ length-values_after (sets_of (take c.loop-set.set-index c.args.sets.now)) (shown c.args.row.now) 0 c.args.row.now.1 in
    omega (arith, long, (fits_at (length c.args.row.now.1) c.args.sets.now c.loop-set.set-index c.set-item.result c.requires.sets c.loop-set-test.true c.set-item.is).column)

pub loop-set-preserved : goal.loop-set-preserved
loop-set-preserved g c = (
  rw (c.loop-set.invariant.0, c.in_ok-value.ensures.ok)
      (sym (values_after_more c.args.sets.now c.loop-set.set-index c.set-item.result (shown c.args.row.now) c.args.row.now.1 c.loop-set-test.true c.set-item.is)),
  omega (arith, c.in_ok-value.ensures.steps, c.loop-set.invariant.1),
)
