use Rattle.std.proofs.Common.{◌≡◌, ℕ, false, true, get_or, arith, ◌∙◌}
use Rattle.op_law.specs.Identifiers.{has_id}
use Rattle.id_closing.specs.Told.{is_changed}
use Rattle.cond_closing.proofs.ShownLemmas.{each_end, each_next}
use Rattle.cond_closing.proofs.shown.not_named.Goals as goal

pub loop-id-preserved : goal.loop-id-preserved
loop-id-preserved c =
    let ids = c.args.ids.now in
    let i = c.loop-id.id-index in
    let one = c.in_ok-push_unless.ensures in
    each_next (λ (q : ℕ). is_changed c.args.changes.now q ≡ false → has_id c.push_unless.new.made q ≡ true) ids i c.loop-id-test.true
    (λ q h free. one.stay q (c.loop-id.invariant q h free)) (λ free. one.here (c.in_ok-named.ensures (get_or ids i 0) ∙ free))

pub returns : goal.returns
returns c =
    each_end (λ (q : ℕ). is_changed c.args.changes.now q ≡ false → has_id c.loop-id.made q ≡ true) c.args.ids.now c.loop-id.id-index (omega (arith, c.loop-id-test.false)) c.loop-id.invariant
