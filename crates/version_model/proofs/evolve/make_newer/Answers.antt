use Rattle.std.proofs.Common.{◌<◌, ◌≤◌, sym, ◌∙◌, subst, ℕ}
use Rattle.std.proofs.lemmas.Result.{err_from_is_err_and}
use Rattle.version_model.proofs.AscendingLaws.{length_ascending}
use Rattle.version_model.proofs.MakingLaws.{may_make_at, one_made, one_refused, all_made}
use Rattle.version_model.proofs.evolve.make_newer.Goals as goal

pub make_at-requires : goal.make_at-requires
make_at-requires g c =
    let es = c.args.graph.now.edges in
    let inside = subst (λ (n : ℕ). c.loop-place.place < n) (c.live_operators-place-end.ensures.count ∙ sym (length_ascending es)) c.loop-place-test.true in
    may_make_at g.O.Operator.meaning es c.args.before c.args.ids c.args.first c.loop-place.place c.loop-place.made c.loop-place.invariant inside c.live_operators-place-end.ensures.graph.edges

pub returns-in_err-make_at-clause-makes : goal.returns-in_err-make_at-clause-makes
returns-in_err-make_at-clause-makes g c =
    let es = c.args.graph.now.edges in
    let inside = subst (λ (n : ℕ). c.loop-place.place < n) (c.live_operators-place-end.ensures.count ∙ sym (length_ascending es)) c.loop-place-test.true in
    let p = err_from_is_err_and c.from_residual.result c.from_residual.ensures.1 in
    rw (p.1, p.2) (one_refused g.O.Operator.meaning es c.args.before c.args.ids c.args.first c.loop-place.place c.loop-place.made c.loop-place.invariant inside c.make_at.new.made c.in_err-make_at.field-0.0 c.in_err-make_at.ensures.makes)

pub loop-place-preserved : goal.loop-place-preserved
loop-place-preserved g c =
    let es = c.args.graph.now.edges in
    let inside = subst (λ (n : ℕ). c.loop-place.place < n) (c.live_operators-place-end.ensures.count ∙ sym (length_ascending es)) c.loop-place-test.true in
    one_made g.O.Operator.meaning es c.args.before c.args.ids c.args.first c.loop-place.place c.loop-place.made c.loop-place.invariant inside c.make_at.new.made c.in_ok-make_at.ensures.makes c.in_ok-make_at.ensures.has

pub returns-clause-makes : goal.returns-clause-makes
returns-clause-makes g c =
    let es = c.args.graph.now.edges in
    let past = subst (λ (n : ℕ). n ≤ c.loop-place.place) (c.live_operators-place-end.ensures.count ∙ sym (length_ascending es)) c.loop-place-test.false in
    all_made g.O.Operator.meaning es c.args.before c.args.ids c.args.first c.loop-place.place c.loop-place.made c.loop-place.invariant past
