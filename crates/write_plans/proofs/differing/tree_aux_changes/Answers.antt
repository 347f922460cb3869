use Rattle.std.proofs.Common.{◌+◌, ◌<◌, ℕ, List, [], ◌∷◌, ◌++◌, get_or, length, slice_index_or, take, sym, subst, arith}
use Rattle.row_changes.specs.declared.change.SideChanges.{SideChanges}
use Rattle.version_graph.specs.Sets.{In}
use Rattle.version_graph.proofs.WalkStepLaws.{in_at}
use Rattle.version_model.specs.declared.numbered.Numbered.{Numbered}
use Rattle.db_state.specs.Fields.{state_for}
use Rattle.db_state.specs.Parts.{passes}
use Rattle.db_state.proofs.BoundLaws.{seen_fewer, seen_more}
use Rattle.write_plans.specs.Making.{AreAuxChanges, IsAuxChange}
use Rattle.write_plans.proofs.AuxLemmas.{sees_one}
use Rattle.write_plans.proofs.ItemLemmas.{one_more}
use Rattle.write_plans.proofs.differing.tree_aux_changes.Goals as goal

pub aux_change-requires-clause-sees : goal.aux_change-requires-clause-sees
aux_change-requires-clause-sees g c =
    let ns = c.as_slice-number-items.result.now in
    let i = c.loop-number.number-index in
    sees_one g.O.Operator.meaning c.args.db.now.graph.edges (state_for g.O.Operator.meaning c.args.db.now) c.args.tree.now.operators (slice_index_or ns i 0) c.args.sight
    (subst (λ (l : List ℕ). In (slice_index_or ns i 0) l) c.as_slice-number-items.ensures (in_at ns i 0 c.loop-number-test.true)) c.requires.sees

pub returns-in_err-value-clause-steps : goal.returns-in_err-value-clause-steps
returns-in_err-value-clause-steps g c =
    let i = c.loop-number.number-index in
    let within = subst (λ (l : List ℕ). i < length l) c.as_slice-number-items.ensures c.loop-number-test.true in
    seen_fewer 8 c.args.sight (i + 1) (length c.args.tree.now.operators) c.args.steps.now c.aux_change.new.steps (omega (arith, within))
    (seen_more 8 c.args.sight i 1 c.args.steps.now c.loop-number.steps c.aux_change.new.steps c.loop-number.invariant.took c.in_err-value.ensures.steps)

pub returns-in_err-push-clause-steps : goal.returns-in_err-push-clause-steps
returns-in_err-push-clause-steps g c =
    let i = c.loop-number.number-index in
    let within = subst (λ (l : List ℕ). i < length l) c.as_slice-number-items.ensures c.loop-number-test.true in
    seen_fewer 8 c.args.sight (i + 1) (length c.args.tree.now.operators) c.args.steps.now c.aux_change.new.steps (omega (arith, within))
    (seen_more 8 c.args.sight i 1 c.args.steps.now c.loop-number.steps c.aux_change.new.steps c.loop-number.invariant.took c.in_ok-value.ensures.steps)

pub loop-number-preserved : goal.loop-number-preserved
loop-number-preserved g c =
    let m = g.O.Operator.meaning in
    let d = c.args.db.now in
    let making = c.args.making.now in
    let test = passes c.args.sight in
    let ns = c.as_slice-number-items.result.now in
    let same = c.as_slice-number-items.ensures in
    let i = c.loop-number.number-index in
    let within = subst (λ (l : List ℕ). i < length l) same c.loop-number-test.true in
    let before = subst (λ (l : List ℕ). AreAuxChanges m d test making (take i l) c.loop-number.changes) (sym same) c.loop-number.invariant.so_far in
    let pushed : List (Numbered SideChanges) = c.loop-number.changes ++ record { number = get_or ns i 0; value = c.in_ok-value.value } ∷ [] in
    let more = one_more (λ n (side : SideChanges). IsAuxChange m d test making n side.tables) ns i c.loop-number-test.true c.loop-number.changes c.in_ok-value.value (before.listed, before.values) c.in_ok-value.ensures.change in
    record {
      so_far = subst (λ (l : List (Numbered SideChanges)). AreAuxChanges m d test making (take (i + 1) c.args.tree.now.operators) l) (sym c.in_ok-push.ensures.ok)
          (subst (λ (ks : List ℕ). AreAuxChanges m d test making (take (i + 1) ks) pushed) same (record { listed = more.0; values = more.1 }));
      inside = omega (arith, within);
      took = seen_more 8 c.args.sight i 1 c.args.steps.now c.loop-number.steps c.aux_change.new.steps c.loop-number.invariant.took c.in_ok-value.ensures.steps;
    }
