use Rattle.std.proofs.Common.{ℕ, List, length, sym, ◌∙◌, subst, arith}
use Rattle.op_law.specs.Identifiers.{IdsRise, has_id}
use Rattle.row_changes.specs.Touched.{AllPass}
use Rattle.kept_keys.proofs.KeptLaws.{both_same}
use Rattle.write_plans.proofs.SeenLemmas.{named_pass, steps_named}
use Rattle.write_plans.proofs.planning.plan_named.Goals as goal

pub plan_seen-requires-clause-sees : goal.plan_seen-requires-clause-sees
plan_seen-requires-clause-sees g c = (subst (λ (l : List ℕ). IdsRise 0 l) (sym c.as_slice.ensures) c.in_ok-ids.ensures.rise, c.requires.local)

pub plan_seen-requires-clause-named : goal.plan_seen-requires-clause-named
plan_seen-requires-clause-named g c =
    let cs = c.args.written.changes in
    subst (λ (l : List ℕ). AllPass (has_id l) cs) (sym (c.as_slice.ensures ∙ c.in_ok-ids.ensures.value)) (named_pass cs)

pub returns-clause-steps : goal.returns-clause-steps
returns-clause-steps g c =
    steps_named c.args.written.changes c.as_slice.result.now (c.as_slice.ensures ∙ c.in_ok-ids.ensures.value) (length c.args.tree.now.operators) 16 c.args.steps.now c.plan_seen.new.steps (omega arith) c.plan_seen.ensures.steps

pub returns-in_err-ids-clause-kept : goal.returns-in_err-ids-clause-kept
returns-in_err-ids-clause-kept g c = both_same c.args.keys.now.items
