use Rattle.std.proofs.Common.{List, ℕ, ◌≤◌, length, sym, ap, subst, ◌∙◌}
use Rattle.std.proofs.lemmas.List.{take_all}
use Rattle.row_store.specs.declared.change.Change.{Change}
use Rattle.op_law.specs.Identifiers.{IdsRise}
use Rattle.write_plans.proofs.SeenLemmas.{ids_of, named_rise}
use Rattle.write_plans.proofs.planning.named_ids.Goals as goal

pub returns-clause-rise : goal.returns-clause-rise
returns-clause-rise c =
    let cs = c.args.changes.now in
    let i = c.loop-change.change-index in
    let whole = subst (λ (l : List Change). length l ≤ i) c.as_slice-change-items.ensures.all c.loop-change-test.false in
    subst (λ (l : List ℕ). IdsRise 0 l) (sym (c.loop-change.invariant ∙ ap ids_of (take_all i cs whole))) (named_rise 0 cs c.as_slice-change-items.ensures.rise)
