use Rattle.std.proofs.Common.{◌≡◌, ℕ, List, true, ap, sym, ◌∙◌, subst}
use Rattle.row_store.specs.declared.change.Change.{Change}
use Rattle.op_law.specs.Identifiers.{has_id}
use Rattle.fk_footprints.proofs.DecomposeBackwardLaws.{closed_decompose_back}
use Rattle.id_closing.specs.Told.{changes_at, is_changed}
use Rattle.fk_closing.specs.Begins.{BeginsAtTables}
use Rattle.fk_closing.proofs.CallLemmas.{decompose_back_closes}
use Rattle.fk_closing.proofs.decompose.decompose_back_footprint.Goals as goal

pub returns-clause-closed : goal.returns-clause-closed
returns-clause-closed c p n are may =
    let it = c.args.operator.now in
    let near = c.args.near.now.tables in
    let changed : (q : ℕ) → has_id c.in_ok-changed.changed q ≡ is_changed (changes_at near 0) q = λ q. c.in_ok-changed.ensures q ∙ ap (λ (cs : List Change). is_changed cs q) c.changes_at.ensures in
    let begins = subst (λ (xs : List ℕ). BeginsAtTables it.place c.args.keys.now.keys near xs) (sym c.as_slice.ensures) c.in_ok-begin.ensures.begins in
    decompose_back_closes it.place c.args.keys.now near p n c.in_ok-changed.changed c.as_slice.result.now c.in_ok-ids.ids it.first it.second are may begins changed c.in_ok-ids.ensures

-- and so a footprint
pub returns-clause-foot : goal.returns-clause-foot
returns-clause-foot c p n are may =
    let it = c.args.operator.now in
    closed_decompose_back it.first it.second it.place c.args.near.now.tables p n c.in_ok-ids.ids may (returns-clause-closed c p n are may)

pub returns-clause-holds : goal.returns-clause-holds
returns-clause-holds c q has =
    c.in_ok-ids.ensures.begins q (subst (λ (xs : List ℕ). has_id xs q ≡ true) (sym c.as_slice.ensures) (c.in_ok-begin.ensures.wanted q has))
