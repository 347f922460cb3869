use Rattle.std.proofs.Common.{◌≡◌, ℕ, List, true, ap, sym, ◌∙◌, subst}
use Rattle.row_store.specs.declared.change.Change.{Change}
use Rattle.op_law.specs.Identifiers.{has_id}
use Rattle.op_fk_decompose.specs.Columns.{column_parts}
use Rattle.fk_footprints.proofs.DecomposeForwardLaws.{closed_decompose}
use Rattle.fk_closing.specs.Keys.{shared_among}
use Rattle.id_closing.specs.Told.{changes_at, is_changed}
use Rattle.fk_closing.specs.Begins.{BeginsAtRows}
use Rattle.fk_closing.proofs.CallLemmas.{decompose_closes}
use Rattle.fk_closing.proofs.decompose.decompose_footprint.Goals as goal

pub returns-clause-closed : goal.returns-clause-closed
returns-clause-closed c p n are may =
    let it = c.args.operator.now in
    let near = c.args.near.now.tables in
    let k = column_parts it.first it.second it.place in
    let changed : (q : ℕ) → has_id c.in_ok-changed.changed q ≡ is_changed (changes_at near 0) q = λ q. c.in_ok-changed.ensures q ∙ ap (λ (cs : List Change). is_changed cs q) c.changes_at.ensures in
    let begins = subst (λ (xs : List ℕ). BeginsAtRows k.second (shared_among c.args.keys.now) near xs) (sym c.as_slice.ensures) c.in_ok-begin.ensures.begins in
    decompose_closes it.place c.args.keys.now near p n c.in_ok-changed.changed c.as_slice.result.now c.in_ok-ids.ids it.first it.second are may begins changed c.in_ok-ids.ensures

-- and so a footprint
pub returns-clause-foot : goal.returns-clause-foot
returns-clause-foot c p n are may =
    let it = c.args.operator.now in
    closed_decompose it.first it.second it.place c.args.near.now.tables p n c.in_ok-ids.ids may (returns-clause-closed c p n are may)

pub returns-clause-holds : goal.returns-clause-holds
returns-clause-holds c q has =
    c.in_ok-ids.ensures.begins q (subst (λ (xs : List ℕ). has_id xs q ≡ true) (sym c.as_slice.ensures) (c.in_ok-begin.ensures.wanted q has))
