use Rattle.std.proofs.Common.{◌≡◌, ℕ, List, true, ap, sym, ◌∙◌, subst}
use Rattle.op_law.specs.Identifiers.{has_id}
use Rattle.row_changes.specs.Touched.{touched}
use Rattle.op_cond_join.specs.Joinings.{joining}
use Rattle.id_closing.specs.Closing.{IsClosing}
use Rattle.cond_closing.specs.Steady.{IsBrought, changed_entries}
use Rattle.cond_closing.proofs.BackwardLemmas.{begins_more, closes_assigned}
use Rattle.cond_closing.proofs.assigned.assigned_ids.Goals as goal

pub returns-clause-closed : goal.returns-clause-closed
returns-clause-closed c =
    let near = c.args.near.now.tables in
    let it = c.args.it.now in
    let changed = c.in_ok-changed.changed in
    let named : c.in_ok-touched.touched ≡ touched near = c.in_ok-touched.ensures.value ∙ ap touched c.as_slice.ensures in
    let same : (q : ℕ) → has_id changed q ≡ has_id (touched near) q = λ q. c.in_ok-changed.ensures q ∙ ap (λ (xs : List ℕ). has_id xs q) (c.as_slice-2.ensures ∙ named) in
    let all = c.add_all.new.ids in
    closes_assigned it near changed all c.in_ok-ids.ids same
    (begins_more it near c.in_ok-begin.begin all c.in_ok-add_all.ensures.stay c.in_ok-begin.ensures)
    (subst (λ (xs : List ℕ). IsClosing (IsBrought (changed_entries it.memory.now.entries changed)) xs c.in_ok-ids.ids) c.as_slice-3.ensures c.in_ok-ids.ensures)

-- and so a footprint
pub returns-clause-foot : goal.returns-clause-foot
returns-clause-foot c p n known may =
    c.closed_is_footprint.ensures.backward (joining c.args.it.now.join.now) c.args.near.now.tables p n c.in_ok-ids.ids may (returns-clause-closed c p n known may)

-- which keeps the changes apart
pub returns-clause-apart : goal.returns-clause-apart
returns-clause-apart c p n known may =
    c.closed_maps_apart.ensures.backward (joining c.args.it.now.join.now) c.args.near.now.tables p n c.in_ok-ids.ids may (returns-clause-closed c p n known may)

pub returns-clause-holds : goal.returns-clause-holds
returns-clause-holds c q has =
    c.in_ok-ids.ensures.begins q (subst (λ (xs : List ℕ). has_id xs q ≡ true) (sym c.as_slice-3.ensures) (c.in_ok-add_all.ensures.all q has))
