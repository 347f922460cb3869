use Rattle.std.proofs.Common.{◌≡◌, ℕ, List, true, ap, sym, ◌∙◌, subst}
use Rattle.row_store.specs.declared.change.Change.{Change}
use Rattle.op_law.specs.Identifiers.{has_id}
use Rattle.row_changes.specs.Touched.{touched}
use Rattle.op_cond_join.specs.Joinings.{joining}
use Rattle.id_closing.specs.Closing.{IsClosing}
use Rattle.id_closing.specs.Told.{changes_at}
use Rattle.cond_closing.specs.Steady.{IsBrought, changed_entries}
use Rattle.outer_closing.specs.Shared.{is_replaced}
use Rattle.outer_closing.proofs.BackwardLemmas.{closes_outer}
use Rattle.outer_closing.proofs.FoundLemmas.{begins_more}
use Rattle.outer_closing.proofs.assigned.outer_assigned_ids.Goals as goal

pub returns-clause-closed : goal.returns-clause-closed
returns-clause-closed c =
    let near = c.args.near.now.tables in
    let it = c.args.it.now in
    let replaced = c.in_ok-replaced.replaced in
    let changed = c.in_ok-changed.changed in
    let named : c.in_ok-touched.touched ≡ touched near = c.in_ok-touched.ensures.value ∙ ap touched c.as_slice-2.ensures in
    let same : (q : ℕ) → has_id changed q ≡ has_id (touched near) q = λ q. c.in_ok-changed.ensures q ∙ ap (λ (xs : List ℕ). has_id xs q) (c.as_slice-3.ensures ∙ named) in
    let gone : (q : ℕ) → has_id replaced q ≡ is_replaced (changes_at near 0) q = λ q. c.in_ok-replaced.ensures q ∙ ap (λ (cs : List Change). is_replaced cs q) c.changes_at.ensures in
    let all = c.add_all.new.ids in
    closes_outer it near changed replaced all c.in_ok-ids.ids same gone
    (begins_more c.in_ok-begin.begin all c.in_ok-add_all.ensures.stay it replaced near c.in_ok-begin.ensures)
    (c.in_ok-add_all.ensures.all 0 (subst (λ (xs : List ℕ). has_id xs 0 ≡ true) (sym c.as_slice.ensures) c.in_ok-all.ensures.absent))
    (subst (λ (xs : List ℕ). IsClosing (IsBrought (changed_entries it.memory.now.entries changed)) xs c.in_ok-ids.ids) c.as_slice-4.ensures c.in_ok-ids.ensures)
    c.pairs_are_the_memory.ensures

-- and so a footprint
pub returns-clause-foot : goal.returns-clause-foot
returns-clause-foot c p n known may =
    c.closed_is_footprint.ensures.backward (joining c.args.it.now.join.now) c.args.near.now.tables p n c.in_ok-ids.ids may (returns-clause-closed c p n known may)

-- which keeps the changes apart
pub returns-clause-apart : goal.returns-clause-apart
returns-clause-apart c p n known may =
    c.closed_maps_apart.ensures.backward (joining c.args.it.now.join.now) c.args.near.now.tables p n c.in_ok-ids.ids may (returns-clause-closed c p n known may)

pub returns-clause-holds : goal.returns-clause-holds
returns-clause-holds c q has =
    c.in_ok-ids.ensures.begins q
    (subst (λ (xs : List ℕ). has_id xs q ≡ true) (sym c.as_slice-4.ensures)
    (c.in_ok-add_all.ensures.all q (subst (λ (xs : List ℕ). has_id xs q ≡ true) (sym c.as_slice.ensures) (c.in_ok-all.ensures.holds q has))))
