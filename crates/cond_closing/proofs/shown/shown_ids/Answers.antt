use Rattle.std.proofs.Common.{◌≡◌, ℕ, List, ap, ◌∙◌, subst}
use Rattle.op_law.specs.Identifiers.{has_id}
use Rattle.row_changes.specs.Touched.{touched}
use Rattle.id_closing.specs.Closing.{IsClosing}
use Rattle.cond_closing.specs.Steady.{IsBrought}
use Rattle.cond_closing.proofs.ForwardLemmas.{closes_shown, may_show, shown_memory}
use Rattle.cond_closing.proofs.ShownLemmas.{shown_among}
use Rattle.cond_closing.proofs.shown.shown_ids.Goals as goal

pub returns-clause-closed : goal.returns-clause-closed
returns-clause-closed g c =
    let near = c.args.near.now.tables in
    let m = c.args.memory.now.entries in
    let j = g.M.Matching.joins c.args.matching.now in
    let knows = g.M.Matching.knows c.args.matching.now in
    let changed = c.in_ok-changed.changed in
    let named : c.in_ok-touched.touched ≡ touched near = c.in_ok-touched.ensures.value ∙ ap touched c.as_slice.ensures in
    let same : (q : ℕ) → has_id changed q ≡ has_id (touched near) q = λ q. c.in_ok-changed.ensures q ∙ ap (λ (xs : List ℕ). has_id xs q) (c.as_slice-2.ensures ∙ named) in
    let all = c.add_all.new.ids in
    closes_shown j knows m near changed all c.in_ok-ids.ids same
    (shown_among c.in_ok-begin.begin all c.in_ok-add_all.ensures.stay j knows m near c.in_ok-begin.ensures)
    (subst (λ (xs : List ℕ). IsClosing (IsBrought (shown_memory m changed)) xs c.in_ok-ids.ids) c.as_slice-3.ensures c.in_ok-ids.ensures)

-- and so a footprint
pub returns-clause-foot : goal.returns-clause-foot
returns-clause-foot g c p n known may =
    c.closed_is_footprint.ensures.forward (g.M.Matching.joins c.args.matching.now) c.args.near.now.tables p n c.in_ok-ids.ids may (returns-clause-closed g c p n known (may_show (g.M.Matching.joins c.args.matching.now) c.args.near.now.tables p n may)).closed

-- which keeps the changes apart
pub returns-clause-apart : goal.returns-clause-apart
returns-clause-apart g c p n known may =
    let it = returns-clause-closed g c p n known (may_show (g.M.Matching.joins c.args.matching.now) c.args.near.now.tables p n may) in
    c.closed_maps_apart.ensures.forward (g.M.Matching.joins c.args.matching.now) c.args.near.now.tables p n c.in_ok-ids.ids may it.closed it.first it.second
