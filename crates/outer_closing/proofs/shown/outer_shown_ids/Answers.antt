use Rattle.std.proofs.Common.{ℕ, List, true, ◌≡◌, sym, subst}
use Rattle.op_law.specs.Identifiers.{has_id}
use Rattle.outer_closing.proofs.OuterLemmas.{may_show, outer_shown}
use Rattle.outer_closing.proofs.shown.outer_shown_ids.Goals as goal

pub returns-clause-closed : goal.returns-clause-closed
returns-clause-closed g c p n known may =
    let ids = c.in_ok-ids.ids in
    outer_shown (g.M.Matching.joins c.args.matching.now) c.args.near.now.tables p n ids
    (c.in_ok-ids.ensures.holds 0 (subst (λ (xs : List ℕ). has_id xs 0 ≡ true) (sym c.as_slice.ensures) c.in_ok-all.ensures.absent))
    (c.in_ok-ids.ensures.closed p n known may)

-- and so a footprint
pub returns-clause-foot : goal.returns-clause-foot
returns-clause-foot g c p n known may =
    let j = g.M.Matching.joins c.args.matching.now in
    let near = c.args.near.now.tables in
    c.closed_is_footprint.ensures.forward j near p n c.in_ok-ids.ids may (returns-clause-closed g c p n known (may_show j near p n may))

-- which keeps the changes apart
pub returns-clause-apart : goal.returns-clause-apart
returns-clause-apart g c p n known may =
    let j = g.M.Matching.joins c.args.matching.now in
    let near = c.args.near.now.tables in
    c.closed_maps_apart.ensures.forward j near p n c.in_ok-ids.ids may (returns-clause-closed g c p n known (may_show j near p n may))

pub returns-clause-holds : goal.returns-clause-holds
returns-clause-holds g c q h =
    c.in_ok-ids.ensures.holds q (subst (λ (xs : List ℕ). has_id xs q ≡ true) (sym c.as_slice.ensures) (c.in_ok-all.ensures.holds q h))
