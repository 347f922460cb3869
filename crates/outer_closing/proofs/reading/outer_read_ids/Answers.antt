use Rattle.std.proofs.Common.{ℕ, List, true, ◌≡◌, sym, subst}
use Rattle.id_memory.specs.Pairs.{Pairs}
use Rattle.op_law.specs.Identifiers.{has_id}
use Rattle.outer_parts.specs.Closed.{IsOuterClosed}
use Rattle.outer_closing.proofs.OuterLemmas.{outer_closed}
use Rattle.outer_closing.proofs.reading.outer_read_ids.Goals as goal

pub returns-clause-closed : goal.returns-clause-closed
returns-clause-closed c =
    let ids = c.in_ok-ids.ids in
    outer_closed (has_id ids) c.args.memory.now.entries (c.in_ok-ids.ensures.holds 0 (subst (λ (xs : List ℕ). has_id xs 0 ≡ true) (sym c.as_slice.ensures) c.in_ok-all.ensures.absent)) c.in_ok-ids.ensures.closed

-- and so they split the pair
pub returns-clause-splits : goal.returns-clause-splits
returns-clause-splits c j hs ht p is pair =
    let ids = c.in_ok-ids.ids in
    c.closed_splits.ensures j (has_id ids) hs ht p pair (subst (λ (m : Pairs). IsOuterClosed (has_id ids) m) (sym is) (returns-clause-closed c))

pub returns-clause-holds : goal.returns-clause-holds
returns-clause-holds c q h =
    c.in_ok-ids.ensures.holds q (subst (λ (xs : List ℕ). has_id xs q ≡ true) (sym c.as_slice.ensures) (c.in_ok-all.ensures.holds q h))
