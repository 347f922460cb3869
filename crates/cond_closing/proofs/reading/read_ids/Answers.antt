use Rattle.std.proofs.Common.{ℕ, List, sym, subst}
use Rattle.id_memory.specs.Pairs.{Pairs}
use Rattle.op_law.specs.Identifiers.{has_id}
use Rattle.cond_parts.specs.Closed.{IsClosedIn}
use Rattle.id_closing.specs.Closing.{IsClosing}
use Rattle.cond_closing.specs.Steady.{IsBrought, changed_entries}
use Rattle.cond_closing.proofs.ReadLemmas.{closed_in}
use Rattle.cond_closing.proofs.reading.read_ids.Goals as goal

pub returns-clause-closed : goal.returns-clause-closed
returns-clause-closed c =
    let m = c.args.memory.now.entries in
    let ids = c.in_ok-ids.ids in
    closed_in m c.iter.ensures.rise ids c.args.wanted.now
    (subst (λ (xs : List ℕ). IsClosing (IsBrought (changed_entries m xs)) c.args.wanted.now ids) c.new.ensures c.in_ok-ids.ensures)

-- and so they split the pair
pub returns-clause-splits : goal.returns-clause-splits
returns-clause-splits c j hs ht p is pair =
    let ids = c.in_ok-ids.ids in
    c.closed_splits.ensures j (has_id ids) hs ht p pair (subst (λ (m : Pairs). IsClosedIn (has_id ids) m) (sym is) (returns-clause-closed c))
