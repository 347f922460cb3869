use Rattle.std.proofs.Common.{Bool, sym, subst}
use Rattle.db_check.specs.Checked.{AreEntries}
use Rattle.db_check.specs.inner.Tests.{Tells}
use Rattle.db_check.proofs.EndLemmas.{entries_tell}
use Rattle.db_check.proofs.ListLemmas.{tells_for}
use Rattle.db_check.proofs.listing.has_entries.Goals as goal

pub returns : goal.returns
returns g c =
    let p = c.args.parts.now in
    let stored = c.in_ok-stored.stored in
    let live = c.in_ok-live.live in
    subst (λ (b : Bool). Tells b (AreEntries p)) (sym c.all_are.ensures)
    (entries_tell p stored live c.in_ok-tables.tables c.in_ok-aux.aux c.in_ok-memories.memories c.in_ok-stored.ensures.stored c.in_ok-stored.ensures.ascending c.in_ok-live.ensures
    (tells_for c.as_slice.result.now p.stored c.as_slice-2.result.now stored c.in_ok-tables.tables c.as_slice.ensures c.as_slice-2.ensures c.in_ok-tables.ensures)
    (tells_for c.as_slice-3.result.now p.aux c.as_slice-4.result.now live c.in_ok-aux.aux c.as_slice-3.ensures c.as_slice-4.ensures c.in_ok-aux.ensures)
    (tells_for c.as_slice-5.result.now p.memories c.as_slice-6.result.now live c.in_ok-memories.memories c.as_slice-5.ensures c.as_slice-6.ensures c.in_ok-memories.ensures))
