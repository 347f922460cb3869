use Rattle.table_keys.specs.States.{behind}
use Rattle.id_closing.proofs.FoundLaws.{end_stays}
use Rattle.cond_closing.proofs.EntryLemmas.{entries_more}
use Rattle.cond_closing.proofs.entries.add_entries.Goals as goal

pub loop-entry-preserved : goal.loop-entry-preserved
loop-entry-preserved c =
    let inv = c.loop-entry.invariant in
    let from = behind c.loop-entry.after in
    record {
      entries = λ d is has low. rw c.in_ok-push.ensures.ok (entries_more c.args.half c.args.memory.now.entries c.args.id from c.in-Some.entry c.next_with.result c.in-Some.is c.next_with.ensures c.loop-entry.ids inv.entries d is has (rw c.other_in.ensures at low));
      stay = λ q h. rw c.in_ok-push.ensures.ok (end_stays c.loop-entry.ids c.in-Some.entry.0 q (inv.stay q h));
    }
