use Rattle.table_keys.specs.States.{behind}
use Rattle.id_closing.proofs.FoundLaws.{end_stays}
use Rattle.cond_closing.proofs.RowLemmas.{keyed_more}
use Rattle.cond_closing.proofs.by_keys.add_keyed.Goals as goal

pub loop-next-preserved : goal.loop-next-preserved
loop-next-preserved c =
    let inv = c.loop-next.invariant in
    let from = behind c.loop-next.after in
    record {
      keyed = λ b low at. rw c.in_ok-push.ensures.ok (keyed_more c.args.keys.now.rows c.args.key.now from c.loop-next.ids c.in-Some.next c.least_with.result c.in-Some.is c.least_with.ensures inv.keyed b low at);
      stay = λ q h. rw c.in_ok-push.ensures.ok (end_stays c.loop-next.ids c.in-Some.next q (inv.stay q h));
    }
