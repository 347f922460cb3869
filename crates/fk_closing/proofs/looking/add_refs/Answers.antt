use Rattle.table_keys.specs.States.{behind}
use Rattle.id_closing.proofs.FoundLaws.{end_stays}
use Rattle.fk_closing.proofs.BroughtLemmas.{refs_more}
use Rattle.fk_closing.proofs.looking.add_refs.Goals as goal

pub loop-next-preserved : goal.loop-next-preserved
loop-next-preserved c =
    let inv = c.loop-next.invariant in
    let from = behind c.loop-next.after in
    record {
      refs = λ p v low at to. rw c.in_ok-push.ensures.ok (refs_more 0 c.args.keys.now.keys c.args.id from c.loop-next.ids c.in-Some.next c.next_ref.result c.in-Some.is c.next_ref.ensures inv.refs p v low at to);
      stay = λ q h. rw c.in_ok-push.ensures.ok (end_stays c.loop-next.ids c.in-Some.next q (inv.stay q h));
    }
