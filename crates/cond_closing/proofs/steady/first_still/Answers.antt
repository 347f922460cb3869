use Rattle.std.proofs.Common.{Option, sym, ◌∙◌, subst}
use Rattle.table_keys.specs.States.{behind}
use Rattle.cond_closing.specs.Entries.{IsNextWith}
use Rattle.cond_closing.proofs.EntryLemmas.{Triple}
use Rattle.cond_closing.proofs.StillLemmas.{none_of, passed_more, still_behind, still_found, still_none}
use Rattle.cond_closing.proofs.steady.first_still.Goals as goal

pub loop-entry-preserved : goal.loop-entry-preserved
loop-entry-preserved c =
    let start = behind c.args.after in
    let from = behind c.loop-entry.last in
    let inv = c.loop-entry.invariant in
    rw c.other_in.ensures (record {
      low = still_behind c.args.half c.args.it.now c.args.id start from inv.passed c.in-Some.entry c.next.result c.in-Some.is c.next.ensures inv.low;
      passed = passed_more c.args.half c.args.it.now c.args.id start from inv.passed c.in-Some.entry c.next.result c.in-Some.is c.next.ensures (sym c.stays.ensures ∙ c.if-stays.false);
    })

pub returns-then-stays : goal.returns-then-stays
returns-then-stays c =
    let inv = c.loop-entry.invariant in
    still_found c.args.half c.args.it.now c.args.id (behind c.args.after) (behind c.loop-entry.last) inv.passed c.in-Some.entry c.next.result c.in-Some.is c.next.ensures inv.low (sym c.stays.ensures ∙ c.if-stays.true)

pub returns : goal.returns
returns c =
    let from = behind c.loop-entry.last in
    let none = none_of c.next.result c.in_default.not-Some in
    let next = subst (λ (o : Option Triple). IsNextWith c.args.half c.args.it.now.entries c.args.id from o) none c.next.ensures in
    still_none c.args.half c.args.it.now c.args.id (behind c.args.after) from c.loop-entry.invariant.passed next
