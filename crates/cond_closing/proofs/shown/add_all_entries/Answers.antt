use Rattle.std.proofs.Common.{arith}
use Rattle.pair_rows.specs.declared.half.Half.TheVariants.{First, Second}
use Rattle.cond_closing.specs.Entries.{HasEntries}
use Rattle.cond_closing.proofs.ShownLemmas.{each_end, each_next, entries_among}
use Rattle.cond_closing.proofs.shown.add_all_entries.Goals as goal

pub loop-id-preserved : goal.loop-id-preserved
loop-id-preserved c =
    let inv = c.loop-id.invariant in
    let m = c.args.memory.now.entries in
    let ids = c.args.touched.now in
    let i = c.loop-id.id-index in
    let old = c.loop-id.ids in
    let new = c.add_both_entries.new.ids in
    let one = c.in_ok-add_both_entries.ensures in
    record {
      first = each_next (HasEntries First m new) ids i c.loop-id-test.true (λ q h. entries_among old new one.stay First m q (inv.first q h)) one.first;
      second = each_next (HasEntries Second m new) ids i c.loop-id-test.true (λ q h. entries_among old new one.stay Second m q (inv.second q h)) one.second;
      stay = λ q h. one.stay q (inv.stay q h);
    }

pub returns-clause-first : goal.returns-clause-first
returns-clause-first c = each_end (HasEntries First c.args.memory.now.entries c.loop-id.ids) c.args.touched.now c.loop-id.id-index (omega (arith, c.loop-id-test.false)) c.loop-id.invariant.first

pub returns-clause-second : goal.returns-clause-second
returns-clause-second c = each_end (HasEntries Second c.args.memory.now.entries c.loop-id.ids) c.args.touched.now c.loop-id.id-index (omega (arith, c.loop-id-test.false)) c.loop-id.invariant.second
