use mathlib.Core.List.{reverse}
use Rattle.dump_file.specs.inner.Loading.{is_told}
use Rattle.dump_file.proofs.FillLemmas.{memory_more}
use Rattle.dump_file.proofs.filling.each_memory.Goals as goal

pub loop-number-preserved : goal.loop-number-preserved
loop-number-preserved c =
    let now = c.loop-number in
    memory_more (is_told c.args.graph.now.edges) c.args.numbers.now now.number-index c.loop-number-test.true _ now.made c.push.new.self (reverse now.memories_left.items) (reverse c.next_memory.new.left.items) c.in-Some.value
    now.invariant c.in-Some.ensures.value c.in-Some.ensures.left c.in_ok-push.ensures.ok
