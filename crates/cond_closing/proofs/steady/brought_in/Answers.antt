use Rattle.cond_closing.proofs.StillLemmas.{found_is_brought}
use Rattle.cond_closing.proofs.steady.brought_in.Goals as goal

pub returns : goal.returns
returns c =
    rw (c.in_ok-add_some-2.ensures, c.in_ok-add_some.ensures)
    (found_is_brought c.args.it.now c.args.id c.in_ok-ids.ids c.still_of.result c.still_of-2.result c.in_ok-ids.ensures c.still_of.ensures c.still_of-2.ensures)
