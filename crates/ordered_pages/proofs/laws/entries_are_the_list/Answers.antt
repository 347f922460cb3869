use Rattle.ordered_pages.proofs.OrderLaws.{one_list}
use Rattle.ordered_pages.proofs.laws.entries_are_the_list.Goals as goal

pub returns : goal.returns
returns g c = one_list g.E.Entry.order g.met.E.Entry.total
