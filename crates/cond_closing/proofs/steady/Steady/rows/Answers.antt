use Rattle.std.proofs.Common.{subst}
use Rattle.cond_closing.specs.Steady.{BringsBoth, ChangingMemory}
use Rattle.cond_closing.proofs.steady.Steady.rows.Goals as goal

pub returns : goal.returns
returns c = subst (λ (it : ChangingMemory). BringsBoth it.entries c.args.id c.add_both.new.ids) c.self.view_is c.in_ok-add_both.ensures.both
