use Rattle.std.proofs.Common.{◌≡◌, subst, sym, arith}
use Rattle.std.proofs.lemmas.Grind.{common_steps}
use Rattle.std.specs.Vec.{with_items}
use Rattle.row_store.specs.Changes.{ChangesRise}
use Rattle.row_store.specs.inner.Passes.{exchanged}
use Rattle.row_store.proofs.UndoLaws.{exchanged_rise}
use Rattle.row_store.proofs.change.Changes.exchange.Goals as goal

pub invariant_of-self : goal.invariant_of-self
invariant_of-self c =
    let is : (with_items c.self.inside.items c.exchange_all.new.changes).items ≡ exchanged c.args.which c.args.rows.now.entries c.self.inside.items.items = grind (arith, common_steps) in
    subst (ChangesRise 0) (sym is) (exchanged_rise c.args.which c.args.rows.now.entries 0 c.self.inside.items.items c.self.invariant)
