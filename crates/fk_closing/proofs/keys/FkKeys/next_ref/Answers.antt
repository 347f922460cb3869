use Rattle.std.proofs.Common.{subst}
use Rattle.table_keys.specs.States.{behind}
use Rattle.fk_closing.specs.Keys.{KeyRows}
use Rattle.fk_closing.specs.Looking.{IsNextRef}
use Rattle.fk_closing.proofs.LookLemmas.{next_is}
use Rattle.fk_closing.proofs.keys.FkKeys.next_ref.Goals as goal

pub returns : goal.returns
returns c =
    subst (λ (k : KeyRows). IsNextRef 0 k.keys c.args.id (behind c.args.after) c.least_with.result) c.self.view_is
    (next_is c.self.inside.keys.now.rows c.self.invariant c.args.id (behind c.args.after) c.least_with.result c.least_with.ensures)
