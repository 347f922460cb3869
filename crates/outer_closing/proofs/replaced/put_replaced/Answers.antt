use Rattle.std.proofs.Common.{List, ℕ, ap, sym, ◌∙◌}
use Rattle.op_law.specs.Identifiers.{has_id}
use Rattle.outer_closing.proofs.ReplacedLemmas.{puts_own}
use Rattle.outer_closing.proofs.replaced.put_replaced.Goals as goal

pub returns-in_ok-insert : goal.returns-in_ok-insert
returns-in_ok-insert c q =
    ap (λ (ids : List ℕ). has_id ids q) c.in_ok-insert.ensures.ok
    ∙ puts_own c.args.change.now q c.args.ids.now (sym c.is_same.ensures ∙ c.if-not-is_same.true)
