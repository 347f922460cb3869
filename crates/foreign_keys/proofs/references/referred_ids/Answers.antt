use Rattle.std.proofs.Common.{ℕ, List, ◌∙◌, ap}
use Rattle.op_rows.specs.inner.CellLemmas.{has_id}
use Rattle.foreign_keys.specs.inner.SeekLemmas.{goals_referred}
use Rattle.foreign_keys.proofs.references.referred_ids.Goals as goal

pub returns : goal.returns
returns g c = λ q. ap (λ (ids : List ℕ). has_id ids q) c.in_ok-ids.ensures ∙ goals_referred (g.P.RowParts.parts c.args.parts.now) c.args.s.now.rows q
