use Rattle.std.specs.Prelude.{IfOk}
use Rattle.std.proofs.Common.{◌≡◌, sym, ap, ◌∙◌, subst}
use Rattle.id_memory.specs.Pairs.{Pairs}
use Rattle.pair_parts.specs.Parts.{memory_only}
use Rattle.db_state.specs.Parts.{passes}
use Rattle.db_state.specs.declared.sight.Sight.{Sight}
use Rattle.db_state.proofs.PartLaws.{memory_all}
use Rattle.db_state.proofs.sight.memory_seen.Goals as goal

pub returns-in-All : goal.returns-in-All
returns-in-All c =
    let es = c.args.memory.now.entries in
    let whole = ap (λ (sight : Sight). memory_only (passes sight) es) c.in-All.is ∙ memory_all es in
    subst (λ (seen : Pairs). IfOk c.copy.result (λ made. made.entries ≡ seen)) (sym whole) c.copy.ensures
