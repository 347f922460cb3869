use Rattle.std.proofs.Common.{ap, sym, ◌∙◌}
use Rattle.id_memory.specs.Pairs.{Pairs}
use Rattle.pair_rows.specs.Shown.{has}
use Rattle.pair_rows.proofs.TakenLemmas.{pairs_more}
use Rattle.pair_rows.proofs.taken.take.Goals as goal

pub returns-clause-knows : goal.returns-clause-knows
returns-clause-knows c = λ a b.
    pairs_more c.args.taken.now.entries c.args.entry c.args.taken.now.pairs c.insert.new.self c.requires c.in_ok-insert.ensures.ok a b
    ∙ ap (λ (es : Pairs). has es a b) (sym c.in_ok-push.ensures.ok)
