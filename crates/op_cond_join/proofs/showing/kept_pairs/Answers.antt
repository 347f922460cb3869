use Rattle.std.proofs.Common.{sym, subst}
use Rattle.id_memory.specs.Pairs.{Pairs}
use Rattle.pair_rows.specs.inner.PairLemmas.{AllIn, all_in}
use Rattle.pair_rows.proofs.ShowingLemmas.{pair_in}
use Rattle.op_cond_join.proofs.showing.kept_pairs.Goals as goal

pub is_kept-requires-clause-there : goal.is_kept-requires-clause-there
is_kept-requires-clause-there g c =
    let m = c.args.it.now.memory.now.entries in
    pair_in m c.args.entries.now c.loop-entry.entry-index c.loop-entry-test.true (subst (λ (es : Pairs). AllIn m es) (sym c.requires.all) (all_in m))
