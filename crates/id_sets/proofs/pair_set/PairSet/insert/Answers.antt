use Rattle.std.proofs.Common.{refl, sym, ◌∙◌}
use Rattle.id_sets.proofs.IdPairLaws.{pairs_tied, holds_pair-list_any}
use Rattle.id_sets.proofs.pair_set.PairSet.insert.Goals as goal

pub returns-clause-ok : goal.returns-clause-ok
returns-clause-ok c = λ a b.
    let before = holds_pair-list_any a b c.self.inside.pairs.keys in
    let now = holds_pair-list_any a b c.insert.new.self.keys in
    let here = pairs_tied c.args.a c.args.b (a, b) in
    let step = c.in_ok-insert.ensures.updates.0 (a, b) in
    rw (← c.self.view_is) (sym now ∙ step ∙ rw (here, before) refl)
