use Rattle.std.specs.Prelude.{◌==◌, if◌then◌else◌}
use Rattle.std.proofs.Common.{◌≡◌, ◌∷◌, [], ◌++◌, ◌∙◌, Some, ap, sym, arith}
use Rattle.id_memory.specs.Pairs.{Pairs, pair_of}
use Rattle.dump_values.proofs.PairLemmas.{pair_behind, rise_push}
use Rattle.dump_values.proofs.pairs.put_behind.Goals as goal

pub returns : goal.returns
returns c =
    let old = c.args.memory.now.entries in
    let e = c.args.entry in
    let with = c.put.ensures.with in
    let same : c.reserve.new.self.entries ≡ old = c.reserve.ensures.same in
    c.pairs_are_the_memory.ensures c.put.new.self.entries (old ++ e ∷ []) with.rises (rise_push old 0 e c.requires.rise c.requires.behind (omega arith))
    (λ q. with.pairs q ∙ ap (λ (es : Pairs). if e.0 == q then Some (e.1, e.2) else pair_of es q) same ∙ sym (pair_behind old e q c.requires.behind))
