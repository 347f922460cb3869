use Rattle.std.proofs.Common.{refl, arith}
use Rattle.dump_formats.proofs.SpelledLemmas.{no_such_count}
use Rattle.dump_formats.proofs.accesses.each_count.Goals as goal

pub returns-in_default : goal.returns-in_default
returns-in_default c told all same =
    no_such_count told c.args.tables.now c.args.items.now c.loop-place.place _ c.index-items-place.result (omega arith) refl (omega arith) c.index-items-place.is c.in_default.ensures all same
