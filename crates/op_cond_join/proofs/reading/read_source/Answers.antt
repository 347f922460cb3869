use Rattle.std.proofs.Common.{refl}
use Rattle.op_cond_join.proofs.AdmissionLemmas.{sides_are}
use Rattle.op_cond_join.proofs.reading.read_source.Goals as goal

pub returns : goal.returns
returns c =
    sides_are c.args.join.now.first c.args.join.now.second _ _ _ c.args.memory.now.entries _ _ _ _ c.in_ok-read.read.first.rows c.in_ok-read.read.second.rows c.in_ok-two.field-0 c.in_ok-two.ensures
    c.in_ok-read.ensures.first c.in_ok-read.ensures.second c.table_in.ensures refl c.aux_in.ensures c.aux_in-2.ensures
