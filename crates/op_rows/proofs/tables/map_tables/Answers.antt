use Rattle.op_rows.proofs.PremiseLemmas.{few_made}
use Rattle.op_rows.proofs.tables.map_tables.Goals as goal

pub new-requires : goal.new-requires
new-requires g c = few_made c.in_ok-tables.tables c.count_tables-count.result c.as_slice.result.now _ c.in_ok-tables.ensures.value c.count_tables-count.ensures.few
