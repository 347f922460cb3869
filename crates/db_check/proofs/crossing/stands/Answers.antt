use Rattle.std.proofs.Common.{Bool, sym, subst}
use Rattle.op_law.specs.Sound.{TablesSound}
use Rattle.op_law.specs.Tables.{Tables, contents}
use Rattle.db_check.specs.inner.Tests.{Tells}
use Rattle.db_check.proofs.TestLemmas.{tables_tell}
use Rattle.db_check.proofs.crossing.stands.Goals as goal

pub returns : goal.returns
returns c =
    let t = tables_tell c.args.next c.tables.result.now in
    let same = c.tables_below.ensures in
    subst (λ (ts : Tables). Tells c.tables_below.result (TablesSound c.args.next ts)) c.tables.ensures.all
    (subst (λ (b : Bool). Tells b (TablesSound c.args.next (contents c.tables.result.now))) (sym same) t)
