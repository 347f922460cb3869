use Rattle.op_any.specs.Operators.{any_meaning}
use Rattle.db_state.specs.Fields.{IsDatabase}
use Rattle.dump_values.specs.Dumps.{dump_seen}
use Rattle.dump_file.proofs.LoadLemmas.{dump_alone, is_built}
use Rattle.dump_file.proofs.loading.load_database.Goals as goal

pub check-requires : goal.check-requires
check-requires g c = is_built (dump_seen c.args.lines) c.in_ok-fields.fields c.in_ok-fields.ensures.0

pub returns-in-Err-Refused : goal.returns-in-Err-Refused
returns-in-Err-Refused g c =
    let none : IsDatabase any_meaning c.in_ok-fields.fields → ⊥ = rw c.in-Err-Refused.field-0-is at c.in-Err-Refused.ensures in
    dump_alone (dump_seen c.args.lines) c.args.limits.max_id c.in_ok-fields.fields _ c.in_ok-fields.ensures none
