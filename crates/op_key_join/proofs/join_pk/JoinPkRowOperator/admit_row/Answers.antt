use Rattle.std.proofs.Common.{rules}
use Rattle.op_key_join.proofs.JoinAdmission.{admits_join}
use Rattle.op_key_join.proofs.join_pk.JoinPkRowOperator.admit_row.Goals as goal

pub returns : goal.returns
returns g c =
    admits_join c.args.self.now.first c.args.self.now.second c.args.side c.args.near.now c.in_ok-far.far c.args.aux.now (search rules) (search rules) (search rules)
