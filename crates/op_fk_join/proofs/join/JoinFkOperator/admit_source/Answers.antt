use Rattle.std.proofs.Common.{ℕ, ◌+◌, ◌-◌, subst}
use Rattle.op_law.specs.Calls.{tables_of}
use Rattle.op_fk_join.specs.Columns.{side_parts}
use Rattle.op_fk_join.specs.inner.Admitted.{IsJoinTold}
use Rattle.op_fk_join.proofs.AdmissionLemmas.{join_told}
use Rattle.op_fk_join.proofs.join.JoinFkOperator.admit_source.Goals as goal

pub returns : goal.returns
returns g c =
    let it = c.args.self.now in
    let k = side_parts (it.first - 1) it.second it.place in
    join_told it.first it.second it.place c.args.target.now (tables_of c.args.aux.now) c.args.memory.now.entries c.in_ok-source.source
    (subst (λ (n : ℕ). IsJoinTold k (n + 1) it.second c.args.target.now (tables_of c.args.aux.now) c.args.memory.now.entries c.in_ok-source.source) c.beside.ensures c.in_ok-source.ensures)
