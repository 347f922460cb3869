use Rattle.std.proofs.Common.{ℕ, ◌+◌, List, length, subst}
use Rattle.op_law.specs.Calls.{tables_of}
use Rattle.op_fk_decompose.specs.Columns.{column_parts}
use Rattle.op_fk_decompose.specs.inner.Admitted.{IsTold}
use Rattle.op_fk_decompose.proofs.AdmissionLemmas.{told}
use Rattle.op_fk_decompose.proofs.decompose.DecomposeFkOperator.admit_target.Goals as goal

pub returns : goal.returns
returns g c =
    let it = c.args.self.now in
    let k = column_parts it.first it.second it.place in
    let tells = subst (λ (ps : List ℕ). IsTold k (length ps + 1) c.len.result c.args.source.now (tables_of c.args.aux.now) c.args.memory.now.entries c.in_ok-target.target) c.as_slice.ensures c.in_ok-target.ensures in
    told it.first it.second it.place c.args.source.now (tables_of c.args.aux.now) c.args.memory.now.entries c.in_ok-target.target
    (subst (λ (n : ℕ). IsTold k (length it.first + 1) n c.args.source.now (tables_of c.args.aux.now) c.args.memory.now.entries c.in_ok-target.target) c.len.ensures tells)
