use Rattle.std.proofs.Common.{refl, rules}
use Rattle.op_key_join.specs.DecomposePk.{decompose_pk}
use Rattle.op_key_join.specs.inner.DecomposePkLaws.{decompose_pk_laws}
use Rattle.op_key_join.proofs.AdmissionLemmas.{admits_none}
use Rattle.op_key_join.proofs.PkAdmission.{admits_none_neither, admits_pk}
use Rattle.op_key_join.proofs.decompose_pk.DecomposePkRowOperator.admit_row.Goals as goal

pub returns-then-not-may : goal.returns-then-not-may
returns-then-not-may g c =
    admits_none_neither c.args.self.now.first c.args.self.now.second c.args.side c.args.near.now c.args.aux.now (search rules) (λ may. search rules)

pub returns-then-not-is_same_cells : goal.returns-then-not-is_same_cells
returns-then-not-is_same_cells g c =
    let first = c.args.self.now.first in
    let second = c.args.self.now.second in
    admits_none c.args.side (decompose_pk first second) (decompose_pk_laws first second) refl refl c.args.near.now c.in_ok-far.far c.args.aux.now
    (search rules) (λ same. search rules)

pub returns : goal.returns
returns g c =
    admits_pk c.args.self.now.first c.args.self.now.second c.args.side c.args.near.now c.in_ok-far.far c.args.aux.now (search rules) (search rules) (search rules)
