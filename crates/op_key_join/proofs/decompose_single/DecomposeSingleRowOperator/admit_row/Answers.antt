use Rattle.std.proofs.Common.{refl, rules}
use Rattle.op_key_join.specs.DecomposeSingle.{decompose_single}
use Rattle.op_key_join.specs.inner.DecomposeSingleLaws.{decompose_single_laws}
use Rattle.op_key_join.proofs.AdmissionLemmas.{admits_none}
use Rattle.op_key_join.proofs.SingleAdmission.{admits_single}
use Rattle.op_key_join.proofs.decompose_single.DecomposeSingleRowOperator.admit_row.Goals as goal

pub returns-then-not-is_same_cells : goal.returns-then-not-is_same_cells
returns-then-not-is_same_cells g c =
    let columns = c.args.self.now.columns in
    let width = c.args.self.now.width in
    admits_none c.args.side (decompose_single columns width) (decompose_single_laws columns width) refl refl c.args.near.now c.in_ok-far.far c.args.aux.now
    (search rules) (λ same. search rules)

pub returns : goal.returns
returns g c =
    admits_single c.args.self.now.columns c.args.self.now.width c.args.side c.args.near.now c.in_ok-far.far c.args.aux.now (search rules) (search rules)
