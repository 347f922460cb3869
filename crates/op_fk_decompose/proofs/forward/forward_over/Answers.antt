use Rattle.op_fk_decompose.proofs.forward.forward_over.Goals as goal

pub returns : goal.returns
returns g c = rw c.in_ok-had.ensures at c.forward_from.ensures
