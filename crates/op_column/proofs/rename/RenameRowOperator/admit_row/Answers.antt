use Rattle.std.proofs.Common.{◌≡◌, length, arith}
use Rattle.op_column.proofs.RenameLemmas.{admits_either}
use Rattle.op_column.proofs.rename.RenameRowOperator.admit_row.Goals as goal

pub returns : goal.returns
returns g c =
    let none : length c.args.aux.now ≡ 0 = omega (arith, c.len.ensures, c.if-len-ne0.false) in
    admits_either c.args._side c.args.near.now c.in_ok-copy_cells.field-0 c.args.aux.now c.in_ok-copy_cells.ensures none
