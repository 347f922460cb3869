use Rattle.std.specs.Prelude.{IfOk}
use Rattle.std.proofs.Common.{Bool, false, sym, subst}
use Rattle.op_law.specs.Meaning.{flip}
use Rattle.op_fk_decompose.specs.Columns.{decompose_columns}
use Rattle.op_seeks.specs.Places.{key_place}
use Rattle.op_seeks.specs.Seeking.{FootprintOf}
use Rattle.op_seeks.specs.declared.known.Known.TheVariants.{Keys}
use Rattle.op_seeks.proofs.decompose.footprint_of_outer.Goals as goal

pub returns-then-backward-clause-foot : goal.returns-then-backward-clause-foot
returns-then-backward-clause-foot c =
    let it = c.args.operator.now in
    subst (λ (b : Bool). IfOk c.outer_back.result (FootprintOf (flip (decompose_columns it.first it.second it.place)) (key_place false it.place) b (Keys c.args.keys.now) c.args.near.now.tables))
    (sym c.if-backward.true) c.outer_back.ensures.foot
