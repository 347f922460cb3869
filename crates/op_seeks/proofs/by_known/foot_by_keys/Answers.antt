use Rattle.std.specs.Prelude.{IfOk}
use Rattle.std.proofs.Common.{sym, subst}
use Rattle.op_any.specs.Operators.{Built, meaning_of}
use Rattle.op_seeks.specs.Places.{place_of}
use Rattle.op_seeks.specs.Seeking.{FootprintOf}
use Rattle.op_seeks.specs.declared.known.Known.TheVariants.{Keys}
use Rattle.op_seeks.proofs.by_known.foot_by_keys.Goals as goal

pub returns-in-Outer-clause-foot : goal.returns-in-Outer-clause-foot
returns-in-Outer-clause-foot c =
    subst (λ (o : Built). IfOk c.footprint_of_outer.result (FootprintOf (meaning_of o) (place_of o) c.args.crossed.backward (Keys c.args.keys.now) c.args.crossed.near.now.tables)) (sym c.in-Outer.ensures) c.footprint_of_outer.ensures.foot
