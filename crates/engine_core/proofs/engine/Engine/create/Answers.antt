use Rattle.std.proofs.Common.{map, refl}
use Rattle.statements.specs.Views.{op_view}
use Rattle.engine_core.proofs.TextLaws.{operators_fit}
use Rattle.engine_core.proofs.WriteLemmas.{both_stay}
use Rattle.engine_core.proofs.engine.Engine.create.Goals as goal

pub returns-in_err-name-clause-layout : goal.returns-in_err-name-clause-layout
returns-in_err-name-clause-layout g c = both_stay c.args.self.now c.args.self.now c.versions_always_agree.ensures.stored refl refl

pub create_version-requires-clause-fit : goal.create_version-requires-clause-fit
create_version-requires-clause-fit g c = operators_fit (map op_view c.args.operators.now) c.requires.texts
