use Rattle.std.specs.Prelude.{IfSome}
use Rattle.std.proofs.Common.{List, [], ◌∷◌, Option, refl, subst}
use Rattle.row_store.specs.declared.change.Change.{Change}
use Rattle.row_changes.specs.Touched.{AllPass}
use Rattle.kept_keys.proofs.KeptLaws.{same_right}
use Rattle.db_state.specs.Fields.{state_for}
use Rattle.db_state.specs.Parts.{passes}
use Rattle.db_state.specs.declared.sight.Sight.TheVariants.{All}
use Rattle.write_propagation.specs.PartMade.{IsPartMade}
use Rattle.write_propagation.specs.declared.parting.PartMade.{PartMade}
use Rattle.write_propagation.proofs.planning.plan_wide.Goals as goal

-- all rows are seen of whatever changes name
all_seen : (cs : List Change) → AllPass (passes All) cs
all_seen [] = tt
all_seen (c ∷ cs) = (refl, all_seen cs)

pub plan_part-requires-clause-part : goal.plan_part-requires-clause-part
plan_part-requires-clause-part g c =
    let m = g.O.Operator.meaning in
    let seeks = g.O.Seeks.seeks in
    subst (λ (o : Option PartMade). IfSome o (IsPartMade m seeks c.args.db.now c.part_of.new.keys.items c.args.tree.now c.args.written)) c.in-Some.is c.in_ok-part.ensures.part

pub plan_seen-requires-clause-named : goal.plan_seen-requires-clause-named
plan_seen-requires-clause-named g c = all_seen c.args.written.changes

pub returns-in-Some-clause-right : goal.returns-in-Some-clause-right
returns-in-Some-clause-right g c =
    same_right (state_for g.O.Operator.meaning c.args.db.now).tables c.part_of.new.keys.items c.plan_part.new.keys.items c.in_ok-part.ensures.right c.plan_part.ensures.kept

pub returns-in-None-clause-right : goal.returns-in-None-clause-right
returns-in-None-clause-right g c =
    same_right (state_for g.O.Operator.meaning c.args.db.now).tables c.part_of.new.keys.items c.plan_seen.new.keys.items c.in_ok-part.ensures.right c.plan_seen.ensures.kept
