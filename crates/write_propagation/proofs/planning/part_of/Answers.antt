use Rattle.std.specs.Prelude.{IfOk, IfSome}
use Rattle.std.proofs.Common.{List, Option, sym, subst}
use Rattle.version_model.specs.declared.numbered.Numbered.{Numbered}
use Rattle.table_keys.specs.States.{KeysState}
use Rattle.kept_keys.specs.Kept.{AreKeysOf}
use Rattle.db_state.specs.Fields.{state_for}
use Rattle.write_propagation.specs.PartMade.{IsPartMade}
use Rattle.write_propagation.specs.declared.parting.PartMade.{PartMade}
use Rattle.write_propagation.proofs.planning.part_of.Goals as goal

pub fill_keys-requires-clause-whole : goal.fill_keys-requires-clause-whole
fill_keys-requires-clause-whole g c = c.requires.may.walked.whole

pub make_part-requires-clause-right : goal.make_part-requires-clause-right
make_part-requires-clause-right g c =
    let tables = (state_for g.O.Operator.meaning c.args.db.now).tables in
    subst (λ (l : List (Numbered KeysState)). AreKeysOf tables l) (sym c.as_slice-2.ensures.value) c.in_ok-fill_keys.ensures.right

pub returns-clause-part : goal.returns-clause-part
returns-clause-part g c =
    let m = g.O.Operator.meaning in
    let seeks = g.O.Seeks.seeks in
    let d = c.args.db.now in
    let tree = c.args.writing.tree.now in
    let w = c.args.writing.written.now in
    subst (λ (l : List (Numbered KeysState)). IfOk c.make_part.result (λ (found : Option PartMade). IfSome found (IsPartMade m seeks d l tree w)))
    c.as_slice-2.ensures.value c.make_part.ensures
