use Rattle.std.proofs.Common.{inr, map, subst}
use Rattle.row_changes.specs.Changed.{TableChanges}
use Rattle.version_model.specs.Calls.{crossing_of}
use Rattle.op_seeks.specs.Seeking.{ApartOver, FootprintOf}
use Rattle.changes_walk.specs.Changing.{latest_changes}
use Rattle.sought_ids.specs.Sought.{key_tables}
use Rattle.sought_ids.proofs.enough.is_enough_over.Goals as goal

pub returns-in_ok-enough-in-Some : goal.returns-in_ok-enough-in-Some
returns-in_ok-enough-in-Some g c is =
    let p = crossing_of c.args.over.now in
    let m = g.O.Operator.meaning p.operator in
    let place = g.O.Seeks.seeks p.operator in
    let sides = c.in_ok-sides-in-Some.sides in
    inr (record {
      known = c.in-Some.known;
      are = c.in-Some.ensures;
      foot = subst (λ (near : TableChanges). FootprintOf m place p.backward c.in-Some.known near c.args.ids.now) c.in_ok-sides-in-Some.ensures.near (c.in_ok-enough-in-Some.ensures.foot is);
      apart = subst (λ (near : TableChanges). ApartOver m place p.backward c.in-Some.known near (map (latest_changes c.args.carried.made.now) (key_tables place p)) c.args.ids.now) c.in_ok-sides-in-Some.ensures.near
          (subst (λ (changes : TableChanges). ApartOver m place p.backward c.in-Some.known sides.near.tables changes c.args.ids.now) c.in_ok-sides-in-Some.ensures.changes (c.in_ok-enough-in-Some.ensures.apart is));
    })
