use Rattle.std.proofs.lemmas.Result.{err_from_is_err_and}
use Rattle.engine_layouts.proofs.MoveLemmas.{move_made, move_refused}
use Rattle.engine_layouts.proofs.moving.materialize.Goals as goal

pub returns-in_err-moved : goal.returns-in_err-moved
returns-in_err-moved g c =
    let p = err_from_is_err_and c.from_residual.result c.from_residual.ensures.1 in
    rw (p.1, p.2) (move_refused c.args.database.now c.args.named.now c.in_err-moved.field-0.0 c.in_err-moved.ensures.computed)

pub adopt_move-requires : goal.adopt_move-requires
adopt_move-requires g c = c.in_ok-moved.ensures.prepares.1

pub returns : goal.returns
returns g c =
    let moved = c.in_ok-moved.moved in
    move_made c.args.database.now c.adopt_move.new.db c.args.named.now moved c.adopt_move.result c.in_ok-moved.ensures.computed c.in_ok-moved.ensures.prepares.2 c.adopt_move.ensures.state c.adopt_move.ensures.layout c.adopt_move.ensures.flips
