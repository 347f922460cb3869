-- The watches are made ready for the runs, and told them once they stay.
use Rattle.std.proofs.Common.{ap, ◌∙◌}
use Rattle.statements.specs.Views.{statement_view}
use Rattle.engine_transactions.specs.EngineSessionsStanding.{kept_in as kept_beside}
use Rattle.engine_transactions.specs.Act.{act}
use Rattle.engine_transactions.specs.Calls.{standing_of}
use Rattle.engine_transactions.specs.Leads.{data_behind}
use Rattle.engine_feeds.proofs.TellLemmas.{back_carries, held_along, ordered_at, settled_carries}
use Rattle.engine_feeds.proofs.telling.write.Goals as goal

pub make_ready-requires : goal.make_ready-requires
make_ready-requires g c =
    let old = c.args.kept.now in
    let is = ordered_at old c.engine.result.now (c.engine.ensures ∙ ap kept_beside c.sessions.ensures) c.versions_always_agree.ensures.graph c.versions_always_agree.ensures.agree in
    (held_along (statement_view c.args.statement) old c.hold.new.self c.args.watches.now c.in-Ok.held is c.requires.kept c.in-Ok.ensures.holds).may

pub let_go-requires : goal.let_go-requires
let_go-requires g c =
    let s = standing_of c.args.kept.now in
    (act s (statement_view c.args.statement), (data_behind s (statement_view c.args.statement), (c.args.kept.now, c.in-Ok.ensures.holds)))

pub returns-in-Ok-make_ready : goal.returns-in-Ok-make_ready
returns-in-Ok-make_ready g c =
    let old = c.args.kept.now in
    let x = statement_view c.args.statement in
    let s = standing_of old in
    let is = ordered_at old c.engine.result.now (c.engine.ensures ∙ ap kept_beside c.sessions.ensures) c.versions_always_agree.ensures.graph c.versions_always_agree.ensures.agree in
    let settles = c.settle-answer.ensures (act s x) (data_behind s x) old c.in-Ok.ensures.holds in
    settled_carries x old c.hold.new.self c.args.watches.now c.in-Ok.held is c.requires.kept c.in-Ok.ensures.holds c.requires.writes c.settle-answer.result c.settle-answer.new.self c.make_ready.new.watches c.tell_all.new.self settles c.in-Ok-make_ready.ensures.ok c.tell_all.ensures

pub returns-in-Err-make_ready : goal.returns-in-Err-make_ready
returns-in-Err-make_ready g c =
    let old = c.args.kept.now in
    let x = statement_view c.args.statement in
    let s = standing_of old in
    let back = c.let_go.ensures (act s x) (data_behind s x) old c.in-Ok.ensures.holds in
    back_carries x old c.let_go.new.self c.args.watches.now c.make_ready.new.watches c.in-Err-make_ready.memory back c.requires.kept c.in-Err-make_ready.ensures.err
