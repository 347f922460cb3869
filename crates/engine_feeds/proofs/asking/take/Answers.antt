-- The watcher is told all rows of its version.
use Rattle.std.proofs.Common.{rules, ap, ◌∙◌}
use Rattle.engine_transactions.specs.EngineSessionsStanding.{kept_in as kept_beside}
use Rattle.engine_feeds.proofs.AskLemmas.{first_there, take_done, take_fits}
use Rattle.engine_feeds.proofs.TellLemmas.{ordered_at}
use Rattle.engine_feeds.proofs.asking.take.Goals as goal

pub watch-requires-clause-fits : goal.watch-requires-clause-fits
watch-requires-clause-fits g c =
    let old = c.args.kept.now in
    let is = ordered_at old c.engine.result.now (c.engine.ensures ∙ ap kept_beside c.sessions.ensures) c.versions_always_agree.ensures.graph c.versions_always_agree.ensures.agree in
    let same = c.database-database.ensures.database ∙ c.engine-2.ensures ∙ ap kept_beside c.sessions-2.ensures in
    take_fits old c.args.name c.in_ok-first.first is c.requires.lives (first_there old c.database-database.result.now c.args.name c.in_ok-first.first same c.in_ok-first.ensures)

pub returns : goal.returns
returns g c = λ set named. (
    let old = c.args.kept.now in
    let is = ordered_at old c.engine.result.now (c.engine.ensures ∙ ap kept_beside c.sessions.ensures) c.versions_always_agree.ensures.graph c.versions_always_agree.ensures.agree in
    let same = c.database-database.ensures.database ∙ c.engine-2.ensures ∙ ap kept_beside c.sessions-2.ensures in
    take_done old c.args.watches.now c.watch.new.self c.args.name set c.in_ok-number.number c.in_ok-first.first (search rules) is named
    (first_there old c.database-database.result.now c.args.name c.in_ok-first.first same c.in_ok-first.ensures set named) c.in_ok-number.ensures.number c.in_ok-number.ensures.ok c.requires.kept)
