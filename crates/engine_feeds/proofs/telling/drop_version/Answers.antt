-- The watches of the version go.
use Rattle.std.proofs.Common.{List, ℕ, ap, ◌∙◌}
use Rattle.change_feed.specs.Watches.{without_version}
use Rattle.engine_feeds.proofs.TellLemmas.{drop_carries}
use Rattle.engine_feeds.proofs.telling.drop_version.Goals as goal

pub returns-in-Ok : goal.returns-in-Ok
returns-in-Ok g c =
    let old = c.args.watches.now in
    let left = c.drop_version.ensures ∙ ap (λ (name : List ℕ). record old { live = without_version name old.live }) c.in_ok-version.ensures in
    drop_carries c.args.name c.args.kept.now c.event.new.self old c.drop_version.new.self c.in-Ok.answer c.in-Ok.ensures.answers c.in-Ok.ensures.answer c.event.ensures.keeps c.event.ensures.idle c.requires left
