use Rattle.std.proofs.Common.{sym, ap, ◌∙◌, slice_set}
use Rattle.std.specs.Option.{option_map}
use Rattle.change_feed.specs.Watches.{without_note}
use Rattle.change_feed.proofs.KeyLemmas.{set_same}
use Rattle.change_feed.proofs.passes.unprepare_at.Goals as goal

pub returns-in-None : goal.returns-in-None
returns-in-None g c = λ x e.
    sym (ap (λ o. slice_set c.args.watchers.now c.args.at (without_note (option_map (λ own. own.now) o) x)) c.in-None.is ∙ set_same c.args.watchers.now c.args.at x e)
