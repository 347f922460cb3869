use Rattle.std.proofs.Common.{List, sym, ap, ◌∙◌}
use Rattle.std.specs.List.{remove}
use Rattle.std.specs.Str.{bytes_eq}
use Rattle.change_feed.specs.Watches.{WatchState, WatchesState}
use Rattle.change_feed.specs.inner.Live.{without_at}
use Rattle.change_feed.proofs.NameLemmas.{picks, passes, one_name, two_names}
use Rattle.change_feed.proofs.watches.Watches.drop_at.Goals as goal

pub returns-then-is_same : goal.returns-then-is_same
returns-then-is_same g c =
    let s : WatchesState = c.args.self.now in
    let h = c.version_at.ensures in
    c.remove_at.ensures ∙ ap (λ (l : List WatchState). record s { live = l })
    (sym (ap (without_at c.args.version.now c.args.at s.live) h.1 ∙ picks (bytes_eq h.0.version c.args.version.now) (remove s.live c.args.at) s.live (one_name h.0.version c.args.version.now (h.2 ∙ c.is_same.ensures.0 c.if-is_same.true))))

pub returns-else-is_same : goal.returns-else-is_same
returns-else-is_same g c =
    let s : WatchesState = c.args.self.now in
    let h = c.version_at.ensures in
    ap (λ (l : List WatchState). record s { live = l })
    (sym (ap (without_at c.args.version.now c.args.at s.live) h.1 ∙ passes (bytes_eq h.0.version c.args.version.now) (remove s.live c.args.at) s.live (two_names h.0.version c.args.version.now (λ e. let a = c.is_same.ensures.1 (sym h.2 ∙ e) in let b = c.if-is_same.false in cc))))
