use Rattle.std.proofs.Common.{◌≡◌, ℕ, suc, ◌-◌, ◌<◌, List, ◌++◌, length, take, drop, ap, ◌∙◌, arith}
use Rattle.change_feed.specs.Watches.{WatchState, WatchesState, without_version}
use Rattle.change_feed.specs.inner.Live.{dropped_at}
use Rattle.change_feed.proofs.LiveLemmas.{drop_step}
use Rattle.change_feed.proofs.watches.Watches.drop_version.Goals as goal

pub watches-preserved : goal.watches-preserved
watches-preserved g c =
    let s : WatchesState = c.args.self.now in
    let v : List ℕ = c.args.version.now in
    let a : ℕ = c.watches.at - 1 in
    let e : c.watches.at ≡ suc a = omega (arith, c.watches-test.true) in
    let less : a < length s.live = omega (arith, c.watches-test.true, c.watches.invariant.0) in (
      omega (arith, less),
      c.drop_at.ensures
          ∙ ap (λ (t : WatchesState). record t { live = dropped_at v a t.live }) c.watches.invariant.1
          ∙ ap (λ (n : ℕ). record s { live = dropped_at v a (take n s.live ++ without_version v (drop n s.live)) }) e
          ∙ ap (λ (l : List WatchState). record s { live = l }) (drop_step v s.live a less),
    )
