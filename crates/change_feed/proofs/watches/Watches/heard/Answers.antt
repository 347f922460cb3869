use Rattle.std.proofs.Common.{◌≡◌, sym, ap, subst, ◌∙◌, arith}
use Rattle.std.proofs.lemmas.Option.{slice_get_within}
use Rattle.change_feed.specs.Watches.{heard_by, watch_of}
use Rattle.change_feed.specs.inner.Live.{live_of, IsFirst, NoneHas}
use Rattle.change_feed.proofs.LiveLemmas.{none_watch, first_watch}
use Rattle.change_feed.proofs.watches.Watches.heard.Goals as goal

pub get-requires : goal.get-requires
get-requires g c =
    let n = c.args.number in
    let ts = c.self.inside.taken in
    let ws = c.self.inside.watchers in
    let v : live_of ts ws ≡ c.args.self.now.live = ap (λ s. s.live) c.self.view_is in
    let at = c.in-Some.at in
    let f : IsFirst n ts at = subst (λ us. IsFirst n us at) c.as_slice.ensures c.in-Some.ensures in
    omega (arith, slice_get_within ts at f.which f.stands, c.self.invariant.0)

pub returns-in-Some : goal.returns-in-Some
returns-in-Some g c =
    let n = c.args.number in
    let ts = c.self.inside.taken in
    let ws = c.self.inside.watchers in
    let v : live_of ts ws ≡ c.args.self.now.live = ap (λ s. s.live) c.self.view_is in
    let at = c.in-Some.at in
    let f : IsFirst n ts at = subst (λ us. IsFirst n us at) c.as_slice.ensures c.in-Some.ensures in
    c.heard.ensures ∙ sym (ap heard_by (ap (watch_of n) (sym v) ∙ first_watch n ts ws at f.which c.get.result.now f.stands f.has f.before c.get.ensures))

pub returns-in-None : goal.returns-in-None
returns-in-None g c =
    let n = c.args.number in
    let ts = c.self.inside.taken in
    let ws = c.self.inside.watchers in
    let v : live_of ts ws ≡ c.args.self.now.live = ap (λ s. s.live) c.self.view_is in
    sym (ap heard_by (ap (watch_of n) (sym v) ∙ none_watch n ts ws (subst (λ us. NoneHas n us) c.as_slice.ensures c.in-None.ensures)))
