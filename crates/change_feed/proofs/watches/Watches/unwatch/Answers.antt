use Rattle.std.proofs.Common.{◌≡◌, List, [], length, Some, None, get_or, sym, ap, subst, ◌∙◌, arith, slice_get}
use Rattle.std.specs.List.{remove}
use Rattle.std.specs.Option.{option_map}
use Rattle.std.proofs.lemmas.Option.{slice_get_within}
use Rattle.change_feed.specs.Watchers.{WatcherState}
use Rattle.change_feed.specs.Watches.{WatchState, WatchesState, left_of, left_by, watch_of, without_number}
use Rattle.change_feed.specs.inner.Live.{live_of, IsFirst, NoneHas}
use Rattle.change_feed.proofs.LiveLemmas.{live_len, none_watch, none_without, first_watch, first_without, get_there}
use Rattle.change_feed.proofs.watches.Watches.unwatch.Goals as goal

pub left_at-left-requires : goal.left_at-left-requires
left_at-left-requires g c =
    let n = c.args.number in
    let ts = c.self.inside.taken in
    let ws = c.self.inside.watchers in
    let v : live_of ts ws ≡ c.args.self.now.live = ap (λ s. s.live) c.self.view_is in
    let at = c.in-Some.at in
    let f : IsFirst n ts at = subst (λ us. IsFirst n us at) c.as_slice.ensures c.in-Some.ensures in
    omega (arith, slice_get_within ts at f.which f.stands, c.self.invariant.0)

pub remove_at-requires : goal.remove_at-requires
remove_at-requires g c =
    let n = c.args.number in
    let ts = c.self.inside.taken in
    let ws = c.self.inside.watchers in
    let v : live_of ts ws ≡ c.args.self.now.live = ap (λ s. s.live) c.self.view_is in
    let at = c.in-Some.at in
    let f : IsFirst n ts at = subst (λ us. IsFirst n us at) c.as_slice.ensures c.in-Some.ensures in
    omega (arith, slice_get_within ts at f.which f.stands, live_len ts ws c.self.invariant.0, ap length v)

pub returns-in-Some-clause-value : goal.returns-in-Some-clause-value
returns-in-Some-clause-value g c =
    let n = c.args.number in
    let ts = c.self.inside.taken in
    let ws = c.self.inside.watchers in
    let v : live_of ts ws ≡ c.args.self.now.live = ap (λ s. s.live) c.self.view_is in
    let at = c.in-Some.at in
    let f : IsFirst n ts at = subst (λ us. IsFirst n us at) c.as_slice.ensures c.in-Some.ensures in
    let d : WatcherState = record { prepared = []; told = 0; heard = None; shown = None } in
    let there : slice_get ws at ≡ Some (get_or ws at d) = get_there ws at d (omega (arith, slice_get_within ts at f.which f.stands, c.self.invariant.0)) in
    sym c.left_at-left.ensures ∙ ap (option_map left_by) there
    ∙ sym (ap (option_map left_of) (first_watch n ts ws at f.which (get_or ws at d) f.stands f.has f.before there))
    ∙ ap (λ l. option_map left_of (watch_of n l)) v

pub returns-in-Some-clause-rest : goal.returns-in-Some-clause-rest
returns-in-Some-clause-rest g c =
    let n = c.args.number in
    let ts = c.self.inside.taken in
    let ws = c.self.inside.watchers in
    let v : live_of ts ws ≡ c.args.self.now.live = ap (λ s. s.live) c.self.view_is in
    let at = c.in-Some.at in
    let f : IsFirst n ts at = subst (λ us. IsFirst n us at) c.as_slice.ensures c.in-Some.ensures in
    let s : WatchesState = c.args.self.now in
    c.remove_at.ensures
    ∙ ap (λ (l : List WatchState). record s { live = l }) (ap (λ l. remove l at) (sym v) ∙ first_without n ts ws at f.which c.self.invariant.0 f.stands f.has f.before ∙ ap (without_number n) v)

pub returns-in-None-clause-value : goal.returns-in-None-clause-value
returns-in-None-clause-value g c =
    let n = c.args.number in
    let ts = c.self.inside.taken in
    let ws = c.self.inside.watchers in
    let v : live_of ts ws ≡ c.args.self.now.live = ap (λ s. s.live) c.self.view_is in
    sym (ap (option_map left_of) (ap (watch_of n) (sym v) ∙ none_watch n ts ws (subst (λ us. NoneHas n us) c.as_slice.ensures c.in-None.ensures)))

pub returns-in-None-clause-rest : goal.returns-in-None-clause-rest
returns-in-None-clause-rest g c =
    let n = c.args.number in
    let ts = c.self.inside.taken in
    let ws = c.self.inside.watchers in
    let v : live_of ts ws ≡ c.args.self.now.live = ap (λ s. s.live) c.self.view_is in
    let s : WatchesState = c.args.self.now in
    sym (ap (λ (l : List WatchState). record s { live = l }) (ap (without_number n) (sym v) ∙ none_without n ts ws (subst (λ us. NoneHas n us) c.as_slice.ensures c.in-None.ensures) ∙ v))
