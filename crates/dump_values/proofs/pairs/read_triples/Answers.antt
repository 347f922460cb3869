use Rattle.std.proofs.Common.{◌≡◌, ℕ, ◌+◌, List, ◌∷◌, [], ◌++◌, true, drop, length, arith, sym, ap, ◌∙◌, subst}
use Rattle.std.proofs.lemmas.Iterator.Adapters.{YieldsList-from_vec}
use Rattle.std.proofs.lemmas.Iterator.Consumers.{YieldsList-turn}
use Rattle.std.proofs.lemmas.List.{length_push}
use Rattle.id_memory.specs.Pairs.{Pairs, RiseFrom}
use Rattle.json_members.specs.Trees.{tree_view, trees_view}
use Rattle.dump_values.specs.Pairs.{may_follow, pairs_behind}
use Rattle.dump_values.specs.inner.Calls.{EndBefore}
use Rattle.json_members.proofs.ListLemmas.{Tree, begins}
use Rattle.dump_values.proofs.PairLemmas.{ends_more, ends_push, follow_least, rise_push, step}
use Rattle.dump_values.proofs.pairs.read_triples.Goals as goal

pub put_behind-requires-clause-behind : goal.put_behind-requires-clause-behind
put_behind-requires-clause-behind c =
    let l = c.loop-item in
    let e = c.in-Some-take_triple.entry in
    let follows : may_follow l.memory.entries l.least e ≡ true = sym c.follows.ensures ∙ c.if-not-follows.false in
    ends_more l.memory.entries l.least e.0 l.invariant.below (follow_least l.memory.entries l.least e follows)

pub loop-item-preserved : goal.loop-item-preserved
loop-item-preserved c =
    let xs = c.args.items.items in
    let l = c.loop-item in
    let one = c.in-Some.item in
    let old = l.memory.entries in
    let e = c.in-Some-take_triple.entry in
    let follows : may_follow old l.least e ≡ true = sym c.follows.ensures ∙ c.if-not-follows.false in
    let ends = ends_more old l.least e.0 l.invariant.below (follow_least old l.least e follows) in
    let turn = YieldsList-turn (YieldsList-from_vec {s = c.into_iter-item-iterator.result} c.args.items.items c.into_iter-item-iterator.ensures.into_iter_gives.0 (c.into_iter-item-iterator.ensures.into_iter_gives.1 ∙ c.args.items.ok.0)) c.loop-item.yielded c.loop-item.item-iterator c.loop-item.yielded_by c.next.result c.next.new.self c.in-Some.item c.in-Some.is c.next.ensures.steps in
    let next : length (l.yielded ++ one ∷ []) ≡ length l.yielded + 1 = length_push l.yielded one in
    let dropped = begins xs (length l.yielded) one turn.0 turn.1 in
    let found = sym c.take_triple.ensures.value ∙ c.in-Some-take_triple.is in
    let put = c.in_ok-put_behind.ensures in
    record {
      read = l.invariant.read ∙ ap (λ (ys : List Tree). pairs_behind old l.least (trees_view ys)) dropped
          ∙ step old l.least e (tree_view one) (trees_view (drop (length l.yielded + 1) xs)) found follows
          ∙ ap (λ (n : ℕ). pairs_behind (old ++ e ∷ []) (e.0 + 1) (trees_view (drop n xs))) (sym next)
          ∙ ap (λ (made : Pairs). pairs_behind made (e.0 + 1) (trees_view (drop (length (l.yielded ++ one ∷ [])) xs))) (sym put);
      rise = subst (λ (made : Pairs). RiseFrom 0 made) (sym put) (rise_push old 0 e l.invariant.rise ends (omega arith));
      below = subst (λ (made : Pairs). EndBefore made (e.0 + 1)) (sym put) (ends_push old e ends);
    }
