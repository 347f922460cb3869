use Rattle.std.specs.Prelude.{option_map}
use Rattle.std.proofs.Common.{◌≡◌, ℕ, ◌+◌, List, ◌∷◌, [], ◌++◌, drop, length, sym, ap, ◌∙◌, subst}
use Rattle.std.proofs.lemmas.Iterator.Adapters.{YieldsList-from_vec}
use Rattle.std.proofs.lemmas.Iterator.Consumers.{YieldsList-turn}
use Rattle.std.proofs.lemmas.List.{length_push}
use Rattle.row_store.specs.Rows.{AreBelow, Rows}
use Rattle.row_store.specs.inner.FoundRows.{below_more, below_push}
use Rattle.json_members.specs.Trees.{tree_view, trees_view}
use Rattle.dump_values.specs.Tables.{rows_from}
use Rattle.json_members.proofs.ListLemmas.{Tree, begins}
use Rattle.dump_values.proofs.RiseLemmas.{step}
use Rattle.dump_values.proofs.tables.read_rows.Goals as goal

pub loop-item-preserved : goal.loop-item-preserved
loop-item-preserved c =
    let xs = c.args.items.items in
    let l = c.loop-item in
    let one = c.in-Some.item in
    let old = l.table.rows in
    let id = c.in-Some-2.id in
    let row = c.in-Some-2.row in
    let turn = YieldsList-turn (YieldsList-from_vec {s = c.into_iter-item-iterator.result} c.args.items.items c.into_iter-item-iterator.ensures.into_iter_gives.0 (c.into_iter-item-iterator.ensures.into_iter_gives.1 ∙ c.args.items.ok.0)) c.loop-item.yielded c.loop-item.item-iterator c.loop-item.yielded_by c.next.result c.next.new.self c.in-Some.item c.in-Some.is c.next.ensures.steps in
    let next : length (l.yielded ++ one ∷ []) ≡ length l.yielded + 1 = length_push l.yielded one in
    let dropped = begins xs (length l.yielded) one turn.0 turn.1 in
    let found = sym c.in_ok-id.ensures.value ∙ c.in-Some-2.is in
    record {
      read = l.invariant.read ∙ ap (λ (ys : List Tree). option_map (λ (rs : Rows). old ++ rs) (rows_from l.least (trees_view ys))) dropped
          ∙ step old l.least id row (tree_view one) (trees_view (drop (length l.yielded + 1) xs)) found c.if-id-least.false
          ∙ ap (λ (n : ℕ). option_map (λ (rs : Rows). (old ++ (id, row) ∷ []) ++ rs) (rows_from (id + 1) (trees_view (drop n xs)))) (sym next)
          ∙ ap (λ (new : Rows). option_map (λ (rs : Rows). new ++ rs) (rows_from (id + 1) (trees_view (drop (length (l.yielded ++ one ∷ [])) xs)))) (sym c.in_ok-push.ensures.ok);
      below = subst (λ (new : Rows). AreBelow new (id + 1)) (sym c.in_ok-push.ensures.ok) (below_push old id row (below_more old l.least id c.if-id-least.false l.invariant.below));
    }
