use Rattle.std.proofs.Common.{◌≡◌, ◌+◌, [], ◌∷◌, ◌++◌, map, take, take_all, string_bytes, sym, ap, ◌∙◌, arith}
use Rattle.std.proofs.lemmas.List.{take_more}
use Rattle.serde_json.specs.Data.{put}
use Rattle.serde_json.specs.View.{items_of, members_view, view}
use Rattle.serde_json.proofs.Views.{members_view-insert_entry}
use Rattle.json_members.specs.Trees.{entries_view, tree_view, trees_view}
use Rattle.json_members.proofs.TreeLemmas.{one_more, trees_mapped}
use Rattle.json_members.proofs.trees.+to_json.Goals as goal

pub items_to_json-returns : goal.items_to_json-returns
items_to_json-returns t c =
    let l = c.loop-item in
    let xs = c.deref-item-items.result.now in
    ap items_of (l.invariant ∙ ap (λ ys. map tree_view ys) (take_all l.item-index xs (omega arith)))
    ∙ sym (trees_mapped xs) ∙ ap trees_view c.deref-item-items.ensures.value

pub members_to_json-loop-member-preserved : goal.members_to_json-loop-member-preserved
members_to_json-loop-member-preserved t c =
    let l = c.loop-member in
    let xs = c.deref-member-items.result.now in
    let i = l.member-index in
    let m = c.member-item.result in
    let key = c.in_ok-key.key in
    let value = c.in_ok-value.value in
    let front : take (i + 1) xs ≡ take i xs ++ m ∷ [] = take_more xs i m (omega arith) ∙ ap (λ y. take i xs ++ y ∷ []) (sym c.member-item.is) in
    let named : string_bytes key ≡ m.0.now = c.in_ok-key.ensures.ok in
    ap members_view c.in_ok-insert.ensures.entries ∙ members_view-insert_entry l.made.entries key value
    ∙ ap (λ k. put k (view value) (members_view l.made.entries)) named
    ∙ ap (λ d. put m.0.now d (members_view l.made.entries)) c.in_ok-value.ensures
    ∙ ap (λ ms. put m.0.now (tree_view m.1) ms) l.invariant
    ∙ sym (ap entries_view front ∙ one_more (take i xs) m)
