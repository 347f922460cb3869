use Rattle.std.proofs.Common.{◌≡◌, ◌+◌, ◌-◌, ◌∷◌, ◌++◌, [], List, ℕ, arith, sym, ap, ◌∙◌, length, map}
use Rattle.std.proofs.lemmas.List.{map-append}
use Rattle.std.proofs.lemmas.Result.{err_from_is_err_and}
use Rattle.phrases.specs.Reading.{with_front}
use Rattle.phrases.proofs.StepsLaws.{rest_turns, rest_full, rest_ends, rest_goes, rest_stops}
use Rattle.bidel_expr.specs.Literals.{comma_of}
use Rattle.bidel_expr.specs.ReadAnswers.{ahead}
use Rattle.bidel_expr.proofs.CursorsLaws.{ahead_length, fails_through}
use Rattle.bidel_expr.proofs.lists.further_items.Goals as goal
use Rattle.bidel_expr.proofs.lists.further_items.Goals.{else-loop-turn-test, then-loop-turn-test+in-Some+in_ok-item+in_ok-push-2+else-turn-turn-end}

pub loop-turn-init : goal.loop-turn-init
loop-turn-init g c =
    let turns : length (ahead c.args.cursor) + 1 - 0 ≡ length (ahead c.args.cursor) + 1 = omega arith in
    let items : c.push.new.self ≡ c.args.first ∷ [] = c.in_ok-push.ensures.ok ∙ ap (λ (l : List _). l ++ c.args.first ∷ []) c.new-items.ensures in
    record {
      same = ap (λ (n : ℕ). with_front (map g.I.Item.view c.push.new.self) (rest_turns comma_of g.I.Item.item_at n (ahead c.args.cursor))) turns
          ∙ ap (λ (l : List _). with_front (map g.I.Item.view l) (rest_turns comma_of g.I.Item.item_at (length (ahead c.args.cursor) + 1) (ahead c.args.cursor))) items;
    }

pub returns-in-None : goal.returns-in-None
returns-in-None g c = sym c.loop-turn.invariant.same ∙ rest_ends comma_of g.I.Item.item_at _ _ _ c.in-None.ensures

pub returns-in_err-item : goal.returns-in_err-item
returns-in_err-item g c =
    let p = err_from_is_err_and c.from_residual-in_err-item.result c.from_residual-in_err-item.ensures.1 in
    rw (p.1, p.2) (fails_through _ (g.I.Item.item_at (ahead c.in-Some.after)) _ c.in_err-item.ensures
    (λ e h. sym c.loop-turn.invariant.same
    ∙ rest_stops comma_of g.I.Item.item_at _ (length (ahead c.args.cursor) - c.loop-turn._turn) _ _ _ e tt (omega (arith, ahead_length c.args.cursor)) c.in-Some.ensures h))

pub loop-turn-preserved : goal.loop-turn-preserved
loop-turn-preserved g c = record {
  same = ap (λ (l : List _). with_front l (rest_turns comma_of g.I.Item.item_at (length (ahead c.args.cursor) + 1 - (c.loop-turn._turn + 1)) (ahead c.in_ok-item.after)))
      (ap (map g.I.Item.view) c.in_ok-push-2.ensures.ok ∙ map-append g.I.Item.view c.loop-turn.items (c.in_ok-item.item ∷ []))
      ∙ rest_goes comma_of g.I.Item.item_at (length (ahead c.args.cursor) + 1 - c.loop-turn._turn) (length (ahead c.args.cursor) + 1 - (c.loop-turn._turn + 1))
      (map g.I.Item.view c.loop-turn.items) (g.I.Item.view c.in_ok-item.item)
      (ahead c.loop-turn.rest) (ahead c.in-Some.after) (ahead c.in_ok-item.after) tt (omega (arith, ahead_length c.args.cursor)) c.in-Some.ensures c.in_ok-item.ensures
      ∙ c.loop-turn.invariant.same;
}

pub returns : goal.returns
returns g c = elim c.loop-turn-test.branch [
  | else-loop-turn-test w ↦ absurd (omega arith)
  | then-loop-turn-test+in-Some+in_ok-item+in_ok-push-2+else-turn-turn-end w ↦ rw (w.items-is, w.rest-is) (
      sym (ap (λ (l : List _). with_front l (rest_turns comma_of g.I.Item.item_at (length (ahead c.args.cursor) + 1 - (c.loop-turn._turn + 1)) (ahead w.in_ok-item.after)))
      (ap (map g.I.Item.view) w.in_ok-push-2.ensures.ok ∙ map-append g.I.Item.view c.loop-turn.items (w.in_ok-item.item ∷ []))
      ∙ rest_goes comma_of g.I.Item.item_at (length (ahead c.args.cursor) + 1 - c.loop-turn._turn) (length (ahead c.args.cursor) + 1 - (c.loop-turn._turn + 1))
      (map g.I.Item.view c.loop-turn.items) (g.I.Item.view w.in_ok-item.item)
      (ahead c.loop-turn.rest) (ahead w.in-Some.after) (ahead w.in_ok-item.after) tt (omega (arith, ahead_length c.args.cursor)) w.in-Some.ensures w.in_ok-item.ensures
      ∙ c.loop-turn.invariant.same)
      ∙ rest_full comma_of g.I.Item.item_at (length (ahead c.args.cursor) + 1 - (c.loop-turn._turn + 1)) (map g.I.Item.view w.push-in-loop-turn.new.self) (ahead w.in_ok-item.after) (omega (arith, ahead_length c.args.cursor)))
]
