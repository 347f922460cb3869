use Rattle.std.proofs.Common.{◌≡◌, ◌∷◌, [], ◌+◌, ◌-◌, length, map}
use Rattle.phrases.specs.Reading.{is, rest_at, behind_at, with_front}
use Rattle.phrases.proofs.StepsLaws.{rest_turns}
use Rattle.bidel_expr.specs.Literals.{comma_of}
use Rattle.bidel_expr.specs.ReadAnswers.{ahead}
use Rattle.bidel_expr.proofs.lists.further_items.Given as goal

abbrev pub invariant-loop-turn : goal.invariant-loop-turn
invariant-loop-turn g l = record {
  same : with_front (map g.I.Item.view l.items) (rest_turns comma_of g.I.Item.item_at (length (ahead l.fn.cursor) + 1 - l._turn) (ahead l.rest))
      ≡ with_front (g.I.Item.view l.fn.first ∷ []) (rest_at (is comma_of) (behind_at comma_of g.I.Item.item_at) (ahead l.fn.cursor));
}
