use Rattle.std.proofs.Common.{◌≡◌, List, [], ◌∷◌, ap, ◌∙◌}
use Rattle.row_store.specs.States.{TableState}
use Rattle.version_model.specs.Put.{put}
use Rattle.version_model.specs.Kept.{rows_now}
use Rattle.version_model.specs.declared.numbered.Numbered.{Numbered}
use Rattle.version_model.proofs.NowLaws.{rows_push, one_put, nothing_left}
use Rattle.version_model.proofs.now.put_side.Goals as goal

pub loop-value-preserved : goal.loop-value-preserved
loop-value-preserved c =
    let inv = c.loop-value.invariant in
    let last = c.in-Some.value in
    let number = Rattle.std.proofs.Common.slice_index_or c.args.numbers.now c.len.result 0 in
    let at : number ≡ Rattle.std.proofs.Common.slice_index_or c.args.numbers.now (Rattle.std.proofs.Common.length c.pop.new.self) 0 = ap (λ (i : _). Rattle.std.proofs.Common.slice_index_or c.args.numbers.now i 0) c.len.ensures in
    let step = λ (kept : List (Numbered TableState)). one_put (rows_now kept c.args.made.now) c.args.numbers.now c.args.side c.loop-value.tables c.pop.new.self last number c.in-Some.ensures inv.left inv.within c.requires at in
    let any = step [] in
    record {
      left = any.0;
      within = any.1;
      so_far = λ kept.
          ap (λ (made : List (Numbered TableState)). rows_now kept made) c.in_ok-push.ensures.ok
          ∙ rows_push kept c.loop-value.made (record { number = number; value = last })
          ∙ ap (λ (f : _). put f (number ∷ []) (last.rows ∷ [])) (inv.so_far kept) ∙ (step kept).2;
    }

pub returns : goal.returns
returns c kept = c.loop-value.invariant.so_far kept ∙ nothing_left (rows_now kept c.args.made.now) c.args.numbers.now c.args.side c.loop-value.tables c.in_default.ensures.0
