use Rattle.std.proofs.Common.{◌≡◌, ℕ, List, [], ◌∷◌, length, drop, get_or, ap, ◌∙◌}
use Rattle.row_store.specs.declared.change.Change.{Change}
use Rattle.row_changes.specs.Changed.{TableChanges}
use Rattle.version_model.specs.Put.{put}
use Rattle.version_model.specs.declared.numbered.Numbered.{Numbered}
use Rattle.changes_walk.specs.Changing.{latest_changes}
use Rattle.changes_walk.proofs.SideLemmas.{changes_push, one_put}
use Rattle.changes_walk.proofs.near.put_side.Goals as goal

pub loop-value-preserved : goal.loop-value-preserved
loop-value-preserved c =
    let inv = c.loop-value.invariant in
    let last = c.in-Some.value in
    let number = get_or c.args.numbers.now c.len.result 0 in
    let at : number ≡ get_or c.args.numbers.now (length c.pop.new.self) 0 = ap (λ (i : ℕ). get_or c.args.numbers.now i 0) c.len.ensures in
    let step = one_put (latest_changes c.args.made.now) c.args.numbers.now c.args.side.tables c.loop-value.tables c.pop.new.self last number c.in-Some.ensures inv.left inv.within c.requires at in
    record {
      left = step.0;
      within = step.1;
      so_far = ap (λ (made : List (Numbered (List Change))). latest_changes made) c.in_ok-push.ensures.ok
          ∙ changes_push c.loop-value.made (record { number = number; value = last })
          ∙ ap (λ (f : ℕ → List Change). put f (number ∷ []) (last ∷ [])) inv.so_far ∙ step.2;
    }

pub returns : goal.returns
returns c =
    c.loop-value.invariant.so_far ∙ ap (λ (l : TableChanges). put (latest_changes c.args.made.now) (drop (length l) c.args.numbers.now) (drop (length l) c.args.side.tables)) c.in_default.ensures.0
