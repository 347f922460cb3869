use Rattle.std.specs.Prelude.{Result, Ok, Err, OnOk}
use Rattle.std.proofs.Common.{◌≡◌, List, [], ◌∷◌, ◌++◌, ap, ◌∙◌}
use Rattle.id_memory.specs.States.{MemoryState}
use Rattle.version_model.specs.Put.{put}
use Rattle.version_model.specs.Kept.{pairs_at, pairs_now}
use Rattle.version_model.specs.declared.numbered.Numbered.{Numbered}
use Rattle.version_model.proofs.NowLaws.{pairs_push}
use Rattle.version_model.proofs.now.put_memory.Goals as goal

pushed : {R : Type 0} {E : Type 0} (r : Result R E) (made now : List (Numbered MemoryState)) (c : Numbered MemoryState) → OnOk r (now ≡ made ++ c ∷ [])
    → OnOk r ((kept : List (Numbered MemoryState)) → pairs_now kept now ≡ put (pairs_now kept made) (c.number ∷ []) (c.value.entries ∷ []))
pushed (Ok done) made now c is = λ kept. ap (λ (l : List (Numbered MemoryState)). pairs_now kept l) is ∙ pairs_push (pairs_at kept) made c
pushed (Err memory) made now c is = is

pub returns : goal.returns
returns c = pushed c.push.result c.args.made.now c.push.new.self (record { number = c.args.number; value = c.args.value }) c.push.ensures.ok
