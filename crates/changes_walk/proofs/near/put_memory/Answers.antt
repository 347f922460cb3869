use Rattle.std.specs.Prelude.{Result, Ok, Err, OnOk}
use Rattle.std.proofs.Common.{◌≡◌, ℕ, List, [], ◌∷◌, ◌++◌, ap, ◌∙◌}
use Rattle.id_memory.specs.Pairs.{Pairs}
use Rattle.id_memory.specs.States.{MemoryState}
use Rattle.version_model.specs.Put.{put}
use Rattle.version_model.specs.declared.numbered.Numbered.{Numbered}
use Rattle.changes_walk.specs.Changing.{latest_pairs}
use Rattle.version_model.proofs.NowLaws.{pairs_push}
use Rattle.changes_walk.proofs.near.put_memory.Goals as goal

pushed : {R : Type 0} {E : Type 0} (r : Result R E) (made now : List (Numbered MemoryState)) (c : Numbered MemoryState) → OnOk r (now ≡ made ++ c ∷ [])
    → OnOk r ((old : ℕ → Pairs) → latest_pairs old now ≡ put (latest_pairs old made) (c.number ∷ []) (c.value.entries ∷ []))
pushed (Ok done) made now c is = λ old. ap (λ (l : List (Numbered MemoryState)). latest_pairs old l) is ∙ pairs_push old made c
pushed (Err memory) made now c is = is

pub returns : goal.returns
returns c = pushed c.push.result c.args.made.now c.push.new.self (record { number = c.args.number; value = c.args.value }) c.push.ensures.ok
