-- What tries to find a part of a write hand on: identifiers that are closed, what was made of them, and what these name.
use Rattle.std.specs.Prelude.{IfSome}
use Rattle.std.proofs.Common.{◌≡◌, ◌≤◌, ℕ, List, true, Option, Some, sym, ap, subst}
use Rattle.version_graph.specs.Edges.{Drawn}
use Rattle.version_graph.specs.declared.parts.Placed.{Placed}
use Rattle.op_law.specs.Identifiers.{has_id}
use Rattle.op_law.specs.Laws.{Laws}
use Rattle.op_law.specs.Meaning.{Meaning}
use Rattle.sought_ids.specs.Seeking.{SeekLaws}
use Rattle.sought_ids.specs.SeekPlace.{SeekPlace}
use Rattle.table_keys.specs.States.{KeysState}
use Rattle.sought_ids.specs.Found.{AreAmong}
use Rattle.kept_keys.specs.Kept.{AreKeysOf}
use Rattle.version_model.specs.States.{State}
use Rattle.version_model.specs.declared.numbered.Numbered.{Numbered}
use Rattle.db_state.specs.Fields.{state_for}
use Rattle.db_state.specs.declared.parts.Parts.{Parts}
use Rattle.sought_ids.specs.Sought.{AreClosed, KeptState}
use Rattle.write_plans.specs.Making.{IsMaking, MayPlan}
use Rattle.write_propagation.specs.PartMade.{ClosesTree, named_in, kept_with}
use Rattle.write_plans.specs.declared.making.Making.{Making}
use Rattle.write_plans.specs.declared.plans.RowWrite.{RowWrite}
use Rattle.write_plans.specs.declared.tree.Tree.{Tree}
use Rattle.write_propagation.proofs.PartFoundLemmas.{split_ids}
use Rattle.write_plans.proofs.PartShownLemmas.{end_up}

-- those that hold what others began with, which hold what the changes name
begun : {O : Type 0} (meaning : O → Meaning) (seeks : O → Option SeekPlace) (es : List (Placed O)) (items : KeptState) (ns first begin ids : List ℕ) → AreAmong first begin → AreClosed meaning seeks es items ns begin ids → AreClosed meaning seeks es items ns first ids
begun meaning seeks es items ns first begin ids among closed = record { rise = closed.rise; begins = λ q h. closed.begins q (among q h); closed = closed.closed }

pub closes_tree : {O : Type 0} (meaning : O → Meaning) (seeks : O → Option SeekPlace) (d : Parts O) (items : List (Numbered KeysState)) (tree : Tree) (w : RowWrite) (kept : KeptState) (graph : Drawn O) (ns begin ids : List ℕ) (found : Option (List ℕ))
    → kept ≡ kept_with d items → graph ≡ d.graph → ns ≡ tree.operators → AreAmong (named_in w.changes) begin → found ≡ Some ids → IfSome found (AreClosed meaning seeks graph.edges kept ns begin) → ClosesTree meaning seeks d items tree w ids
closes_tree {O} meaning seeks d items tree w kept graph ns begin ids found of_kept of_graph of_tree among is closed =
    let here : AreClosed meaning seeks graph.edges (kept_with d items) ns begin ids = subst (λ (o : Option (List ℕ)). IfSome o (AreClosed meaning seeks graph.edges (kept_with d items) ns begin)) is (subst (λ (k : KeptState). IfSome found (AreClosed meaning seeks graph.edges k ns begin)) of_kept closed) in
    let there : AreClosed meaning seeks d.graph.edges (kept_with d items) tree.operators begin ids =
    subst (λ (l : List ℕ). AreClosed meaning seeks d.graph.edges (kept_with d items) l begin ids) of_tree (subst (λ (x : Drawn O). AreClosed meaning seeks x.edges (kept_with d items) ns begin ids) of_graph here) in
    begun meaning seeks d.graph.edges (kept_with d items) tree.operators (named_in w.changes) begin ids among there

-- its next identifier isn't below that of the state before
pub made_up : {O : Type 0} (meaning : O → Meaning) (seeks : O → Option SeekPlace) (laws : (o : O) → Laws (meaning o)) (seeking : (o : O) → SeekLaws (meaning o) (seeks o)) (d : Parts O) (tree : Tree) (w : RowWrite) (plans : MayPlan meaning d tree w)
    (items : List (Numbered KeysState)) (right : AreKeysOf (state_for meaning d).tables items) (ids : List ℕ) (closed : ClosesTree meaning seeks d items tree w ids) (making : Making) → IsMaking meaning d tree w (has_id ids) (λ id. true) making → d.ids.next ≤ making.made.ids.next
made_up meaning seeks laws seeking d tree w plans items right ids closed making made =
    let split = split_ids meaning seeks laws seeking d plans.kept tree w plans items right ids closed in
    subst (λ (n : ℕ). d.ids.next ≤ n) (sym (ap (λ (x : State). x.next) made.made)) (end_up meaning laws d plans.kept tree w plans (has_id ids) split)
