use Rattle.std.proofs.Common.{ℕ, List, refl, ap, ◌∙◌, subst}
use Rattle.std.specs.Prelude.{filter}
use Rattle.row_store.specs.States.{TableState}
use Rattle.row_store.specs.declared.change.Change.{Change}
use Rattle.version_graph.specs.Edges.{is_in}
use Rattle.version_model.specs.declared.numbered.Numbered.{Numbered}
use Rattle.version_model.specs.Kept.{numbers_in}
use Rattle.write_plans.specs.Calls.{AreChangesNow}
use Rattle.write_plans.specs.Told.{changed_of}
use Rattle.write_plans.proofs.planning.plan_with.Goals as goal

pub returns : goal.returns
returns g c test copies auxes memories =
    let tree = c.args.tree.now in
    let m = c.args.made in
    let numbers = c.as_slice-3.ensures ∙ c.in_ok-numbers.ensures ∙ ap (λ (ns : List ℕ). filter (λ t. is_in t ns) (numbers_in c.stored.result.now)) c.as_slice.ensures ∙ ap (λ (l : List (Numbered TableState)). filter (λ t. is_in t tree.tables) (numbers_in l)) c.stored.ensures in
    record {
      stored = subst (λ (l : List ℕ). AreChangesNow m.tables l c.in_ok-stored.stored) numbers
          (subst (λ (l : List (Numbered (List Change))). AreChangesNow l c.as_slice-3.result.now c.in_ok-stored.stored) c.as_slice-2.ensures c.in_ok-stored.ensures);
      auxes = auxes;
      memories = memories;
      ids = refl;
      changed = c.in_ok-changed.ensures
          ∙ ap (λ (l : List (Numbered (List Change))). changed_of l c.as_slice-5.result.now) c.as_slice-4.ensures
          ∙ ap (λ (l : List ℕ). changed_of m.tables l) c.as_slice-5.ensures;
      carried = refl;
    }
