use Rattle.std.proofs.Common.{◌≡◌, ℕ, List, true, ap, sym, ◌∙◌, subst}
use Rattle.row_store.specs.declared.change.Change.{Change}
use Rattle.op_law.specs.Identifiers.{has_id}
use Rattle.row_changes.specs.Touched.{touched}
use Rattle.id_closing.specs.Told.{AllOf}
use Rattle.outer_closing.specs.Assigned.{FindsChanged}
use Rattle.outer_closing.proofs.assigned.begin_at_rows.Goals as goal

pub returns : goal.returns
returns c =
    let near = c.args.near.now.tables in
    let named : touched near ≡ c.in_ok-ids.ids = ap touched (sym c.as_slice.ensures) ∙ sym c.in_ok-ids.ensures.value in
    record {
      named = λ q h. c.in_ok-add_for_all.ensures.stay q (subst (λ (xs : List ℕ). has_id xs q ≡ true) named h);
      found = subst (λ (cs : List Change). AllOf (FindsChanged c.args.it.now c.args.replaced.now c.add_for_all.new.ids) cs) c.changes_at.ensures c.in_ok-add_for_all.ensures.found;
    }
