-- One state with one layout is stored once.
use Rattle.std.proofs.Common.{◌≡◌, ℕ, List, sym, ap, subst}
use Rattle.version_graph.specs.Sets.{In}
use Rattle.version_graph.specs.Edges.{Drawn}
use Rattle.op_law.specs.Meaning.{Meaning}
use Rattle.version_model.specs.Kept.{Database}
use Rattle.version_model.specs.States.{State}
use Rattle.storage_law.specs.Canonical.{SameStored}
use Rattle.storage_law.specs.Storage.{Stands}
use Rattle.storage_law.proofs.CanonicalLaws.{parts_are_one}
use Rattle.db_state.specs.Fields.{IsDatabase, database_for, state_for, storage_in}
use Rattle.db_state.specs.declared.parts.Parts.{Parts}

pub stored_once : {O : Type 0} (meaning : O → Meaning) (p q : Parts O) → IsDatabase meaning p → IsDatabase meaning q → database_for meaning p ≡ database_for meaning q → p.layout.operators ≡ q.layout.operators → SameStored (storage_in p) (storage_in q)
stored_once {O} meaning p q first second same layouts =
    let graph : p.graph ≡ q.graph = ap (λ (d : Database O). d.graph) same in
    let state : state_for meaning p ≡ state_for meaning q = ap (λ (d : Database O). d.state) same in
    let other : Stands meaning p.graph.edges (storage_in q) (state_for meaning p) =
    subst (λ (g : Drawn O). Stands meaning g.edges (storage_in q) (state_for meaning p)) (sym graph) (subst (λ (s : State). Stands meaning q.graph.edges (storage_in q) s) (sym state) second.stands) in
    parts_are_one meaning p.graph.edges (state_for meaning p) (storage_in p) (storage_in q) (λ n. (subst (λ (l : List ℕ). In n l) layouts, subst (λ (l : List ℕ). In n l) (sym layouts))) first.stands other
