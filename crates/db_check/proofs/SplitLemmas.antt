-- Where a pass begins.
use Rattle.std.proofs.Common.{ℕ, List, []}
use Rattle.version_graph.specs.Forest.{forest}
use Rattle.op_law.specs.Meaning.{Meaning}
use Rattle.version_model.specs.Kept.{rows_now}
use Rattle.db_state.specs.Fields.{IsDatabase, state_for}
use Rattle.db_state.specs.declared.parts.Parts.{Parts}
use Rattle.db_state.specs.inner.Passes.{IsDownTo}

-- were the fields a database, what is stored would be right before any operator is passed
pub down_start : {O : Type 0} (meaning : O → Meaning) (p : Parts O) → IsDatabase meaning p → (ns : List ℕ) → IsDownTo (forest p.graph.edges) p.layout.operators ns (state_for meaning p).tables (forest p.graph.edges) (rows_now p.stored [])
down_start meaning p is ns = record {
  stored = λ t k. is.stands.stored t k;
  sources = λ f i out. absurd (out i);
}
