-- When a graph is the one of which a dump tells.
use Rattle.std.specs.Prelude.{◌≡◌, ℕ, List, true, Result, Ok, Err, ⊤}
use Rattle.par_base.specs.declared.fault.Fault.{Fault}
use Rattle.par_base.specs.declared.fault.Fault.TheVariants.{Refused, Memory}
use Rattle.par_base.specs.Names.{is_name}
use Rattle.version_graph.specs.Sets.{Each}
use Rattle.version_graph.specs.Edges.{Drawn, IsGraph}
use Rattle.version_graph.specs.Finished.{IsFinished}
use Rattle.op_any.specs.Operators.{AnyView}
use Rattle.dump_values.specs.declared.dumps.GraphLines.{GraphLines}
use Rattle.dump_graph.specs.Texts.{AreFromTexts}
use Rattle.dump_graph.specs.Told.{graph_told}
use Rattle.dump_graph.specs.declared.refused.DumpRefused.{DumpRefused}

-- versions have names, in lower case
abbrev pub AreNames : List (List ℕ × ℕ) → Type 0
AreNames versions = Each (λ (v : List ℕ × ℕ). is_name v.0 ≡ true) versions

-- the lines tell just what the graph is, whose operators are built from their texts and have a named version at or below them, and whose versions have names
pub record IsToldBy (next : ℕ) (lines : GraphLines) (g : Drawn AnyView) : Type 0 where
  pub told : graph_told g ≡ lines
  pub texts : AreFromTexts next g.edges
  pub names : AreNames g.versions
  pub finished : IsFinished g

-- the graph of which the lines tell, or a refusal exactly where they tell of none
abbrev pub BuildsGraph : ℕ → GraphLines → Result (Drawn AnyView) (Fault DumpRefused) → Type 0
BuildsGraph next lines (Ok g) = IsGraph g × IsToldBy next lines g
BuildsGraph next lines (Err (Refused r)) = (g : Drawn AnyView) → IsGraph g → IsToldBy next lines g → ⊥
BuildsGraph next lines (Err (Memory memory)) = ⊤
