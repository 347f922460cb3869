-- What is true of every state.
use Rattle.std.specs.Prelude.{◌≤◌, false, List}
use Rattle.version_graph.specs.Sets.{Each}
use Rattle.version_graph.specs.Forest.{Link, crossing, forest}
use Rattle.version_graph.specs.declared.parts.Placed.{Placed}
use Rattle.op_law.specs.Meaning.{Meaning}
use Rattle.version_model.specs.States.{State, headings, IsWell, LivesAlone}
use Rattle.version_model.specs.Steps.{IsRelated}

-- every operator relates its two sides and is built for their headings, its expressions are closed, and nothing stands elsewhere
pub record IsSound {O : Type 0} (meaning : O → Meaning) (es : List (Placed O)) (s : State) : Type 0 where
  pub related : Each (λ (e : Link O). IsRelated meaning (headings es) s (crossing false e)) (forest es)
  pub closed : Each (λ (e : Link O). (meaning e.operator).Closed s.next) (forest es)
  pub well : IsWell (headings es) s
  pub alone : LivesAlone es s
  pub drawn : 1 ≤ s.next
