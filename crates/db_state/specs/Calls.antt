-- What the calls suppose and ensure.
use Rattle.std.specs.Prelude.{◌≡◌, ℕ, ◌+◌, ◌*◌, ◌≤◌, false, List, length, map}
use Rattle.version_graph.specs.Sets.{In}
use Rattle.version_graph.specs.Forest.{Link, crossing, forest}
use Rattle.version_graph.specs.declared.parts.Placed.{Placed}
use Rattle.op_law.specs.Tables.{Tables}
use Rattle.op_law.specs.Calls.{tables_of}
use Rattle.op_law.specs.Identifiers.{IdsRise}
use Rattle.op_law.specs.Meaning.{Meaning}
use Rattle.op_law.specs.declared.side.Aux.{Aux}
use Rattle.version_model.specs.Bounds.{HasOnly}
use Rattle.version_model.specs.Kept.{HasSides}
use Rattle.version_model.specs.States.{State, headings}
use Rattle.version_model.specs.Steps.{IsRelated}
use Rattle.version_model.specs.declared.numbered.Numbered.{Numbered}
use Rattle.storage_law.specs.Storage.{aux_of, stored_way}
use Rattle.db_state.specs.Parts.{AreLocalAt}

-- the live operator has at most two tables on either side, and relates both in the state
pub record IsRelatedAt {O : Type 0} (meaning : O → Meaning) (es : List (Placed O)) (s : State) (n : ℕ) : Type 0 where
  pub over : Link O
  pub lives : In over (forest es)
  pub number : over.number ≡ n
  pub sides : HasSides over
  pub related : IsRelated meaning (headings es) s (crossing false over)

-- the auxiliary tables of the operator in the state, under the layout
abbrev pub IsAuxOf : {O : Type 0} → (O → Meaning) → List (Placed O) → List ℕ → State → ℕ → Tables → Type 0
IsAuxOf {O} meaning es layout s n tables = (e : Link O) → In e (forest es) → e.number ≡ n → tables ≡ aux_of meaning s (stored_way layout e)

-- they are given for each of these operators
pub record AreAuxesOf {O : Type 0} (meaning : O → Meaning) (es : List (Placed O)) (layout : List ℕ) (s : State) (ns : List ℕ) (auxes : List (Numbered Aux)) : Type 0 where
  pub numbers : map (λ (i : Numbered Aux). i.number) auxes ≡ ns
  pub values : (i : Numbered Aux) → In i auxes → IsAuxOf meaning es layout s i.number (tables_of i.value)

-- where these identifiers alone have rows, and each of these operators treats each identifier by itself: at most eight steps for each operator and each identifier
abbrev pub AuxesWithin : {O : Type 0} → (O → Meaning) → List (Placed O) → State → List ℕ → ℕ → ℕ → Type 0
AuxesWithin meaning es s ns old new = (ids : List ℕ) → IdsRise 0 ids → AreLocalAt meaning es ns → HasOnly ids s → new ≤ old + 8 * (length ids * length ns)
