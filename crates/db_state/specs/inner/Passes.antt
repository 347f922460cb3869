-- Two passes read tables: down over operators of the layout, the newest first, and then up over others, the oldest first.
use Rattle.std.specs.Prelude.{◌≡◌, ◌&&◌, ◌+◌, ℕ, Bool, true, cond, not, List, [], ◌∷◌, Option, Some, None, ⊤, slice_get}
use Rattle.par_base.specs.declared.value.Value.{Value}
use Rattle.row_store.specs.Rows.{Rows}
use Rattle.version_graph.specs.Sets.{In}
use Rattle.version_graph.specs.Tables.{table_numbers}
use Rattle.version_graph.specs.Edges.{is_in, made as made_by}
use Rattle.version_graph.specs.Forest.{Crossing, Link, crossing, forest, step_told}
use Rattle.version_graph.specs.declared.parts.Step.{Step}
use Rattle.row_store.specs.States.{TableState}
use Rattle.op_law.specs.Identifiers.{has_id}
use Rattle.op_law.specs.Meaning.{Meaning}
use Rattle.op_law.specs.Tables.{Heading}
use Rattle.version_model.specs.Calls.{IsCrossing}
use Rattle.version_model.specs.Kept.{rows_now}
use Rattle.version_model.specs.Making.{ascending}
use Rattle.version_model.specs.States.{State, headings}
use Rattle.version_model.specs.declared.numbered.Numbered.{Numbered}
use Rattle.storage_law.specs.Storage.{stored_way}
use Rattle.db_state.specs.declared.parts.Parts.{Parts}
use Rattle.db_state.specs.declared.read.Pass.{Pass}
use Rattle.db_state.specs.Fields.{state_for}
use Rattle.layout_rules.specs.Layouts.{IsMade, IsStored}
use Rattle.db_state.specs.Covered.{Covers}
use Rattle.db_state.specs.Parts.{Ascends, MaySee, SeenWithin, SplitsOver, seen_of}
use Rattle.db_state.specs.declared.sight.Sight.{Sight}
use Rattle.db_state.specs.declared.sight.Sight.TheVariants.{All, Of, Part}

-- whether a pass goes over the operator: it is one of these, and is stored on the side from which the pass comes
abbrev pub is_passed : List ℕ → List ℕ → Bool → ℕ → Bool
is_passed layout ns back n = is_in n ns && cond back (is_in n layout) (not (is_in n layout))

-- over how many of some operators a pass goes
abbrev pub passed_in : {O : Type 0} → List ℕ → List ℕ → Bool → List (Link O) → ℕ
passed_in layout ns back [] = 0
passed_in layout ns back (f ∷ fs) = cond (is_passed layout ns back f.number) 1 0 + passed_in layout ns back fs

-- what was right is, and so is each of these tables
pub record Settles (tables : ℕ → Rows) (reached : List ℕ) (rows new : ℕ → Rows) : Type 0 where
  pub kept : (t : ℕ) → rows t ≡ tables t → new t ≡ tables t
  pub right : (t : ℕ) → In t reached → new t ≡ tables t

-- on the way down, with these operators left: what is stored is right, and so are the sources of each operator behind
pub record IsDownTo {O : Type 0} (es : List (Link O)) (layout ns : List ℕ) (tables : ℕ → Rows) (left : List (Link O)) (rows : ℕ → Rows) : Type 0 where
  pub stored : (t : ℕ) → IsStored es layout t → rows t ≡ tables t
  pub sources : (f : Link O) → In f es → (In f left → ⊥) → In f.number layout → In f.number ns → (t : ℕ) → In t f.sources → rows t ≡ tables t

-- on the way up, with these operators behind: what is made in the layout and covered is right, and so are the targets of each operator behind
pub record IsUpTo {O : Type 0} (es : List (Link O)) (layout ns : List ℕ) (tables : ℕ → Rows) (behind : List (Link O)) (rows : ℕ → Rows) : Type 0 where
  pub made : (t : ℕ) → IsMade es layout t → Covers es layout ns t → rows t ≡ tables t
  pub targets : (f : Link O) → In f behind → (In f.number layout → ⊥) → In f.number ns → (t : ℕ) → In t f.targets → rows t ≡ tables t

-- what one identifier adds
abbrev pub picked : ℕ → Option (List Value) → Rows
picked id None = []
picked id (Some row) = (id, row) ∷ []

-- over the operator what is seen of the state can be read: a list of identifiers, where it treats each identifier by itself, or where they split what it relates
abbrev pub SeesOver : {O : Type 0} → (O → Meaning) → (ℕ → Heading) → State → Sight → Link O → Type 0
SeesOver meaning heading s All e = ⊤
SeesOver meaning heading s (Of ids) e = (meaning e.operator).is_local ≡ true
SeesOver meaning heading s (Part ids) e = SplitsOver meaning heading s (has_id ids.now) e

-- ---- what the calls suppose and ensure

-- all operators were passed down
abbrev pub IsDown : {O : Type 0} → (O → Meaning) → Parts O → List ℕ → Sight → List (Numbered TableState) → Type 0
IsDown meaning p ns sight made = IsDownTo (forest p.graph.edges) p.layout.operators ns (seen_of sight (state_for meaning p).tables) [] (seen_of sight (rows_now p.stored made))

-- each covered table was read
abbrev pub AreRead : {O : Type 0} → (O → Meaning) → Parts O → List ℕ → Sight → List (Numbered TableState) → Type 0
AreRead meaning p ns sight made = (t : ℕ) → In t (table_numbers (made_by p.graph.edges)) → Covers (forest p.graph.edges) p.layout.operators ns t → seen_of sight (rows_now p.stored made) t ≡ seen_of sight (state_for meaning p).tables t

-- the step comes from the stored side of a live operator, the tables of that side are right, and what is seen of them can be read over it
pub record MayCross {O : Type 0} (meaning : O → Meaning) (p : Parts O) (sight : Sight) (made : List (Numbered TableState)) (step : Step) : Type 0 where
  pub over : Link O
  pub lives : In over (forest p.graph.edges)
  pub crosses : IsCrossing p.graph.edges (stored_way p.layout.operators over)
  pub tells : step_told (stored_way p.layout.operators over) ≡ step
  pub near : (t : ℕ) → In t (stored_way p.layout.operators over).near → seen_of sight (rows_now p.stored made) t ≡ seen_of sight (state_for meaning p).tables t
  pub ascends : Ascends sight
  pub sees : SeesOver meaning (headings p.graph.edges) (state_for meaning p) sight over

-- the far tables of the step's crossing were read
abbrev pub PassesOver : {O : Type 0} → (O → Meaning) → Parts O → Sight → List (Numbered TableState) → List (Numbered TableState) → Step → Type 0
PassesOver {O} meaning p sight made new step = (q : Crossing O) → IsCrossing p.graph.edges q → step_told q ≡ step → Settles (seen_of sight (state_for meaning p).tables) q.far (seen_of sight (rows_now p.stored made)) (seen_of sight (rows_now p.stored new))

-- where the pass goes over the operator at a place, the tables on its stored side are right, and what is seen of them can be read over it
pub record MayPass {O : Type 0} (meaning : O → Meaning) (p : Parts O) (pass : Pass) (place : ℕ) (made : List (Numbered TableState)) : Type 0 where
  pub near : (f : Link O) → slice_get (ascending p.graph.edges) place ≡ Some f → is_passed p.layout.operators pass.operators.now pass.backward f.number ≡ true
      → (t : ℕ) → In t (crossing pass.backward f).near → seen_of pass.sight (rows_now p.stored made) t ≡ seen_of pass.sight (state_for meaning p).tables t
  pub may : MaySee meaning p.graph.edges (state_for meaning p) pass.operators.now pass.sight

-- there the tables on its other side were read
abbrev pub Passes : {O : Type 0} → (O → Meaning) → Parts O → Pass → ℕ → List (Numbered TableState) → List (Numbered TableState) → Type 0
Passes {O} meaning p pass place made new = (f : Link O) → slice_get (ascending p.graph.edges) place ≡ Some f
    → Settles (seen_of pass.sight (state_for meaning p).tables) (cond (is_passed p.layout.operators pass.operators.now pass.backward f.number) (crossing pass.backward f).far []) (seen_of pass.sight (rows_now p.stored made)) (seen_of pass.sight (rows_now p.stored new))

-- it takes two steps for each identifier that is seen, where the pass goes over the operator at a place
abbrev pub PassTakes : {O : Type 0} → Parts O → Pass → ℕ → ℕ → ℕ → Type 0
PassTakes {O} p pass place old new = (f : Link O) → slice_get (ascending p.graph.edges) place ≡ Some f → SeenWithin 2 pass.sight (cond (is_passed p.layout.operators pass.operators.now pass.backward f.number) 1 0) old new
