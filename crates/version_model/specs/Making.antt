-- What the inner calls of an evolution suppose and ensure.
use Rattle.std.specs.Prelude.{◌≡◌, ℕ, ◌≤◌, ◌⊎◌, false, List, [], ◌∷◌, map, drop, slice_get, Result, Ok, Err, Some, ⊤}
use Rattle.std.specs.Option.{IsSome}
use mathlib.Core.List.{reverse}
use Rattle.par_base.specs.declared.fault.Fault.{Fault}
use Rattle.par_base.specs.declared.fault.Fault.TheVariants.{Refused, Memory as OutOfMemory}
use Rattle.par_base.specs.declared.refusal.IdsSpent.{IdsSpent}
use Rattle.par_base.specs.declared.refusal.Refusal.{Refusal}
use Rattle.par_base.specs.declared.refusal.Refusal.TheVariants.{IdsSpent as SpendsIds}
use Rattle.id_memory.specs.States.{CounterState}
use Rattle.version_graph.specs.Edges.{AreEdges}
use Rattle.version_graph.specs.Sets.{In, Each}
use Rattle.version_graph.specs.Forest.{Crossing, Link, crossing, forest}
use Rattle.version_graph.specs.declared.parts.Placed.{Placed}
use Rattle.op_law.specs.Meaning.{Meaning}
use Rattle.op_law.specs.Premises.{SomeMap}
use Rattle.op_law.specs.Calls.{first_refused, IsSpent}
use Rattle.version_model.specs.States.{State, empty_at}
use Rattle.version_model.specs.Steps.{pair_in}
use Rattle.version_model.specs.Evolving.{with_link}
use Rattle.version_model.specs.Kept.{HasSides, latest_of}
use Rattle.version_model.specs.Calls.{Crosses, before_state, made_state}
use Rattle.version_model.specs.declared.numbered.Numbered.{Numbered}
use Rattle.version_model.specs.declared.progress.Before.{Before}
use Rattle.version_model.specs.declared.progress.Made.{Made}

-- ---- which operators

-- the operators by ascending number
abbrev pub ascending : {O : Type 0} → List (Placed O) → List (Link O)
ascending es = reverse (forest es)

-- those from a place on
abbrev pub newer : {O : Type 0} → List (Placed O) → ℕ → List (Link O)
newer es first = drop first (ascending es)

-- ---- what they make

-- the state with these operators more, in their order
abbrev pub with_links : {O : Type 0} → (O → Meaning) → State → List (Link O) → State
with_links meaning s [] = s
with_links meaning s (f ∷ fs) = with_links meaning (with_link meaning s f) fs

-- the call of a new operator may be made on a state
abbrev pub MayCallNew : {O : Type 0} → (O → Meaning) → State → Link O → Type 0
MayCallNew meaning s f = SomeMap (meaning f.operator) (map s.tables f.sources) (pair_in (empty_at s.next) (crossing false f)) s.next

-- each of these operators may be made after those before it
abbrev pub MayMake : {O : Type 0} → (O → Meaning) → State → List (Link O) → Type 0
MayMake meaning s [] = Unit {0}
MayMake meaning s (f ∷ fs) = HasSides f × MayCallNew meaning s f × (s.next ≤ (with_link meaning s f).next) × MayMake meaning (with_link meaning s f) fs

-- the operator at a place may be made
pub record MayMakeAt {O : Type 0} (meaning : O → Meaning) (es : List (Placed O)) (b : Before) (made : Made) (place : ℕ) : Type 0 where
  pub edges : AreEdges es
  pub over : Link O
  pub here : slice_get (ascending es) place ≡ Some over
  pub sides : HasSides over
  pub may : MayCallNew meaning (made_state b made) over

-- the targets of the operator at a place came from its sources, with an empty old pair
abbrev pub MakesAt : {O : Type 0} → (O → Meaning) → List (Placed O) → Before → ℕ → Made → Made → Result (Unit {0}) (Fault IdsSpent) → Type 0
MakesAt {O} meaning es b place old new result = (f : Link O) → slice_get (ascending es) place ≡ Some f → Crosses meaning b (crossing false f) (pair_in (empty_at b.next) (crossing false f)) old new result

-- ---- what is there

-- something was made under the number
abbrev pub Has : {T : Type 0} → List (Numbered T) → ℕ → Type 0
Has items n = IsSome (latest_of items n)

-- a crossing's far tables and its memory were made, and what had been made is there
pub record HasMore {O : Type 0} (p : Crossing O) (old new : Made) : Type 0 where
  pub tables : (t : ℕ) → In t p.far ⊎ Has old.tables t → Has new.tables t
  pub memories : (n : ℕ) → (n ≡ p.number) ⊎ Has old.memories n → Has new.memories n

-- an operator's tables and its memory were made
abbrev pub WasMade : {O : Type 0} → Made → Link O → Type 0
WasMade made f = Each (Has made.tables) f.targets × Has made.memories f.number

-- the operators were made in their order, or one needs an identifier that the counter doesn't give
abbrev pub Makes : {O : Type 0} → (O → Meaning) → Before → CounterState → List (Link O) → Result Made (Fault IdsSpent) → Type 0
Makes meaning b ids fs (Ok made) =
    let end = with_links meaning (before_state b) fs in
    (end.next ≤ first_refused ids) × (made_state b made ≡ end) × (made.ids.limit ≡ ids.limit) × Each (WasMade made) fs
Makes meaning b ids fs (Err (Refused spent)) = IsSpent (with_links meaning (before_state b) fs).next ids ids spent
Makes meaning b ids fs (Err (OutOfMemory memory)) = ⊤

-- a spent counter as the refusal of a statement
abbrev pub refusal_for : Fault IdsSpent → Fault Refusal
refusal_for (Refused spent) = Refused (SpendsIds spent.needed spent.limit)
refusal_for (OutOfMemory memory) = (OutOfMemory memory)
