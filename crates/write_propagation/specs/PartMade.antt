-- A part of a tree of which a write was made, so that it is the part of the write.
use Rattle.std.specs.Prelude.{ℕ, true, List, map, Option, ⊤}
use Rattle.row_store.specs.declared.change.Change.{Change}
use Rattle.op_law.specs.Identifiers.{has_id}
use Rattle.op_law.specs.Meaning.{Meaning}
use Rattle.row_changes.specs.Touched.{AllPass}
use Rattle.operator_changes.specs.Footprint.{passes, with_drawn}
use Rattle.changes_walk.specs.Changing.{latest_changes}
use Rattle.version_model.specs.declared.numbered.Numbered.{Numbered}
use Rattle.table_keys.specs.States.{KeysState}
use Rattle.db_state.specs.declared.parts.Parts.{Parts}
use Rattle.sought_ids.specs.Found.{AreAmong}
use Rattle.sought_ids.specs.SeekPlace.{SeekPlace}
use Rattle.sought_ids.specs.Sought.{AreClosed, AreEnough, KeptState}
use Rattle.write_plans.specs.Making.{IsMaking}
use Rattle.write_plans.specs.declared.making.Making.{Making}
use Rattle.write_propagation.specs.declared.parting.PartMade.{PartMade}
use Rattle.write_propagation.specs.declared.parting.Tried.{Tried}
use Rattle.write_propagation.specs.declared.parting.Tried.TheVariants.{Made, More, Never}
use Rattle.write_plans.specs.declared.plans.RowWrite.{RowWrite}
use Rattle.write_plans.specs.declared.tree.Tree.{Tree}

-- the identifiers that changes name
abbrev pub named_in : List Change → List ℕ
named_in changes = map (λ (change : Change). change.id) changes

-- what is kept beside a database: keys, and its memories
abbrev pub kept_with : {O : Type 0} → Parts O → List (Numbered KeysState) → KeptState
kept_with d items = record { keys = items; memories = d.memories }

-- identifiers that are closed over the tree by kept keys, and hold those that the changes name
abbrev pub ClosesTree : {O : Type 0} → (O → Meaning) → (O → Option SeekPlace) → Parts O → List (Numbered KeysState) → Tree → RowWrite → List ℕ → Type 0
ClosesTree meaning seeks d items tree w ids = AreClosed meaning seeks d.graph.edges (kept_with d items) tree.operators (named_in w.changes) ids

-- what was carried names such identifiers alone, or some that weren't drawn before the write
abbrev pub NamesPart : {O : Type 0} → Parts O → List ℕ → Making → Type 0
NamesPart d ids making = (t : ℕ) → AllPass (passes ids d.ids.next) (latest_changes making.made.tables t)

-- and they see all that it does, with those that were drawn
abbrev pub SeesTree : {O : Type 0} → (O → Meaning) → (O → Option SeekPlace) → Parts O → List (Numbered KeysState) → Tree → RowWrite → List ℕ → Making → Type 0
SeesTree meaning seeks d items tree w ids making = AreEnough meaning seeks d.graph.edges (kept_with d items) making.made.tables w.set tree.operators (with_drawn ids d.ids.next making.made.ids.next)

-- THE PART OF A WRITE: what the write makes of what stands at these identifiers, which see all that it does
pub record IsPartMade {O : Type 0} (meaning : O → Meaning) (seeks : O → Option SeekPlace) (d : Parts O) (items : List (Numbered KeysState)) (tree : Tree) (w : RowWrite) (part : PartMade) : Type 0 where
  pub closed : ClosesTree meaning seeks d items tree w part.ids
  pub making : IsMaking meaning d tree w (has_id part.ids) (λ id. true) part.making
  pub names : NamesPart d part.ids part.making
  pub enough : SeesTree meaning seeks d items tree w part.ids part.making

-- what a try came to: such a part, or identifiers that hold those which the changes name
abbrev pub IsTried : {O : Type 0} → (O → Meaning) → (O → Option SeekPlace) → Parts O → List (Numbered KeysState) → Tree → RowWrite → Tried → Type 0
IsTried meaning seeks d items tree w (Made part) = IsPartMade meaning seeks d items tree w part
IsTried meaning seeks d items tree w (More ids) = AreAmong (named_in w.changes) ids
IsTried meaning seeks d items tree w Never = ⊤
