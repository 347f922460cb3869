-- What the inner calls of an evolution suppose and ensure.
use Rattle.std.specs.Prelude.{◌≡◌, ℕ, ◌≤◌, List, [], ◌++◌, Result, Ok, Err, ⊤}
use Rattle.par_base.specs.declared.fault.Fault.{Fault}
use Rattle.par_base.specs.declared.fault.Fault.TheVariants.{Refused, Memory as OutOfMemory}
use Rattle.par_base.specs.declared.refusal.IdsSpent.{IdsSpent}
use Rattle.row_store.specs.States.{TableState}
use Rattle.version_graph.specs.Sets.{In, Each}
use Rattle.version_graph.specs.Edges.{numbers}
use Rattle.version_graph.specs.Forest.{Link, forest}
use Rattle.op_law.specs.Meaning.{Meaning}
use Rattle.op_law.specs.Calls.{IsSpent, first_refused}
use Rattle.version_model.specs.States.{State}
use Rattle.version_model.specs.Kept.{pairs_at, rows_at, auxes_at, numbers_in}
use Rattle.version_model.specs.Making.{MayMake, newer, with_links}
use Rattle.version_model.specs.declared.numbered.Numbered.{Numbered}
use Rattle.storage_law.specs.Storage.{aux_of, stored_way}
use Rattle.db_state.specs.Calls.{IsRelatedAt}
use Rattle.db_state.specs.declared.parts.Parts.{Parts}
use Rattle.db_evolution.specs.News.{IsLaidOver, created_in, creates_in, newer_edges}
use Rattle.db_evolution.specs.declared.contents.Contents.{Contents}
use Rattle.db_evolution.specs.declared.contents.Places.{Places}
use Rattle.db_evolution.specs.declared.fresh.Fresh.{Fresh}

-- the state of the source tables alone
abbrev pub sources_state : List (Numbered TableState) → ℕ → State
sources_state sources next = record { tables = rows_at sources; memory = pairs_at []; next = next }

-- that state with the new operators
abbrev pub filled_state : {O : Type 0} → (O → Meaning) → Parts O → ℕ → List (Numbered TableState) → State
filled_state meaning p first sources = with_links meaning (sources_state sources p.ids.next) (newer p.graph.edges first)

-- the new operators may be made of these sources, and then relate their sides
pub record MayFill {O : Type 0} (meaning : O → Meaning) (p : Parts O) (first : ℕ) (sources : List (Numbered TableState)) : Type 0 where
  pub may : MayMake meaning (sources_state sources p.ids.next) (newer p.graph.edges first)
  pub related : Each (IsRelatedAt meaning p.graph.edges (filled_state meaning p first sources)) (numbers (newer_edges p.graph.edges first))

-- a place for each value that is kept, and for each new one
pub record HasPlaces {O : Type 0} (p : Parts O) (fresh : Fresh) (places : Places) : Type 0 where
  pub stored : numbers_in places.stored ≡ numbers_in p.stored ++ fresh.tables
  pub aux : numbers_in places.aux ≡ numbers_in p.aux ++ fresh.operators
  pub memories : numbers_in places.memories ≡ numbers_in p.memories ++ fresh.operators

-- a place for all that is kept after an evolution, with the new values in theirs
pub record IsFilled {O : Type 0} (meaning : O → Meaning) (p : Parts O) (first : ℕ) (end : State) (new : Contents) : Type 0 where
  pub layout : new.layout.operators ≡ p.layout.operators ++ creates_in (newer_edges p.graph.edges first)
  pub tables : numbers_in new.stored ≡ numbers_in p.stored ++ created_in (newer_edges p.graph.edges first)
  pub rows : (f : Link O) → In f (newer p.graph.edges first) → (t : ℕ) → In t f.targets → In t (numbers_in new.stored) → rows_at new.stored t ≡ end.tables t
  pub operators : numbers_in new.aux ≡ numbers_in p.aux ++ numbers (newer_edges p.graph.edges first)
  pub aux : (e : Link O) → In e (forest p.graph.edges) → In e.number (numbers (newer_edges p.graph.edges first)) → auxes_at new.aux e.number ≡ aux_of meaning end (stored_way new.layout.operators e)
  pub memories : numbers_in new.memories ≡ numbers_in p.memories ++ numbers (newer_edges p.graph.edges first)
  pub memory : (f : Link O) → In f (newer p.graph.edges first) → In f.number (numbers_in new.memories) → pairs_at new.memories f.number ≡ end.memory f.number
  pub next : new.ids.next ≡ end.next
  pub limit : new.ids.limit ≡ p.ids.limit
  pub within : end.next ≤ first_refused p.ids

-- the new values were made, or one needs an identifier that the counter doesn't give
abbrev pub Fills : {O : Type 0} → (O → Meaning) → Parts O → ℕ → List (Numbered TableState) → Result Contents (Fault IdsSpent) → Type 0
Fills meaning p first sources (Ok new) = IsFilled meaning p first (filled_state meaning p first sources) new
Fills meaning p first sources (Err (Refused spent)) = IsSpent (filled_state meaning p first sources).next p.ids p.ids spent
Fills meaning p first sources (Err (OutOfMemory memory)) = ⊤

-- what is kept is the new contents, with the older values in their places
pub record Installs {O : Type 0} (old : Parts O) (contents : Contents) (new : Parts O) : Type 0 where
  pub graph : new.graph ≡ old.graph
  pub layout : new.layout ≡ contents.layout
  pub stored : IsLaidOver contents.stored old.stored new.stored
  pub aux : IsLaidOver contents.aux old.aux new.aux
  pub memories : IsLaidOver contents.memories old.memories new.memories
  pub ids : new.ids ≡ contents.ids
