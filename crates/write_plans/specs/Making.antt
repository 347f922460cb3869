-- What inner calls suppose and ensure of a write that is made of what is seen of its tree.
use Rattle.std.specs.Prelude.{◌≡◌, ℕ, ◌+◌, ◌*◌, ◌≤◌, Bool, true, List, [], ◌∷◌, length, Result, Ok, Err, ⊤}
use Rattle.par_base.specs.declared.fault.Fault.{Fault}
use Rattle.par_base.specs.declared.fault.Fault.TheVariants.{Refused, Memory}
use Rattle.par_base.specs.declared.refusal.IdsSpent.{IdsSpent}
use Rattle.row_store.specs.Changes.{AreOld}
use Rattle.version_graph.specs.Sets.{Each, In}
use Rattle.version_graph.specs.Edges.{numbers}
use Rattle.version_graph.specs.Forest.{Link, forest, walk}
use Rattle.version_graph.specs.declared.parts.Placed.{Placed}
use Rattle.op_law.specs.Calls.{IsSpent, first_refused}
use Rattle.op_law.specs.Identifiers.{IdsRise, has_id}
use Rattle.op_law.specs.Local.{only, rows_only}
use Rattle.op_law.specs.Meaning.{Meaning}
use Rattle.pair_changes.specs.declared.change.PairChange.{PairChange}
use Rattle.op_law.specs.Tables.{Tables}
use Rattle.row_changes.specs.Changed.{TableChanges}
use Rattle.row_changes.specs.Differences.{AreDifferences}
use Rattle.row_changes.specs.Touched.{AllPass}
use Rattle.row_changes.specs.declared.change.SideChanges.{SideChanges}
use Rattle.changes_walk.specs.Calls.{CarriesBy}
use Rattle.changes_walk.specs.Reach.{reached}
use Rattle.changes_walk.specs.Changing.{AreOfState, changing_state, latest_changes}
use Rattle.changes_walk.specs.declared.progress.Changing.{Changing}
use Rattle.version_model.specs.Bounds.{AreLocal}
use Rattle.version_model.specs.Kept.{auxes_at, numbers_in, pairs_at, rows_at}
use Rattle.version_model.specs.States.{State}
use Rattle.version_model.specs.Writes.{MayWrite, write}
use Rattle.version_model.specs.declared.numbered.Numbered.{Numbered}
use Rattle.storage_law.specs.Storage.{aux_of, stored_way}
use Rattle.db_state.specs.Calls.{IsRelatedAt}
use Rattle.db_state.specs.Fields.{IsDatabase, state_for}
use Rattle.db_state.specs.Parts.{AreLocalAt}
use Rattle.db_state.specs.declared.parts.Parts.{Parts}
use Rattle.db_state.specs.declared.sight.Sight.{Sight}
use Rattle.db_state.specs.declared.sight.Sight.TheVariants.{All, Of, Part}
use Rattle.write_plans.specs.Calls.{AreChangesNow, AreMemoryChangesNow, stored_in}
use Rattle.write_plans.specs.Plans.{rows_written}
use Rattle.write_plans.specs.Told.{changed_of}
use Rattle.write_plans.specs.Trees.{IsTree, part}
use Rattle.write_plans.specs.declared.copies.Copies.{Copies}
use Rattle.write_plans.specs.declared.making.Making.{Making}
use Rattle.write_plans.specs.declared.plans.Plan.{Plan}
use Rattle.write_plans.specs.declared.plans.RowWrite.{RowWrite}
use Rattle.write_plans.specs.declared.tree.Tree.{Tree}

-- the write of a tree may be planned
pub record MayPlan {O : Type 0} (meaning : O → Meaning) (d : Parts O) (tree : Tree) (w : RowWrite) : Type 0 where
  pub kept : IsDatabase meaning d
  pub walked : IsTree d.graph.edges w.set w.table tree
  pub lives : In w.set (numbers d.graph.edges)
  pub may : MayWrite d.graph.edges (state_for meaning d) w.set w.table (rows_written meaning d w) w.ids.next
  pub old : AreOld ((state_for meaning d).tables w.table) w.changes
  pub drawn : w.ids.next ≤ first_refused d.ids
  pub limit : w.ids.limit ≡ d.ids.limit

-- the write of what is seen is what is seen of the write: of all rows, or of a list of identifiers, where each operator treats each identifier by itself
abbrev pub MayShow : {O : Type 0} → (O → Meaning) → List (Placed O) → List ℕ → Sight → Type 0
MayShow meaning es ns All = ⊤
MayShow meaning es ns (Of ids) = IdsRise 0 ids.now × AreLocalAt meaning es ns
MayShow meaning es ns (Part ids) = ⊥

-- which identifiers the changes of a write name, of what is seen: any, or those of a list over operators that treat each by itself
abbrev pub names_of : Sight → ℕ → Bool
names_of All id = true
names_of (Of ids) id = has_id ids.now id
names_of (Part ids) id = true

-- the state after the write, of what passes the test alone
abbrev pub seen_write : {O : Type 0} → (O → Meaning) → Parts O → Tree → RowWrite → (ℕ → Bool) → State
seen_write meaning d tree w test = write meaning d.graph.edges (part test tree (state_for meaning d)) w.set w.table (rows_only test (rows_written meaning d w)) w.ids.next

-- ---- carrying

-- what was copied of a tree, as a state
abbrev pub copied_state : Copies → ℕ → State
copied_state copies next = record { tables = rows_at copies.tables; memory = pairs_at copies.memories; next = next }

-- the changes of the written table alone
abbrev pub first_changes : RowWrite → Changing
first_changes w = record { tables = record { number = w.table; value = w.changes } ∷ []; memories = []; ids = w.ids }

-- they were carried along the walk over these operators, or an identifier is needed that the counter doesn't give
abbrev pub CarriesWrite : {O : Type 0} → (O → Meaning) → List (Placed O) → State → RowWrite → List ℕ → Result Changing (Fault IdsSpent) → Type 0
CarriesWrite meaning es old w operators (Ok made) =
    CarriesBy meaning es old w.set (first_changes w) made (Ok tt) × ((ids : List ℕ) → AreLocal meaning (reached operators (walk (forest es) w.set)) → AllPass (has_id ids) w.changes → (t : ℕ) → AllPass (has_id ids) (latest_changes made.tables t))
CarriesWrite meaning es old w operators (Err fault) = CarriesBy meaning es old w.set (first_changes w) (first_changes w) (Err fault)

-- with at most six steps for each operator and each identifier that the changes name, where each operator treats each identifier by itself
abbrev pub CarriesWriteWithin : {O : Type 0} → (O → Meaning) → List (Placed O) → RowWrite → List ℕ → ℕ → ℕ → Type 0
CarriesWriteWithin meaning es w operators old new =
    let path = reached operators (walk (forest es) w.set) in
    (ids : List ℕ) → IdsRise 0 ids → AreLocal meaning path → AllPass (has_id ids) w.changes → new ≤ old + 6 * (length ids * length path)

-- ---- making

-- the state that was made
abbrev pub made_over : Making → State
made_over m = changing_state (copied_state m.copies m.made.ids.next) m.made

-- what was copied is what passes the test, and what was made of it the write of that; the changes are of what was copied, and name what passes another one alone
pub record IsMaking {O : Type 0} (meaning : O → Meaning) (d : Parts O) (tree : Tree) (w : RowWrite) (test names : ℕ → Bool) (making : Making) : Type 0 where
  pub tables : (t : ℕ) → rows_at making.copies.tables t ≡ (part test tree (state_for meaning d)).tables t
  pub memories : (n : ℕ) → pairs_at making.copies.memories n ≡ (part test tree (state_for meaning d)).memory n
  pub made : made_over making ≡ seen_write meaning d tree w test
  pub fits : AreOfState (copied_state making.copies making.made.ids.next) making.made.tables
  pub pass : (t : ℕ) → AllPass names (latest_changes making.made.tables t)
  pub within : (seen_write meaning d tree w test).next ≤ first_refused w.ids
  pub limit : making.made.ids.limit ≡ w.ids.limit

-- it was made, or needs an identifier that the counter doesn't give
abbrev pub MakesWrite : {O : Type 0} → (O → Meaning) → Parts O → Tree → RowWrite → (ℕ → Bool) → (ℕ → Bool) → Result Making (Fault IdsSpent) → Type 0
MakesWrite meaning d tree w test names (Ok making) = IsMaking meaning d tree w test names making
MakesWrite meaning d tree w test names (Err (Refused spent)) = IsSpent (seen_write meaning d tree w test).next w.ids w.ids spent
MakesWrite meaning d tree w test names (Err (Memory memory)) = ⊤

-- ---- auxiliary tables

-- the auxiliary tables of an operator in a state
abbrev pub auxes_over : {O : Type 0} → (O → Meaning) → Parts O → State → Link O → Tables
auxes_over meaning d s e = aux_of meaning s (stored_way d.layout.operators e)

-- the difference of those that are seen before and of those that were made
abbrev pub IsAuxChange : {O : Type 0} → (O → Meaning) → Parts O → (ℕ → Bool) → Making → ℕ → TableChanges → Type 0
IsAuxChange {O} meaning d test making n changes = (e : Link O) → In e (forest d.graph.edges) → e.number ≡ n → AreDifferences (only test (auxes_at d.aux n)) (auxes_over meaning d (made_over making) e) changes

-- it may be taken: the operator relates both sides in what was copied and in what was made, and what is seen of its auxiliary tables is that of what was copied
pub record MayChangeAuxAt {O : Type 0} (meaning : O → Meaning) (d : Parts O) (test names : ℕ → Bool) (making : Making) (n : ℕ) : Type 0 where
  pub kept : IsDatabase meaning d
  pub fits : AreOfState (copied_state making.copies making.made.ids.next) making.made.tables
  pub pass : (t : ℕ) → AllPass names (latest_changes making.made.tables t)
  pub old : IsRelatedAt meaning d.graph.edges (copied_state making.copies d.ids.next) n
  pub new : IsRelatedAt meaning d.graph.edges (made_over making) n
  pub aux : (e : Link O) → In e (forest d.graph.edges) → e.number ≡ n → only test (auxes_at d.aux n) ≡ auxes_over meaning d (copied_state making.copies d.ids.next) e

abbrev pub MayChangeAuxes : {O : Type 0} → (O → Meaning) → Parts O → (ℕ → Bool) → (ℕ → Bool) → Making → List ℕ → Type 0
MayChangeAuxes meaning d test names making ns = Each (MayChangeAuxAt meaning d test names making) ns

-- they were taken of each of these operators
pub record AreAuxChanges {O : Type 0} (meaning : O → Meaning) (d : Parts O) (test : ℕ → Bool) (making : Making) (ns : List ℕ) (items : List (Numbered SideChanges)) : Type 0 where
  pub listed : numbers_in items ≡ ns
  pub values : (i : Numbered SideChanges) → In i items → IsAuxChange meaning d test making i.number i.value.tables

-- ---- the plan

-- the plan of what was made: the changes of the stored tables of the tree, and of the auxiliary tables and the memories of its operators; and those of its tables that get other rows, and what was carried to them
pub record IsPlanOf {O : Type 0} (meaning : O → Meaning) (d : Parts O) (tree : Tree) (test : ℕ → Bool) (making : Making) (plan : Plan) : Type 0 where
  pub stored : AreChangesNow making.made.tables (stored_in d tree) plan.stored
  pub auxes : AreAuxChanges meaning d test making tree.operators plan.auxes
  pub memories : AreMemoryChangesNow making.copies.memories making.made.memories tree.operators plan.memories
  pub ids : plan.ids ≡ making.made.ids
  pub changed : plan.changed ≡ changed_of making.made.tables tree.tables
  pub carried : plan.carried ≡ making.made.tables

-- the plan of what was made, whatever was copied, with these changes of auxiliary tables and memories
abbrev pub IsPlanWith : {O : Type 0} → (O → Meaning) → Parts O → Tree → Changing → List (Numbered SideChanges) → List (Numbered (List PairChange)) → Plan → Type 0
IsPlanWith meaning d tree made auxes memories plan =
    (test : ℕ → Bool) (copies : Copies) → let making : Making = record { copies = copies; made = made } in
    AreAuxChanges meaning d test making tree.operators auxes → AreMemoryChangesNow copies.memories made.memories tree.operators memories → IsPlanOf meaning d tree test making plan
