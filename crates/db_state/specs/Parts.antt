-- Parts: reading the rows and the entries of some identifiers alone.
use Rattle.std.specs.Prelude.{◌≡◌, ◌↔◌, ℕ, ◌+◌, ◌*◌, ◌≤◌, Bool, true, false, cond, List, [], ◌∷◌, length, ⊤}
use Rattle.row_store.specs.Rows.{Rows}
use Rattle.id_memory.specs.Pairs.{Pairs}
use Rattle.version_graph.specs.Sets.{In}
use Rattle.version_graph.specs.Edges.{is_in}
use Rattle.version_graph.specs.Forest.{Link, crossing, forest}
use Rattle.version_graph.specs.declared.parts.Placed.{Placed}
use Rattle.layout_rules.specs.Ways.{IsOnWay}
use Rattle.op_law.specs.Identifiers.{IdsRise, has_id}
use Rattle.op_law.specs.Local.{rows_only}
use Rattle.op_law.specs.Meaning.{Meaning}
use Rattle.op_law.specs.Tables.{Heading}
use Rattle.pair_parts.specs.Parts.{memory_only}
use Rattle.pair_parts.specs.Splits.{Splits}
use Rattle.version_model.specs.States.{State, headings}
use Rattle.version_model.specs.Steps.{IsRelated, pair_in}
use Rattle.db_state.specs.declared.sight.Sight.{Sight}
use Rattle.db_state.specs.declared.sight.Sight.TheVariants.{All, Of, Part}

-- whether the rows and entries of an identifier are seen: all of them, or those of a list
abbrev pub passes : Sight → ℕ → Bool
passes All id = true
passes (Of ids) id = has_id ids.now id
passes (Part ids) id = has_id ids.now id

-- of each table, the rows that are seen
abbrev pub seen_of : Sight → (ℕ → Rows) → ℕ → Rows
seen_of sight tables t = rows_only (passes sight) (tables t)

-- of each memory, the entries that are seen
abbrev pub entries_of : Sight → (ℕ → Pairs) → ℕ → Pairs
entries_of sight memories n = memory_only (passes sight) (memories n)

-- a list of identifiers ascends
abbrev pub Ascends : Sight → Type 0
Ascends All = ⊤
Ascends (Of ids) = IdsRise 0 ids.now
Ascends (Part ids) = IdsRise 0 ids.now

-- each live operator that is one of these treats each identifier by itself
abbrev pub AreLocalAt : {O : Type 0} → (O → Meaning) → List (Placed O) → List ℕ → Type 0
AreLocalAt {O} meaning es ns = (e : Link O) → In e (forest es) → In e.number ns → (meaning e.operator).is_local ≡ true

-- the identifiers that pass split what the operator relates in the state
abbrev pub SplitsOver : {O : Type 0} → (O → Meaning) → (ℕ → Heading) → State → (ℕ → Bool) → Link O → Type 0
SplitsOver meaning heading s P e = IsRelated meaning heading s (crossing false e) → Splits (meaning e.operator) (pair_in s (crossing false e)) P

-- they do so at each live operator that is one of these
abbrev pub SplitsAt : {O : Type 0} → (O → Meaning) → List (Placed O) → State → List ℕ → (ℕ → Bool) → Type 0
SplitsAt {O} meaning es s ns P = (e : Link O) → In e (forest es) → In e.number ns → SplitsOver meaning (headings es) s P e

-- what is seen of the state is read over these operators: a list of identifiers, where each operator treats each identifier by itself, or where they split what each relates
abbrev pub MaySee : {O : Type 0} → (O → Meaning) → List (Placed O) → State → List ℕ → Sight → Type 0
MaySee meaning es s ns All = ⊤
MaySee meaning es s ns (Of ids) = IdsRise 0 ids.now × AreLocalAt meaning es ns
MaySee meaning es s ns (Part ids) = IdsRise 0 ids.now × SplitsAt meaning es s ns (has_id ids.now)

-- how many of some operators are listed
abbrev pub listed_in : {O : Type 0} → List ℕ → List (Link O) → ℕ
listed_in ns [] = 0
listed_in ns (e ∷ es) = cond (is_in e.number ns) 1 0 + listed_in ns es

-- of a list of identifiers over operators that treat each by itself, at most so many steps for each of them and each of so many operators
abbrev pub SeenWithin : ℕ → Sight → ℕ → ℕ → ℕ → Type 0
SeenWithin most All count old new = ⊤
SeenWithin most (Of ids) count old new = new ≤ old + most * (length ids.now * count)
SeenWithin most (Part ids) count old new = ⊤

-- the operators on the way of a table to storage
abbrev pub IsWay : {O : Type 0} → List (Placed O) → List ℕ → ℕ → List ℕ → Type 0
IsWay es layout t ns = (n : ℕ) → In n ns ↔ IsOnWay (forest es) layout t n

-- each operator on the way of a table treats each identifier by itself
abbrev pub IsLocalWay : {O : Type 0} → (O → Meaning) → List (Placed O) → List ℕ → ℕ → Type 0
IsLocalWay {O} meaning es layout t = (e : Link O) → In e (forest es) → IsOnWay (forest es) layout t e.number → (meaning e.operator).is_local ≡ true

-- over a way of such operators, what is seen of a table takes two steps for each identifier and operator
abbrev pub WayWithin : {O : Type 0} → (O → Meaning) → List (Placed O) → List ℕ → ℕ → Sight → ℕ → ℕ → Type 0
WayWithin meaning es layout t sight old new = IsLocalWay meaning es layout t → (ns : List ℕ) → IsWay es layout t ns → SeenWithin 2 sight (listed_in ns (forest es)) old new

-- and a row takes two for each operator
abbrev pub RowWithin : {O : Type 0} → (O → Meaning) → List (Placed O) → List ℕ → ℕ → ℕ → ℕ → Type 0
RowWithin meaning es layout t old new = IsLocalWay meaning es layout t → (ns : List ℕ) → IsWay es layout t ns → new ≤ old + 2 * listed_in ns (forest es)
