-- Every table is read back from what is stored.
use Rattle.std.specs.Prelude.{◌≡◌, ℕ, true, false, cond, List, [], ◌∷◌, map}
use Rattle.row_store.specs.Rows.{Rows}
use Rattle.version_graph.specs.Edges.{is_in}
use Rattle.version_graph.specs.Forest.{Crossing, Link, crossing}
use Rattle.op_law.specs.Tables.{Tables}
use Rattle.op_law.specs.Meaning.{Meaning}
use Rattle.version_model.specs.Put.{put}
use Rattle.version_model.specs.Steps.{directed}
use Rattle.storage_law.specs.Storage.{Storage}

-- the source of each operator is read back from its target, the auxiliary tables and the memory
abbrev pub ReadsSources : {O : Type 0} → (O → Meaning) → Type 0
ReadsSources {O} meaning = (o : O) → (meaning o).reads_source ≡ true

-- the far side of a crossing, read from its near one
abbrev pub far_read : {O : Type 0} → (O → Meaning) → Storage → Crossing O → (ℕ → Rows) → Tables
far_read meaning storage p rows = (directed p.backward (meaning p.operator)).read_target (map rows p.near) (storage.aux p.number) (storage.memory p.number)

-- the tables that are known, with the far side of a crossing
abbrev pub reach : {O : Type 0} → (O → Meaning) → Storage → Crossing O → (ℕ → Rows) → ℕ → Rows
reach meaning storage p rows = put rows p.far (far_read meaning storage p rows)

-- the operators of the layout, the newest first: each gives its source side
abbrev pub read_down : {O : Type 0} → (O → Meaning) → Storage → List (Link O) → (ℕ → Rows) → ℕ → Rows
read_down meaning storage [] rows = rows
read_down meaning storage (e ∷ es) rows = read_down meaning storage es (cond (is_in e.number storage.layout) (reach meaning storage (crossing true e) rows) rows)

-- the others, the oldest first: each gives its target side
abbrev pub read_up : {O : Type 0} → (O → Meaning) → Storage → List (Link O) → (ℕ → Rows) → ℕ → Rows
read_up meaning storage [] rows = rows
read_up meaning storage (e ∷ es) rows = cond (is_in e.number storage.layout) (read_up meaning storage es rows) (reach meaning storage (crossing false e) (read_up meaning storage es rows))

-- every table: down and then up, from the stored ones
abbrev pub read_all : {O : Type 0} → (O → Meaning) → Storage → List (Link O) → ℕ → Rows
read_all meaning storage es = read_up meaning storage es (read_down meaning storage es storage.stored)
