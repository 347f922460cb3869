-- A version is dropped: its name goes, and with it each operator that no name needs any longer.
use Rattle.std.specs.Prelude.{◌≡◌, ℕ, cond, List, [], ◌∷◌, None, Result, Ok, Err, ⊤}
use Rattle.std.specs.Option.{IsSome}
use Rattle.std.specs.Str.{bytes_eq}
use Rattle.std.specs.Map.{remove_entry}
use Rattle.par_base.specs.declared.fault.Fault.{Fault}
use Rattle.par_base.specs.declared.fault.Fault.TheVariants.{Refused, Memory}
use Rattle.par_base.specs.declared.refusal.Refusal.{Refusal}
use Rattle.par_base.specs.declared.refusal.Refusal.TheVariants.{UnknownVersion}
use Rattle.version_graph.specs.Sets.{In}
use Rattle.version_graph.specs.Edges.{Drawn, is_in, numbers, set_named, version_sets, working}
use Rattle.version_graph.specs.declared.parts.Placed.{Placed}

-- Parents are older. So in one pass, the newest edge first, an edge stays where its working set is needed: it has a name, or an edge that stays begins there.

-- the edges that stay, where these working sets are needed
abbrev pub staying : {O : Type 0} → List ℕ → List (Placed O) → List (Placed O)
staying needed [] = []
staying needed (e ∷ es) = cond (is_in e.number needed) (e ∷ staying (e.parent ∷ needed) es) (staying needed es)

-- the operators of the others, leaves first
abbrev pub doomed : {O : Type 0} → List ℕ → List (Placed O) → List ℕ
doomed needed [] = []
doomed needed (e ∷ es) = cond (is_in e.number needed) (doomed (e.parent ∷ needed) es) (e.number ∷ doomed needed es)

-- the versions without one of this name
abbrev pub other_versions : List (List ℕ × ℕ) → List ℕ → List (List ℕ × ℕ)
other_versions versions name = remove_entry (bytes_eq name) versions

-- the graph after a drop
abbrev pub dropped : {O : Type 0} → Drawn O → List ℕ → Drawn O
dropped g name = record {
  edges = staying (version_sets (other_versions g.versions name)) g.edges;
  versions = other_versions g.versions name;
  last_operator = g.last_operator;
  last_table = g.last_table;
}

-- each working set that stays is as it was
abbrev pub LeavesSets : {O : Type 0} → Drawn O → Drawn O → Type 0
LeavesSets old new = (w : ℕ) → In w (numbers new.edges) → working new.edges w ≡ working old.edges w

-- what is told of a drop
abbrev pub Dooms : {O : Type 0} → Drawn O → List ℕ → Result (List ℕ) (Fault Refusal) → Type 0
Dooms g name (Ok gone) = IsSome (set_named g.versions name) × (gone ≡ doomed (version_sets (other_versions g.versions name)) g.edges)
Dooms g name (Err (Refused r)) = (set_named g.versions name ≡ None) × (r ≡ UnknownVersion name)
Dooms g name (Err (Memory memory)) = ⊤
