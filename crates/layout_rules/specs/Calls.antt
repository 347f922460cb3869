-- What inner calls of closing answer.
use Rattle.std.specs.Prelude.{◌≡◌, ℕ, true, false, List, ◌∷◌, ◌++◌, Some, None, Result, Ok, Err, ⊤}
use Rattle.std.specs.List.{find, list_all}
use Rattle.par_base.specs.declared.fault.Fault.{Fault}
use Rattle.par_base.specs.declared.fault.Fault.TheVariants.{Refused, Memory}
use Rattle.par_base.specs.declared.limits.Target.{Target}
use Rattle.par_base.specs.declared.refusal.Refusal.{Refusal}
use Rattle.par_base.specs.declared.refusal.Refusal.TheVariants.{InvalidLayout}
use Rattle.version_graph.specs.Edges.{Drawn, heading_of}
use Rattle.version_graph.specs.declared.parts.Heading.{Heading}
use Rattle.layout_rules.specs.Closing.{RefusesUnknown, first_unknown, named_tables, tables_of, target_text}
use Rattle.layout_rules.specs.Lookups.{is_shared, stores_found, tables_up}

-- the refusal that tells a target
abbrev pub TellsTarget : Target → Fault Refusal → Type 0
TellsTarget target (Refused r) = r ≡ InvalidLayout (target_text target)
TellsTarget target (Memory memory) = ⊤

-- the tables of a target are added, or it is unknown
abbrev pub AddsTables : {O : Type 0} → Drawn O → Target → List ℕ → List ℕ → Result (Unit {0}) (Fault Refusal) → Type 0
AddsTables g target made new (Ok done) = (ts : List ℕ) × (tables_of g target ≡ Some ts) × (new ≡ made ++ ts)
AddsTables g target made new (Err (Refused r)) = (tables_of g target ≡ None) × (r ≡ InvalidLayout (target_text target))
AddsTables g target made new (Err (Memory memory)) = ⊤

-- the tables of all targets, or the first unknown one
abbrev pub KnowsTables : {O : Type 0} → Drawn O → List Target → Result (List ℕ) (Fault Refusal) → Type 0
KnowsTables g named (Ok made) = (first_unknown g named ≡ None) × (made ≡ named_tables g named)
KnowsTables g named (Err (Refused r)) = RefusesUnknown g named r
KnowsTables g named (Err (Memory memory)) = ⊤

-- the refusal that tells a table
abbrev pub TellsTable : {O : Type 0} → Drawn O → ℕ → Fault Refusal → Type 0
TellsTable g t (Refused r) = (h : Heading) × (heading_of g.edges t ≡ Some h) × (r ≡ InvalidLayout h.name)
TellsTable g t (Memory memory) = ⊤

-- none of the operators share a table, or the first one is told
abbrev pub SharesNone : {O : Type 0} → Drawn O → List ℕ → Result (Unit {0}) (Fault Refusal) → Type 0
SharesNone g wanted (Ok done) = find (is_shared g.edges wanted) (tables_up g.edges) ≡ None
SharesNone g wanted (Err fault) = (t : ℕ) × (find (is_shared g.edges wanted) (tables_up g.edges) ≡ Some t) × TellsTable g t fault

-- each target is stored, or the first one is told that isn't
abbrev pub StoresAll : {O : Type 0} → Drawn O → List ℕ → List Target → Result (Unit {0}) (Fault Refusal) → Type 0
StoresAll g layout named (Ok done) = list_all (stores_found g layout) named ≡ true
StoresAll g layout named (Err (Refused r)) =
    (before : List Target) × (target : Target) × (after : List Target) × (named ≡ before ++ target ∷ after) × (list_all (stores_found g layout) before ≡ true) × (stores_found g layout target ≡ false) × (r ≡ InvalidLayout (target_text target))
StoresAll g layout named (Err (Memory memory)) = ⊤
