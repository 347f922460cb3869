-- The layout that closing gives, or its refusal, as a pass finds them.
use Rattle.std.specs.Prelude.{ℕ, not, List, filter, Option, Some, None, option_map, option_and_then, Result, Ok, Err}
use Rattle.std.specs.List.{find}
use Rattle.par_base.specs.declared.fault.Fault.{Fault}
use Rattle.par_base.specs.declared.fault.Fault.TheVariants.{Refused}
use Rattle.par_base.specs.Checked.{Checked, Gives}
use Rattle.par_base.specs.declared.limits.Target.{Target}
use Rattle.par_base.specs.declared.refusal.Refusal.{Refusal}
use Rattle.par_base.specs.declared.refusal.Refusal.TheVariants.{InvalidLayout}
use Rattle.version_graph.specs.Edges.{Drawn, heading_of}
use Rattle.version_graph.specs.Forest.{forest}
use Rattle.version_graph.specs.declared.parts.Heading.{Heading}
use Rattle.layout_rules.specs.Closing.{Closes, first_unknown, named_tables, named_trees, target_text}
use Rattle.layout_rules.specs.Lookups.{in_trees, is_shared, numbers_up, stays, stores_found, tables_up}
use Rattle.layout_rules.specs.Passes.{needed}
use Rattle.layout_rules.specs.declared.layout.Layout.{Layout}

-- the operators of the named trees that are needed for the named tables
abbrev pub wanted : {O : Type 0} → Drawn O → List Target → List ℕ
wanted g named = needed (in_trees g.edges (named_trees g named)) (forest g.edges) (named_tables g named)

-- in the named trees those, and elsewhere those of the layout
abbrev pub closed_layout : {O : Type 0} → Drawn O → List ℕ → List Target → List ℕ
closed_layout g layout named = filter (stays g.edges (named_trees g named) (wanted g named) layout) (numbers_up g.edges)

-- the first table that two of them take, and the first target with a table that isn't stored then
abbrev pub first_shared : {O : Type 0} → Drawn O → List Target → Option ℕ
first_shared g named = find (is_shared g.edges (wanted g named)) (tables_up g.edges)

abbrev pub first_unstored : {O : Type 0} → Drawn O → List ℕ → List Target → Option Target
first_unstored g layout named = find (λ target. not (stores_found g (closed_layout g layout named) target)) named

-- the refusals that tell them
abbrev pub tells_target : Target → Refusal
tells_target target = InvalidLayout (target_text target)

abbrev pub tells_table : {O : Type 0} → Drawn O → ℕ → Option Refusal
tells_table g t = option_map (λ (h : Heading). InvalidLayout h.name) (heading_of g.edges t)

abbrev pub or_else : Option Refusal → Option Refusal → Option Refusal
or_else (Some r) more = Some r
or_else None more = more

-- the first of the three refusals
abbrev pub closing_refusal : {O : Type 0} → Drawn O → List ℕ → List Target → Option Refusal
closing_refusal g layout named =
    or_else (option_map tells_target (first_unknown g named))
    (or_else (option_and_then (tells_table g) (first_shared g named))
    (option_map tells_target (first_unstored g layout named)))

abbrev pub unless : {X : Type 0} → Option Refusal → X → Result X Refusal
unless (Some r) x = Err r
unless None x = Ok x

-- WHAT CLOSING GIVES
abbrev pub closing : {O : Type 0} → Drawn O → List ℕ → List Target → Result (List ℕ) Refusal
closing g layout named = unless (closing_refusal g layout named) (closed_layout g layout named)

-- a call gives it, or wants memory
abbrev pub GivesLayout : Checked (List ℕ) → Result Layout (Fault Refusal) → Type 0
GivesLayout model result = Gives (λ (new : Layout). new.operators) result model

-- it is what is told by sets
abbrev pub IsClosing : {O : Type 0} → Drawn O → List ℕ → List Target → Result (List ℕ) Refusal → Type 0
IsClosing g layout named (Ok new) = Closes g layout named (Ok (record { operators = new }))
IsClosing g layout named (Err r) = Closes g layout named (Err (Refused r))
