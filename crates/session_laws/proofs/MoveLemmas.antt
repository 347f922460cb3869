-- What an answered MATERIALIZE leaves stored, and where one in steps leads.
use Rattle.std.specs.Prelude.{Option, Some, None, Ok, Err, unwrap_or, option_map, length}
use Rattle.std.specs.Option.{option_and_then}
use Rattle.std.specs.Str.{bytes_eq}
use Rattle.std.proofs.Common.{◌≡◌, ℕ, false, List, [], ◌∷◌, inl, refl, sym, ap, subst, ◌∙◌}
use Rattle.par_base.specs.declared.limits.Target.{Target}
use Rattle.par_base.specs.Checked.{Checked, ◌then◌}
use Rattle.version_graph.specs.Sets.{Distinct, Each, In}
use Rattle.version_graph.specs.Tables.{TableVersion, table_named, table_numbers}
use Rattle.version_graph.specs.Edges.{AreEdges, Drawn, number_named, working}
use Rattle.version_graph.specs.Forest.{forest}
use Rattle.version_graph.specs.declared.parts.Heading.{Heading}
use Rattle.version_graph.proofs.NameLaws.{name_is, same_name}
use Rattle.version_graph.proofs.SetLaws.{each_at, in_map}
use Rattle.version_graph.proofs.TableLaws.{names_once}
use Rattle.version_graph.proofs.TakenLaws.{known_set, map_map, number_found, only_found, same_item}
use Rattle.op_any.specs.Operators.{AnyView}
use Rattle.layout_rules.specs.Closing.{StoresTarget, chosen, tables_of}
use Rattle.layout_rules.specs.Closed.{closing}
use Rattle.layout_rules.specs.Layouts.{IsStored}
use Rattle.migration.specs.Pending.{goal_of}
use Rattle.migration.specs.Sides.{changing}
use Rattle.migration.proofs.PendingLaws.{closing_up, start_leads}
use Rattle.engine_state.specs.declared.reply.Reply.{Reply}
use Rattle.engine_state.specs.declared.reply.Reply.TheVariants.{Moved, Pending}
use Rattle.engine_sessions.proofs.ChainLaws.{ok_is, then_is}
use Rattle.engine_sessions.specs.Laid.{Laid, materialized, moved_count}
use Rattle.engine_sessions.specs.EngineCoreLaws.{MovesStoreTargets}
use Rattle.engine_sessions.specs.Act.{answer_of}
use Rattle.engine_sessions.specs.Moving.{Moving}
use Rattle.engine_sessions.specs.Standing.{Standing, moving_in}
use Rattle.engine_sessions.specs.declared.answer.Answer.{Answer}
use Rattle.session_laws.specs.Moves.{IsNamed, IsOfName, MovesStoreNamed, StartsLeadToNamed}

module _ (g : Drawn AnyView) (edges : AreEdges g.edges) (set : ℕ) (t : TableVersion) (held : In t (working g.edges set)) where
  abbrev tables : List TableVersion
  tables = working g.edges set

  -- the table of a name is found by it
  found_by_name : (name : List ℕ) → t.heading.name ≡ name → table_named tables name ≡ Some t
  found_by_name name is =
      only_found (λ (u : TableVersion). bytes_eq u.heading.name name) tables t held (name_is t.heading.name name is)
      (λ u i same. same_item (λ (v : TableVersion). v.heading.name) tables u t (subst (λ (names : List (List ℕ)). Distinct names) (map_map (λ (h : Heading). h.name) (λ (v : TableVersion). v.heading) tables) (names_once g.edges edges set)) i held (same_name u.heading.name name same ∙ sym is))

  number_by_name : (name : List ℕ) → t.heading.name ≡ name → number_named g.edges (table_numbers tables) name ≡ Some t.number
  number_by_name name is =
      sym (number_found g.edges tables name (known_set g.edges edges set)) ∙ ap (λ (o : Option TableVersion). option_map (λ (v : TableVersion). v.number) o) (found_by_name name is)

  -- it is among the tables that are chosen
  among : (name : Option (List ℕ)) → IsOfName name t → In t.number (unwrap_or (chosen g.edges (table_numbers tables) name) [])
  among None is = in_map (λ (v : TableVersion). v.number) t tables held
  among (Some name) is = subst (λ (o : Option ℕ). In t.number (unwrap_or (option_map (λ k. k ∷ []) o) [])) (sym (number_by_name name is)) (inl refl)

-- so a table that a target names is among those that are stored for it
target_tables : (g : Drawn AnyView) (target : Target) (t : TableVersion) → AreEdges g.edges → IsNamed g target t → In t.number (unwrap_or (tables_of g target) [])
target_tables g target t edges is =
    subst (λ (o : Option ℕ). In t.number (unwrap_or (option_and_then (λ ts. chosen g.edges ts target.table) (option_map (λ w. table_numbers (working g.edges w)) o)) []))
    (sym is.version) (among g edges is.set t is.held target.table is.named)

-- what an answered move in a session leaves is what one of the engine does
moved_by : (s : Standing) (named : List Target) (m : Checked (ℕ × Laid)) (answer : Answer × Standing) → materialized s.laid named ≡ m
    → (((m then λ a. Ok (Moved a.0, a.1)) then λ (r : Reply × Laid). Ok (r.0, record { laid = r.1; pending = [] })) then λ (r : Reply × Moving). Ok (answer_of false r.0, record s { laid = r.1.laid; pending = r.1.pending })) ≡ Ok answer
    → (moved : ℕ × Laid) × (materialized s.laid named ≡ Ok moved) × (answer.1.laid ≡ moved.1)
moved_by s named (Ok moved) answer is e =
    let same : (answer_of false (Moved moved.0), record s { laid = moved.1; pending = [] }) ≡ answer = ok_is (answer_of false (Moved moved.0), record s { laid = moved.1; pending = [] }) answer e in
    (moved, is, sym (ap (λ (x : Answer × Standing). x.1.laid) same))
moved_by s named (Err r) answer is e = absurd (let no : ⊥ = cc in no)

-- a table that a target names is stored, where its targets are
stored_there : (g : Drawn AnyView) (layout : List ℕ) (named : List Target) → AreEdges g.edges → Each (StoresTarget g layout) named → (target : Target) (t : TableVersion) → In target named → IsNamed g target t → IsStored (forest g.edges) layout t.number
stored_there g layout named edges all target t among is =
    let here : StoresTarget g layout target = each_at (StoresTarget g layout) named target among all in
    each_at (IsStored (forest g.edges) layout) (unwrap_or (tables_of g target) []) t.number (target_tables g target t edges is) here

pub stores_named : MovesStoreTargets → MovesStoreNamed
stores_named law s named answer edges e =
    let g = s.laid.database.graph in
    let m = moved_by s named (materialized s.laid named) answer refl e in
    let both = law s.laid named m.0 edges m.1 in
    record {
      same = ap (λ (l : Laid). l.database) m.2 ∙ both.0;
      stored = λ target t among is. subst (λ (l : Laid). IsStored (forest g.edges) l.layout t.number) (sym m.2) (stored_there g m.0.1.layout named edges both.1 target t among is);
    }

-- what one in steps leaves, where closing gives this
started_by : (s : Standing) (m : Checked (List ℕ)) (answer : Answer × Standing)
    → (((m then λ goal. Ok (changing s.laid.database.graph.edges s.laid.layout goal)) then λ flips. Ok (Pending (length flips), record (moving_in s) { pending = flips })) then λ (r : Reply × Moving). Ok (answer_of false r.0, record s { laid = r.1.laid; pending = r.1.pending })) ≡ Ok answer
    → (goal : List ℕ) × (m ≡ Ok goal) × (answer.1 ≡ record s { pending = changing s.laid.database.graph.edges s.laid.layout goal })
started_by s (Ok goal) answer e = (goal, refl, sym (ap (λ (x : Answer × Standing). x.1) (ok_is (_, record s { pending = changing s.laid.database.graph.edges s.laid.layout goal }) answer e)))
started_by s (Err r) answer e = absurd (let no : ⊥ = cc in no)

pub leads_to_named : MovesStoreTargets → StartsLeadToNamed
leads_to_named law s named answer edges e =
    let g = s.laid.database.graph in
    let m = started_by s (closing g s.laid.layout named) answer e in
    let goal = m.0 in
    let moved = then_is (closing g s.laid.layout named) (λ new. Ok (moved_count s.laid new, record s.laid { layout = new })) goal m.1 in
    let both = law s.laid named (moved_count s.laid goal, record s.laid { layout = goal }) edges moved in
    let up = closing_up g edges s.laid.layout named goal m.1 in
    let leads : goal_of g.edges s.laid.layout answer.1.pending ≡ goal =
    ap (λ (n : Standing). goal_of g.edges s.laid.layout n.pending) m.2 ∙ start_leads g.edges edges s.laid.layout goal up.0 up.1 in
    record {
      same = ap (λ (n : Standing). n.laid) m.2;
      stored = λ target t among is. subst (λ (l : List ℕ). IsStored (forest g.edges) l t.number) (sym leads) (stored_there g goal named edges both.1 target t among is);
    }
