-- A found table may stand, and which rows it may get.
use Rattle.std.proofs.Common.{◌≡◌, ℕ, ◌+◌, ◌≤◌, List, [], Option, Some, None, Result, Ok, Err, IfOk, length, sym, ◌∙◌, ap, subst, arith}
use Rattle.std.specs.Option.{option_map_or}
use Rattle.par_base.specs.declared.fault.Fault.{Fault}
use Rattle.par_base.specs.declared.refusal.Refusal.{Refusal}
use Rattle.row_store.specs.Rows.{Rows}
use Rattle.version_graph.specs.Sets.{In, Each}
use Rattle.version_graph.specs.Edges.{Drawn, numbers, heading_of, set_named, version_sets}
use Rattle.version_graph.specs.declared.parts.Heading.{Heading}
use Rattle.version_graph.proofs.SetLaws.{each_at}
use Rattle.version_graph.proofs.NodeLaws.{set_listed}
use Rattle.op_law.specs.Tables.{RowsWide}
use Rattle.par_base.specs.Checked.{Gives}
use Rattle.op_any.specs.Operators.{AnyView, any_meaning}
use Rattle.ordinary_table.specs.Laws.{IsTable}
use Rattle.version_model.specs.States.{as_seen, headings}
use Rattle.db_state.specs.Fields.{IsDatabase, state_for}
use Rattle.db_state.specs.declared.parts.Parts.{Parts}
use Rattle.version_model.specs.Writes.{MayWrite}
use Rattle.engine_state.specs.SharedChecks.{known_version}
use Rattle.engine_statements.specs.Calls.{IsTableOf, rows_in}
use Rattle.engine_statements.specs.declared.found.FoundTable.{FoundTable}

version_found : (name : List ℕ) (o : Option ℕ) (set : ℕ) → known_version name o ≡ Ok set → o ≡ Some set
version_found name (Some n) set e = let same : n ≡ set = cc in ap (λ (k : ℕ). Some k) same
version_found name None set e = absurd (cc)

-- the working set of a version lives
pub known_lives : (g h : Drawn AnyView) (name : List ℕ) (r : Result ℕ (Fault Refusal)) → g ≡ h → Each (λ n. In n (numbers h.edges)) (version_sets h.versions)
    → Gives (λ set. set) r (known_version name (set_named g.versions name)) → IfOk r (λ set. In set (numbers h.edges))
known_lives g h name (Ok set) same named gives =
    let found = version_found name (set_named h.versions name) set (sym (ap (λ (d : Drawn AnyView). known_version name (set_named d.versions name)) same) ∙ gives) in
    each_at (λ n. In n (numbers h.edges)) (version_sets h.versions) set (set_listed h.versions name set found) named
known_lives g h name (Err fault) same named gives = tt

width_at : (k : Parts AnyView) (n : ℕ) (h : Heading) → heading_of k.graph.edges n ≡ Some h → length (headings k.graph.edges n).columns ≡ length h.columns
width_at k n h is = ap (λ (o : Option Heading). length (option_map_or as_seen o (record { name = []; columns = [] })).columns) is

-- a table of a kept database may stand
pub stands_at : (k : Parts AnyView) (n : ℕ) (h : Heading) → IsDatabase any_meaning k → heading_of k.graph.edges n ≡ Some h → IsTable (length h.columns) k.ids.next (rows_in k n)
stands_at k n h kept is =
    let well = kept.sound.well in
    record {
      rises = (well.tables n).0;
      wide = subst (λ (w : ℕ). RowsWide w (rows_in k n)) (width_at k n h is) (well.tables n).1;
      sound = well.rows n;
    }

-- it may get rows that may stand there
pub may_get : (k : Parts AnyView) (f : FoundTable) (rows : Rows) (next : ℕ) → IsTableOf k f → IsTable (length f.heading.now.columns) next rows → k.ids.next ≤ next
    → MayWrite k.graph.edges (state_for any_meaning k) f.set f.number rows next
may_get k f rows next table stands more = record {
  held = table.held;
  rise = stands.rises;
  wide = subst (λ (w : ℕ). RowsWide w rows) (sym (width_at k f.number f.heading.now table.heading)) stands.wide;
  sound = stands.sound;
  more = more;
}

-- where no identifier was drawn
pub may_get_same : (k : Parts AnyView) (f : FoundTable) (rows : Rows) (n : ℕ) → IsTableOf k f → n ≡ k.ids.next → IsTable (length f.heading.now.columns) k.ids.next rows
    → MayWrite k.graph.edges (state_for any_meaning k) f.set f.number rows n
may_get_same k f rows n table same stands =
    subst (λ (m : ℕ). MayWrite k.graph.edges (state_for any_meaning k) f.set f.number rows m) (sym same) (may_get k f rows k.ids.next table stands (omega arith))
