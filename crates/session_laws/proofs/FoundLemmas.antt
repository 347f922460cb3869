-- What a statement's name of a table stands for, and that the table may stand.
use Rattle.std.specs.Prelude.{Option, Some, None, Ok}
use Rattle.std.specs.Option.{option_map_or}
use Rattle.std.specs.Str.{bytes_eq}
use Rattle.std.proofs.Common.{◌≡◌, ◌≤◌, ℕ, List, [], length, refl, sym, ap, subst}
use Rattle.row_store.specs.Rows.{Rows}
use Rattle.statements.specs.declared.statement.TableName.{TableName}
use Rattle.version_graph.specs.Sets.{In}
use Rattle.version_graph.specs.Tables.{TableVersion, table_named}
use Rattle.version_graph.specs.Edges.{set_named, working}
use Rattle.version_graph.specs.declared.parts.Heading.{Heading}
use Rattle.version_graph.proofs.NameLaws.{same_name}
use Rattle.version_graph.proofs.SetLaws.{in_map}
use Rattle.version_graph.proofs.TableLaws.{working_made}
use Rattle.version_graph.proofs.TakenLaws.{found_passes, heading_known}
use Rattle.op_law.specs.Tables.{RowsWide}
use Rattle.ordinary_table.specs.Laws.{IsTable}
use Rattle.version_model.specs.States.{as_seen, headings}
use Rattle.version_model.specs.Writes.{MayWrite}
use Rattle.engine_state.specs.AnyDatabase.{AnyDatabase}
use Rattle.engine_state.specs.SharedChecks.{known_version}
use Rattle.engine_sessions.specs.Found.{Found, found, known_table, set_of}
use Rattle.engine_sessions.proofs.ChainLaws.{both_give, ok_is}
use Rattle.session_laws.specs.Kept.{IsKept}

pub version_is : (name : List ℕ) (o : Option ℕ) (set : ℕ) → known_version name o ≡ Ok set → o ≡ Some set
version_is name (Some n) set e = let same : n ≡ set = cc in ap (λ (k : ℕ). Some k) same
version_is name None set e = absurd (let no : ⊥ = cc in no)

table_is : (name : List ℕ) (o : Option TableVersion) (t : TableVersion) → known_table name o ≡ Ok t → o ≡ Some t
table_is name (Some u) t e = ap (λ (v : TableVersion). Some v) (ok_is u t e)
table_is name None t e = absurd (let no : ⊥ = cc in no)

-- the version, its working set, and the table of this name in it
pub record FoundIn (d : AnyDatabase) (name : TableName) (f : Found) : Type 0 where
  pub version : List ℕ
  pub is_version : name.version ≡ Some version
  pub set : set_named d.graph.versions version ≡ Some f.set
  pub held : In f.table (working d.graph.edges f.set)
  pub is_table : f.table.heading.name ≡ name.table

-- the version that is named
record SetIn (d : AnyDatabase) (version : Option (List ℕ)) (set : ℕ) : Type 0 where
  pub name : List ℕ
  pub is : version ≡ Some name
  pub found : set_named d.graph.versions name ≡ Some set

set_in : (d : AnyDatabase) (version : Option (List ℕ)) (set : ℕ) → set_of d version ≡ Ok set → SetIn d version set
set_in d None set e = absurd (let no : ⊥ = cc in no)
set_in d (Some name) set e = record { name = name; is = refl; found = version_is name (set_named d.graph.versions name) set e }

pub found_in : (d : AnyDatabase) (name : TableName) (f : Found) → found d name ≡ Ok f → FoundIn d name f
found_in d name f e =
    let a = both_give (set_of d name.version) _ f e in
    let b = both_give (known_table name.table (table_named (working d.graph.edges a.0) name.table)) _ f a.2 in
    let same : record { set = a.0; table = b.0 } ≡ f = ok_is (record { set = a.0; table = b.0 }) f b.2 in
    let set = set_in d name.version a.0 a.1 in
    let there = found_passes (λ (v : TableVersion). bytes_eq v.heading.name name.table) (working d.graph.edges a.0) b.0 (table_is name.table _ b.0 b.1) in
    subst (FoundIn d name) same (record {
      version = set.name;
      is_version = set.is;
      set = set.found;
      held = there.0;
      is_table = same_name b.0.heading.name name.table there.1;
    })

module _ (d : AnyDatabase) (kept : IsKept d) (set : ℕ) (t : TableVersion) (held : In t (working d.graph.edges set)) where
  width_at : length (headings d.graph.edges t.number).columns ≡ length t.heading.columns
  width_at =
      ap (λ (o : Option Heading). length (option_map_or as_seen o (record { name = []; columns = [] })).columns)
      (heading_known d.graph.edges kept.edges t (working_made d.graph.edges set t held))

  -- a table of a version may stand as it is
  pub stands_at : IsTable (length t.heading.columns) d.state.next (d.state.tables t.number)
  stands_at = record {
    rises = (kept.sound.well.tables t.number).0;
    wide = subst (λ (w : ℕ). RowsWide w (d.state.tables t.number)) width_at (kept.sound.well.tables t.number).1;
    sound = kept.sound.well.rows t.number;
  }

  -- and may get rows that may stand
  pub may_get : (rows : Rows) (next : ℕ) → IsTable (length t.heading.columns) next rows → d.state.next ≤ next → MayWrite d.graph.edges d.state set t.number rows next
  may_get rows next stands more = record {
    held = in_map (λ (v : TableVersion). v.number) t (working d.graph.edges set) held;
    rise = stands.rises;
    wide = subst (λ (w : ℕ). RowsWide w rows) (sym width_at) stands.wide;
    sound = stands.sound;
    more = more;
  }
