-- A version's tables stay where a statement writes no rows and drops another version.
use Rattle.std.specs.Prelude.{Option, Some, None, IsSome}
use Rattle.std.specs.Str.{bytes_eq}
use Rattle.std.proofs.Common.{◌≡◌, ◌≤◌, ◌+◌, ℕ, Bool, true, false, cond, List, [], ◌∷◌, ◌++◌, length, refl, sym, ap, ◌∙◌, subst, arith}
use Rattle.std.specs.Prelude.{◌==◌}
use Rattle.std.proofs.lemmas.Bool.{cond-false, false_from_ne_true, false≢true, eqb-true}
use Rattle.row_store.specs.Rows.{Rows}
use Rattle.version_graph.specs.Sets.{Each, In}
use Rattle.version_graph.specs.Tables.{TableVersion, table_numbers}
use Rattle.version_graph.specs.Edges.{IsGraph, made, numbers, set_after, set_named, version_sets, working}
use Rattle.version_graph.specs.Evolve.{grown, numbers_after, placed_next}
use Rattle.version_graph.specs.Dropped.{other_versions, staying}
use Rattle.version_graph.specs.Forest.{link}
use Rattle.version_graph.specs.declared.parts.Edge.{Edge}
use Rattle.version_graph.specs.declared.parts.Placed.{Placed}
use Rattle.version_graph.proofs.GrowLaws.{rises_after}
use Rattle.version_graph.proofs.NameLaws.{name_is, same_name}
use Rattle.version_graph.proofs.NodeLaws.{set_listed}
use Rattle.version_graph.proofs.SetLaws.{each_at, each_of, in_map, is_in_true}
use Rattle.version_graph.proofs.StayLaws.{working_stays}
use Rattle.version_graph.proofs.TableLaws.{rises_above, working_made}
use Rattle.op_any.specs.Operators.{AnyView, any_meaning}
use Rattle.version_model.specs.Databases.{dropped_database}
use Rattle.version_model.specs.Evolving.{grown_state, with_link}
use Rattle.version_model.specs.States.{State}
use Rattle.version_model.proofs.PutLaws.{put_other}
use Rattle.engine_state.specs.AnyDatabase.{AnyDatabase}
use Rattle.engine_transactions.specs.Evolve.{state_after}
use Rattle.version_notes.specs.Versions.{named_with, tables_at, tables_of}

-- a version that lives has the same tables
pub record Stays (d later : AnyDatabase) (version : List ℕ) : Type 0 where
  pub lives : IsSome (set_named later.graph.versions version)
  pub tables : tables_of later version ≡ tables_of d version

-- the same set with the same tables, which have the same rows
same_named : (set : List TableVersion) (f g : ℕ → Rows) → Each (λ (v : TableVersion). f v.number ≡ g v.number) set → named_with f set ≡ named_with g set
same_named [] f g same = refl
same_named (v ∷ set) f g same = λ i. (v.heading.name, same.0 i) ∷ same_named set f g same.1 i

module _ (d later : AnyDatabase) (version : List ℕ) where
  stays_at : (o : Option ℕ) → IsSome o → set_named d.graph.versions version ≡ o → set_named later.graph.versions version ≡ o
      → ((set : ℕ) → o ≡ Some set → working later.graph.edges set ≡ working d.graph.edges set)
      → ((set : ℕ) → o ≡ Some set → Each (λ (v : TableVersion). later.state.tables v.number ≡ d.state.tables v.number) (working d.graph.edges set)) → Stays d later version
  stays_at None some before after sets rows = absurd (false≢true some)
  stays_at (Some set) some before after sets rows = record {
    lives = subst IsSome (sym after) some;
    tables = ap (tables_at later) after ∙ ap (named_with later.state.tables) (sets set refl) ∙ same_named (working d.graph.edges set) later.state.tables d.state.tables (rows set refl) ∙ sym (ap (tables_at d) before);
  }

pub still : (d : AnyDatabase) (version : List ℕ) → IsSome (set_named d.graph.versions version) → Stays d d version
still d version lives = record { lives = lives; tables = refl }

-- ---- a new version

named_before : (versions more : List (List ℕ × ℕ)) (name : List ℕ) (set : ℕ) → set_named versions name ≡ Some set → set_named (versions ++ more) name ≡ Some set
named_before [] more name set e = absurd (let no : ⊥ = cc in no)
named_before (v ∷ versions) more name set e = go (λ h. named_before versions more name set h) (bytes_eq name v.0) e
  where
    go : (set_named versions name ≡ Some set → set_named (versions ++ more) name ≡ Some set) → (b : Bool) → cond b (Some v.1) (set_named versions name) ≡ Some set → cond b (Some v.1) (set_named (versions ++ more) name) ≡ Some set
    go rest true e = e
    go rest false e = rest e

grown_working : (es : List (Placed AnyView)) (p o t : ℕ) (edges : List (Edge AnyView)) (w : ℕ) → w ≤ o → working (grown es p o t edges) w ≡ working es w
grown_working es p o t [] w le = refl
grown_working es p o t (e ∷ edges) w le =
    let new = placed_next p o t e in
    grown_working (new ∷ es) (o + 1) (o + 1) (t + length e.targets) edges w (omega (arith, le))
    ∙ cond-false (w == (o + 1)) (set_after (working es p) new) (working es w) (false_from_ne_true (w == (o + 1)) (λ same. (let is = eqb-true w (o + 1) same in omega (arith, is, le))))

grown_table : (es : List (Placed AnyView)) (p o t : ℕ) (edges : List (Edge AnyView)) (s : State) (n : ℕ) → n ≤ t → (grown_state any_meaning es p o t edges s).tables n ≡ s.tables n
grown_table es p o t [] s n le = refl
grown_table es p o t (e ∷ edges) s n le =
    let new = placed_next p o t e in
    grown_table (new ∷ es) (o + 1) (o + 1) (t + length e.targets) edges (with_link any_meaning s (link es new)) n (omega (arith, le))
    ∙ put_other s.tables (numbers_after t e.targets) _ n (λ i. (let above = rises_above t (numbers_after t e.targets) (rises_after t t e.targets (omega arith)) n i in omega (arith, above, le)))

some_is : (o : Option ℕ) → IsSome o → (set : ℕ) × (o ≡ Some set)
some_is None some = absurd (false≢true some)
some_is (Some set) some = (set, refl)

module _ (d : AnyDatabase) (graph : IsGraph d.graph) (version : List ℕ) (lives : IsSome (set_named d.graph.versions version)) where
  set_low : (set : ℕ) → set_named d.graph.versions version ≡ Some set → set ≤ d.graph.last_operator
  set_low set e =
      each_at (λ n. n ≤ d.graph.last_operator) (numbers d.graph.edges) set
      (each_at (λ n. In n (numbers d.graph.edges)) (version_sets d.graph.versions) set (set_listed d.graph.versions version set e) graph.named) graph.operators

  table_low : (set : ℕ) (v : TableVersion) → In v (working d.graph.edges set) → v.number ≤ d.graph.last_table
  table_low set v i =
      each_at (λ t. t ≤ d.graph.last_table) (table_numbers (made d.graph.edges)) v.number (in_map (λ (w : TableVersion). w.number) v (made d.graph.edges) (working_made d.graph.edges set v i)) graph.tables

  pub grown_stays : (name : List ℕ) (w : ℕ) (edges : List (Edge AnyView)) → Stays d (state_after d name w edges) version
  grown_stays name w edges =
      stays_at d (state_after d name w edges) version (set_named d.graph.versions version) lives refl named
      (λ set e. grown_working d.graph.edges w d.graph.last_operator d.graph.last_table edges set (set_low set e))
      (λ set e. each_of (λ (v : TableVersion). (state_after d name w edges).state.tables v.number ≡ d.state.tables v.number) (working d.graph.edges set)
      (λ v i. grown_table d.graph.edges w d.graph.last_operator d.graph.last_table edges d.state v.number (table_low set v i)))
    where
      named : set_named (state_after d name w edges).graph.versions version ≡ set_named d.graph.versions version
      named = let is = some_is (set_named d.graph.versions version) lives in named_before d.graph.versions ((name, d.graph.last_operator + length edges) ∷ []) version is.0 is.1 ∙ sym is.1

-- ---- a drop of another version

named_else : (versions : List (List ℕ × ℕ)) (name version : List ℕ) → bytes_eq name version ≡ false → set_named (other_versions versions name) version ≡ set_named versions version
named_else [] name version off = refl
named_else (v ∷ versions) name version off = go (named_else versions name version off) (bytes_eq name v.0) refl
  where
    apart : bytes_eq name v.0 ≡ true → bytes_eq version v.0 ≡ false
    apart is = false_from_ne_true (bytes_eq version v.0) (λ same.
        let one : name ≡ v.0 = same_name name v.0 is in
        let two : version ≡ v.0 = same_name version v.0 same in
        let clash : true ≡ false = sym (name_is name version (one ∙ sym two)) ∙ off in
        (let no : ⊥ = cc in no))

    go : set_named (other_versions versions name) version ≡ set_named versions version → (b : Bool) → bytes_eq name v.0 ≡ b → set_named (cond b versions (v ∷ other_versions versions name)) version ≡ set_named (v ∷ versions) version
    go rest true is = sym (cond-false (bytes_eq version v.0) (Some v.1) (set_named versions version) (apart is))
    go rest false is = ap (λ (o : Option ℕ). cond (bytes_eq version v.0) (Some v.1) o) rest

pub dropped_stays : (d : AnyDatabase) (version name : List ℕ) → IsSome (set_named d.graph.versions version) → bytes_eq name version ≡ false → Stays d (dropped_database d name) version
dropped_stays d version name lives off =
    stays_at d (dropped_database d name) version (set_named d.graph.versions version) lives refl (named_else d.graph.versions name version off)
    (λ set e. working_stays d.graph.edges set left (needed set e))
    (λ set e. each_of (λ (v : TableVersion). (dropped_database d name).state.tables v.number ≡ d.state.tables v.number) (working d.graph.edges set) (λ v i. rows_stay set e v i))
  where
    left : List ℕ
    left = version_sets (other_versions d.graph.versions name)

    needed : (set : ℕ) → set_named d.graph.versions version ≡ Some set → In set left
    needed set e = set_listed (other_versions d.graph.versions name) version set (named_else d.graph.versions name version off ∙ e)

    rows_stay : (set : ℕ) → set_named d.graph.versions version ≡ Some set → (v : TableVersion) → In v (working d.graph.edges set) → (dropped_database d name).state.tables v.number ≡ d.state.tables v.number
    rows_stay set e v i =
        let es = staying left d.graph.edges in
        let held : In v (working es set) = subst (λ (ts : List TableVersion). In v ts) (sym (working_stays d.graph.edges set left (needed set e))) i in
        let stays = is_in_true v.number (table_numbers (made es)) (in_map (λ (w : TableVersion). w.number) v (made es) (working_made es set v held)) in
        ap (λ (b : Bool). cond b (d.state.tables v.number) []) stays
