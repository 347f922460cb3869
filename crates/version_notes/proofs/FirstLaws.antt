-- The first note of a version, and what a watch shows after it.
use Rattle.std.specs.Prelude.{filter_map, Option, Some}
use Rattle.std.specs.Option.{option_map_or}
use Rattle.std.specs.List.{cons_option}
use Rattle.std.proofs.Common.{◌≡◌, ℕ, ◌+◌, ◌==◌, nat_lt, false, List, [], ◌∷◌, refl, ap, ◌∙◌, arith}
use Rattle.std.proofs.lemmas.Bool.Decides.{nat_tests}
use Rattle.par_base.specs.declared.value.Value.{Value}
use Rattle.row_store.specs.Rows.{Rows, RiseFrom}
use Rattle.row_store.specs.Changes.{AreOld, ChangesRise}
use Rattle.version_graph.specs.Sets.{Each}
use Rattle.version_graph.specs.Tables.{TableVersion, table_numbers}
use Rattle.version_graph.specs.Edges.{heading_of, set_named, working}
use Rattle.version_graph.specs.declared.parts.Placed.{Placed}
use Rattle.version_graph.proofs.SetLaws.{each_of}
use Rattle.version_graph.proofs.TableLaws.{working_made}
use Rattle.version_graph.proofs.TakenLaws.{heading_known}
use Rattle.version_model.specs.Kept.{Database}
use Rattle.row_changes.specs.Changed.{changed, put_row}
use Rattle.row_changes.specs.Differences.{AllDiffer}
use Rattle.feed_mirror.specs.Notes.{emptied}
use Rattle.version_notes.specs.Versions.{named_with}
use Rattle.version_notes.specs.Differences.{changes_between, difference}
use Rattle.version_notes.specs.First.{added, first_change}
use Rattle.version_notes.specs.Notes.{first_note}
use Rattle.version_notes.specs.Runs.{IsOrdered, change_of, numbers_of}
use Rattle.version_notes.proofs.DifferenceLaws.{is_difference, only_difference}

-- ---- all rows as added are the difference from no rows

put_first : (id : ℕ) (row : List Value) (rows : Rows) → RiseFrom (id + 1) rows → put_row id (Some row) rows ≡ (id, row) ∷ rows
put_first id row [] rise = refl
put_first id row (r ∷ rows) rise =
    let below : nat_lt r.0 id ≡ false = grind (arith, nat_tests, rise.0) in
    let apart : (r.0 == id) ≡ false = grind (arith, nat_tests, rise.0) in
    rw (below, apart) refl

pub added_rise : (n : ℕ) (rows : Rows) → RiseFrom n rows → ChangesRise n (added rows)
added_rise n [] rise = tt
added_rise n (r ∷ rows) rise = (rise.0, added_rise (r.0 + 1) rows rise.1)

added_old : (rows : Rows) → AreOld [] (added rows)
added_old [] = tt
added_old (r ∷ rows) = (refl, added_old rows)

added_makes : (n : ℕ) (rows : Rows) → RiseFrom n rows → changed [] (added rows) ≡ rows
added_makes n [] rise = refl
added_makes n (r ∷ rows) rise = ap (put_row r.0 (Some r.1)) (added_makes (r.0 + 1) rows rise.1) ∙ put_first r.0 r.1 rows rise.1

added_differ : (rows : Rows) → AllDiffer (added rows)
added_differ [] = tt
added_differ (r ∷ rows) = ((λ same. (let no : ⊥ = cc in no)), added_differ rows)

added_is : (rows : Rows) → RiseFrom 0 rows → added rows ≡ difference [] rows
added_is rows rise =
    only_difference [] rows (added rows) (difference [] rows) tt
    (record { rise = added_rise 0 rows rise; old = added_old rows; new = added_makes 0 rows rise; differ = added_differ rows })
    (is_difference [] rows tt rise)

-- ---- of the tables of a version

first_changes : {O : Type 0} (es : List (Placed O)) (rows : ℕ → Rows) (set : List TableVersion) → ((t : ℕ) → RiseFrom 0 (rows t)) → Each (λ (v : TableVersion). heading_of es v.number ≡ Some v.heading) set
    → filter_map (first_change es rows) (table_numbers set) ≡ changes_between (emptied (named_with rows set)) (named_with rows set)
first_changes es rows [] rise heads = refl
first_changes es rows (v ∷ set) rise heads = λ i. cons_option (change_of (heads.0 i) (added_is (rows v.number) (rise v.number) i)) (first_changes es rows set rise heads.1 i)

-- THE FIRST NOTE is the difference from no rows
pub first_is : {O : Type 0} (d : Database O) (version : List ℕ) (set : ℕ) → IsOrdered d → set_named d.graph.versions version ≡ Some set
    → filter_map (first_change d.graph.edges d.state.tables) (numbers_of d.graph version) ≡ (first_note d set).tables
first_is d version set is e =
    ap (λ (o : Option ℕ). filter_map (first_change d.graph.edges d.state.tables) (option_map_or (λ (set : ℕ). table_numbers (working d.graph.edges set)) o [])) e
    ∙ first_changes d.graph.edges d.state.tables (working d.graph.edges set) is.rise
    (each_of (λ (v : TableVersion). heading_of d.graph.edges v.number ≡ Some v.heading) (working d.graph.edges set) (λ v i. heading_known d.graph.edges is.edges v (working_made d.graph.edges set v i)))
