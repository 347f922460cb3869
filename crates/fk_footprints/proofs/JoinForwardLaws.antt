-- JOIN ON FK, from S and T: closed identifiers are a footprint.
use Rattle.std.proofs.Common.{◌≡◌, ℕ, ◌-◌, ◌+◌, List, [], ◌∷◌, Bool, false, not, Some, None, refl, ap, sym, ◌∙◌}
use Rattle.par_base.specs.declared.value.Value.{Value}
use Rattle.row_store.specs.Rows.{Rows, RiseFrom, row_of}
use Rattle.op_law.specs.Tables.{Tables, Heading}
use Rattle.op_law.specs.Local.{rows_only, only}
use Rattle.pair_parts.specs.Parts.{memory_only}
use Rattle.op_law.specs.Meaning.{Meaning, PairState}
use Rattle.op_law.proofs.OnlyLaws.{row_in, row_out, rise_only}
use Rattle.op_rows.specs.inner.Tabulated.{all_rise}
use Rattle.row_parts.specs.RowCells.{Cell, map_cell}
use Rattle.op_tables.specs.Lookups.{One, Two, one_rise}
use Rattle.op_tables.specs.SideTables.{first_table, second_table}
use Rattle.row_changes.specs.Changed.{TableChanges, changed_tables}
use Rattle.operator_changes.specs.Calls.{MayChange}
use Rattle.operator_changes.specs.Footprint.{IsFootprint, passes}
use Rattle.foreign_keys.specs.KeyParts.{FkParts}
use Rattle.foreign_keys.specs.References.{goal_of}
use Rattle.foreign_keys.specs.Shared.{FkFits}
use Rattle.op_fk_join.specs.Columns.{side_parts, JoinFits}
use Rattle.op_fk_join.specs.Join.{joined_row, join_table, join_fk}
use Rattle.op_fk_join.specs.inner.ColumnLemmas.{fits}
use Rattle.op_fk_join.specs.inner.JoinLaws.{joined_at, target_one, source_two, table_rise}
use Rattle.fk_footprints.specs.JoinForward.{IsClosedJoin, ClosedIsJoinFootprint}
use Rattle.fk_footprints.proofs.PartLemmas.{part_may, first_only, second_only, first_same, part_is, rest_is}
use Rattle.fk_footprints.proofs.JoinPartLemmas.{at_same, join_in, join_part}

-- two tables that have the same where a row of S refers join it in the same way
join_same : (k : FkParts) (c : Cell) (t u : Rows) → ((v : List Value) (q : ℕ) → c ≡ Some v → goal_of (k.key v) ≡ Some q → row_of t q ≡ row_of u q) → joined_row k c t ≡ joined_row k c u
join_same k None t u same = refl
join_same k (Some v) t u same = ap (map_cell (k.join (k.part v))) (at_same (goal_of (k.key v)) t u (λ q goal. same v q refl goal))

module _ (Fits : List Heading → List Heading → Type 0) (k : FkParts) (w a b z : ℕ) (fit : (hs ht : List Heading) → Fits hs ht → FkFits k w a b z ht hs)
    (near : TableChanges) (p : PairState) (n : ℕ) (ids : List ℕ) (may : MayChange (join_fk Fits k) near p n) (c : IsClosedJoin k near p n ids) where
  -- the operator
  abbrev m : Meaning
  m = join_fk Fits k

  -- what passes
  abbrev P : ℕ → Bool
  P = passes ids n

  -- the new sources
  abbrev whole : Tables
  whole = changed_tables p.source near

  -- old S, old T, old R, new S and new T
  abbrev s : Rows
  s = first_table p.source

  abbrev t : Rows
  t = second_table p.source

  abbrev r : Rows
  r = first_table p.target

  abbrev new_s : Rows
  new_s = first_table (changed_tables p.source near)

  abbrev new_t : Rows
  new_t = second_table (changed_tables p.source near)

  -- what is known of the new sources and of the old target
  new_two : Two z b whole
  new_two = source_two Fits k w a b z fit may.hs may.ht whole may.may.sound.pair.fits may.may.near_of

  old_one : One w p.target
  old_one = target_one Fits k w a b z fit may.hs may.ht p.target may.may.sound.pair.fits may.may.sound.pair.target_of

  -- new R rises
  new_rise : RiseFrom 0 (join_table k new_s new_t)
  new_rise = table_rise Fits k w a b z fit whole new_two

  -- the part of new R
  part_table : join_table k (rows_only P new_s) (rows_only P new_t) ≡ rows_only P (join_table k new_s new_t)
  part_table =
      let at = joined_at k (rows_only P new_s) (rows_only P new_t) in
      part_is P (join_table k (rows_only P new_s) (rows_only P new_t)) (join_table k new_s new_t)
      (one_rise (rows_only P new_s) (λ p. joined_row k (row_of (rows_only P new_s) p) (rows_only P new_t)) (rise_only P 0 new_s new_two.rise0)) new_rise
      (λ q e. at q ∙ ap (λ (x : Cell). joined_row k x (rows_only P new_t)) (row_in P new_s q e) ∙ join_in k P new_s new_t c.new_goals q (row_of new_s q) e refl ∙ sym (joined_at k new_s new_t q))
      (λ q e. at q ∙ ap (λ (x : Cell). joined_row k x (rows_only P new_t)) (row_out P new_s q e))

  part_far : join_table k (first_table (only P whole)) (second_table (only P whole)) ∷ [] ≡ only P (join_table k new_s new_t ∷ [])
  part_far =
      ap (λ (x : Rows). join_table k x (second_table (only P whole)) ∷ []) (first_only P whole) ∙ ap (λ (x : Rows). join_table k (rows_only P new_s) x ∷ []) (second_only P whole)
      ∙ ap (λ (x : Rows). x ∷ []) part_table

  -- elsewhere R is as it was
  rest_row : (q : ℕ) → P q ≡ false → row_of (join_table k new_s new_t) q ≡ row_of r q
  rest_row q e =
      joined_at k new_s new_t q
      ∙ ap (λ (x : Cell). joined_row k x new_t) (first_same ids n p.source near (all_rise may.hs p.source may.may.sound.pair.source_of) c.touches q e)
      ∙ join_same k (row_of s q) new_t t (λ v f is goal. c.others q v f e is goal)
      ∙ sym (may.may.sound.pair.related.1 q)

  rest : only (λ q. not (P q)) (join_table k new_s new_t ∷ []) ≡ only (λ q. not (P q)) p.target
  rest = ap (λ (x : Rows). x ∷ []) (rest_is P (join_table k new_s new_t) r new_rise old_one.rise rest_row) ∙ ap (only (λ q. not (P q))) old_one.is

  -- THE FOOTPRINT
  pub join_footprint : IsFootprint (join_fk Fits k) near p n ids
  join_footprint = record {
    rise = c.rise;
    touches = c.touches;
    may = part_may m P may.hs may.ht whole p n may.may may.may.sound.pair.related.0 (may.may.sound.pair.related.0, join_part k P p.source p.target c.old_goals may.may.sound.pair.related.1);
    far = part_far;
    memory = refl;
    next = refl;
    rest = rest;
    memory_rest = sym (ap (memory_only (λ q. not (P q))) may.may.sound.pair.related.0);
  }

-- CLOSED IDENTIFIERS ARE A FOOTPRINT
pub closed_join : ClosedIsJoinFootprint
closed_join first second place near p n ids may c =
    join_footprint (JoinFits first second place) (side_parts (first - 1) second place) ((first - 1) + second) (first - 1) second ((first - 1) + 1) (fits first second place) near p n ids may c
