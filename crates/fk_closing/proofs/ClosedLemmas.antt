-- Identifiers that are closed under the rules are closed.
use Rattle.std.specs.Prelude.{nat_lt, ◌||◌}
use Rattle.std.proofs.Common.{◌≡◌, ℕ, ◌<◌, List, [], ◌∷◌, Bool, true, false, not, Some, refl, ap, sym, ◌∙◌, arith}
use Rattle.std.proofs.lemmas.Bool.{false≢true}
use Rattle.std.proofs.lemmas.Bool.Decides.{nat_tests}
use mathlib.Core.Logic.{inl, inr}
use Rattle.par_base.specs.declared.value.Value.{Value}
use Rattle.row_store.specs.Rows.{Rows, row_of}
use Rattle.row_store.specs.Changes.{after}
use Rattle.op_law.specs.Tables.{Tables, AllRise}
use Rattle.op_law.specs.Sound.{RowsSound, TablesSound}
use Rattle.op_law.specs.Identifiers.{has_id}
use Rattle.op_law.proofs.OnlyLaws.{by_test}
use Rattle.op_law.proofs.SoundLaws.{sound_at}
use Rattle.op_tables.specs.SideTables.{first_table, second_table}
use Rattle.op_tables.specs.Lookups.{sound0, sound1}
use Rattle.row_parts.specs.RowEdits.{value_at}
use Rattle.row_changes.specs.Changed.{TableChanges, changed_tables, AreChangesOf}
use Rattle.row_changes.specs.Touched.{EachPass, touched}
use Rattle.row_changes.proofs.ChangedLaws.{changed_at}
use Rattle.row_changes.proofs.TouchedLaws.{each_pass}
use Rattle.operator_changes.specs.Footprint.{passes}
use Rattle.foreign_keys.specs.KeyParts.{FkParts}
use Rattle.foreign_keys.specs.References.{goal_of}
use Rattle.key_index.specs.Found.{IsLeastFrom}
use Rattle.fk_footprints.specs.Closed.{BringsGoals, SeesNoChange, BringsWitness}
use Rattle.id_closing.specs.Found.{AreAmong}
use Rattle.id_closing.specs.Told.{changes_at, is_changed}
use Rattle.id_closing.proofs.ToldLaws.{new_or_old, unchanged, named, named_passes, pass_at}
use Rattle.fk_closing.specs.Looking.{goal_at, HasGoal, HasLeast, HasRefs}
use Rattle.fk_closing.specs.Brought.{Witnessed}
use Rattle.fk_closing.specs.Keys.{AreFkKeys, KeyRows}
use Rattle.fk_closing.proofs.KeyLemmas.{refs_of_keys}
use Rattle.fk_closing.specs.Begins.{BeginsAtRows, BeginsAtTables}

-- an identifier that passes and has a row is listed
pub listed : (ids : List ℕ) (n : ℕ) (rows : Rows) (q : ℕ) (v : List Value) → RowsSound n rows → passes ids n q ≡ true → row_of rows q ≡ Some v → has_id ids q ≡ true
listed ids n rows q v sound pass at =
    let under : q < n = (sound_at n rows q v sound at).0.1 in
    let test : nat_lt q n ≡ true = grind (arith, nat_tests) in
    or_false (has_id ids q) (nat_lt q n) test pass
  where
    or_false : (a b : Bool) → b ≡ true → (a || not b) ≡ true → a ≡ true
    or_false true b e h = refl
    or_false false true e h = absurd (false≢true h)
    or_false false false e h = absurd (false≢true e)

-- a listed one passes
pub passing : (ids : List ℕ) (n q : ℕ) → has_id ids q ≡ true → passes ids n q ≡ true
passing ids n q h = or_left (has_id ids q) (not (nat_lt q n)) h
  where
    or_left : (a b : Bool) → a ≡ true → (a || b) ≡ true
    or_left true b e = refl
    or_left false b e = absurd (false≢true e)

-- all that changes is listed
pub touches_all : (near : TableChanges) (begin ids : List ℕ) → AreAmong (touched near) begin → AreAmong begin ids → EachPass (has_id ids) near
touches_all near begin ids there among = each_pass near [] (has_id ids) (λ q h. among q (there q h))

-- what doesn't pass isn't named by changes
pub unnamed : (ids : List ℕ) (n : ℕ) (near : TableChanges) (which q : ℕ) → EachPass (has_id ids) near → passes ids n q ≡ false → is_changed (changes_at near which) q ≡ false
unnamed ids n near which q all out =
    by_test (is_changed (changes_at near which) q)
    (λ e. absurd (false≢true (sym out ∙ passing ids n q (named_passes (has_id ids) (changes_at near which) q (pass_at (has_id ids) near which all) e))))
    (λ e. e)

-- what the first table has after its changes
new_first : (ts : Tables) (near : TableChanges) (q : ℕ) → AllRise ts → AreChangesOf ts near → row_of (first_table (changed_tables ts near)) q ≡ after (changes_at near 0) q (row_of (first_table ts) q)
new_first [] [] q rise fit = refl
new_first [] (c ∷ cs) q rise fit = absurd fit
new_first (t ∷ ts) [] q rise fit = absurd fit
new_first (t ∷ ts) (c ∷ cs) q rise fit = changed_at t c q rise.0

-- and the second
new_second : (ts : Tables) (near : TableChanges) (q : ℕ) → AllRise ts → AreChangesOf ts near → row_of (second_table (changed_tables ts near)) q ≡ after (changes_at near 1) q (row_of (second_table ts) q)
new_second [] [] q rise fit = refl
new_second [] (c ∷ cs) q rise fit = absurd fit
new_second (t ∷ ts) [] q rise fit = absurd fit
new_second (t ∷ ts) (c ∷ cs) q rise fit = new_first ts cs q rise.1 fit.1

-- the goal of a row of S by the place of its key
goal_here : (k : FkParts) (place : ℕ) → ((v : List Value) → k.key v ≡ value_at place v) → (v : List Value) (g : ℕ) → goal_of (k.key v) ≡ Some g → goal_at place v ≡ Some g
goal_here k place key v g e = ap goal_of (sym (key v)) ∙ e

-- the old rows of S bring those to which they refer
pub goals_closed : (k : FkParts) (place : ℕ) → ((v : List Value) → k.key v ≡ value_at place v) → (st : Tables) (n : ℕ) (ids : List ℕ) → TablesSound n st
    → ((q : ℕ) (v : List Value) → has_id ids q ≡ true → row_of (first_table st) q ≡ Some v → HasGoal place ids v)
    → BringsGoals k (passes ids n) (first_table st) (second_table st)
goals_closed k place key st n ids sound goals p v q pass at goal =
    inl (passing ids n q (goals p v (listed ids n (first_table st) p v (sound0 n st sound) pass at) at q (goal_here k place key v q goal)))

-- the tables S and T change

module _ (k : FkParts) (place : ℕ) (key : (v : List Value) → k.key v ≡ value_at place v) (st : Tables) (near : TableChanges) (n : ℕ) (begin ids : List ℕ)
    (rise : AllRise st) (fit : AreChangesOf st near) (new_sound : TablesSound n (changed_tables st near))
    (keys : KeyRows) (are : AreFkKeys place st keys) (begins : BeginsAtTables place keys.keys near begin) (among : AreAmong begin ids)
    (goals : (q : ℕ) (v : List Value) → has_id ids q ≡ true → row_of (first_table st) q ≡ Some v → HasGoal place ids v) where
  pub new_goals_closed : BringsGoals k (passes ids n) (first_table (changed_tables st near)) (second_table (changed_tables st near))
  new_goals_closed p v q pass at goal =
      let in_ids = listed ids n (first_table (changed_tables st near)) p v (sound0 n (changed_tables st near) new_sound) pass at in
      let e : after (changes_at near 0) p (row_of (first_table st) p) ≡ Some v = sym (new_first st near p rise fit) ∙ at in
      inl (passing ids n q (elim (new_or_old (HasGoal place begin) (changes_at near 0) p (row_of (first_table st) p) v begins.goals e) [
        | inl new ↦ among q (new q (goal_here k place key v q goal))
        | inr old ↦ goals p v in_ids old.1 q (goal_here k place key v q goal)
      ]))

  pub others_closed : SeesNoChange k (passes ids n) (first_table st) (second_table st) (second_table (changed_tables st near))
  others_closed p v q out at goal =
      new_second st near q rise fit
      ∙ by_test (is_changed (changes_at near 1) q)
      (λ e.
      let refs = refs_of_keys place st keys are begin q (named (HasRefs 0 keys.keys begin) (changes_at near 1) q begins.refs e) in
      let here = passing ids n p (among p (refs p v at (goal_here k place key v q goal))) in
      absurd (false≢true (sym out ∙ here)))
      (λ e. unchanged (changes_at near 1) q (row_of (second_table st) q) e)

-- a witness for each row of T

pub witness_closed : (k : FkParts) (place : ℕ) (changed : ℕ → Bool) → ((v : List Value) → k.key v ≡ value_at place v) → (st side : Tables) (near : TableChanges) (n : ℕ) (ids : List ℕ)
    → AllRise side → AreChangesOf side near → TablesSound n st → EachPass (has_id ids) near → ((q : ℕ) → changed q ≡ is_changed (changes_at near 0) q)
    → ((q p : ℕ) (v : List Value) → has_id ids q ≡ true → changed p ≡ false → row_of (first_table st) p ≡ Some v → goal_at place v ≡ Some q → Witnessed place changed (first_table st) q ids)
    → BringsWitness k (passes ids n) (first_table st) (second_table st) (first_table side) (first_table (changed_tables side near))
witness_closed k place changed key st side near n ids rise fit sound touches same witness q u p v pass at out is goal =
    let here = listed ids n (second_table st) q u (sound1 n st sound) pass at in
    let w = witness q p v here (same p ∙ unnamed ids n near 0 p touches out) is (ap goal_of (sym (key v)) ∙ goal) in
    record {
      id = w.id;
      row = w.refers.row;
      passed = passing ids n w.id w.among;
      at = w.refers.at;
      goal = ap goal_of (key w.refers.row) ∙ w.refers.goal;
      still = new_first side near w.id rise fit ∙ unchanged (changes_at near 0) w.id (row_of (first_table side) w.id) (sym (same w.id) ∙ w.stays);
    }

-- the least row of T with the T part of each row of new R that isn't as it was
pub least_closed : (second : List Value → List Value) (keys : Rows) (side : Tables) (near : TableChanges) (n : ℕ) (begin ids : List ℕ) → AllRise side → AreChangesOf side near
    → BeginsAtRows second keys near begin → AreAmong begin ids
    → (p : ℕ) (row : List Value) (g : ℕ) → row_of (first_table (changed_tables side near)) p ≡ Some row → (row_of (first_table side) p ≡ Some row → ⊥) → IsLeastFrom keys (second row) 0 (Some g) → passes ids n g ≡ true
least_closed second keys side near n begin ids rise fit begins among p row g at other is =
    let e : after (changes_at near 0) p (row_of (first_table side) p) ≡ Some row = sym (new_first side near p rise fit) ∙ at in
    passing ids n g (elim (new_or_old (HasLeast second keys begin) (changes_at near 0) p (row_of (first_table side) p) row begins.least e) [
      | inl new ↦ among g (new g is)
      | inr old ↦ absurd (other old.1)
    ])
