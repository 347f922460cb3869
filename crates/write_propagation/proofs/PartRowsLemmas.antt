-- Rows that pass two tests alike, changes of tables, and operators with a foreign key.
use Rattle.std.specs.Prelude.{◌⊎◌, if◌then◌else◌}
use Rattle.std.proofs.Common.{◌≡◌, ℕ, ◌==◌, ◌<◌, List, [], ◌∷◌, Bool, true, false, map, Option, Some, None, inl, inr, refl, sym, ◌∙◌, subst, arith}
use Rattle.std.proofs.lemmas.Bool.{cases_lt, eqb-true}
use Rattle.par_base.specs.declared.value.Value.{Value}
use Rattle.row_store.specs.Rows.{Rows, RiseFrom, row_of}
use Rattle.row_store.specs.Changes.{AreOld, ChangesRise}
use Rattle.id_memory.specs.Pairs.{Pairs, pair_of}
use Rattle.row_store.specs.declared.change.Change.{Change}
use Rattle.row_store.proofs.UndoLaws.{ext}
use Rattle.version_graph.specs.Sets.{In}
use Rattle.version_graph.specs.Forest.{Link, crossing}
use Rattle.op_law.specs.Tables.{AllRise, Heading, Tables}
use Rattle.op_law.specs.Sound.{PairsSound, RowsSound, TablesSound}
use Rattle.op_law.specs.Identifiers.{has_id}
use Rattle.op_law.specs.Laws.{Laws}
use Rattle.op_law.specs.Local.{HalfLocal, rows_only}
use Rattle.op_law.specs.Meaning.{Meaning, PairState}
use Rattle.op_law.specs.Premises.{IsPair}
use Rattle.op_law.proofs.OnlyLaws.{by_test, rise_only, row_in, row_out}
use Rattle.op_law.proofs.SoundLaws.{sound_at}
use Rattle.op_tables.specs.SideTables.{first_table, second_table}
use Rattle.row_changes.specs.Changed.{AreChangesOf, TableChanges, changed, changed_tables}
use Rattle.row_changes.specs.Touched.{AllPass, EachPass}
use Rattle.row_changes.proofs.ChangedLaws.{after_other, changed_at}
use Rattle.operator_changes.specs.Calls.{MayChange, ahead}
use Rattle.operator_changes.specs.Footprint.{IsFootprint, passes}
use Rattle.pair_parts.specs.Parts.{IsMemory}
use Rattle.sought_ids.specs.Closed.{PassListed}
use Rattle.sought_ids.specs.Known.{Known}
use Rattle.sought_ids.specs.Places.{AreKnown, PassEntries, PassKnown, is_on_target, side_at}
use Rattle.sought_ids.specs.Seeking.{FootprintOf, SeekLaws}
use Rattle.sought_ids.specs.SeekPlace.{SeekPlace}
use Rattle.version_model.specs.States.{State}
use Rattle.version_model.specs.Steps.{directed, pair_in}
use Rattle.version_model.proofs.RunLaws.{way_laws}
use Rattle.sought_ids.specs.Sought.{key_tables}
use Rattle.operator_changes.proofs.DrawnLemmas.{over_passes, under_passes}

-- ---- rows that pass two tests alike

by_cell : {A : Type 0} (o : Option (List Value)) → (o ≡ None → A) → ((v : List Value) → o ≡ Some v → A) → A
by_cell None none some = none refl
by_cell (Some v) none some = some v refl

-- what has no row has none among those that pass
gone : (P : ℕ → Bool) (rows : Rows) (q : ℕ) → row_of rows q ≡ None → row_of (rows_only P rows) q ≡ None
gone P rows q none = by_test (P q) (λ e. row_in P rows q e ∙ none) (λ e. row_out P rows q e)

pub rows_alike : (P Q : ℕ → Bool) (rows : Rows) → RiseFrom 0 rows → ((q : ℕ) (v : List Value) → row_of rows q ≡ Some v → P q ≡ Q q) → rows_only P rows ≡ rows_only Q rows
rows_alike P Q rows rise alike =
    ext 0 (rows_only P rows) (rows_only Q rows) (rise_only P 0 rows rise) (rise_only Q 0 rows rise) (λ q.
    by_cell (row_of rows q)
    (λ none. gone P rows q none ∙ sym (gone Q rows q none))
    (λ v at.
    by_test (P q)
    (λ e. row_in P rows q e ∙ sym (row_in Q rows q (sym (alike q v at) ∙ e)))
    (λ e. row_out P rows q e ∙ sym (row_out Q rows q (sym (alike q v at) ∙ e)))))

-- what isn't named keeps its row
pub left_alone : (P : ℕ → Bool) (rows : Rows) (cs : List Change) (q : ℕ) → RiseFrom 0 rows → AllPass P cs → P q ≡ false → row_of (changed rows cs) q ≡ row_of rows q
left_alone P rows cs q rise pass out = changed_at rows cs q rise ∙ after_other P cs q (row_of rows q) pass out

-- the tables of some numbers, and the changes of these
pub tables_fit : (f : ℕ → Rows) (g : ℕ → List Change) (ns : List ℕ) → ((t : ℕ) → In t ns → ChangesRise 0 (g t) × AreOld (f t) (g t)) → AreChangesOf (map f ns) (map g ns)
tables_fit f g [] fit = tt
tables_fit f g (n ∷ ns) fit = (fit n (inl refl), tables_fit f g ns (λ t i. fit t (inr i)))

pub tables_pass : (P : ℕ → Bool) (g : ℕ → List Change) (ns : List ℕ) → ((t : ℕ) → In t ns → AllPass P (g t)) → EachPass P (map g ns)
tables_pass P g [] pass = tt
tables_pass P g (n ∷ ns) pass = (pass n (inl refl), tables_pass P g ns (λ t i. pass t (inr i)))

pub tables_changed : (f h : ℕ → Rows) (g : ℕ → List Change) (ns : List ℕ) → ((t : ℕ) → In t ns → changed (f t) (g t) ≡ h t) → map h ns ≡ changed_tables (map f ns) (map g ns)
tables_changed f h g [] made = refl
tables_changed f h g (n ∷ ns) made =
    let one = made n (inl refl) in
    let more = tables_changed f h g ns (λ t i. made t (inr i)) in
    cc

pub tables_rise : (f : ℕ → Rows) (ns : List ℕ) → ((t : ℕ) → RiseFrom 0 (f t)) → AllRise (map f ns)
tables_rise f [] rise = tt
tables_rise f (n ∷ ns) rise = (rise n, tables_rise f ns rise)

pub tables_sound : (f : ℕ → Rows) (n : ℕ) (ns : List ℕ) → ((t : ℕ) → RowsSound n (f t)) → TablesSound n (map f ns)
tables_sound f n [] sound = tt
tables_sound f n (t ∷ ts) sound = (sound t, tables_sound f n ts sound)

first_sound : (n : ℕ) (ts : Tables) → TablesSound n ts → RowsSound n (first_table ts)
first_sound n [] sound = tt
first_sound n (t ∷ ts) sound = sound.0

second_sound : (n : ℕ) (ts : Tables) → TablesSound n ts → RowsSound n (second_table ts)
second_sound n [] sound = tt
second_sound n (t ∷ []) sound = tt
second_sound n (t ∷ u ∷ ts) sound = sound.1.0

-- ---- what passes

-- of what stands below the next identifier exactly the listed ones pass
pub below_alike : (ids : List ℕ) (n : ℕ) (rows : Rows) → RowsSound n rows → (q : ℕ) (v : List Value) → row_of rows q ≡ Some v → has_id ids q ≡ passes ids n q
below_alike ids n rows sound q v at = under_passes ids n q (sound_at n rows q v sound at).0.1

pub all_listed : (ids : List ℕ) (n q : ℕ) → has_id ids q ≡ true → passes ids n q ≡ true
all_listed ids n q h = elim (cases_lt q n) as (λ _. passes ids n q ≡ true) [ inl less ↦ sym (under_passes ids n q less) ∙ h | inr more ↦ over_passes ids n q more ]

pub pass_listed : (ids : List ℕ) (n : ℕ) (st : Tables) → TablesSound n st → PassListed (passes ids n) ids st
pass_listed ids n st sound = record {
  all = all_listed ids n;
  first = λ q v at h. below_alike ids n (first_table st) (first_sound n st sound) q v at ∙ h;
  second = λ q u at h. below_alike ids n (second_table st) (second_sound n st sound) q u at ∙ h;
}

-- and of entries below it
entry_below : (n : ℕ) (es : Pairs) (id a b : ℕ) → PairsSound n es → pair_of es id ≡ Some (a, b) → (id < n) × (a < n) × (b < n)
entry_below n [] id a b sound at = absurd (cc)
entry_below n (e ∷ es) id a b sound at =
    by_test (e.0 == id)
    (λ q.
    let some : ◌≡◌ {A = Option (ℕ × ℕ)} (Some (e.1, e.2)) (Some (a, b)) = rw q at at in
    let pair : ◌≡◌ {A = ℕ × ℕ} (e.1, e.2) (a, b) = cc in
    let own = eqb-true e.0 id q in
    (subst (λ (k : ℕ). k < n) own sound.0.0.1, subst (λ (k : ℕ × ℕ). k.0 < n) pair sound.0.1, subst (λ (k : ℕ × ℕ). k.1 < n) pair sound.0.2))
    (λ q. let rest : pair_of es id ≡ Some (a, b) = rw q at at in entry_below n es id a b sound.1 rest)

pass_entries : (ids : List ℕ) (n : ℕ) (es : Pairs) → PairsSound n es → PassEntries (passes ids n) ids es
pass_entries ids n es sound = record {
  own = λ id a b at h. under_passes ids n id (entry_below n es id a b sound at).0 ∙ h;
  first = λ id a b at h. under_passes ids n a (entry_below n es id a b sound at).1 ∙ h;
  second = λ id a b at h. under_passes ids n b (entry_below n es id a b sound at).2 ∙ h;
}

pub pass_known : (ids : List ℕ) (n : ℕ) (place : Option SeekPlace) (p : PairState) → TablesSound n (side_at place p) → PairsSound n p.memory → PassKnown (passes ids n) ids place p
pass_known ids n place p sound entries = record { rows = pass_listed ids n (side_at place p) sound; entries = pass_entries ids n p.memory entries }

-- ---- an operator that seeks

-- the pairs of an operator that seeks have memories
pub memory_of : (m : Meaning) (place : Option SeekPlace) → SeekLaws m place → (known : Known) (own : PairState) → AreKnown place own known → (hs ht : List Heading) (q : PairState) → IsPair m hs ht q → IsMemory q.memory
memory_of m None laws known own are hs ht q pair = absurd are
memory_of m (Some x) laws known own are hs ht q pair = laws.memory x refl hs ht q pair

-- a footprint of a crossing's near changes, as it is crossed
pub foot_over : (m : Meaning) (fk : Option SeekPlace) (known : Known) (near : TableChanges) (ids : List ℕ) (back : Bool) (p : PairState) → AreKnown fk (ahead back p) known → FootprintOf m fk back known near ids
    → (n : ℕ) → MayChange (directed back m) near p n → IsFootprint (directed back m) near p n ids
foot_over m fk known near ids false p are foot n may = foot p n are may
foot_over m fk known near ids true p are foot n may = foot (ahead true p) n are may

-- S and T of an operator with a foreign key, on whichever way it is crossed
pub side_sound : (fk : Option SeekPlace) (n : ℕ) (p : PairState) → TablesSound n p.source → TablesSound n p.target → TablesSound n (side_at fk p)
side_sound None n p source target = tt
side_sound (Some fk) n p source target = elim (is_on_target fk) as (λ (x : Bool). TablesSound n (if x then p.target else p.source)) [ true ↦ target | false ↦ source ]

pub key_numbers : {O : Type 0} (fk : Option SeekPlace) (a : State) (e : Link O) (back : Bool) → side_at fk (pair_in a (crossing false e)) ≡ map a.tables (key_tables fk (crossing back e))
key_numbers None a e back = refl
key_numbers {O} (Some fk) a e true =
    elim (is_on_target fk) as (λ (x : Bool). (if x then map a.tables e.targets else map a.tables e.sources) ≡ map a.tables (if x then e.targets else e.sources)) [ true ↦ refl | false ↦ refl ]
key_numbers {O} (Some fk) a e false =
    elim (is_on_target fk) as (λ (x : Bool). (if x then map a.tables e.targets else map a.tables e.sources) ≡ map a.tables (if x then e.targets else e.sources)) [ true ↦ refl | false ↦ refl ]

pub key_among : {O : Type 0} (fk : Option SeekPlace) (e : Link O) (back : Bool) (t : ℕ) → In t (key_tables fk (crossing back e)) → In t e.sources ⊎ In t e.targets
key_among None e back t i = absurd i
key_among {O} (Some fk) e true t i = elim (is_on_target fk) as (λ (x : Bool). In t (if x then e.targets else e.sources) → In t e.sources ⊎ In t e.targets) [ true ↦ λ j. inr j | false ↦ λ j. inl j ] i
key_among {O} (Some fk) e false t i = elim (is_on_target fk) as (λ (x : Bool). In t (if x then e.targets else e.sources) → In t e.sources ⊎ In t e.targets) [ true ↦ λ j. inr j | false ↦ λ j. inl j ] i

-- an operator that treats each identifier by itself does so either way
pub half_local : (back : Bool) (m : Meaning) → Laws m → m.is_local ≡ true → HalfLocal (directed back m)
half_local false m laws local = (way_laws false m laws).local local
half_local true m laws local = (way_laws true m laws).local local
