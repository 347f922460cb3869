-- Footprints of changes of S and T keep these to themselves.
use Rattle.std.specs.Prelude.{nat_lt, ◌||◌}
use Rattle.std.proofs.Common.{◌≡◌, ℕ, List, [], ◌∷◌, Bool, true, false, not, refl, subst}
use Rattle.std.proofs.lemmas.Bool.{false≢true}
use Rattle.row_store.specs.declared.change.Change.{Change}
use Rattle.op_law.specs.Tables.{AreTablesOf, Heading, Tables}
use Rattle.op_law.specs.Identifiers.{has_id}
use Rattle.op_law.specs.Meaning.{Meaning, PairState, exchanged, flip}
use Rattle.op_law.specs.Premises.{IsSoundPair}
use Rattle.op_law.specs.Sound.{TablesSound}
use Rattle.row_changes.specs.Changed.{TableChanges}
use Rattle.row_changes.specs.Touched.{AllPass, EachPass}
use Rattle.operator_changes.specs.Calls.{MayChange}
use Rattle.operator_changes.specs.Footprint.{passes}
use Rattle.op_fk_decompose.specs.Columns.{decompose_columns}
use Rattle.op_fk_join.specs.Columns.{join_columns}
use Rattle.fk_closing.specs.Calls.{CloseDecomposeBack, CloseJoin, JoinWitnesses}
use Rattle.fk_closing.specs.Keys.{AreFkKeys, KeyRows}
use Rattle.pair_parts.specs.Apart.{KeepsApart, SameElsewhere}
use Rattle.pair_parts.proofs.SplitLaws.{splits_behind, turned}
use Rattle.fk_parts.proofs.PartLaws.{decompose_keeps_apart, join_keeps_apart}
use Rattle.op_seeks.specs.Seeking.{ApartOver, IsChangedPair}
use Rattle.op_seeks.specs.Places.{key_place}
use Rattle.op_seeks.specs.declared.known.Known.TheVariants.{Keys}

-- what passes one test passes a wider one
all_wider : (P Q : ℕ → Bool) → ((q : ℕ) → P q ≡ true → Q q ≡ true) → (cs : List Change) → AllPass P cs → AllPass Q cs
all_wider P Q wider [] pass = tt
all_wider P Q wider (c ∷ cs) pass = (wider c.id pass.0, all_wider P Q wider cs pass.1)

each_wider : (P Q : ℕ → Bool) → ((q : ℕ) → P q ≡ true → Q q ≡ true) → (near : TableChanges) → EachPass P near → EachPass Q near
each_wider P Q wider [] pass = tt
each_wider P Q wider (c ∷ cs) pass = (all_wider P Q wider c pass.0, each_wider P Q wider cs pass.1)

-- a listed one passes
passing : (ids : List ℕ) (n q : ℕ) → has_id ids q ≡ true → passes ids n q ≡ true
passing ids n q h = or_left (has_id ids q) (not (nat_lt q n)) h
  where
    or_left : (a b : Bool) → a ≡ true → (a || b) ≡ true
    or_left true b e = refl
    or_left false b e = absurd (false≢true e)

-- all that is listed passes
touches : (ids : List ℕ) (n : ℕ) (near : TableChanges) → EachPass (has_id ids) near → EachPass (passes ids n) near
touches ids n near pass = each_wider (has_id ids) (passes ids n) (λ q h. passing ids n q h) near pass

-- a sound pair is one from either side
sound_behind : (m : Meaning) (hs ht : List Heading) (p : PairState) (n : ℕ) → IsSoundPair m hs ht p n → IsSoundPair (flip m) ht hs (exchanged p) n
sound_behind m hs ht p n h = record { pair = turned m hs ht p h.pair; source = h.target; target = h.source; memory = h.memory }

keeps_decompose : (first second : List ℕ) (place : ℕ) (keys : KeyRows) (changes : TableChanges) (ids : List ℕ) → CloseDecomposeBack first second place keys changes ids → (old new : PairState) (n : ℕ) → AreFkKeys place old.target keys
    → IsChangedPair (decompose_columns first second place) (key_place true place) changes old new n → SameElsewhere (passes ids n) old new → KeepsApart (decompose_columns first second place) old new (passes ids n)
keeps_decompose first second place keys changes ids close old new n are is elsewhere =
    let m = decompose_columns first second place in
    let may : MayChange (flip m) changes (exchanged old) n = record {
      hs = is.ht;
      ht = is.hs;
      fit = is.fit;
      may = record {
        sound = sound_behind m is.hs is.ht old n is.before;
        closed = is.closed;
        near_of = subst (λ (ts : Tables). AreTablesOf is.ht ts) is.makes is.after.pair.target_of;
        near_sound = subst (λ (ts : Tables). TablesSound n ts) is.makes is.after.target;
      };
    } in
    let c = close (exchanged old) n are may in
    decompose_keeps_apart first second place changes (passes ids n) is.hs is.ht old new is.before.pair is.after.pair elsewhere is.makes
    (record { touches = touches ids n changes c.touches; old_goals = c.old_goals; new_goals = c.new_goals; others = c.others; witness = c.witness })

pub decompose_apart : (first second : List ℕ) (place : ℕ) (keys : KeyRows) (changes : TableChanges) (ids : List ℕ) → CloseDecomposeBack first second place keys changes ids
    → (back : Bool) (near : TableChanges) → ApartOver (decompose_columns first second place) (key_place true place) back (Keys keys) near changes ids
decompose_apart first second place keys changes ids close back near old new n are is mapped elsewhere = keeps_decompose first second place keys changes ids close old new n are is elsewhere

-- of the flip
pub outer_apart : (first second : List ℕ) (place : ℕ) (keys : KeyRows) (changes : TableChanges) (ids : List ℕ) → CloseDecomposeBack first second place keys changes ids
    → (back : Bool) (near : TableChanges) → ApartOver (flip (decompose_columns first second place)) (key_place false place) back (Keys keys) near changes ids
outer_apart first second place keys changes ids close back near old new n are is mapped elsewhere =
    let m = decompose_columns first second place in
    let apart = keeps_decompose first second place keys changes ids close (exchanged old) (exchanged new) n are
    (record {
      hs = is.ht;
      ht = is.hs;
      before = sound_behind (flip m) is.hs is.ht old n is.before;
      after = sound_behind (flip m) is.hs is.ht new n is.after;
      closed = is.closed;
      fit = is.fit;
      makes = is.makes;
    })
    (record { source = elsewhere.target; target = elsewhere.source; memory = elsewhere.memory }) in
    record { splits = splits_behind m (passes ids n) (exchanged new) apart.splits; at_source = apart.at_target; at_target = apart.at_source }

pub join_apart : (first second place : ℕ) (keys : KeyRows) (changes : TableChanges) (ids : List ℕ) → CloseJoin first second place keys changes ids → JoinWitnesses first second place keys changes ids
    → (back : Bool) (near : TableChanges) → ApartOver (join_columns first second place) (key_place false place) back (Keys keys) near changes ids
join_apart first second place keys changes ids close witness back near old new n are is mapped elsewhere =
    let m = join_columns first second place in
    let may : MayChange m changes old n = record {
      hs = is.hs;
      ht = is.ht;
      fit = is.fit;
      may = record {
        sound = is.before;
        closed = is.closed;
        near_of = subst (λ (ts : Tables). AreTablesOf is.hs ts) is.makes is.after.pair.source_of;
        near_sound = subst (λ (ts : Tables). TablesSound n ts) is.makes is.after.source;
      };
    } in
    let c = close old n are may in
    join_keeps_apart first second place changes (passes ids n) is.hs is.ht old new is.before.pair is.after.pair elsewhere is.makes
    (record { touches = touches ids n changes c.touches; old_goals = c.old_goals; new_goals = c.new_goals; others = c.others; witness = witness old n are may })
