-- What is seen of tables, of a state and of what is stored.
use Rattle.std.proofs.Common.{◌≡◌, ℕ, ◌==◌, List, [], ◌∷◌, Bool, true, false, cond, map, Option, Some, refl, sym, ap, ◌∙◌, subst}
use Rattle.std.proofs.lemmas.Bool.{cond-false, false≢true, ne_eqb}
use Rattle.par_base.specs.declared.value.Value.{Value}
use Rattle.row_store.specs.Rows.{Rows, row_of}
use Rattle.id_memory.specs.Pairs.{Pairs}
use Rattle.version_graph.specs.Sets.{In}
use Rattle.version_graph.specs.Forest.{Crossing, Link, crossing, forest}
use Rattle.version_graph.specs.declared.parts.Placed.{Placed}
use Rattle.op_law.specs.Tables.{Heading, Tables}
use Rattle.op_law.specs.Laws.{Laws}
use Rattle.op_law.specs.Local.{only, rows_only}
use Rattle.op_law.specs.Meaning.{Meaning, PairState}
use Rattle.op_law.specs.Premises.{IsPair}
use Rattle.op_law.specs.Identifiers.{has_id}
use Rattle.pair_parts.specs.Parts.{memory_only, part_of_pair}
use Rattle.pair_parts.proofs.SplitLaws.{splits_anywhere, splits_behind}
use Rattle.version_model.specs.States.{State, headings}
use Rattle.version_model.specs.Steps.{directed, pair_in}
use Rattle.storage_law.specs.Storage.{StandsOver, Storage, aux_of}
use Rattle.storage_law.proofs.CanonicalLaws.{either_way}
use Rattle.db_state.specs.Parts.{AreLocalAt, Ascends, MaySee, SplitsAt, SplitsOver, entries_of, passes, seen_of}
use Rattle.db_state.specs.inner.Passes.{SeesOver}
use Rattle.db_state.specs.declared.sight.Sight.{Sight}
use Rattle.db_state.specs.declared.sight.Sight.TheVariants.{All, Of, Part}

-- ---- tables

-- where all are seen, a table is seen as it is
pub rows_all : (rows : Rows) → rows_only (passes All) rows ≡ rows
rows_all [] = refl
rows_all (r ∷ rs) = ap (λ (l : Rows). r ∷ l) (rows_all rs)

pub only_all : (tables : Tables) → only (passes All) tables ≡ tables
only_all [] = refl
only_all (t ∷ ts) = let a = rows_all t in let b = only_all ts in cc

-- so is a memory
pub memory_all : (es : Pairs) → memory_only (passes All) es ≡ es
memory_all [] = refl
memory_all (e ∷ es) = ap (λ (l : Pairs). e ∷ l) (memory_all es)

-- what is seen of what more was seen of
pub rows_within : (P Q : ℕ → Bool) → ((q : ℕ) → P q ≡ true → Q q ≡ true) → (rows : Rows) → rows_only P (rows_only Q rows) ≡ rows_only P rows
rows_within P Q more [] = refl
rows_within P Q more (r ∷ rs) =
    let rest = rows_within P Q more rs in
    let M : Bool → Type 0 = λ b. Q r.0 ≡ b → rows_only P (cond b (r ∷ rows_only Q rs) (rows_only Q rs)) ≡ cond (P r.0) (r ∷ rows_only P rs) (rows_only P rs) in
    let both : M (Q r.0) = elim (Q r.0) as (λ b. M b) [
      | true ↦ λ e. ap (λ (l : Rows). cond (P r.0) (r ∷ l) l) rest
      | false ↦ λ e. rest ∙ sym (cond-false (P r.0) (r ∷ rows_only P rs) (rows_only P rs) (out (P r.0) refl e))
    ] in
    both refl
  where
    out : (b : Bool) → P r.0 ≡ b → Q r.0 ≡ false → b ≡ false
    out false e h = refl
    out true e h = absurd (false≢true (sym h ∙ more r.0 e))

-- what is seen of what is seen is that
pub rows_twice : (P : ℕ → Bool) (rows : Rows) → rows_only P (rows_only P rows) ≡ rows_only P rows
rows_twice P rows = rows_within P P (λ q h. h) rows

-- the row of an identifier that is seen
pub row_seen : (P : ℕ → Bool) (rows : Rows) (id : ℕ) → P id ≡ true → row_of (rows_only P rows) id ≡ row_of rows id
row_seen P [] id h = refl
row_seen P (r ∷ rs) id h =
    let rest = row_seen P rs id h in
    let M : Bool → Type 0 = λ b. P r.0 ≡ b → row_of (cond b (r ∷ rows_only P rs) (rows_only P rs)) id ≡ cond (r.0 == id) (Some r.1) (row_of rs id) in
    let both : M (P r.0) = elim (P r.0) as (λ b. M b) [
      | true ↦ λ e. ap (λ (o : Option (List Value)). cond (r.0 == id) (Some r.1) o) rest
      | false ↦ λ e. rest ∙ sym (cond-false (r.0 == id) (Some r.1) (row_of rs id) (ne_eqb r.0 id (λ same. false≢true (sym e ∙ ap P same ∙ h))))
    ] in
    both refl

-- tables by their numbers
pub only_map : (P : ℕ → Bool) (f : ℕ → Rows) (ns : List ℕ) → map (λ t. rows_only P (f t)) ns ≡ only P (map f ns)
only_map P f [] = refl
only_map P f (n ∷ ns) = ap (λ (ts : Tables). rows_only P (f n) ∷ ts) (only_map P f ns)

-- ---- what may be seen

pub ascends_of : {O : Type 0} (meaning : O → Meaning) (es : List (Placed O)) (s : State) (ns : List ℕ) (sight : Sight) → MaySee meaning es s ns sight → Ascends sight
ascends_of meaning es s ns All may = tt
ascends_of meaning es s ns (Of ids) may = may.0
ascends_of meaning es s ns (Part ids) may = may.0

pub sees_of : {O : Type 0} (meaning : O → Meaning) (es : List (Placed O)) (s : State) (ns : List ℕ) (sight : Sight) → MaySee meaning es s ns sight
    → (e : Link O) → In e (forest es) → In e.number ns → SeesOver meaning (headings es) s sight e
sees_of {O} meaning es s ns All may e at mine = tt
sees_of {O} meaning es s ns (Of ids) may e at mine = may.1 e at mine
sees_of {O} meaning es s ns (Part ids) may e at mine = may.1 e at mine

-- any identifiers split what local operators relate
pub split_local : {O : Type 0} (meaning : O → Meaning) → ((o : O) → Laws (meaning o)) → (es : List (Placed O)) (ns : List ℕ) (P : ℕ → Bool) → AreLocalAt meaning es ns → (s : State) → SplitsAt meaning es s ns P
split_local {O} meaning laws es ns P local s e at mine related =
    splits_anywhere (meaning e.operator) (laws e.operator) P (map (headings es) e.sources) (map (headings es) e.targets) (pair_in s (crossing false e)) (local e at mine) related

-- so any sight is read over them, of whatever state
pub sees_local : {O : Type 0} (meaning : O → Meaning) → ((o : O) → Laws (meaning o)) → (es : List (Placed O)) (ns : List ℕ) (sight : Sight) → Ascends sight → AreLocalAt meaning es ns → (s : State) → MaySee meaning es s ns sight
sees_local meaning laws es ns All rise local s = tt
sees_local meaning laws es ns (Of ids) rise local s = (rise, local)
sees_local meaning laws es ns (Part ids) rise local s = (rise, split_local meaning laws es ns (has_id ids.now) local s)

-- ---- states and what is stored

-- what is seen of the stored and the auxiliary tables, and of the memories
abbrev pub storage_seen : Sight → Storage → Storage
storage_seen sight storage = record {
  layout = storage.layout;
  stored = seen_of sight storage.stored;
  aux = λ n. only (passes sight) (storage.aux n);
  memory = entries_of sight storage.memory;
}

-- what is seen of each table and of each memory
abbrev pub state_seen : Sight → State → State
state_seen sight s = record { tables = seen_of sight s.tables; memory = entries_of sight s.memory; next = s.next }

pub pair_all : (p : PairState) → part_of_pair (passes All) p ≡ p
pair_all p =
    ap (λ (ts : Tables). record { source = ts; target = only (passes All) p.target; memory = memory_only (passes All) p.memory }) (only_all p.source)
    ∙ ap (λ (ts : Tables). record { source = p.source; target = ts; memory = memory_only (passes All) p.memory }) (only_all p.target)
    ∙ ap (λ (es : Pairs). record { source = p.source; target = p.target; memory = es }) (memory_all p.memory)

pub pair_seen : {O : Type 0} (sight : Sight) (s : State) (p : Crossing O) → pair_in (state_seen sight s) p ≡ part_of_pair (passes sight) (pair_in s p)
pair_seen sight s p = let a = only_map (passes sight) s.tables p.near in let b = only_map (passes sight) s.tables p.far in cc

module _ {O : Type 0} (meaning : O → Meaning) (laws : (o : O) → Laws (meaning o)) (heading : ℕ → Heading) (storage : Storage) (s : State) where
  -- a part of a related pair is one, with that part of its auxiliary tables
  part_stands : (sight : Sight) (p : Crossing O) → IsPair (directed p.backward (meaning p.operator)) (map heading p.near) (map heading p.far) (part_of_pair (passes sight) (pair_in s p))
      → (directed p.backward (meaning p.operator)).aux_at_source (part_of_pair (passes sight) (pair_in s p)) ≡ only (passes sight) (aux_of meaning s p)
      → StandsOver meaning heading storage s p → StandsOver meaning heading (storage_seen sight storage) (state_seen sight s) p
  part_stands sight p related aux stands =
      let m = directed p.backward (meaning p.operator) in
      let same = pair_seen sight s p in
      record {
        related = subst (λ (x : PairState). IsPair m (map heading p.near) (map heading p.far) x) (sym same) related;
        aux = ap (only (passes sight)) stands.aux ∙ sym aux ∙ ap (λ (x : PairState). m.aux_at_source x) (sym same);
        memory = ap (memory_only (passes sight)) stands.memory;
      }

  -- so is what identifiers that split it leave
  split_stands : (sight : Sight) (back : Bool) (e : Link O) → SplitsOver meaning heading s (passes sight) e → StandsOver meaning heading storage s (crossing back e) → StandsOver meaning heading (storage_seen sight storage) (state_seen sight s) (crossing back e)
  split_stands sight false e splits stands =
      let own = splits stands.related in
      part_stands sight (crossing false e) (own.related (map heading e.sources) (map heading e.targets) stands.related) own.at_source stands
  split_stands sight true e splits stands =
      let own = splits_behind (meaning e.operator) (passes sight) (pair_in s (crossing false e)) (splits (either_way meaning heading s true false e stands.related)) in
      part_stands sight (crossing true e) (own.related (map heading e.targets) (map heading e.sources) stands.related) own.at_source stands

  -- WHAT IS SEEN OF WHAT IS STORED STANDS FOR WHAT IS SEEN OF THE STATE
  pub seen_stands : (sight : Sight) (back : Bool) (e : Link O) → SeesOver meaning heading s sight e → StandsOver meaning heading storage s (crossing back e)
      → StandsOver meaning heading (storage_seen sight storage) (state_seen sight s) (crossing back e)
  seen_stands All back e sees stands =
      let p = crossing back e in
      let m = directed p.backward (meaning p.operator) in
      let whole = pair_all (pair_in s p) in
      part_stands All p (subst (λ (x : PairState). IsPair m (map heading p.near) (map heading p.far) x) (sym whole) stands.related)
      (ap (λ (x : PairState). m.aux_at_source x) whole ∙ sym (only_all (aux_of meaning s p))) stands
  seen_stands (Of ids) back e sees stands =
      split_stands (Of ids) back e
      (λ related. splits_anywhere (meaning e.operator) (laws e.operator) (passes (Of ids)) (map heading e.sources) (map heading e.targets) (pair_in s (crossing false e)) sees related)
      stands
  seen_stands (Part ids) back e sees stands = split_stands (Part ids) back e sees stands
