-- A part of a tree is sound, and a write makes the same of all of it there.
use Rattle.std.specs.Prelude.{◌==◌, if◌then◌else◌}
use Rattle.std.proofs.Common.{◌≡◌, ℕ, List, [], ◌∷◌, length, Bool, true, false, map, inl, inr, refl, sym, ap, ◌∙◌, subst}
use Rattle.std.proofs.lemmas.Bool.{cond-false, cond-true}
use Rattle.row_store.specs.Rows.{RiseFrom, Rows}
use Rattle.version_graph.specs.Sets.{In, Each}
use Rattle.version_graph.specs.Edges.{is_in}
use Rattle.version_graph.specs.Forest.{Crossing, Link, crossing, forest}
use Rattle.version_graph.specs.declared.parts.Placed.{Placed}
use Rattle.version_graph.proofs.SetLaws.{each_at, each_more, each_of, is_in_true}
use Rattle.op_law.specs.Tables.{Heading, RowsWide, Tables, empty_tables}
use Rattle.op_law.specs.Sound.{PairsSound, RowsSound}
use Rattle.op_law.specs.Laws.{Laws}
use Rattle.op_law.specs.Meaning.{Mapped, Meaning, PairState}
use Rattle.op_law.specs.Premises.{IsPair}
use Rattle.version_model.specs.Put.{put}
use Rattle.version_model.specs.Sound.{IsSound}
use Rattle.version_model.specs.States.{State, empty_at, headings}
use Rattle.version_model.specs.Steps.{IsRelated, after, mapped, pair_in, run, directed}
use Rattle.version_model.specs.Writes.{written}
use Rattle.version_model.proofs.EvolveLaws.{empty_are, empty_map}
use Rattle.version_model.proofs.HeadingLaws.{in_or_not}
use Rattle.version_model.proofs.PutLaws.{map_same, put_else}
use Rattle.version_model.proofs.RunLaws.{run_memory, run_table}
use Rattle.storage_law.proofs.LinkLaws.{not_in_false}
use Rattle.op_law.specs.Local.{only, rows_only}
use Rattle.id_memory.specs.Pairs.{Pairs}
use Rattle.pair_parts.specs.Parts.{memory_only, part_of_pair}
use Rattle.pair_parts.proofs.MemoryLaws.{memory_sound}
use Rattle.pair_parts.proofs.SplitLaws.{splits_anywhere}
use Rattle.op_rows.specs.inner.RowwiseLocal.{well_only}
use Rattle.version_model.specs.Writes.{MayWrite}
use Rattle.changes_walk.specs.Reach.{IsWhole}
use Rattle.write_plans.specs.Trees.{part}
use Rattle.write_plans.specs.declared.tree.Tree.{Tree}
use Rattle.write_plans.proofs.PartLemmas.{rows_sound}
use Rattle.db_state.proofs.PartLaws.{only_map}
use Rattle.changes_walk.proofs.ReachLaws.{IsInside}

-- a new value that both functions get
put_same : {A : Type 0} (f g : ℕ → A) (ks : List ℕ) (vs : List A) (t : ℕ) → f t ≡ g t → put f ks vs t ≡ put g ks vs t
put_same f g [] vs t h = h
put_same f g (k ∷ ks) [] t h = h
put_same {A} f g (k ∷ ks) (v ∷ vs) t h = ap (λ (x : A). if t == k then v else x) (put_same f g ks vs t h)

-- states that have the same sides and memory of a crossing have the same pair
pub same_pair : {O : Type 0} (a b : State) (p : Crossing O) → ((t : ℕ) → In t p.near → a.tables t ≡ b.tables t) → ((t : ℕ) → In t p.far → a.tables t ≡ b.tables t) → a.memory p.number ≡ b.memory p.number → pair_in a p ≡ pair_in b p
same_pair a b p near far memory =
    let n : map a.tables p.near ≡ map b.tables p.near = map_same a.tables b.tables p.near near in
    let f : map a.tables p.far ≡ map b.tables p.far = map_same a.tables b.tables p.far far in
    let m : a.memory p.number ≡ b.memory p.number = memory in
    cc

-- two states have the same tables and memories of the tree, and the same next identifier
pub record Agrees (tree : Tree) (a b : State) : Type 0 where
  pub tables : (t : ℕ) → In t tree.tables → a.tables t ≡ b.tables t
  pub memory : (n : ℕ) → In n tree.operators → a.memory n ≡ b.memory n
  pub next : a.next ≡ b.next

-- what passes a test that all pass is all
pub all_rows : (test : ℕ → Bool) → ((q : ℕ) → test q ≡ true) → (rows : Rows) → rows_only test rows ≡ rows
all_rows test all [] = refl
all_rows test all (r ∷ rs) = cond-true (test r.0) (r ∷ rows_only test rs) (rows_only test rs) (all r.0) ∙ ap (λ (x : Rows). r ∷ x) (all_rows test all rs)

-- so are entries
pub all_entries : (test : ℕ → Bool) → ((q : ℕ) → test q ≡ true) → (es : Pairs) → memory_only test es ≡ es
all_entries test all [] = refl
all_entries test all (e ∷ es) = cond-true (test e.0) (e ∷ memory_only test es) (memory_only test es) (all e.0) ∙ ap (λ (x : Pairs). e ∷ x) (all_entries test all es)

pub part_table : (test : ℕ → Bool) (tree : Tree) (s : State) (t : ℕ) → In t tree.tables → (part test tree s).tables t ≡ rows_only test (s.tables t)
part_table test tree s t i = cond-true (is_in t tree.tables) (rows_only test (s.tables t)) [] (is_in_true t tree.tables i)

pub part_memory : (test : ℕ → Bool) (tree : Tree) (s : State) (n : ℕ) → In n tree.operators → (part test tree s).memory n ≡ memory_only test (s.memory n)
part_memory test tree s n i = cond-true (is_in n tree.operators) (memory_only test (s.memory n)) [] (is_in_true n tree.operators i)

pub no_table : (test : ℕ → Bool) (tree : Tree) (s : State) (t : ℕ) → (In t tree.tables → ⊥) → (part test tree s).tables t ≡ []
no_table test tree s t none = cond-false (is_in t tree.tables) (rows_only test (s.tables t)) [] (not_in_false t tree.tables none)

pub no_memory : (test : ℕ → Bool) (tree : Tree) (s : State) (n : ℕ) → (In n tree.operators → ⊥) → (part test tree s).memory n ≡ []
no_memory test tree s n none = cond-false (is_in n tree.operators) (memory_only test (s.memory n)) [] (not_in_false n tree.operators none)

-- all rows of the tree's tables are those of the state
pub all_agrees : (test : ℕ → Bool) → ((q : ℕ) → test q ≡ true) → (tree : Tree) (s : State) → Agrees tree s (part test tree s)
all_agrees test all tree s = record {
  tables = λ t i. sym (part_table test tree s t i ∙ all_rows test all (s.tables t));
  memory = λ n i. sym (part_memory test tree s n i ∙ all_entries test all (s.memory n));
  next = refl;
}

-- ---- a write inside the tree

module _ {O : Type 0} (meaning : O → Meaning) (tree : Tree) where
  pub pair_inside : (a b : State) (p : Crossing O) → Agrees tree a b → IsInside tree.operators tree.tables p → pair_in a p ≡ pair_in b p
  pair_inside a b p agree inside = same_pair a b p (λ t i. agree.tables t (inside.near t i)) (λ t i. agree.tables t (inside.far t i)) (agree.memory p.number inside.number)

  same_mapped : (old other a b : State) (p : Crossing O) → Agrees tree old other → Agrees tree a b → IsInside tree.operators tree.tables p → mapped meaning old a p ≡ mapped meaning other b p
  same_mapped old other a b p before now inside =
      let m = directed p.backward (meaning p.operator) in
      let near : map a.tables p.near ≡ map b.tables p.near = map_same a.tables b.tables p.near (λ t i. now.tables t (inside.near t i)) in
      ap (λ (x : Tables). m.forward x (pair_in old p) a.next) near
      ∙ ap (λ (x : PairState). m.forward (map b.tables p.near) x a.next) (pair_inside old other p before inside)
      ∙ ap (λ (n : ℕ). m.forward (map b.tables p.near) (pair_in other p) n) now.next

  after_agrees : (old other a b : State) (p : Crossing O) → Agrees tree old other → Agrees tree a b → IsInside tree.operators tree.tables p → Agrees tree (after meaning old a p) (after meaning other b p)
  after_agrees old other a b p before now inside =
      let same = same_mapped old other a b p before now inside in
      record {
        tables = λ t i. put_same a.tables b.tables p.far (mapped meaning old a p).far t (now.tables t i) ∙ ap (λ (x : Mapped). put b.tables p.far x.far t) same;
        memory = λ n i. put_same a.memory b.memory (p.number ∷ []) ((mapped meaning old a p).memory ∷ []) n (now.memory n i) ∙ ap (λ (x : Mapped). put b.memory (p.number ∷ []) (x.memory ∷ []) n) same;
        next = ap (λ (x : Mapped). x.next) same;
      }

  run_agrees : (old other : State) → Agrees tree old other → (ps : List (Crossing O)) (a b : State) → Agrees tree a b → Each (IsInside tree.operators tree.tables) ps → Agrees tree (run meaning old a ps) (run meaning other b ps)
  run_agrees old other before [] a b now inside = now
  run_agrees old other before (p ∷ ps) a b now inside = run_agrees old other before ps (after meaning old a p) (after meaning other b p) (after_agrees old other a b p before now inside.0) inside.1

  module _ (s : State) (ps : List (Crossing O)) (t : ℕ) (rows : Rows) (next : ℕ) (inside : Each (IsInside tree.operators tree.tables) ps) where
    -- CROSSINGS INSIDE MAKE THE SAME OF STATES THAT AGREE
    pub write_agrees : (c : State) → Agrees tree s c → Agrees tree (run meaning s (written s t rows next) ps) (run meaning c (written c t rows next) ps)
    write_agrees c agree =
        run_agrees s c agree ps (written s t rows next) (written c t rows next)
        (record { tables = λ u i. put_same s.tables c.tables (t ∷ []) (rows ∷ []) u (agree.tables u i); memory = agree.memory; next = refl }) inside

    -- and leave what is outside
    pub outside_table : In t tree.tables → (u : ℕ) → (In u tree.tables → ⊥) → (run meaning s (written s t rows next) ps).tables u ≡ s.tables u
    outside_table held u none =
        run_table meaning s ps (written s t rows next) u (each_more (IsInside tree.operators tree.tables) (λ (q : Crossing O). In u q.far → ⊥) (λ q in_tree k. none (in_tree.far u k)) ps inside)
        ∙ put_else s.tables t rows u (λ same. none (subst (λ (k : ℕ). In k tree.tables) (sym same) held))

    pub outside_memory : (n : ℕ) → (In n tree.operators → ⊥) → (run meaning s (written s t rows next) ps).memory n ≡ s.memory n
    outside_memory n none =
        run_memory meaning s ps (written s t rows next) n (each_more (IsInside tree.operators tree.tables) (λ (q : Crossing O). n ≡ q.number → ⊥) (λ q in_tree same. none (subst (λ (k : ℕ). In k tree.operators) (sym same) in_tree.number)) ps inside)

-- ---- a part of a tree is sound

-- empty tables are related
empty_related : {O : Type 0} (meaning : O → Meaning) → ((o : O) → Laws (meaning o)) → (heading : ℕ → Heading) (n : ℕ) (e : Link O) → (meaning e.operator).Fits (map heading e.sources) (map heading e.targets) → IsRelated meaning heading (empty_at n) (crossing false e)
empty_related meaning laws heading n e fits =
    let m = meaning e.operator in
    let hs = map heading e.sources in
    let ht = map heading e.targets in
    record {
      fits = fits;
      related = subst (λ (x : Tables). m.Related (map (empty_at n).tables e.sources) x []) (empty_map n heading e.targets)
          (subst (λ (x : Tables). m.Related x (empty_tables ht) []) (empty_map n heading e.sources) ((laws e.operator).0.empty hs ht fits));
      source_of = empty_are n heading e.sources;
      target_of = empty_are n heading e.targets;
    }

-- the tables of a part ascend and are wide
part_well : (test : ℕ → Bool) (h : Heading) (rows : Rows) → RiseFrom 0 rows → RowsWide (length h.columns) rows → RiseFrom 0 (rows_only test rows) × RowsWide (length h.columns) (rows_only test rows)
part_well test h rows rise wide = (well_only test (h ∷ []) (rows ∷ []) ((rise, wide), tt)).0

module _ {O : Type 0} (meaning : O → Meaning) (laws : (o : O) → Laws (meaning o)) (es : List (Placed O)) (s : State) (sound : IsSound meaning es s) (tree : Tree) (whole : IsWhole es tree.operators tree.tables) (test : ℕ → Bool) where
  abbrev small : State
  small = part test tree s

  was_related : (e : Link O) → In e (forest es) → IsRelated meaning (headings es) s (crossing false e)
  was_related e i = each_at (λ (f : Link O). IsRelated meaning (headings es) s (crossing false f)) (forest es) e i sound.related

  outside_related : (e : Link O) → In e (forest es) → (In e.number tree.operators → ⊥) → IsRelated meaning (headings es) small (crossing false e)
  outside_related e i other =
      let none : State = empty_at s.next in
      let same : pair_in none (crossing false e) ≡ pair_in small (crossing false e) =
      same_pair none small (crossing false e) (λ t k. sym (no_table test tree s t (λ j. other (whole.operators e i t j (inl k))))) (λ t k. sym (no_table test tree s t (λ j. other (whole.operators e i t j (inr k))))) (sym (no_memory test tree s e.number other)) in
      subst (λ (p : PairState). IsPair (meaning e.operator) (map (headings es) e.sources) (map (headings es) e.targets) p) same (empty_related meaning laws (headings es) s.next e (was_related e i).fits)

  -- A PART OF A SOUND STATE IS SOUND, where the operators of the tree relate its sides
  pub tree_sound : ((e : Link O) → In e (forest es) → In e.number tree.operators → IsRelated meaning (headings es) (part test tree s) (crossing false e)) → IsSound meaning es (part test tree s)
  tree_sound inside = record {
    related = each_of (λ (e : Link O). IsRelated meaning (headings es) small (crossing false e)) (forest es) (λ e i. in_or_not e.number tree.operators (IsRelated meaning (headings es) small (crossing false e)) (inside e i) (outside_related e i));
    closed = sound.closed;
    well = record {
      tables = λ t.
          elim (is_in t tree.tables) as (λ b. RiseFrom 0 (if b then rows_only test (s.tables t) else []) × RowsWide (length (headings es t).columns) (if b then rows_only test (s.tables t) else [])) [
            | true ↦ part_well test (headings es t) (s.tables t) (sound.well.tables t).0 (sound.well.tables t).1
            | false ↦ (tt, tt)
          ];
      rows = λ t. elim (is_in t tree.tables) as (λ b. RowsSound s.next (if b then rows_only test (s.tables t) else [])) [ true ↦ rows_sound test s.next (s.tables t) (sound.well.rows t) | false ↦ tt ];
      memories = λ n. elim (is_in n tree.operators) as (λ b. PairsSound s.next (if b then memory_only test (s.memory n) else [])) [ true ↦ memory_sound test s.next (s.memory n) (sound.well.memories n) | false ↦ tt ];
    };
    alone = record {
      tables = λ t none. elim (is_in t tree.tables) as (λ b. (if b then rows_only test (s.tables t) else []) ≡ []) [ true ↦ ap (rows_only test) (sound.alone.tables t none) | false ↦ refl ];
      memories = λ n none. elim (is_in n tree.operators) as (λ b. (if b then memory_only test (s.memory n) else []) ≡ []) [ true ↦ ap (memory_only test) (sound.alone.memories n none) | false ↦ refl ];
    };
    drawn = sound.drawn;
  }

  -- so is all of the tree
  pub all_sound : ((q : ℕ) → test q ≡ true) → IsSound meaning es (part test tree s)
  all_sound all =
      let agree = all_agrees test all tree s in
      tree_sound (λ e i own.
      let same : pair_in s (crossing false e) ≡ pair_in small (crossing false e) =
      same_pair s small (crossing false e) (λ t k. agree.tables t (whole.tables e i own t (inl k))) (λ t k. agree.tables t (whole.tables e i own t (inr k))) (agree.memory e.number own) in
      subst (λ (p : PairState). IsPair (meaning e.operator) (map (headings es) e.sources) (map (headings es) e.targets) p) same (was_related e i))

  -- and what passes the test, where each operator of the tree treats each identifier by itself
  pub local_sound : ((e : Link O) → In e (forest es) → In e.number tree.operators → (meaning e.operator).is_local ≡ true) → IsSound meaning es (part test tree s)
  local_sound local =
      tree_sound (λ e i own.
      let hs = map (headings es) e.sources in
      let ht = map (headings es) e.targets in
      let pair = pair_in s (crossing false e) in
      let n : map small.tables e.sources ≡ only test pair.source = map_same small.tables (λ t. rows_only test (s.tables t)) e.sources (λ t k. part_table test tree s t (whole.tables e i own t (inl k))) ∙ only_map test s.tables e.sources in
      let f : map small.tables e.targets ≡ only test pair.target = map_same small.tables (λ t. rows_only test (s.tables t)) e.targets (λ t k. part_table test tree s t (whole.tables e i own t (inr k))) ∙ only_map test s.tables e.targets in
      let m : small.memory e.number ≡ memory_only test (s.memory e.number) = part_memory test tree s e.number own in
      let same : part_of_pair test pair ≡ pair_in small (crossing false e) = cc in
      subst (λ (p : PairState). IsPair (meaning e.operator) hs ht p) same
      ((splits_anywhere (meaning e.operator) (laws e.operator) test hs ht pair (local e i own) (was_related e i)).related hs ht (was_related e i)))

  -- rows that a table may get, and of these what passes the test
  pub part_may : (w t : ℕ) (rows : Rows) (next : ℕ) → MayWrite es s w t rows next → MayWrite es (part test tree s) w t (rows_only test rows) next
  part_may w t rows next may =
      let well = part_well test (headings es t) rows may.rise may.wide in
      record { held = may.held; rise = well.0; wide = well.1; sound = rows_sound test next rows may.sound; more = may.more }
