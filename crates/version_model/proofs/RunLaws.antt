-- Crossings in order keep all pairs related.
use Rattle.std.proofs.Common.{◌≡◌, ℕ, ◌≤◌, Bool, true, false, List, [], ◌∷◌, ◌++◌, map, refl, sym, ap, ◌∙◌, subst, arith, length, ◌+◌, ◌<◌, take, drop, get_or}
use Rattle.std.proofs.lemmas.List.{drop_more, take_more, take-append-drop}
use Rattle.row_store.specs.Rows.{Rows, RiseFrom}
use Rattle.id_memory.specs.Pairs.{Pairs}
use Rattle.version_graph.specs.Sets.{In, Apart, Distinct, Each}
use Rattle.version_graph.specs.Forest.{Crossing}
use Rattle.version_graph.specs.Laws.{Leaves, Ordered}
use Rattle.op_law.specs.Tables.{Tables, Heading, AreTablesOf, RowsWide}
use Rattle.op_law.specs.Sound.{RowsSound, TablesSound, PairsSound}
use Rattle.op_law.specs.Meaning.{Meaning, PairState}
use Rattle.op_law.specs.Premises.{IsPair, MayMap, SomeMap, pair_after}
use Rattle.op_law.specs.Laws.{Laws, HalfLaws, IsBelowNext}
use Rattle.op_law.proofs.SoundLaws.{rows_more, tables_more, pairs_more}
use Rattle.version_model.specs.Put.{put}
use Rattle.version_model.specs.States.{State, IsWell}
use Rattle.version_model.specs.Steps.{directed, pair_in, IsRelated, mapped, after, run}
use Rattle.version_model.proofs.PutLaws.{AsMany, EachAt, put_other, put_apart, put_here, put_holds, put_else}

-- a crossing either way keeps the laws
pub way_laws : (backward : Bool) (m : Meaning) → Laws m → HalfLaws (directed backward m)
way_laws false m laws = laws.0
way_laws true m laws = laws.1

-- a crossing whose old pair is related, and whose operator's expressions are closed
pub record IsReady {O : Type 0} (meaning : O → Meaning) (heading : ℕ → Heading) (old : State) (p : Crossing O) : Type 0 where
  pub related : IsRelated meaning heading old p
  pub closed : (directed p.backward (meaning p.operator)).Closed old.next

-- a mapping may be made over a crossing
abbrev pub MayCross : {O : Type 0} → (O → Meaning) → (ℕ → Heading) → State → State → Crossing O → Type 0
MayCross meaning heading old now p = MayMap (directed p.backward (meaning p.operator)) (map heading p.near) (map heading p.far) (map now.tables p.near) (pair_in old p) now.next

-- so the operator's call may be made
pub may_call : {O : Type 0} (meaning : O → Meaning) (heading : ℕ → Heading) (old now : State) (p : Crossing O) → MayCross meaning heading old now p → SomeMap (directed p.backward (meaning p.operator)) (map now.tables p.near) (pair_in old p) now.next
may_call meaning heading old now p may = record { hs = map heading p.near; ht = map heading p.far; may = may }

-- the far side and the memory are as they were
pub record IsOld {O : Type 0} (old now : State) (p : Crossing O) : Type 0 where
  pub far : map now.tables p.far ≡ map old.tables p.far
  pub memory : now.memory p.number ≡ old.memory p.number

-- a list at one of its places
pub parted : {X : Type 0} (xs : List X) (i : ℕ) (d : X) → i < length xs → xs ≡ take i xs ++ get_or xs i d ∷ drop (i + 1) xs
parted {X} xs i d within = sym (take-append-drop i xs) ∙ ap (λ (l : List X). take i xs ++ l) (drop_more xs i d within)

-- ---- tables as wide as their headings, and below the next identifier

module _ (heading : ℕ → Heading) where
  are_tables : (f : ℕ → Rows) (ks : List ℕ) → ((n : ℕ) → RiseFrom 0 (f n) × RowsWide (length (heading n).columns) (f n)) → AreTablesOf (map heading ks) (map f ks)
  are_tables f [] h = tt
  are_tables f (k ∷ ks) h = (h k, are_tables f ks h)

  as_many : (ks : List ℕ) (ts : Tables) → AreTablesOf (map heading ks) ts → AsMany ks ts
  as_many [] [] h = tt
  as_many [] (t ∷ ts) h = absurd h
  as_many (k ∷ ks) [] h = absurd h
  as_many (k ∷ ks) (t ∷ ts) h = as_many ks ts h.1

  each_wide : (ks : List ℕ) (ts : Tables) → AreTablesOf (map heading ks) ts → EachAt (λ n t. RiseFrom 0 t × RowsWide (length (heading n).columns) t) ks ts
  each_wide [] ts h = tt
  each_wide (k ∷ ks) [] h = tt
  each_wide (k ∷ ks) (t ∷ ts) h = (h.0, each_wide ks ts h.1)

are_sound : (n : ℕ) (f : ℕ → Rows) (ks : List ℕ) → ((k : ℕ) → RowsSound n (f k)) → TablesSound n (map f ks)
are_sound n f [] h = tt
are_sound n f (k ∷ ks) h = (h k, are_sound n f ks h)

each_sound : (n : ℕ) (ks : List ℕ) (ts : Tables) → TablesSound n ts → EachAt (λ k t. RowsSound n t) ks ts
each_sound n [] ts h = tt
each_sound n (k ∷ ks) [] h = tt
each_sound n (k ∷ ks) (t ∷ ts) h = (h.0, each_sound n ks ts h.1)

-- ---- what a run leaves, whatever the operators

module _ {O : Type 0} (meaning : O → Meaning) (old : State) where
  -- a crossing leaves the pairs of others
  pub leaves_pair : (now : State) (p q : Crossing O) → Leaves p q → pair_in (after meaning old now q) p ≡ pair_in now p
  leaves_pair now p q l =
      let to = mapped meaning old now q in
      let near : map (put now.tables q.far to.far) p.near ≡ map now.tables p.near = put_apart now.tables q.far to.far p.near l.near in
      let far : map (put now.tables q.far to.far) p.far ≡ map now.tables p.far = put_apart now.tables q.far to.far p.far l.far in
      let memory : put now.memory (q.number ∷ []) (to.memory ∷ []) p.number ≡ now.memory p.number = put_else now.memory q.number to.memory p.number l.memory in
      cc

  pub run_leaves : (ps : List (Crossing O)) (now : State) (p : Crossing O) → Each (Leaves p) ps → pair_in (run meaning old now ps) p ≡ pair_in now p
  run_leaves [] now p l = refl
  run_leaves (q ∷ qs) now p l = run_leaves qs (after meaning old now q) p l.1 ∙ leaves_pair now p q l.0

  -- a table that stands on no far side stays
  pub run_table : (ps : List (Crossing O)) (now : State) (n : ℕ) → Each (λ q. In n q.far → ⊥) ps → (run meaning old now ps).tables n ≡ now.tables n
  run_table [] now n l = refl
  run_table (q ∷ qs) now n l = run_table qs (after meaning old now q) n l.1 ∙ put_other now.tables q.far (mapped meaning old now q).far n l.0

  -- the memory of an operator that isn't crossed stays
  pub run_memory : (ps : List (Crossing O)) (now : State) (n : ℕ) → Each (λ q. n ≡ q.number → ⊥) ps → (run meaning old now ps).memory n ≡ now.memory n
  run_memory [] now n l = refl
  run_memory (q ∷ qs) now n l = run_memory qs (after meaning old now q) n l.1 ∙ put_else now.memory q.number (mapped meaning old now q).memory n l.0

  -- a run in two parts
  pub run_append : (ps qs : List (Crossing O)) (now : State) → run meaning old now (ps ++ qs) ≡ run meaning old (run meaning old now ps) qs
  run_append [] qs now = refl
  run_append (p ∷ ps) qs now = run_append ps qs (after meaning old now p)

  -- one crossing more
  pub run_more : (ps : List (Crossing O)) (i : ℕ) (d : Crossing O) (now : State) → i < length ps → run meaning old now (take (i + 1) ps) ≡ after meaning old (run meaning old now (take i ps)) (get_or ps i d)
  run_more ps i d now within = ap (λ (l : List (Crossing O)). run meaning old now l) (take_more ps i d within) ∙ run_append (take i ps) (get_or ps i d ∷ []) now

-- ---- operators that keep the laws

module _ {O : Type 0} (meaning : O → Meaning) (laws : (o : O) → Laws (meaning o)) (heading : ℕ → Heading) (old : State) (sound : IsWell heading old) where
  half : (p : Crossing O) → HalfLaws (directed p.backward (meaning p.operator))
  half p = way_laws p.backward (meaning p.operator) (laws p.operator)

  -- THE MAPPING OF A CROSSING MAY BE MADE
  pub may_cross : (now : State) (p : Crossing O) → IsWell heading now → old.next ≤ now.next → IsReady meaning heading old p → MayCross meaning heading old now p
  may_cross now p well more m = record {
    sound = record {
      pair = m.related;
      source = tables_more old.next now.next more (map old.tables p.near) (are_sound old.next old.tables p.near sound.rows);
      target = tables_more old.next now.next more (map old.tables p.far) (are_sound old.next old.tables p.far sound.rows);
      memory = pairs_more old.next now.next more (old.memory p.number) (sound.memories p.number);
    };
    closed = (half p).closed_more old.next now.next more m.closed;
    near_of = are_tables heading now.tables p.near well.tables;
    near_sound = are_sound now.next now.tables p.near well.rows;
  }

  -- the new pair
  kept : (now : State) (p : Crossing O) → IsWell heading now → old.next ≤ now.next → IsReady meaning heading old p → IsPair (directed p.backward (meaning p.operator)) (map heading p.near) (map heading p.far) (pair_after (directed p.backward (meaning p.operator)) (map now.tables p.near) (pair_in old p) now.next)
  kept now p well more m = (half p).kept (map heading p.near) (map heading p.far) (map now.tables p.near) (pair_in old p) now.next (may_cross now p well more m)

  below : (now : State) (p : Crossing O) → IsWell heading now → old.next ≤ now.next → IsReady meaning heading old p → IsBelowNext (map now.tables p.near) (pair_in old p) now.next (mapped meaning old now p)
  below now p well more m = (half p).below (map heading p.near) (map heading p.far) (map now.tables p.near) (pair_in old p) now.next (may_cross now p well more m)

  pub after_rises : (now : State) (p : Crossing O) → IsWell heading now → old.next ≤ now.next → IsReady meaning heading old p → now.next ≤ (after meaning old now p).next
  after_rises now p well more m = (below now p well more m).rises

  pub after_well : (now : State) (p : Crossing O) → IsWell heading now → old.next ≤ now.next → IsReady meaning heading old p → IsWell heading (after meaning old now p)
  after_well now p well more m =
      let to = mapped meaning old now p in
      let under = below now p well more m in
      record {
        tables = put_holds (λ n t. RiseFrom 0 t × RowsWide (length (heading n).columns) t) now.tables p.far to.far (each_wide heading p.far to.far (kept now p well more m).target_of) well.tables;
        rows = put_holds (λ n t. RowsSound to.next t) now.tables p.far to.far (each_sound to.next p.far to.far under.far) (λ n. rows_more now.next to.next under.rises (now.tables n) (well.rows n));
        memories = put_holds (λ n (m : Pairs). PairsSound to.next m) now.memory (p.number ∷ []) (to.memory ∷ []) (under.memory, tt) (λ n. pairs_more now.next to.next under.rises (now.memory n) (well.memories n));
      }

  -- a crossing that is made has its new pair
  pub after_related : (now : State) (p : Crossing O) → IsWell heading now → old.next ≤ now.next → IsReady meaning heading old p → Distinct p.far → Apart p.near p.far → IsRelated meaning heading (after meaning old now p) p
  after_related now p well more m distinct apart =
      let to = mapped meaning old now p in
      let new = kept now p well more m in
      let near : map (put now.tables p.far to.far) p.near ≡ map now.tables p.near = put_apart now.tables p.far to.far p.near apart in
      let far : map (put now.tables p.far to.far) p.far ≡ to.far = put_here now.tables p.far to.far distinct (as_many heading p.far to.far new.target_of) in
      let memory : map (put now.memory (p.number ∷ []) (to.memory ∷ [])) (p.number ∷ []) ≡ to.memory ∷ [] = put_here now.memory (p.number ∷ []) (to.memory ∷ []) (λ i. i, tt) tt in
      let same : pair_in (after meaning old now p) p ≡ pair_after (directed p.backward (meaning p.operator)) (map now.tables p.near) (pair_in old p) now.next = cc in
      subst (λ (x : PairState). IsPair (directed p.backward (meaning p.operator)) (map heading p.near) (map heading p.far) x) (sym same) new

  pub run_well : (ps : List (Crossing O)) (now : State) → IsWell heading now → old.next ≤ now.next → Each (IsReady meaning heading old) ps → IsWell heading (run meaning old now ps)
  run_well [] now well more m = well
  run_well (p ∷ ps) now well more m =
      let up = after_rises now p well more m.0 in
      run_well ps (after meaning old now p) (after_well now p well more m.0) (omega arith) m.1

  pub run_rises : (ps : List (Crossing O)) (now : State) → IsWell heading now → old.next ≤ now.next → Each (IsReady meaning heading old) ps → now.next ≤ (run meaning old now ps).next
  run_rises [] now well more m = omega arith
  run_rises (p ∷ ps) now well more m =
      let up = after_rises now p well more m.0 in
      let rest = run_rises ps (after meaning old now p) (after_well now p well more m.0) (omega arith) m.1 in
      omega arith

  -- the next identifier of a whole run isn't below that of its front
  pub run_rises_on : (ps qs : List (Crossing O)) (now : State) → IsWell heading now → old.next ≤ now.next → Each (IsReady meaning heading old) (ps ++ qs) → (run meaning old now ps).next ≤ (run meaning old now (ps ++ qs)).next
  run_rises_on [] qs now well more m = run_rises qs now well more m
  run_rises_on (p ∷ ps) qs now well more m =
      let up = after_rises now p well more m.0 in
      run_rises_on ps qs (after meaning old now p) (after_well now p well more m.0) (omega arith) m.1

  -- EACH MAPPING OF A RUN MAY BE MADE: that over p after the crossings before it
  pub run_may_cross : (ps qs : List (Crossing O)) (p : Crossing O) (now : State) → IsWell heading now → old.next ≤ now.next → Each (IsReady meaning heading old) (ps ++ p ∷ qs) → MayCross meaning heading old (run meaning old now ps) p
  run_may_cross [] qs p now well more m = may_cross now p well more m.0
  run_may_cross (q ∷ ps) qs p now well more m =
      let up = after_rises now q well more m.0 in
      run_may_cross ps qs p (after meaning old now q) (after_well now q well more m.0) (omega arith) m.1

  -- EACH CROSSING OF A RUN IN ORDER IS RELATED AT THE END
  pub run_related : (ps : List (Crossing O)) (now : State) → IsWell heading now → old.next ≤ now.next → Each (IsReady meaning heading old) ps → Ordered ps → Each (IsRelated meaning heading (run meaning old now ps)) ps
  run_related [] now well more m o = tt
  run_related (p ∷ ps) now well more m o =
      let up = after_rises now p well more m.0 in
      let next = after meaning old now p in
      let here = after_related now p well more m.0 o.0 o.1 in
      let there = run_leaves meaning old ps next p o.2 in (
        subst (λ (x : PairState). IsPair (directed p.backward (meaning p.operator)) (map heading p.near) (map heading p.far) x) (sym there) here,
        run_related ps next (after_well now p well more m.0) (omega arith) m.1 o.3,
      )
