-- A write of the rows of some identifiers alone: where every operator of the tree treats each identifier by itself, the write of the part is the part of the write, and elsewhere nothing changes.
use Rattle.std.specs.Prelude.{◌==◌, if◌then◌else◌}
use Rattle.std.proofs.lemmas.Bool.{eqb-true}
use Rattle.std.proofs.lemmas.Bool.Decides.{nat_tests}
use Rattle.std.proofs.Common.{◌≡◌, ℕ, ◌≤◌, List, [], ◌∷◌, Bool, true, false, cond, map, refl, sym, ap, ◌∙◌, subst, arith}
use Rattle.row_store.specs.Rows.{Rows}
use Rattle.version_graph.specs.Sets.{In, Each}
use Rattle.version_graph.specs.Forest.{Crossing}
use Rattle.op_law.specs.Tables.{Heading, Tables}
use Rattle.op_law.specs.Sound.{RowsSound, TablesSound}
use Rattle.op_law.specs.Laws.{HalfLaws, Laws}
use Rattle.op_law.specs.Local.{HalfLocal, only, pair_only, rows_only}
use Rattle.op_law.specs.Meaning.{Mapped, Meaning, PairState}
use Rattle.op_law.specs.Premises.{MayMap, pair_after}
use Rattle.op_rows.specs.inner.RowwiseLocal.{well_only}
use Rattle.id_memory.specs.Pairs.{Pairs}
use Rattle.pair_parts.specs.Parts.{memory_only, part_of_pair}
use Rattle.pair_parts.proofs.MemoryLaws.{part_without}
use Rattle.version_model.specs.Put.{put}
use Rattle.version_model.specs.States.{IsWell, State}
use Rattle.version_model.specs.Steps.{after, mapped, pair_in, run, directed}
use Rattle.version_model.proofs.PutLaws.{map_same}
use Rattle.version_model.proofs.RunLaws.{IsReady, after_rises, after_well, may_cross, way_laws}
use Rattle.db_state.proofs.PartLaws.{only_map}
use Rattle.write_plans.specs.declared.tree.Tree.{Tree}
use Rattle.changes_walk.proofs.ReachLaws.{IsInside}

-- ---- tables of some identifiers

pub put_only : (P : ℕ → Bool) (f g : ℕ → Rows) (ks : List ℕ) (vs : Tables) (t : ℕ) → rows_only P (f t) ≡ g t → rows_only P (put f ks vs t) ≡ put g ks (only P vs) t
put_only P f g [] vs t h = h
put_only P f g (k ∷ ks) [] t h = h
put_only P f g (k ∷ ks) (v ∷ vs) t h =
    elim (t == k) as (λ b. rows_only P (if b then v else put f ks vs t) ≡ (if b then rows_only P v else put g ks (only P vs) t)) [ true ↦ refl | false ↦ put_only P f g ks vs t h ]

-- values of one function that are put where another has the same leave it
pub put_own : (f g : ℕ → Rows) (ks : List ℕ) (t : ℕ) → f t ≡ g t → put f ks (map g ks) t ≡ g t
put_own f g [] t h = h
put_own f g (k ∷ ks) t h = elim (t == k) as (λ b. (t == k) ≡ b → (if b then g k else put f ks (map g ks) t) ≡ g t) [ true ↦ λ e. ap g (sym (eqb t k e)) | false ↦ λ e. put_own f g ks t h ] refl
  where
    eqb : (a b : ℕ) → (a == b) ≡ true → a ≡ b
    eqb a b e = grind (arith, nat_tests)

-- a memory that is put, restricted
pub put_entries : (P : ℕ → Bool) (f g : ℕ → Pairs) (k : ℕ) (es : Pairs) (n : ℕ) → memory_only P (f n) ≡ g n → memory_only P (put f (k ∷ []) (es ∷ []) n) ≡ put g (k ∷ []) (memory_only P es ∷ []) n
put_entries P f g k es n h = elim (n == k) as (λ b. memory_only P (if b then es else f n) ≡ (if b then memory_only P es else g n)) [ true ↦ refl | false ↦ h ]

-- one that is the same there leaves what was
pub entries_rest : (Q : ℕ → Bool) (f old : ℕ → Pairs) (k : ℕ) (es : Pairs) (n : ℕ) → memory_only Q es ≡ memory_only Q (old k) → memory_only Q (f n) ≡ memory_only Q (old n) → memory_only Q (put f (k ∷ []) (es ∷ []) n) ≡ memory_only Q (old n)
entries_rest Q f old k es n here h =
    elim (n == k) as (λ b. (n == k) ≡ b → memory_only Q (if b then es else f n) ≡ memory_only Q (old n)) [
      | true ↦ λ e. here ∙ ap (λ (i : ℕ). memory_only Q (old i)) (sym (eqb-true n k e))
      | false ↦ λ e. h
    ] refl

pub rows_sound : (P : ℕ → Bool) (n : ℕ) (rows : Rows) → RowsSound n rows → RowsSound n (rows_only P rows)
rows_sound P n [] h = tt
rows_sound P n (r ∷ rs) h =
    let rest = rows_sound P n rs h.1 in
    elim (P r.0) as (λ b. RowsSound n (cond b (r ∷ rows_only P rs) (rows_only P rs))) [ true ↦ (h.0, rest) | false ↦ rest ]

tables_sound : (P : ℕ → Bool) (n : ℕ) (ts : Tables) → TablesSound n ts → TablesSound n (only P ts)
tables_sound P n [] h = tt
tables_sound P n (t ∷ ts) h = (rows_sound P n t h.0, tables_sound P n ts h.1)

-- what may be mapped may be mapped restricted
pub may_only : (m : Meaning) → HalfLocal m → (P : ℕ → Bool) (hs ht : List Heading) (near : Tables) (old : PairState) (n : ℕ) → MayMap m hs ht near old n → MayMap m hs ht (only P near) (pair_only P old) n
may_only m here P hs ht near old n may = record {
  sound = record {
    pair = here.related P hs ht old may.sound.pair;
    source = tables_sound P n old.source may.sound.source;
    target = tables_sound P n old.target may.sound.target;
    memory = may.sound.memory;
  };
  closed = may.closed;
  near_of = well_only P hs near may.near_of;
  near_sound = tables_sound P n near may.near_sound;
}

-- ---- a run of local operators

-- one state has the part of the other's tables and memories of the tree, and its next identifier
pub record IsPartOf (P : ℕ → Bool) (tree : Tree) (a b : State) : Type 0 where
  pub tables : (t : ℕ) → In t tree.tables → rows_only P (a.tables t) ≡ b.tables t
  pub memory : (n : ℕ) → In n tree.operators → memory_only P (a.memory n) ≡ b.memory n
  pub next : a.next ≡ b.next

-- the tables and the memories of the tree have what another state has at these identifiers
pub record Rests (Q : ℕ → Bool) (tree : Tree) (old a : State) : Type 0 where
  pub tables : (t : ℕ) → In t tree.tables → rows_only Q (a.tables t) ≡ rows_only Q (old.tables t)
  pub memory : (n : ℕ) → In n tree.operators → memory_only Q (a.memory n) ≡ memory_only Q (old.memory n)

module _ {O : Type 0} (meaning : O → Meaning) (laws : (o : O) → Laws (meaning o)) (tree : Tree) where
  abbrev at : Crossing O → Meaning
  at p = directed p.backward (meaning p.operator)

  -- a crossing inside the tree, over an operator that treats each identifier by itself
  pub record IsLocalInside (p : Crossing O) : Type 0 where
    pub inside : IsInside tree.operators tree.tables p
    pub local : HalfLocal (at p)

  half : (p : Crossing O) → HalfLaws (at p)
  half p = way_laws p.backward (meaning p.operator) (laws p.operator)

  module _ (heading : ℕ → Heading) (old : State) (sound : IsWell heading old) where
    abbrev MayAt : State → Crossing O → Type 0
    MayAt a p = MayMap (at p) (map heading p.near) (map heading p.far) (map a.tables p.near) (pair_in old p) a.next

    may_at : (a : State) (p : Crossing O) → IsWell heading a → old.next ≤ a.next → IsReady meaning heading old p → MayAt a p
    may_at a p well more ready = may_cross meaning laws heading old sound a p well more ready

    -- A RUN DRAWS NOTHING
    pub run_draws_none : (ps : List (Crossing O)) (a : State) → IsWell heading a → old.next ≤ a.next → Each (IsReady meaning heading old) ps → Each IsLocalInside ps → (run meaning old a ps).next ≡ a.next
    run_draws_none [] a well more ready here = refl
    run_draws_none (p ∷ ps) a well more ready here =
        let up = after_rises meaning laws heading old sound a p well more ready.0 in
        run_draws_none ps (after meaning old a p) (after_well meaning laws heading old sound a p well more ready.0) (omega arith) ready.1 here.1
        ∙ here.0.local.draws_none (map heading p.near) (map heading p.far) (map a.tables p.near) (pair_in old p) a.next (may_at a p well more ready.0)

    -- ---- the part of a run

    module _ (P : ℕ → Bool) (other : State) (before : IsPartOf P tree old other) where
      pub near_is : (a b : State) (p : Crossing O) → IsPartOf P tree a b → IsInside tree.operators tree.tables p → map b.tables p.near ≡ only P (map a.tables p.near)
      near_is a b p now inside = map_same b.tables (λ t. rows_only P (a.tables t)) p.near (λ t i. sym (now.tables t (inside.near t i))) ∙ only_map P a.tables p.near

      pair_is : (p : Crossing O) → IsInside tree.operators tree.tables p → pair_in other p ≡ part_of_pair P (pair_in old p)
      pair_is p inside =
          let n : map other.tables p.near ≡ only P (map old.tables p.near) = near_is old other p before inside in
          let f : map other.tables p.far ≡ only P (map old.tables p.far) = map_same other.tables (λ t. rows_only P (old.tables t)) p.far (λ t i. sym (before.tables t (inside.far t i))) ∙ only_map P old.tables p.far in
          let m : other.memory p.number ≡ memory_only P (old.memory p.number) = sym (before.memory p.number inside.number) in
          cc

      pub small_is : (a b : State) (p : Crossing O) → IsPartOf P tree a b → IsInside tree.operators tree.tables p → mapped meaning other b p ≡ (at p).forward (only P (map a.tables p.near)) (part_of_pair P (pair_in old p)) a.next
      small_is a b p now inside =
          ap (λ (x : Tables). (at p).forward x (pair_in other p) b.next) (near_is a b p now inside)
          ∙ ap (λ (x : PairState). (at p).forward (only P (map a.tables p.near)) x b.next) (pair_is p inside)
          ∙ ap (λ (n : ℕ). (at p).forward (only P (map a.tables p.near)) (part_of_pair P (pair_in old p)) n) (sym now.next)

      after_part : (a b : State) (p : Crossing O) → IsPartOf P tree a b → IsLocalInside p → MayAt a p → IsPartOf P tree (after meaning old a p) (after meaning other b p)
      after_part a b p now here may =
          let hs = map heading p.near in
          let ht = map heading p.far in
          let near = map a.tables p.near in
          let pair = pair_in old p in
          let small = may_only (at p) here.local P hs ht near pair a.next may in
          let same : pair_only P pair ≡ part_of_pair P pair = part_without P pair (here.local.no_memory hs ht pair may.sound.pair) in
          let is = small_is a b p now here.inside ∙ ap (λ (x : PairState). (at p).forward (only P near) x a.next) (sym same) in
          let far : only P (mapped meaning old a p).far ≡ (mapped meaning other b p).far = sym (here.local.forward P hs ht near pair a.next may) ∙ sym (ap (λ (x : Mapped). x.far) is) in
          let none : (mapped meaning old a p).memory ≡ [] = here.local.no_memory hs ht (pair_after (at p) near pair a.next) ((half p).kept hs ht near pair a.next may) in
          let none_small : (mapped meaning other b p).memory ≡ [] =
          ap (λ (x : Mapped). x.memory) is ∙ here.local.no_memory hs ht (pair_after (at p) (only P near) (pair_only P pair) a.next) ((half p).kept hs ht (only P near) (pair_only P pair) a.next small) in
          record {
            tables = λ t i. put_only P a.tables b.tables p.far (mapped meaning old a p).far t (now.tables t i) ∙ ap (λ (x : Tables). put b.tables p.far x t) far;
            memory = λ n i.
                let both : memory_only P (mapped meaning old a p).memory ≡ (mapped meaning other b p).memory = ap (memory_only P) none ∙ sym none_small in
                put_entries P a.memory b.memory p.number (mapped meaning old a p).memory n (now.memory n i) ∙ ap (λ (x : Pairs). put b.memory (p.number ∷ []) (x ∷ []) n) both;
            next = here.local.draws_none hs ht near pair a.next may ∙ sym (here.local.draws_none hs ht (only P near) (pair_only P pair) a.next small) ∙ sym (ap (λ (x : Mapped). x.next) is);
          }

      -- THE PART OF A RUN IS THE RUN OF THE PART
      pub run_part : (ps : List (Crossing O)) (a b : State) → IsPartOf P tree a b → IsWell heading a → old.next ≤ a.next → Each (IsReady meaning heading old) ps → Each IsLocalInside ps → IsPartOf P tree (run meaning old a ps) (run meaning other b ps)
      run_part [] a b now well more ready here = now
      run_part (p ∷ ps) a b now well more ready here =
          let up = after_rises meaning laws heading old sound a p well more ready.0 in
          run_part ps (after meaning old a p) (after meaning other b p) (after_part a b p now here.0 (may_at a p well more ready.0))
          (after_well meaning laws heading old sound a p well more ready.0) (omega arith) ready.1 here.1

    -- ---- what a run leaves

    module _ (Q : ℕ → Bool) where
      after_rests : (a : State) (p : Crossing O) → Rests Q tree old a → IsLocalInside p → MayAt a p → Rests Q tree old (after meaning old a p)
      after_rests a p now here may =
          let hs = map heading p.near in
          let ht = map heading p.far in
          let near = map a.tables p.near in
          let pair = pair_in old p in
          let none : (mapped meaning old a p).memory ≡ [] = here.local.no_memory hs ht (pair_after (at p) near pair a.next) ((half p).kept hs ht near pair a.next may) in
          let none_before : old.memory p.number ≡ [] = here.local.no_memory hs ht pair may.sound.pair in
          let same : only Q near ≡ only Q pair.source =
          sym (only_map Q a.tables p.near) ∙ map_same (λ u. rows_only Q (a.tables u)) (λ u. rows_only Q (old.tables u)) p.near (λ u j. now.tables u (here.inside.near u j)) ∙ only_map Q old.tables p.near in
          let rest : MayMap (at p) hs ht (only Q pair.source) (pair_only Q pair) a.next = subst (λ (ts : Tables). MayMap (at p) hs ht ts (pair_only Q pair) a.next) same (may_only (at p) here.local Q hs ht near pair a.next may) in
          let far : only Q (mapped meaning old a p).far ≡ map (λ u. rows_only Q (old.tables u)) p.far =
          sym (here.local.forward Q hs ht near pair a.next may) ∙ ap (λ (ts : Tables). ((at p).forward ts (pair_only Q pair) a.next).far) same
          ∙ ap (λ (x : Mapped). x.far) ((half p).still hs ht (pair_only Q pair) a.next rest) ∙ sym (only_map Q old.tables p.far) in
          record {
            tables = λ t i.
                put_only Q a.tables (λ u. rows_only Q (a.tables u)) p.far (mapped meaning old a p).far t refl
                ∙ ap (λ (x : Tables). put (λ u. rows_only Q (a.tables u)) p.far x t) far
                ∙ put_own (λ u. rows_only Q (a.tables u)) (λ u. rows_only Q (old.tables u)) p.far t (now.tables t i);
            memory = λ n i. entries_rest Q a.memory old.memory p.number (mapped meaning old a p).memory n (ap (memory_only Q) (none ∙ sym none_before)) (now.memory n i);
          }

      -- WHERE THE WRITTEN TABLE HAS WHAT IT HAD, EVERY TABLE OF THE TREE HAS
      pub run_rests : (ps : List (Crossing O)) (a : State) → Rests Q tree old a → IsWell heading a → old.next ≤ a.next → Each (IsReady meaning heading old) ps → Each IsLocalInside ps → Rests Q tree old (run meaning old a ps)
      run_rests [] a now well more ready here = now
      run_rests (p ∷ ps) a now well more ready here =
          let up = after_rises meaning laws heading old sound a p well more ready.0 in
          run_rests ps (after meaning old a p) (after_rests a p now here.0 (may_at a p well more ready.0))
          (after_well meaning laws heading old sound a p well more ready.0) (omega arith) ready.1 here.1
