-- A write of the rows of some identifiers over any operators: where each crossing maps what passes by itself and leaves the rest, the write of the part is the part of the write, and elsewhere nothing changes.
use Rattle.std.proofs.Common.{◌≡◌, ℕ, ◌≤◌, List, [], ◌∷◌, Bool, not, map, refl, sym, ap, ◌∙◌, subst, arith}
use Rattle.version_graph.specs.Sets.{Each}
use Rattle.version_graph.specs.Laws.{Ordered}
use Rattle.version_graph.specs.Forest.{Crossing}
use Rattle.op_law.specs.Tables.{Heading, Tables}
use Rattle.op_law.specs.Laws.{HalfLaws, Laws}
use Rattle.op_law.specs.Local.{HalfLocal, only, pair_only, rows_only}
use Rattle.op_law.specs.Meaning.{Mapped, Meaning, PairState}
use Rattle.id_memory.specs.Pairs.{Pairs}
use Rattle.pair_parts.specs.Parts.{memory_only, part_of_pair}
use Rattle.pair_parts.proofs.MemoryLaws.{part_without}
use Rattle.op_law.specs.Premises.{MayMap, pair_after}
use Rattle.version_model.specs.Put.{put}
use Rattle.version_model.specs.States.{IsWell, State}
use Rattle.version_model.specs.Steps.{after, directed, mapped, pair_in, run}
use Rattle.version_model.proofs.PutLaws.{map_same, put_apart}
use Rattle.version_model.proofs.RunLaws.{IsReady, after_rises, after_well, may_cross, run_leaves, run_rises}
use Rattle.db_state.proofs.PartLaws.{only_map}
use Rattle.changes_walk.proofs.ReachLaws.{IsInside}
use Rattle.write_plans.specs.declared.tree.Tree.{Tree}
use Rattle.write_plans.proofs.PartLemmas.{IsPartOf, Rests, entries_rest, may_only, near_is, put_entries, put_only, put_own, small_is}

-- mapping what passes gives what passes of the mapping, draws the same, and elsewhere the mapping changes nothing
pub record MapsApart (m : Meaning) (P : ℕ → Bool) (near : Tables) (old : PairState) (n : ℕ) : Type 0 where
  pub far : (m.forward (only P near) (part_of_pair P old) n).far ≡ only P (m.forward near old n).far
  pub next : (m.forward (only P near) (part_of_pair P old) n).next ≡ (m.forward near old n).next
  pub memory : (m.forward (only P near) (part_of_pair P old) n).memory ≡ memory_only P (m.forward near old n).memory
  pub rest : only (λ q. not (P q)) (m.forward near old n).far ≡ only (λ q. not (P q)) old.target
  pub memory_rest : memory_only (λ q. not (P q)) (m.forward near old n).memory ≡ memory_only (λ q. not (P q)) old.memory

-- an operator that treats each identifier by itself does so
pub local_maps : (m : Meaning) → HalfLaws m → HalfLocal m → (P : ℕ → Bool) (hs ht : List Heading) (near : Tables) (old : PairState) (n : ℕ) → MayMap m hs ht near old n
    → only (λ q. not (P q)) near ≡ only (λ q. not (P q)) old.source → MapsApart m P near old n
local_maps m laws here P hs ht near old n may same =
    let fails : ℕ → Bool = λ q. not (P q) in
    let small = may_only m here P hs ht near old n may in
    let none = here.no_memory hs ht (pair_after m near old n) (laws.kept hs ht near old n may) in
    let none_small = here.no_memory hs ht (pair_after m (only P near) (pair_only P old) n) (laws.kept hs ht (only P near) (pair_only P old) n small) in
    let none_old = here.no_memory hs ht old may.sound.pair in
    let same_pair : pair_only P old ≡ part_of_pair P old = part_without P old none_old in
    let mapped_same : m.forward (only P near) (part_of_pair P old) n ≡ m.forward (only P near) (pair_only P old) n = ap (λ (x : PairState). m.forward (only P near) x n) (sym same_pair) in
    let rest_may : MayMap m hs ht (only fails old.source) (pair_only fails old) n = subst (λ (ts : Tables). MayMap m hs ht ts (pair_only fails old) n) same (may_only m here fails hs ht near old n may) in
    record {
      far = ap (λ (x : Mapped). x.far) mapped_same ∙ here.forward P hs ht near old n may;
      next = ap (λ (x : Mapped). x.next) mapped_same ∙ here.draws_none hs ht (only P near) (pair_only P old) n small ∙ sym (here.draws_none hs ht near old n may);
      memory = ap (λ (x : Mapped). x.memory) mapped_same ∙ none_small ∙ sym (ap (memory_only P) none);
      memory_rest = ap (memory_only fails) (none ∙ sym none_old);
      rest = sym (here.forward fails hs ht near old n may) ∙ ap (λ (ts : Tables). (m.forward ts (pair_only fails old) n).far) same ∙ ap (λ (x : Mapped). x.far) (laws.still hs ht (pair_only fails old) n rest_may);
    }

module _ {O : Type 0} (meaning : O → Meaning) (laws : (o : O) → Laws (meaning o)) (tree : Tree) (heading : ℕ → Heading) (old other : State) (sound : IsWell heading old) (small : IsWell heading other)
    (P : ℕ → Bool) (before : IsPartOf P tree old other) where
  abbrev fails : ℕ → Bool
  fails = λ q. not (P q)

  abbrev at : Crossing O → Meaning
  at p = directed p.backward (meaning p.operator)

  -- a crossing maps what passes by itself, whatever the whole near tables are of which the part has these at its end
  abbrev pub CarriesAt : State → Crossing O → Type 0
  CarriesAt end p = (a : State) → MayMap (at p) (map heading p.near) (map heading p.far) (map a.tables p.near) (pair_in old p) a.next → old.next ≤ a.next → a.next ≤ end.next
      → map end.tables p.near ≡ only P (map a.tables p.near) → only (λ q. not (P q)) (map a.tables p.near) ≡ only (λ q. not (P q)) (map old.tables p.near) → MapsApart (at p) P (map a.tables p.near) (pair_in old p) a.next

  after_part : (a b : State) (p : Crossing O) → IsPartOf P tree a b → IsInside tree.operators tree.tables p → MapsApart (at p) P (map a.tables p.near) (pair_in old p) a.next → IsPartOf P tree (after meaning old a p) (after meaning other b p)
  after_part a b p now inside maps =
      let is = small_is meaning laws tree heading old sound P other before a b p now inside in
      let far : only P (mapped meaning old a p).far ≡ (mapped meaning other b p).far = sym maps.far ∙ sym (ap (λ (x : Mapped). x.far) is) in
      record {
        tables = λ t i. put_only P a.tables b.tables p.far (mapped meaning old a p).far t (now.tables t i) ∙ ap (λ (x : Tables). put b.tables p.far x t) far;
        memory = λ n i.
            let both : memory_only P (mapped meaning old a p).memory ≡ (mapped meaning other b p).memory = sym maps.memory ∙ sym (ap (λ (x : Mapped). x.memory) is) in
            put_entries P a.memory b.memory p.number (mapped meaning old a p).memory n (now.memory n i) ∙ ap (λ (x : Pairs). put b.memory (p.number ∷ []) (x ∷ []) n) both;
        next = sym maps.next ∙ sym (ap (λ (x : Mapped). x.next) is);
      }

  after_rest : (a : State) (p : Crossing O) → Rests fails tree old a → MapsApart (at p) P (map a.tables p.near) (pair_in old p) a.next → Rests fails tree old (after meaning old a p)
  after_rest a p rests maps = record {
    tables = λ t i.
        put_only fails a.tables (λ u. rows_only fails (a.tables u)) p.far (mapped meaning old a p).far t refl
        ∙ ap (λ (x : Tables). put (λ u. rows_only fails (a.tables u)) p.far x t) (maps.rest ∙ sym (only_map fails old.tables p.far))
        ∙ put_own (λ u. rows_only fails (a.tables u)) (λ u. rows_only fails (old.tables u)) p.far t (rests.tables t i);
    memory = λ n i. entries_rest fails a.memory old.memory p.number (mapped meaning old a p).memory n maps.memory_rest (rests.memory n i);
  }

  -- the near tables of a crossing are those at the end
  near_stays : (p : Crossing O) (ps : List (Crossing O)) (b : State) → Ordered (p ∷ ps) → map (run meaning other b (p ∷ ps)).tables p.near ≡ map b.tables p.near
  near_stays p ps b order =
      ap (λ (x : PairState). x.source) (run_leaves meaning other ps (after meaning other b p) p order.2) ∙ put_apart b.tables p.far (mapped meaning other b p).far p.near order.1

  -- THE PART OF A RUN IS THE RUN OF THE PART, AND ELSEWHERE NOTHING CHANGES
  pub run_apart : (ps : List (Crossing O)) (a b : State) → IsPartOf P tree a b → Rests fails tree old a → IsWell heading a → old.next ≤ a.next → IsWell heading b → other.next ≤ b.next
      → Each (IsReady meaning heading old) ps → Each (IsReady meaning heading other) ps → Each (IsInside tree.operators tree.tables) ps → Ordered ps → Each (CarriesAt (run meaning other b ps)) ps
      → IsPartOf P tree (run meaning old a ps) (run meaning other b ps) × Rests fails tree old (run meaning old a ps)
  run_apart [] a b now rests well more well_b more_b ready ready_b inside order carries = (now, rests)
  run_apart (p ∷ ps) a b now rests well more well_b more_b ready ready_b inside order carries =
      let end = run meaning other b (p ∷ ps) in
      let may = may_cross meaning laws heading old sound a p well more ready.0 in
      let up : b.next ≤ end.next = run_rises meaning laws heading other small (p ∷ ps) b well_b more_b ready_b in
      let next : a.next ≤ end.next = subst (λ (n : ℕ). n ≤ end.next) (sym now.next) up in
      let near = near_stays p ps b order ∙ near_is meaning laws tree heading old sound P other before a b p now inside.0 in
      let elsewhere : only fails (map a.tables p.near) ≡ only fails (map old.tables p.near) =
      sym (only_map fails a.tables p.near) ∙ map_same (λ u. rows_only fails (a.tables u)) (λ u. rows_only fails (old.tables u)) p.near (λ u j. rests.tables u (inside.0.near u j)) ∙ only_map fails old.tables p.near in
      let maps = carries.0 a may more next near elsewhere in
      let rise = after_rises meaning laws heading old sound a p well more ready.0 in
      let rise_b = after_rises meaning laws heading other small b p well_b more_b ready_b.0 in
      run_apart ps (after meaning old a p) (after meaning other b p) (after_part a b p now inside.0 maps) (after_rest a p rests maps)
      (after_well meaning laws heading old sound a p well more ready.0) (omega (arith, more, rise)) (after_well meaning laws heading other small b p well_b more_b ready_b.0) (omega (arith, more_b, rise_b))
      ready.1 ready_b.1 inside.1 order.3 carries.1
