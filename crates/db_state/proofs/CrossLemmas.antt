-- Crossing an operator from its stored side reads the tables of its other side.
use Rattle.std.specs.Prelude.{◌≤◌}
use Rattle.std.specs.Option.{option_map_or}
use Rattle.std.proofs.Common.{◌≡◌, ℕ, List, [], Bool, map, length, Option, Some, None, refl, sym, ap, ◌∙◌, subst}
use Rattle.std.proofs.lemmas.List.{length-map}
use mathlib.Core.List.{reverse}
use Rattle.row_store.specs.Rows.{Rows}
use Rattle.row_store.specs.States.{TableState}
use Rattle.id_memory.specs.Pairs.{Pairs}
use Rattle.id_memory.specs.States.{MemoryState}
use Rattle.version_graph.specs.Sets.{In}
use Rattle.version_graph.specs.Edges.{is_in, numbers}
use Rattle.version_graph.specs.Forest.{Crossing, Link, crossing, forest}
use Rattle.version_graph.specs.declared.parts.Placed.{Placed}
use Rattle.version_graph.proofs.SetLaws.{each_at}
use Rattle.version_graph.proofs.WalkStepLaws.{in_reverse}
use Rattle.op_law.specs.Tables.{Tables}
use Rattle.op_law.specs.Calls.{tables_of}
use Rattle.op_law.specs.Laws.{Laws}
use Rattle.op_law.specs.Local.{only, rows_only}
use Rattle.pair_parts.specs.Parts.{memory_only}
use Rattle.op_law.specs.Meaning.{Meaning}
use Rattle.op_law.specs.Premises.{SomeStored}
use Rattle.op_law.specs.declared.side.Aux.{Aux}
use Rattle.layout_rules.proofs.LinkLaws.{number_listed}
use Rattle.version_model.specs.Kept.{HasSides, pairs_at, rows_now, value_of, auxes_at, numbers_in}
use Rattle.version_model.specs.Put.{put}
use Rattle.version_model.specs.States.{State, headings}
use Rattle.version_model.specs.Steps.{directed}
use Rattle.version_model.specs.declared.numbered.Numbered.{Numbered}
use Rattle.version_model.proofs.CrossingLaws.{numbers_linked}
use Rattle.version_model.proofs.PutLaws.{map_same}
use Rattle.storage_law.specs.Storage.{Storage, aux_of, stored_way}
use Rattle.storage_law.proofs.ReadLaws.{IsRead, far_right, put_in, read_at, still_right}
use Rattle.db_state.specs.Fields.{IsDatabase, state_for, storage_in}
use Rattle.db_state.specs.Parts.{passes, seen_of}
use Rattle.db_state.specs.inner.Passes.{SeesOver, Settles}
use Rattle.db_state.specs.declared.sight.Sight.{Sight}
use Rattle.db_state.specs.declared.parts.Parts.{Parts}
use Rattle.db_state.proofs.FoundLaws.{some_at, few_on}
use Rattle.db_state.proofs.PartLaws.{only_map, rows_twice, seen_stands, state_seen, storage_seen}
use Rattle.db_state.proofs.SeenLemmas.{seen_put}

module _ {O : Type 0} (meaning : O → Meaning) (p : Parts O) (is : IsDatabase meaning p) where
  abbrev es : List (Placed O)
  es = p.graph.edges

  -- a live operator is among those that have auxiliary tables and memories
  lives : (e : Link O) → In e (forest es) → In e.number (reverse (numbers es))
  lives e at = in_reverse e.number (numbers es) (subst (λ (l : List ℕ). In e.number l) (numbers_linked es) (number_listed (forest es) e at))

  -- so it has auxiliary tables
  pub has_aux : (e : Link O) → In e (forest es) → (n : ℕ) → e.number ≡ n → None ≡ value_of p.aux n → ⊥
  has_aux e at n same none = some_at p.aux n (subst (λ (k : ℕ). In k (numbers_in p.aux)) same (subst (λ (l : List ℕ). In e.number l) (sym is.auxes) (lives e at))) (sym none)

  -- and a memory
  pub has_memory : (e : Link O) → In e (forest es) → (n : ℕ) → e.number ≡ n → None ≡ value_of p.memories n → ⊥
  has_memory e at n same none = some_at p.memories n (subst (λ (k : ℕ). In k (numbers_in p.memories)) same (subst (λ (l : List ℕ). In e.number l) (sym is.memories) (lives e at))) (sym none)

  -- an operator has at most two tables on the side from which it is crossed
  pub near_within : (back : Bool) (e : Link O) → In e (forest es) → length (crossing back e).near ≤ 2
  near_within back e at = (few_on e (each_at HasSides (forest es) e at is.sides) back).0

module _ {O : Type 0} (meaning : O → Meaning) (laws : (o : O) → Laws (meaning o)) (p : Parts O) (is : IsDatabase meaning p) (sight : Sight) where
  -- what is seen of the state, and of what is stored
  abbrev s : State
  s = state_seen sight (state_for meaning p)

  abbrev storage : Storage
  storage = storage_seen sight (storage_in p)

  module _ (e : Link O) (at : In e (forest p.graph.edges)) (sees : SeesOver meaning (headings p.graph.edges) (state_for meaning p) sight e) (q : Crossing O) (over : q ≡ stored_way p.layout.operators e)
      (rows : ℕ → Rows) (right : (t : ℕ) → In t (stored_way p.layout.operators e).near → seen_of sight rows t ≡ s.tables t)
      (near : Tables) (n : ℕ) (number : e.number ≡ n) (aux part : Aux) (memory small : MemoryState) (near_is : near ≡ map (seen_of sight rows) q.near) (aux_is : Some aux ≡ value_of p.aux n)
      (part_is : tables_of part ≡ only (passes sight) (tables_of aux)) (memory_is : Some memory ≡ value_of p.memories n)
      (small_is : small.entries ≡ memory_only (passes sight) memory.entries) where
    -- the other side can be read
    read : IsRead meaning (headings p.graph.edges) storage s q
    read =
        let way = stored_way p.layout.operators e in
        let whole = read_at meaning laws is.reads p.graph.edges (storage_in p) is.valid (state_for meaning p) is.stands e at in
        subst (λ (x : Crossing O). IsRead meaning (headings p.graph.edges) storage s x) (sym over) (record {
          stands = seen_stands meaning laws (headings p.graph.edges) (storage_in p) (state_for meaning p) sight (is_in e.number p.layout.operators) e sees whole.stands;
          reads = whole.reads;
        })

    -- the near tables are those of the state
    right_near : (t : ℕ) → In t q.near → seen_of sight rows t ≡ s.tables t
    right_near t i = right t (subst (λ (x : Crossing O). In t x.near) over i)

    -- the number is the operator's
    q_number : n ≡ q.number
    q_number = sym number ∙ sym (ap (λ (x : Crossing O). x.number) over)

    -- what was found is what is stored of the operator
    aux_at : tables_of part ≡ storage.aux q.number
    aux_at = part_is ∙ ap (only (passes sight)) (ap (λ (o : Option Aux). option_map_or tables_of o []) aux_is ∙ ap (λ (k : ℕ). auxes_at p.aux k) q_number)

    memory_at : small.entries ≡ storage.memory q.number
    memory_at =
        small_is
        ∙ ap (memory_only (passes sight)) (ap (λ (o : Option MemoryState). option_map_or (λ (m : MemoryState). m.entries) o []) memory_is ∙ ap (λ (k : ℕ). pairs_at p.memories k) q_number)

    near_at : near ≡ map s.tables q.near
    near_at = near_is ∙ map_same (seen_of sight rows) s.tables q.near right_near

    -- the near tables, the auxiliary tables and the memory are of the pair in the state
    pub may_read : SomeStored (directed q.backward (meaning q.operator)) near (tables_of part) small.entries
    may_read =
        let m = directed q.backward (meaning q.operator) in
        let a : tables_of part ≡ aux_of meaning s q = aux_at ∙ read.stands.aux in
        let k : small.entries ≡ s.memory q.number = memory_at ∙ read.stands.memory in
        let of_state : SomeStored m (map s.tables q.near) (aux_of meaning s q) (s.memory q.number) = record {
          hs = map (headings p.graph.edges) q.near;
          ht = map (headings p.graph.edges) q.far;
          far = map s.tables q.far;
          belongs = record { pair = read.stands.related; aux_is = refl };
        } in
        subst (λ (x : Tables). SomeStored m x (tables_of part) small.entries) (sym near_at)
        (subst (λ (x : Tables). SomeStored m (map s.tables q.near) x small.entries) (sym a)
        (subst (λ (x : Pairs). SomeStored m (map s.tables q.near) (aux_of meaning s q) x) (sym k) of_state))

    -- what is read from them are the far tables of the state
    pub far_is : (far : Tables) → far ≡ (directed q.backward (meaning q.operator)).read_target near (tables_of part) small.entries → far ≡ map s.tables q.far
    far_is far is_read =
        let m = directed q.backward (meaning q.operator) in
        is_read ∙ ap (λ (x : Tables). m.read_target x (tables_of part) small.entries) near_is
        ∙ ap (λ (x : Tables). m.read_target (map (seen_of sight rows) q.near) x small.entries) aux_at
        ∙ ap (λ (x : Pairs). m.read_target (map (seen_of sight rows) q.near) (storage.aux q.number) x) memory_at
        ∙ far_right meaning laws (headings p.graph.edges) storage s q read (seen_of sight rows) right_near

    -- one for each number
    pub far_long : (far : Tables) → far ≡ (directed q.backward (meaning q.operator)).read_target near (tables_of part) small.entries → length far ≡ length q.far
    far_long far is_read = ap (λ (l : Tables). length l) (far_is far is_read) ∙ length-map q.far s.tables

    -- what is seen of them is all
    far_seen : only (passes sight) (map s.tables q.far) ≡ map s.tables q.far
    far_seen = sym (only_map (passes sight) s.tables q.far) ∙ map_same (λ t. rows_only (passes sight) (s.tables t)) s.tables q.far (λ t i. rows_twice (passes sight) ((state_for meaning p).tables t))

    -- so putting them makes what is seen of the far tables right
    pub settles : (far : Tables) (new : ℕ → Rows) → far ≡ (directed q.backward (meaning q.operator)).read_target near (tables_of part) small.entries → new ≡ put rows q.far far → Settles s.tables q.far (seen_of sight rows) (seen_of sight new)
    settles far new is_read made =
        let full : new ≡ put rows q.far (map s.tables q.far) = made ∙ ap (λ (l : Tables). put rows q.far l) (far_is far is_read) in
        let seen : (t : ℕ) → seen_of sight new t ≡ put (seen_of sight rows) q.far (map s.tables q.far) t = λ t.
        ap (λ (f : ℕ → Rows). rows_only (passes sight) (f t)) full ∙ seen_put (passes sight) rows q.far (map s.tables q.far) t
        ∙ ap (λ (l : Tables). put (seen_of sight rows) q.far l t) far_seen in
        record {
          kept = λ t h. seen t ∙ still_right meaning laws (headings p.graph.edges) storage s (seen_of sight rows) q.far t h;
          right = λ t i. seen t ∙ put_in (seen_of sight rows) s.tables q.far t i;
        }

-- ---- what the calls before a reading gave

-- the near tables as they are now
pub near_kept : (sight : Sight) (stored kept made now : List (Numbered TableState)) (near : Tables) (ks : List ℕ) → near ≡ map (seen_of sight (rows_now stored made)) ks → stored ≡ kept → made ≡ now → near ≡ map (seen_of sight (rows_now kept now)) ks
near_kept sight stored kept made now near ks is same equal = is ∙ ap (λ l. map (seen_of sight (rows_now l made)) ks) same ∙ ap (λ l. map (seen_of sight (rows_now kept l)) ks) equal
