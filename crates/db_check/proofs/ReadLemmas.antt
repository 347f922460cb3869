-- Were the fields a database, the far side of an operator would be read from its stored one.
use Rattle.std.specs.Option.{option_map_or}
use Rattle.std.proofs.Common.{◌≡◌, ℕ, map, Option, Some, refl, sym, ap, ◌∙◌, subst, []}
use Rattle.row_store.specs.Rows.{Rows}
use Rattle.id_memory.specs.Pairs.{Pairs}
use Rattle.id_memory.specs.States.{MemoryState}
use Rattle.version_graph.specs.Sets.{In}
use Rattle.version_graph.specs.Forest.{Crossing, Link, forest}
use Rattle.op_law.specs.Tables.{Tables}
use Rattle.op_law.specs.Calls.{tables_of}
use Rattle.op_law.specs.Laws.{Laws}
use Rattle.op_law.specs.Meaning.{Meaning}
use Rattle.op_law.specs.Premises.{SomeStored}
use Rattle.op_law.specs.declared.side.Aux.{Aux}
use Rattle.version_model.specs.Kept.{pairs_at, value_of, auxes_at}
use Rattle.version_model.specs.States.{State, headings}
use Rattle.version_model.specs.Steps.{directed}
use Rattle.version_model.proofs.PutLaws.{map_same}
use Rattle.storage_law.specs.Storage.{aux_of, stored_way}
use Rattle.storage_law.proofs.ReadLaws.{IsRead, far_right, read_at}
use Rattle.db_state.specs.Fields.{IsDatabase, state_for, storage_in}
use Rattle.db_state.specs.declared.parts.Parts.{Parts}

module _ {O : Type 0} (meaning : O → Meaning) (laws : (o : O) → Laws (meaning o)) (p : Parts O) (is : IsDatabase meaning p) where
  abbrev s : State
  s = state_for meaning p

  module _ (e : Link O) (at : In e (forest p.graph.edges)) (q : Crossing O) (over : q ≡ stored_way p.layout.operators e) (rows : ℕ → Rows) (right : (t : ℕ) → In t (stored_way p.layout.operators e).near → rows t ≡ s.tables t)
      (near : Tables) (n : ℕ) (number : e.number ≡ n) (aux : Aux) (memory : MemoryState) (near_is : near ≡ map rows q.near) (aux_is : Some aux ≡ value_of p.aux n) (memory_is : Some memory ≡ value_of p.memories n) where
    -- the other side can be read
    read : IsRead meaning (headings p.graph.edges) (storage_in p) s q
    read = subst (λ (x : Crossing O). IsRead meaning (headings p.graph.edges) (storage_in p) s x) (sym over) (read_at meaning laws is.reads p.graph.edges (storage_in p) is.valid s is.stands e at)

    -- the near tables are those of the state
    right_near : (t : ℕ) → In t q.near → rows t ≡ s.tables t
    right_near t i = right t (subst (λ (x : Crossing O). In t x.near) over i)

    -- the number is the operator's
    q_number : n ≡ q.number
    q_number = sym number ∙ sym (ap (λ (x : Crossing O). x.number) over)

    -- what was found is what is stored of the operator
    aux_at : tables_of aux ≡ (storage_in p).aux q.number
    aux_at = ap (λ (o : Option Aux). option_map_or tables_of o []) aux_is ∙ ap (λ (k : ℕ). auxes_at p.aux k) q_number

    memory_at : memory.entries ≡ (storage_in p).memory q.number
    memory_at = ap (λ (o : Option MemoryState). option_map_or (λ (m : MemoryState). m.entries) o []) memory_is ∙ ap (λ (k : ℕ). pairs_at p.memories k) q_number

    near_at : near ≡ map s.tables q.near
    near_at = near_is ∙ map_same rows s.tables q.near right_near

    -- the near tables, the auxiliary tables and the memory are of the pair in the state
    pub may_read : SomeStored (directed q.backward (meaning q.operator)) near (tables_of aux) memory.entries
    may_read =
        let m = directed q.backward (meaning q.operator) in
        let a : tables_of aux ≡ aux_of meaning s q = aux_at ∙ read.stands.aux in
        let k : memory.entries ≡ s.memory q.number = memory_at ∙ read.stands.memory in
        let of_state : SomeStored m (map s.tables q.near) (aux_of meaning s q) (s.memory q.number) = record {
          hs = map (headings p.graph.edges) q.near;
          ht = map (headings p.graph.edges) q.far;
          far = map s.tables q.far;
          belongs = record { pair = read.stands.related; aux_is = refl };
        } in
        subst (λ (x : Tables). SomeStored m x (tables_of aux) memory.entries) (sym near_at)
        (subst (λ (x : Tables). SomeStored m (map s.tables q.near) x memory.entries) (sym a)
        (subst (λ (x : Pairs). SomeStored m (map s.tables q.near) (aux_of meaning s q) x) (sym k) of_state))

    -- what is read from them are the far tables of the state
    pub far_is : (far : Tables) → far ≡ (directed q.backward (meaning q.operator)).read_target near (tables_of aux) memory.entries → far ≡ map s.tables q.far
    far_is far is_read =
        let m = directed q.backward (meaning q.operator) in
        is_read ∙ ap (λ (x : Tables). m.read_target x (tables_of aux) memory.entries) near_is
        ∙ ap (λ (x : Tables). m.read_target (map rows q.near) x memory.entries) aux_at
        ∙ ap (λ (x : Pairs). m.read_target (map rows q.near) ((storage_in p).aux q.number) x) memory_at
        ∙ far_right meaning laws (headings p.graph.edges) (storage_in p) s q read rows right_near
