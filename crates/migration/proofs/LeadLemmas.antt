-- A database that adopts what was prepared stands for the same state.
use Rattle.std.specs.Option.{option_map_or}
use Rattle.std.proofs.Common.{◌≡◌, ℕ, List, [], Bool, true, false, map, Option, Some, refl, sym, ap, ◌∙◌, subst}
use Rattle.row_store.specs.Rows.{Rows}
use Rattle.row_store.specs.States.{TableState}
use Rattle.version_graph.specs.Sets.{In, Each}
use Rattle.version_graph.specs.Tables.{table_numbers}
use Rattle.version_graph.specs.Edges.{AreEdges, Rises, is_in, made}
use Rattle.version_graph.specs.Forest.{Link, crossing, forest}
use Rattle.version_graph.specs.declared.parts.Placed.{Placed}
use Rattle.version_graph.proofs.SetLaws.{each_at, each_of}
use Rattle.version_graph.proofs.WalkLaws.{is_forest}
use Rattle.op_law.specs.Tables.{Tables}
use Rattle.op_law.specs.Calls.{tables_of}
use Rattle.op_law.specs.Laws.{Laws}
use Rattle.op_law.specs.Meaning.{Meaning, PairState}
use Rattle.op_law.specs.Premises.{IsPair}
use Rattle.op_law.specs.declared.side.Aux.{Aux}
use Rattle.layout_rules.specs.declared.layout.Layout.{Layout}
use Rattle.layout_rules.specs.Layouts.{IsStored, IsValid}
use Rattle.layout_rules.proofs.ChangeLaws.{link_number}
use Rattle.layout_rules.proofs.LinkLaws.{source_made, target_listed}
use Rattle.version_model.specs.Kept.{HasSides, latest_of, pairs_at, renewed, rows_at, rows_now, value_of, auxes_at, numbers_in}
use Rattle.version_model.specs.States.{State, headings}
use Rattle.version_model.specs.Steps.{IsRelated, pair_in, directed}
use Rattle.version_model.specs.declared.numbered.Numbered.{Numbered}
use Rattle.version_model.proofs.CrossingLaws.{targets_linked}
use Rattle.version_model.proofs.HeadingLaws.{in_or_not}
use Rattle.version_model.proofs.PutLaws.{map_same}
use Rattle.storage_law.specs.Storage.{StandsOver, aux_of, stored_way}
use Rattle.db_state.specs.Calls.{AreAuxesOf, IsRelatedAt}
use Rattle.db_state.specs.Covered.{Covers}
use Rattle.db_state.specs.Fields.{IsDatabase, database_for, state_for, storage_in}
use Rattle.db_state.specs.declared.parts.Parts.{Parts}
use Rattle.db_state.proofs.FieldLaws.{IsShaped, Store, is_database, none_at}
use Rattle.migration.specs.Moved.{Adopts, Leads}
use Rattle.migration.specs.Places.{AreStoredPlaces, IsPlace, place_rows}
use Rattle.migration.specs.Sides.{changing}
use Rattle.migration.specs.declared.moved.Moved.{Moved}
use Rattle.migration.proofs.CoverLemmas.{source_covered, stored_covered, target_covered}
use Rattle.migration.proofs.SideLemmas.{listed_lives, same_side, up_in, up_lives}
use Rattle.migration.proofs.ValueLemmas.{latest_is, latest_none, latest_there, value_there}

-- the rows and the auxiliary tables of a value, none where there is none
abbrev rows_or_none : Option TableState → Rows
rows_or_none o = option_map_or (λ (x : TableState). x.rows) o []

abbrev auxes_or_none : Option Aux → Tables
auxes_or_none o = option_map_or tables_of o []

module _ {O : Type 0} (meaning : O → Meaning) (old : Parts O) (base : IsDatabase meaning old) (goal : List ℕ) (valid : IsValid (forest old.graph.edges) goal) (read : List (Numbered TableState))
    (is_read : (t : ℕ) → In t (table_numbers (made old.graph.edges)) → Covers (forest old.graph.edges) old.layout.operators (changing old.graph.edges old.layout.operators goal) t → rows_now old.stored read t ≡ (state_for meaning old).tables t) where
  abbrev es : List (Placed O)
  es = old.graph.edges

  abbrev edges : AreEdges es
  edges = base.graph.edges

  abbrev layout : List ℕ
  layout = old.layout.operators

  abbrev ns : List ℕ
  ns = changing es layout goal

  abbrev s : State
  s = state_for meaning old

  -- the state as it was read: right in the tables of the operators that change sides
  abbrev pub read_state : ℕ → State
  read_state next = record { tables = rows_now old.stored read; memory = pairs_at old.memories; next = next }

  made_live : (e : Link O) (t : ℕ) → In e (forest es) → In t e.targets → In t (table_numbers (made es))
  made_live e t i a = subst (λ (l : List ℕ). In t l) (targets_linked es edges) (target_listed (forest es) e t i a)

  source_right : (e : Link O) (t : ℕ) → In e (forest es) → In e.number ns → In t e.sources → rows_now old.stored read t ≡ s.tables t
  source_right e t i n a =
      is_read t (subst (λ (l : List ℕ). In t l) (targets_linked es edges) (source_made (forest es) e t (is_forest es edges) i a))
      (source_covered es edges layout goal base.valid valid e t i n a)

  target_right : (e : Link O) (t : ℕ) → In e (forest es) → In e.number ns → In t e.targets → rows_now old.stored read t ≡ s.tables t
  target_right e t i n a = is_read t (made_live e t i a) (target_covered es edges layout goal base.valid valid e t i n a)

  -- the pair of an operator that changes sides is read
  pair_read : (next : ℕ) (e : Link O) (x : Bool) → In e (forest es) → In e.number ns → pair_in (read_state next) (crossing x e) ≡ pair_in s (crossing x e)
  pair_read next e false i n =
      let a : map (rows_now old.stored read) e.sources ≡ map s.tables e.sources = map_same (rows_now old.stored read) s.tables e.sources (λ t j. source_right e t i n j) in
      let b : map (rows_now old.stored read) e.targets ≡ map s.tables e.targets = map_same (rows_now old.stored read) s.tables e.targets (λ t j. target_right e t i n j) in
      cc
  pair_read next e true i n =
      let a : map (rows_now old.stored read) e.sources ≡ map s.tables e.sources = map_same (rows_now old.stored read) s.tables e.sources (λ t j. source_right e t i n j) in
      let b : map (rows_now old.stored read) e.targets ≡ map s.tables e.targets = map_same (rows_now old.stored read) s.tables e.targets (λ t j. target_right e t i n j) in
      cc

  related_at : (next n : ℕ) → In n ns → IsRelatedAt meaning es (read_state next) n
  related_at next n i =
      let l = listed_lives es layout goal n i in
      let e = l.0 in
      record {
        over = e;
        lives = l.1;
        number = sym l.2;
        sides = each_at HasSides (forest es) e l.1 base.sides;
        related = subst (λ (p : PairState). IsPair (meaning e.operator) (map (headings es) e.sources) (map (headings es) e.targets) p) (sym (pair_read next e false l.1 (subst (λ (m : ℕ). In m ns) l.2 i)))
            (each_at (λ (f : Link O). IsRelated meaning (headings es) s (crossing false f)) (forest es) e l.1 base.sound.related);
      }

  -- WHAT THE AUXILIARY TABLES ARE MADE FROM
  pub all_related : (next : ℕ) → Each (IsRelatedAt meaning es (read_state next)) ns
  all_related next = each_of (IsRelatedAt meaning es (read_state next)) ns (related_at next)

  aux_right : (next : ℕ) (e : Link O) (x : Bool) → In e (forest es) → In e.number ns → aux_of meaning (read_state next) (crossing x e) ≡ aux_of meaning s (crossing x e)
  aux_right next e x i n = ap (λ (p : PairState). (directed x (meaning e.operator)).aux_at_source p) (pair_read next e x i n)

  -- ---- what was prepared

  module _ (laws : (o : O) → Laws (meaning o)) (moved : Moved) (is_goal : moved.layout.operators ≡ goal) (ascending : Rises 0 goal) (places : AreStoredPlaces es goal old.stored read moved.stored) (next : ℕ) (auxes : AreAuxesOf meaning es goal (read_state next) ns moved.auxes) where
    module _ (new : Parts O) (a : Adopts old moved new) where
      -- a table that the goal stores
      rows_right : (t : ℕ) → IsStored (forest es) goal t → rows_at new.stored t ≡ s.tables t
      rows_right t k =
          let place = value_there moved.stored t ((places.numbers t).1 k) in
          let here = each_at (IsPlace old.stored read) moved.stored place.item place.listed places.each in
          let value : value_of new.stored t ≡ renewed (Some place.item.value) (value_of old.stored t) =
          a.tables t ∙ ap (λ (o : Option TableState). renewed o (latest_of old.stored t)) place.value ∙ ap (λ (o : Option TableState). renewed (Some place.item.value) o) (latest_is old.stored t base.tables_ascending) in
          in_or_not t (numbers_in old.stored) (rows_at new.stored t ≡ s.tables t)
          (λ i.
          let kept = value_there old.stored t i in
          ap rows_or_none (value ∙ ap (λ (o : Option TableState). renewed (Some place.item.value) o) kept.value) ∙ sym (ap rows_or_none kept.value) ∙ base.stands.stored t ((base.tables t).0 i))
          (λ out.
          let none = none_at old.stored t out in
          let right : rows_now old.stored read t ≡ s.tables t = is_read t (made_live k.made.0 t k.made.1 k.made.3) (stored_covered es edges layout goal base.valid valid t k) in
          let copied : place.item.value.rows ≡ rows_now old.stored read t =
          here ∙ ap (λ (m : ℕ). place_rows (value_of old.stored m) (rows_now old.stored read m)) place.number ∙ ap (λ (o : Option TableState). place_rows o (rows_now old.stored read t)) none in
          ap rows_or_none (value ∙ ap (λ (o : Option TableState). renewed (Some place.item.value) o) none) ∙ copied ∙ right)

      -- the auxiliary tables of an operator
      auxes_right : (e : Link O) → In e (forest es) → auxes_at new.aux e.number ≡ aux_of meaning s (stored_way goal e)
      auxes_right e i =
          let n = e.number in
          let kept = value_there old.aux n (subst (λ (l : List ℕ). In n l) (sym base.auxes) (up_in es n (link_number es e i))) in
          let over = each_at (λ (f : Link O). StandsOver meaning (headings es) (storage_in old) s (stored_way layout f)) (forest es) e i base.stands.edges in
          let value : value_of new.aux n ≡ renewed (Some kept.item.value) (latest_of moved.auxes n) = a.auxes n ∙ ap (λ (o : Option Aux). renewed o (latest_of moved.auxes n)) kept.value in
          in_or_not n ns (auxes_at new.aux n ≡ aux_of meaning s (stored_way goal e))
          (λ j.
          let newer = latest_there moved.auxes n (subst (λ (l : List ℕ). In n l) (sym auxes.numbers) j) in
          ap auxes_or_none (value ∙ ap (λ (o : Option Aux). renewed (Some kept.item.value) o) newer.value)
          ∙ auxes.values newer.item newer.listed e i (sym newer.number) ∙ aux_right next e (is_in n goal) i j)
          (λ out.
          let none = latest_none moved.auxes n (λ j. out (subst (λ (l : List ℕ). In n l) auxes.numbers j)) in
          ap auxes_or_none (value ∙ ap (λ (o : Option Aux). renewed (Some kept.item.value) o) none) ∙ sym (ap auxes_or_none kept.value)
          ∙ over.aux ∙ ap (λ (x : Bool). aux_of meaning s (crossing x e)) (same_side es layout goal e i out))

      -- the fields, with the names of the old ones
      abbrev parts : Parts O
      parts = record { graph = old.graph; layout = record { operators = goal }; stored = new.stored; aux = new.aux; memories = old.memories; ids = old.ids }

      parts_are : parts ≡ new
      parts_are =
          let sides : new.layout.operators ≡ goal = ap (λ (l : Layout). l.operators) a.layout ∙ is_goal in
          λ j. record { graph = sym a.graph j; layout = record { operators = sym sides j }; stored = new.stored; aux = new.aux; memories = sym a.memories j; ids = sym a.ids j }

      store : Store meaning parts s
      store = record {
        tables = λ t. (
          (λ i. (places.numbers t).0 (subst (λ (l : List ℕ). In t l) a.numbers i)),
          (λ k. subst (λ (l : List ℕ). In t l) (sym a.numbers) ((places.numbers t).1 k)),
        );
        rows = rows_right;
        auxes = λ n i. up_lives es n (subst (λ (l : List ℕ). In n l) (a.operators ∙ base.auxes) i);
        aux = auxes_right;
        memories = λ n i. up_lives es n (subst (λ (l : List ℕ). In n l) base.memories i);
        memory = λ e i. refl;
        next = refl;
      }

      shaped : IsShaped parts
      shaped = record {
        graph = base.graph;
        finished = base.finished;
        sides = base.sides;
        valid = valid;
        ascending = ascending;
        tables_ascending = subst (λ (l : List ℕ). Rises 0 l) (sym a.numbers) places.ascending;
        auxes = a.operators ∙ base.auxes;
        memories = base.memories;
      }

      leads_to : IsDatabase meaning new × (database_for meaning new ≡ database_for meaning old)
      leads_to =
          let d = is_database meaning laws base.reads parts s shaped base.sound store in
          let same : database_for meaning parts ≡ database_for meaning old = ap (λ (x : State). record { graph = old.graph; state = x; limit = old.ids.limit }) d.1 in
          subst (λ (p : Parts O). IsDatabase meaning p × (database_for meaning p ≡ database_for meaning old)) parts_are (d.0, same)

    -- WHAT WAS PREPARED LEADS TO THE SAME STATE
    pub leads : Leads meaning old moved
    leads = leads_to
