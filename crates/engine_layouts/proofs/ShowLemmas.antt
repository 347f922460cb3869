-- What is shown of what is kept is what is shown of the state.
use Rattle.std.specs.Prelude.{◌<◌, Option, Some, None, option_map, option_to_list, slice_get}
use Rattle.std.specs.List.{find}
use Rattle.std.specs.Option.{IsSome, option_map_or}
use Rattle.std.proofs.Common.{◌≡◌, ℕ, ◌+◌, ◌==◌, List, [], ◌∷◌, ◌++◌, filter, get_or, length, map, take, inl, inr, refl, sym, ap, ◌∙◌, subst, arith}
use Rattle.std.proofs.lemmas.Bool.{cond-false, cond-true, eq-eqb, ne_eqb}
use Rattle.std.proofs.lemmas.List.{map-append, take_more}
use mathlib.Core.List.{reverse}
use Rattle.row_store.specs.Rows.{Rows}
use Rattle.row_store.specs.States.{TableState}
use Rattle.version_graph.specs.Sets.{In}
use Rattle.version_graph.specs.Tables.{TableVersion}
use Rattle.version_graph.specs.Edges.{Drawn, Rises, heading_of, made}
use Rattle.version_graph.specs.Forest.{Link, forest, link}
use Rattle.version_graph.specs.declared.parts.Placed.{Placed}
use Rattle.version_graph.proofs.SetLaws.{each_at, each_of, origin}
use Rattle.version_graph.proofs.TableLaws.{rises_above, same_rising}
use Rattle.version_graph.proofs.TakenLaws.{heading_known}
use Rattle.op_law.specs.Tables.{Tables, contents}
use Rattle.op_law.specs.declared.side.Aux.{Aux}
use Rattle.engine_state.specs.Operators.{AnyView, any_meaning}
use Rattle.layout_rules.specs.Layouts.{IsStored}
use Rattle.layout_rules.specs.Lookups.{is_stored, tables_up}
use Rattle.layout_rules.proofs.PassLaws.{reverse_next, stored_listed, stored_rise, take_next, target_up, up_made}
use Rattle.version_model.specs.Kept.{value_of, auxes_at, numbers_in}
use Rattle.version_model.specs.States.{headings}
use Rattle.version_model.specs.declared.numbered.Numbered.{Numbered}
use Rattle.storage_law.specs.Storage.{StandsOver, aux_of, stored_way}
use Rattle.db_state.specs.Fields.{IsDatabase, database_for, state_for, storage_in}
use Rattle.db_state.specs.declared.parts.Parts.{Parts}
use Rattle.engine_state.specs.declared.reply.Reply.TheVariants.{Layout}
use Rattle.engine_state.specs.declared.reply.StoredOperator.{StoredOperator}
use Rattle.engine_state.specs.declared.reply.StoredTable.{StoredTable}
use Rattle.engine_layouts.specs.inner.Calls.{HasHeadings, shown_edge, shown_item}
use Rattle.engine_layouts.specs.Laid.{laid_of}
use Rattle.engine_layouts.specs.Shown.{row_count, shown_operator, shown_operators, shown_table, shown_tables}

-- equal functions on the items of a list
map_alike : {X Y : Type 0} (f g : X → Y) (xs : List X) → ((x : X) → In x xs → f x ≡ g x) → map f xs ≡ map g xs
map_alike f g [] h = refl
map_alike {X} {Y} f g (x ∷ xs) h = ap (λ (y : Y). y ∷ map f xs) (h x (inl refl)) ∙ ap (λ (l : List Y). g x ∷ l) (map_alike f g xs (λ y i. h y (inr i)))

map_twice : {X Y Z : Type 0} (f : X → Y) (g : Y → Z) (xs : List X) → map (λ x. g (f x)) xs ≡ map g (map f xs)
map_twice f g [] = refl
map_twice {X} {Y} {Z} f g (x ∷ xs) = ap (λ (l : List Z). g (f x) ∷ l) (map_twice f g xs)

map_back : {X Y : Type 0} (f : X → Y) (xs : List X) → map f (reverse xs) ≡ reverse (map f xs)
map_back f [] = refl
map_back {X} {Y} f (x ∷ xs) =
    ap (map f) (reverse_next x xs) ∙ map-append f (reverse xs) (x ∷ []) ∙ ap (λ (l : List Y). l ++ f x ∷ []) (map_back f xs) ∙ sym (reverse_next (f x) (map f xs))

number_in : {T : Type 0} (items : List (Numbered T)) (i : Numbered T) → In i items → In i.number (numbers_in items)
number_in [] i j = j
number_in {T} (x ∷ xs) i (inl same) = inl (ap (λ (k : Numbered T). k.number) same)
number_in (x ∷ xs) i (inr j) = inr (number_in xs i j)

map_one : {X Y : Type 0} (f : X → Y) (o : Option X) → map f (option_to_list o) ≡ option_to_list (option_map f o)
map_one f None = refl
map_one f (Some x) = refl

-- an item of a list by ascending numbers is found by its number
value_here : {T : Type 0} (low : ℕ) (items : List (Numbered T)) → Rises low (numbers_in items) → (i : Numbered T) → In i items → value_of items i.number ≡ Some i.value
value_here low [] rise i j = absurd j
value_here {T} low (x ∷ xs) rise i (inl same) =
    ap (λ (o : Option (Numbered T)). option_map (λ (k : Numbered T). k.value) o) (cond-true (i.number == x.number) (Some x) (find (λ (k : Numbered T). i.number == k.number) xs) (eq-eqb i.number x.number (ap (λ (k : Numbered T). k.number) same)))
    ∙ ap (λ (k : Numbered T). Some k.value) (sym same)
value_here {T} low (x ∷ xs) rise i (inr j) =
    let above = rises_above x.number (numbers_in xs) rise.1 i.number (number_in xs i j) in
    ap (λ (o : Option (Numbered T)). option_map (λ (k : Numbered T). k.value) o) (cond-false (i.number == x.number) (Some x) (find (λ (k : Numbered T). i.number == k.number) xs) (ne_eqb i.number x.number (λ same. omega arith)))
    ∙ value_here x.number xs rise.1 i j

module _ (p : Parts AnyView) (is : IsDatabase any_meaning p) where
  abbrev es : List (Placed AnyView)
  es = p.graph.edges

  -- ---- tables

  stored_list : numbers_in p.stored ≡ filter (is_stored es p.layout.operators) (tables_up es)
  stored_list =
      let listed = stored_listed es is.graph.edges p.layout.operators (filter (is_stored es p.layout.operators) (tables_up es)) refl in
      same_rising 0 (numbers_in p.stored) (filter (is_stored es p.layout.operators) (tables_up es)) is.tables_ascending (stored_rise es is.graph.edges p.layout.operators (filter (is_stored es p.layout.operators) (tables_up es)) refl)
      (λ t i. (listed t).1 ((is.tables t).0 i))
      (λ t i. (is.tables t).1 ((listed t).0 i))

  item_stored : (i : Numbered TableState) → In i p.stored → IsStored (forest es) p.layout.operators i.number
  item_stored i j = (is.tables i.number).0 (number_in p.stored i j)

  item_rows : (i : Numbered TableState) → In i p.stored → i.value.rows ≡ (state_for any_meaning p).tables i.number
  item_rows i j =
      sym (ap (λ (o : Option TableState). option_map_or (λ (x : TableState). x.rows) o []) (value_here 0 p.stored is.tables_ascending i j))
      ∙ is.stands.stored i.number (item_stored i j)

  -- each stored table has a heading
  pub have_headings : HasHeadings es p.stored
  have_headings =
      each_of (λ (i : Numbered TableState). IsSome (heading_of es i.number)) p.stored (λ i j.
      let k = (item_stored i j).made in
      let v = origin (λ (v : TableVersion). v.number) i.number (made es) (up_made es is.graph.edges i.number (target_up es k.0 i.number k.1 k.3)) in
      let known = heading_known es is.graph.edges v.0 v.1 in
      subst (λ (t : ℕ). IsSome (heading_of es t)) (sym v.2) (subst (λ (o : Option _). IsSome o) (sym known) refl))

  pub shown_stored : map (shown_item es) p.stored ≡ shown_tables (laid_of p)
  shown_stored =
      let d = database_for any_meaning p in
      map_alike (shown_item es) (λ (i : Numbered TableState). shown_table d i.number) p.stored (λ i j. ap (λ (rows : Rows). record { number = i.number; name = (shown_item es i).name; rows = length rows }) (item_rows i j))
      ∙ map_twice (λ (i : Numbered TableState). i.number) (shown_table d) p.stored
      ∙ ap (map (shown_table d)) stored_list

  -- ---- operators

  entries_right : (l : Link AnyView) → In l (forest es) → auxes_at p.aux l.number ≡ aux_of any_meaning (state_for any_meaning p) (stored_way p.layout.operators l)
  entries_right l i = (each_at (λ (f : Link AnyView). StandsOver any_meaning (headings es) (storage_in p) (state_for any_meaning p) (stored_way p.layout.operators f)) (forest es) l i is.stands.edges).aux

  shown_alike : (fs : List (Placed AnyView)) → ((l : Link AnyView) → In l (forest fs) → auxes_at p.aux l.number ≡ aux_of any_meaning (state_for any_meaning p) (stored_way p.layout.operators l)) → map (shown_edge p.layout.operators p.aux) fs ≡ map (shown_operator (laid_of p)) (forest fs)
  shown_alike [] h = refl
  shown_alike (f ∷ fs) h =
      let l = link fs f in
      let here = shown_edge p.layout.operators p.aux f in
      ap (λ (tables : Tables). record { number = here.number; kind = here.kind; on_target = here.on_target; entries = row_count tables } ∷ map (shown_edge p.layout.operators p.aux) fs) (h l (inl refl))
      ∙ ap (λ (rest : List StoredOperator). shown_operator (laid_of p) l ∷ rest) (shown_alike fs (λ k i. h k (inr i)))

  pub shown_edges : map (shown_edge p.layout.operators p.aux) (reverse es) ≡ shown_operators (laid_of p)
  shown_edges =
      map_back (shown_edge p.layout.operators p.aux) es ∙ ap (λ (l : List StoredOperator). reverse l) (shown_alike es entries_right) ∙ sym (map_back (shown_operator (laid_of p)) (forest es))

-- one operator more is shown
pub edges_next : {X Y : Type 0} (f : X → Y) (xs : List X) (i : ℕ) (so_far more : List Y) (o : Option X) → o ≡ slice_get xs i → so_far ≡ map f (take i xs) → more ≡ so_far ++ option_to_list (option_map f o) → more ≡ map f (take (i + 1) xs)
edges_next {X} {Y} f xs i so_far more o got is m =
    let one : (p : Option X) → map f (option_to_list p) ≡ option_to_list (option_map f p) = map_one f in
    m ∙ ap (λ (l : List Y). l ++ option_to_list (option_map f o)) is
    ∙ sym (ap (map f) (take_next xs i o got) ∙ map-append f (take i xs) (option_to_list o) ∙ ap (λ (l : List Y). map f (take i xs) ++ l) (one o))

-- the rows of one table more are counted
count_last : (xs : List TableState) (t : TableState) → row_count (contents (xs ++ t ∷ [])) ≡ row_count (contents xs) + length t.rows
count_last [] t = omega arith
count_last (x ∷ xs) t = let rest = count_last xs t in omega (arith, rest)

pub count_next : (tables : List TableState) (i : ℕ) (t : TableState) (total sum : ℕ) → i < length tables → t ≡ get_or tables i t → total ≡ row_count (contents (take i tables)) → sum ≡ total + length t.rows → sum ≡ row_count (contents (take (i + 1) tables))
count_next tables i t total sum within is so_far more =
    let one : take (i + 1) tables ≡ take i tables ++ t ∷ [] = take_more tables i t within ∙ ap (λ (x : TableState). take i tables ++ x ∷ []) (sym is) in
    let all = count_last (take i tables) t in
    let same : row_count (contents (take (i + 1) tables)) ≡ row_count (contents (take i tables ++ t ∷ [])) = ap (λ (l : List TableState). row_count (contents l)) one in
    omega (arith, so_far, more, all, same)

module _ (p : Parts AnyView) (is : IsDatabase any_meaning p) (g : Drawn AnyView) (stored : List (Numbered TableState)) (graph : g ≡ p.graph) (tables : stored ≡ p.stored) where
  pub headings_there : HasHeadings g.edges stored
  headings_there = subst (λ (d : Drawn AnyView). HasHeadings d.edges stored) (sym graph) (subst (λ (l : List (Numbered TableState)). HasHeadings p.graph.edges l) (sym tables) (have_headings p is))

  -- what is shown is what the model's state shows
  pub layout_shown : (layout : List ℕ) (auxes : List (Numbered Aux)) (ts : List StoredTable) (os : List StoredOperator) → layout ≡ p.layout.operators → auxes ≡ p.aux → ts ≡ map (shown_item g.edges) stored → os ≡ map (shown_edge layout auxes) (reverse g.edges)
      → Layout ts os ≡ Layout (shown_tables (laid_of p)) (shown_operators (laid_of p))
  layout_shown layout auxes ts os sides kept told others =
      let one : ts ≡ shown_tables (laid_of p) =
      told ∙ ap (λ (d : Drawn AnyView). map (shown_item d.edges) stored) graph ∙ ap (λ (l : List (Numbered TableState)). map (shown_item p.graph.edges) l) tables ∙ shown_stored p is in
      let two : os ≡ shown_operators (laid_of p) =
      others ∙ ap (λ (d : Drawn AnyView). map (shown_edge layout auxes) (reverse d.edges)) graph ∙ ap (λ (l : List ℕ). map (shown_edge l auxes) (reverse p.graph.edges)) sides
      ∙ ap (λ (l : List (Numbered Aux)). map (shown_edge p.layout.operators l) (reverse p.graph.edges)) kept ∙ shown_edges p is in
      ap (λ (l : List StoredTable). Layout l os) one ∙ ap (λ (l : List StoredOperator). Layout (shown_tables (laid_of p)) l) two
