-- What goes out of a working set by name goes out by number.
use Rattle.std.proofs.Common.{filter_map, ◌+◌, ◌<◌, take, get_or, length, ◌≡◌, ℕ, List, [], ◌∷◌, ◌++◌, Bool, true, false, not, cond, refl, sym, ap, ◌∙◌, subst, map, inl, inr, filter}
use Rattle.std.specs.Prelude.{◌==◌, ◌||◌, Option, Some, None, option_map, option_to_list}
use Rattle.std.specs.List.{find}
use Rattle.std.specs.Str.{bytes_eq}
use Rattle.std.proofs.lemmas.Bool.{eq-eqb, cond-true}
use Rattle.std.proofs.lemmas.Bool.Decides.{same_from_decides}
use Rattle.std.proofs.lemmas.List.{map-append, take_more}
use Rattle.std.proofs.lemmas.List.Elements.{filter_map-append}
use Rattle.std.proofs.lemmas.List.Folds.{list_any-append}
use Rattle.version_graph.specs.Sets.{In, Distinct, Each}
use Rattle.version_graph.specs.Tables.{TableVersion, table_numbers, headings_of, heading_names, is_among, passing, taken, table_named}
use Rattle.version_graph.specs.Edges.{AreEdges, set_after, made_by_edge, sources_of, working, made, has_name, heading_of, is_in, number_named}
use Rattle.version_graph.specs.Forest.{minus}
use Rattle.version_graph.specs.Kept.{numbers_named}
use Rattle.version_graph.specs.declared.parts.Placed.{Placed}
use Rattle.version_graph.specs.declared.parts.Heading.{Heading}
use Rattle.version_graph.proofs.SetLaws.{each_of, in_map, is_in_true, in_of_test}
use Rattle.version_graph.proofs.NameLaws.{same_name, name_is}
use Rattle.version_graph.proofs.TableLaws.{numbers_made, made_once, working_made, tables_once, names_once}

pub map_map : {X Y Z : Type 0} (f : Y → Z) (h : X → Y) (xs : List X) → map f (map h xs) ≡ map (λ x. f (h x)) xs
map_map f h [] = refl
map_map {X} {Y} {Z} f h (x ∷ xs) = ap (λ (l : List Z). f (h x) ∷ l) (map_map f h xs)

-- what tells items apart
pub same_item : {X Y : Type 0} (f : X → Y) (xs : List X) (x y : X) → Distinct (map f xs) → In x xs → In y xs → f x ≡ f y → x ≡ y
same_item f [] x y d i j e = absurd i
same_item f (z ∷ xs) x y d (inl a) (inl b) e = a ∙ sym b
same_item {X} {Y} f (z ∷ xs) x y d (inl a) (inr j) e = absurd (d.0 (subst (λ (v : Y). In v (map f xs)) (sym e ∙ ap f a) (in_map f y xs j)))
same_item {X} {Y} f (z ∷ xs) x y d (inr i) (inl b) e = absurd (d.0 (subst (λ (v : Y). In v (map f xs)) (e ∙ ap f b) (in_map f x xs i)))
same_item f (z ∷ xs) x y d (inr i) (inr j) e = same_item f xs x y d.1 i j e

found_one : {X : Type 0} (test : X → Bool) (x u : X) (xs : List X) (b : Bool) → test x ≡ b → (find test xs ≡ Some u → In u xs × (test u ≡ true)) → cond b (Some x) (find test xs) ≡ Some u → In u (x ∷ xs) × (test u ≡ true)
found_one {X} test x u xs true is more e = let same : x ≡ u = cc in (inl (sym same), subst (λ (v : X). test v ≡ true) same is)
found_one test x u xs false is more e = let m = more e in (inr m.0, m.1)

-- what is found is there and passes
pub found_passes : {X : Type 0} (test : X → Bool) (xs : List X) (u : X) → find test xs ≡ Some u → In u xs × (test u ≡ true)
found_passes test [] u e = cc
found_passes test (x ∷ xs) u e = found_one test x u xs (test x) refl (found_passes test xs u) e

-- where one passes, one is found
pub some_found : {X : Type 0} (test : X → Bool) (xs : List X) (v : X) → In v xs → test v ≡ true → (u : X) × (find test xs ≡ Some u)
some_found test [] v i e = absurd i
some_found {X} test (x ∷ xs) v (inl same) e = (x, cond-true (test x) (Some x) (find test xs) (ap test (sym same) ∙ e))
some_found {X} test (x ∷ xs) v (inr i) e =
    elim (test x) as (λ b. (u : X) × (cond b (Some x) (find test xs) ≡ Some u)) [ true ↦ (x, refl) | false ↦ some_found test xs v i e ]

-- where one item alone passes, it is found
pub only_found : {X : Type 0} (test : X → Bool) (xs : List X) (v : X) → In v xs → test v ≡ true → ((u : X) → In u xs → test u ≡ true → u ≡ v) → find test xs ≡ Some v
only_found {X} test xs v i e only =
    let s = some_found test xs v i e in
    let p = found_passes test xs s.0 s.1 in
    s.1 ∙ ap (λ (u : X). Some u) (only s.0 p.0 p.1)

-- the table of a known number
pub heading_known : {O : Type 0} (es : List (Placed O)) → AreEdges es → (v : TableVersion) → In v (made es) → heading_of es v.number ≡ Some v.heading
heading_known es edges v i =
    ap (option_map (λ (u : TableVersion). u.heading))
    (only_found (λ (u : TableVersion). v.number == u.number) (made es) v i (eq-eqb v.number v.number refl)
    (λ u j e. same_item (λ (t : TableVersion). t.number) (made es) u v (made_once es edges) j i (sym (Rattle.std.proofs.lemmas.Bool.eqb-true v.number u.number e))))

-- ---- one name

named_one : (set : List TableVersion) (name : List ℕ) (v : TableVersion) (o : Option TableVersion) → table_named set name ≡ o → Distinct (table_numbers set) → In v set → is_in v.number (table_numbers (option_to_list o)) ≡ true → v.heading.name ≡ name
named_one set name v None is d i e = cc
named_one set name v (Some u) is d i e =
    let p = found_passes (λ (t : TableVersion). bytes_eq t.heading.name name) set u is in
    let n : In v.number (u.number ∷ []) = in_of_test v.number (u.number ∷ []) e in
    elim n as (λ _. v.heading.name ≡ name) [
      | inl same ↦ ap (λ (t : TableVersion). t.heading.name) (same_item (λ (t : TableVersion). t.number) set v u d i p.0 same) ∙ same_name u.heading.name name p.1
      | inr none ↦ absurd none
    ]

named_back : (set : List TableVersion) (name : List ℕ) (v : TableVersion) → Distinct (heading_names (headings_of set)) → In v set → v.heading.name ≡ name → is_in v.number (table_numbers (option_to_list (table_named set name))) ≡ true
named_back set name v d i e =
    let names : Distinct (map (λ (t : TableVersion). t.heading.name) set) = subst (λ (l : List (List ℕ)). Distinct l) (map_map (λ (h : Heading). h.name) (λ (t : TableVersion). t.heading) set) d in
    let test = λ (t : TableVersion). bytes_eq t.heading.name name in
    let is = only_found test set v i (name_is v.heading.name name e) (λ u j f. same_item (λ (t : TableVersion). t.heading.name) set u v names j i (same_name u.heading.name name f ∙ sym e)) in
    ap (λ (o : Option TableVersion). is_in v.number (table_numbers (option_to_list o))) is ∙ is_in_true v.number (v.number ∷ []) (inl refl)

pub out_by_name : (set : List TableVersion) (name : List ℕ) (v : TableVersion) → Distinct (table_numbers set) → Distinct (heading_names (headings_of set)) → In v set → is_in v.number (table_numbers (option_to_list (table_named set name))) ≡ bytes_eq v.heading.name name
out_by_name set name v dn dh i =
    let P : Type 0 = v.heading.name ≡ name in
    same_from_decides {P = P} (is_in v.number (table_numbers (option_to_list (table_named set name)))) (bytes_eq v.heading.name name)
    ((λ e. named_one set name v (table_named set name) refl dn i e), (λ e. named_back set name v dh i e))
    ((λ e. same_name v.heading.name name e), (λ e. name_is v.heading.name name e))

-- all names
pub out_by_names : (set : List TableVersion) (names : List (List ℕ)) (v : TableVersion) → Distinct (table_numbers set) → Distinct (heading_names (headings_of set)) → In v set → is_in v.number (table_numbers (taken set names)) ≡ is_among names v.heading
out_by_names set [] v dn dh i = refl
out_by_names set (name ∷ names) v dn dh i =
    let first = option_to_list (table_named set name) in
    ap (λ (l : List ℕ). is_in v.number l) (map-append (λ (t : TableVersion). t.number) first (taken set names))
    ∙ list_any-append (λ k. v.number == k) (table_numbers first) (table_numbers (taken set names))
    ∙ ap (λ (b : Bool). b || is_in v.number (table_numbers (taken set names))) (out_by_name set name v dn dh i)
    ∙ ap (λ (b : Bool). bytes_eq v.heading.name name || b) (out_by_names set names v dn dh i)

filter_numbers : (test : TableVersion → Bool) (other : ℕ → Bool) (set : List TableVersion) → ((v : TableVersion) → In v set → other v.number ≡ test v) → table_numbers (filter test set) ≡ filter other (table_numbers set)
filter_numbers test other [] same = refl
filter_numbers test other (v ∷ set) same =
    let rest = filter_numbers test other set (λ u i. same u (inr i)) in
    let M : Bool → Type 0 = λ b. table_numbers (cond b (v ∷ filter test set) (filter test set)) ≡ cond b (v.number ∷ filter other (table_numbers set)) (filter other (table_numbers set)) in
    (elim (test v) as (λ b. M b) [ true ↦ ap (λ (l : List ℕ). v.number ∷ l) rest | false ↦ rest ])
    ∙ ap (λ (b : Bool). cond b (v.number ∷ filter other (table_numbers set)) (filter other (table_numbers set))) (sym (same v (inl refl)))

-- a working set without its named tables
pub passing_numbers : (set : List TableVersion) (names : List (List ℕ)) → Distinct (table_numbers set) → Distinct (heading_names (headings_of set)) → table_numbers (passing set names) ≡ minus (table_numbers set) (table_numbers (taken set names))
passing_numbers set names dn dh =
    filter_numbers (λ (t : TableVersion). not (is_among names t.heading)) (λ n. not (is_in n (table_numbers (taken set names)))) set
    (λ v i. ap not (out_by_names set names v dn dh i))

-- ---- by the headings that numbers have

module _ {O : Type 0} (es : List (Placed O)) where
  pub known_set : AreEdges es → (w : ℕ) → Each (λ v. heading_of es v.number ≡ Some v.heading) (working es w)
  known_set edges w = each_of (λ (v : TableVersion). heading_of es v.number ≡ Some v.heading) (working es w) (λ v i. heading_known es edges v (working_made es w v i))

  pub number_found : (set : List TableVersion) (name : List ℕ) → Each (λ v. heading_of es v.number ≡ Some v.heading) set → option_map (λ (v : TableVersion). v.number) (table_named set name) ≡ number_named es (table_numbers set) name
  number_found [] name known = refl
  number_found (v ∷ set) name known =
      let test : has_name es name v.number ≡ bytes_eq v.heading.name name = ap (λ (o : Option Heading). Rattle.std.specs.Option.option_map_or (λ (h : Heading). bytes_eq h.name name) o false) known.0 in
      let rest = number_found set name known.1 in
      (elim (bytes_eq v.heading.name name) as (λ b. option_map (λ (u : TableVersion). u.number) (cond b (Some v) (table_named set name)) ≡ cond b (Some v.number) (number_named es (table_numbers set) name)) [
        | true ↦ refl
        | false ↦ rest
      ])
      ∙ ap (λ (b : Bool). cond b (Some v.number) (number_named es (table_numbers set) name)) (sym test)

  number_next : (o : Option TableVersion) (rest : List TableVersion) → table_numbers (option_to_list o ++ rest) ≡ Rattle.std.specs.List.cons_option (option_map (λ (v : TableVersion). v.number) o) (table_numbers rest)
  number_next None rest = refl
  number_next (Some v) rest = refl

  pub numbers_found : (set : List TableVersion) (names : List (List ℕ)) → Each (λ v. heading_of es v.number ≡ Some v.heading) set → table_numbers (taken set names) ≡ numbers_named es (table_numbers set) names
  numbers_found set [] known = refl
  numbers_found set (name ∷ names) known =
      number_next (table_named set name) (taken set names)
      ∙ ap (λ (o : Option ℕ). Rattle.std.specs.List.cons_option o (table_numbers (taken set names))) (number_found set name known)
      ∙ ap (λ (l : List ℕ). Rattle.std.specs.List.cons_option (number_named es (table_numbers set) name) l) (numbers_found set names known)

-- one name more
pub numbers_named_more : {O : Type 0} (es : List (Placed O)) (ts : List ℕ) (names : List (List ℕ)) (i : ℕ) (name : List ℕ) → i < length names → name ≡ get_or names i name
    → numbers_named es ts (take (i + 1) names) ≡ numbers_named es ts (take i names) ++ option_to_list (number_named es ts name)
numbers_named_more es ts names i name within is =
    ap (numbers_named es ts) (take_more names i name within ∙ ap (λ (n : List ℕ). take i names ++ n ∷ []) (sym is))
    ∙ filter_map-append (number_named es ts) (take i names) (name ∷ []) ∙ ap (λ (l : List ℕ). numbers_named es ts (take i names) ++ l) (one (number_named es ts name))
  where
    one : (o : Option ℕ) → Rattle.std.specs.List.cons_option o [] ≡ option_to_list o
    one None = refl
    one (Some n) = refl

-- the source tables of an edge, by number
pub sources_right : {O : Type 0} (es : List (Placed O)) (e : Placed O) (before sources : List ℕ) → AreEdges es → before ≡ table_numbers (working es e.parent) → sources ≡ numbers_named es before e.edge.sources → sources ≡ table_numbers (sources_of es e)
sources_right es e before sources edges set named =
    named ∙ ap (λ (l : List ℕ). numbers_named es l e.edge.sources) set ∙ sym (numbers_found es (working es e.parent) e.edge.sources (known_set es edges e.parent))

-- the working set of an edge, by number
pub set_right : {O : Type 0} (es : List (Placed O)) (e : Placed O) (before sources after : List ℕ) → AreEdges es → length e.tables ≡ length e.edge.targets → before ≡ table_numbers (working es e.parent) → sources ≡ numbers_named es before e.edge.sources
    → after ≡ minus before sources ++ e.tables → after ≡ table_numbers (set_after (working es e.parent) e)
set_right es e before sources after edges counted set named is =
    let w = working es e.parent in
    let taken_is : sources ≡ table_numbers (taken w e.edge.sources) = sources_right es e before sources edges set named in
    let made_is = numbers_made e.tables e.edge.targets counted in
    let whole : table_numbers (set_after w e) ≡ minus before sources ++ e.tables =
    map-append (λ (t : TableVersion). t.number) (passing w e.edge.sources) (made_by_edge e)
    ∙ ap (λ (l : List ℕ). l ++ table_numbers (made_by_edge e)) (passing_numbers w e.edge.sources (tables_once es edges e.parent) (names_once es edges e.parent))
    ∙ ap (λ (l : List ℕ). minus (table_numbers w) (table_numbers (taken w e.edge.sources)) ++ l) made_is
    ∙ ap (λ (l : List ℕ). minus l (table_numbers (taken w e.edge.sources)) ++ e.tables) (sym set)
    ∙ ap (λ (l : List ℕ). minus before l ++ e.tables) (sym taken_is) in
    is ∙ sym whole

-- one heading more
pub headings_more : {O : Type 0} (es : List (Placed O)) (ts : List ℕ) (i : ℕ) → i < length ts → filter_map (heading_of es) (take (i + 1) ts) ≡ filter_map (heading_of es) (take i ts) ++ option_to_list (heading_of es (get_or ts i 0))
headings_more es ts i within =
    ap (filter_map (heading_of es)) (take_more ts i 0 within)
    ∙ filter_map-append (heading_of es) (take i ts) (get_or ts i 0 ∷ []) ∙ ap (λ (l : List Heading). filter_map (heading_of es) (take i ts) ++ l) (one (heading_of es (get_or ts i 0)))
  where
    one : (o : Option Heading) → Rattle.std.specs.List.cons_option o [] ≡ option_to_list o
    one None = refl
    one (Some n) = refl

known_headings : {O : Type 0} (es : List (Placed O)) (set : List TableVersion) → Each (λ v. heading_of es v.number ≡ Some v.heading) set → filter_map (heading_of es) (table_numbers set) ≡ headings_of set
known_headings es [] known = refl
known_headings es (v ∷ set) known =
    ap (λ (o : Option Heading). Rattle.std.specs.List.cons_option o (filter_map (heading_of es) (table_numbers set))) known.0 ∙ ap (λ (l : List Heading). v.heading ∷ l) (known_headings es set known.1)

pub headings_found : {O : Type 0} (es : List (Placed O)) (ts : List ℕ) (w : ℕ) → AreEdges es → ts ≡ table_numbers (working es w) → filter_map (heading_of es) ts ≡ headings_of (working es w)
headings_found es ts w edges is = ap (filter_map (heading_of es)) is ∙ known_headings es (working es w) (known_set es edges w)
