-- Lists that are written item by item.
use Rattle.std.specs.Prelude.{◌<◌, ◌≤◌, Option, option_to_list, slice_get}
use Rattle.std.proofs.Common.{◌≡◌, ℕ, ◌+◌, List, [], ◌∷◌, ◌++◌, filter, get_or, length, map, take, inl, inr, refl, sym, ap, ◌∙◌, subst, true, arith}
use Rattle.std.proofs.lemmas.List.{length-map, map-append, take_all, take_more}
use Rattle.std.proofs.lemmas.List.Elements.{filter-append}
use Rattle.par_base.specs.Names.{is_name}
use Rattle.id_memory.specs.Pairs.{Pairs}
use Rattle.id_memory.specs.States.{MemoryState}
use Rattle.serde_json.specs.Data.{Data}
use Rattle.version_graph.specs.Edges.{Drawn, IsGraph, numbers, version_sets}
use Rattle.version_graph.specs.Sets.{Distinct, In, Within}
use Rattle.version_graph.specs.declared.parts.Placed.{Placed}
use Rattle.version_graph.proofs.SetLaws.{each_append, each_at}
use Rattle.layout_rules.proofs.PassLaws.{take_next}
use Rattle.op_any.specs.Operators.{AnyView}
use Rattle.op_law.specs.declared.side.Aux.{Aux}
use Rattle.version_model.specs.declared.numbered.Numbered.{Numbered}
use Rattle.dump_values.specs.Lines.{aux_json, memory_json}
use Rattle.dump_graph.specs.Graphs.{AreNames}
use Rattle.dump_file.specs.inner.Calls.{aux_told, memory_told}
use Rattle.dump_file.specs.Told.{aux_line, auxes_told, has_tables, memories_told, memory_line, remembers}

-- one item more is written
pub written_next : {X Y Z : Type 0} (f : Y → Z) (g : X → Y) (xs : List X) (i : ℕ) (so_far more : List Z) (o : Option X)
    → o ≡ slice_get xs i → so_far ≡ map f (map g (take i xs)) → more ≡ so_far ++ map f (map g (option_to_list o)) → more ≡ map f (map g (take (i + 1) xs))
written_next {X} {Y} {Z} f g xs i so_far more o got is m =
    m ∙ ap (λ (l : List Z). l ++ map f (map g (option_to_list o))) is
    ∙ sym (ap (λ (l : List X). map f (map g l)) (take_next xs i o got) ∙ ap (map f) (map-append g (take i xs) (option_to_list o)) ∙ map-append f (map g (take i xs)) (map g (option_to_list o)))

-- all items are written
pub written_all : {X Y Z : Type 0} (f : Y → Z) (g : X → Y) (xs : List X) (i : ℕ) (so_far : List Z)
    → length xs ≤ i → so_far ≡ map f (map g (take i xs)) → so_far ≡ map f (map g xs)
written_all f g xs i so_far past is = is ∙ ap (λ l. map f (map g l)) (take_all i xs past)

-- one version more has a name
pub names_next : (versions : List (List ℕ × ℕ)) (i : ℕ) (o : Option (List ℕ × ℕ)) → o ≡ slice_get versions i → AreNames (take i versions) → AreNames (option_to_list o) → AreNames (take (i + 1) versions)
names_next versions i o got so_far more =
    subst AreNames (sym (take_next versions i o got)) (each_append (λ (v : List ℕ × ℕ). is_name v.0 ≡ true) (take i versions) (option_to_list o) so_far more)

-- all have names
pub names_all : (versions : List (List ℕ × ℕ)) (i : ℕ) → length versions ≤ i → AreNames (take i versions) → AreNames versions
names_all versions i past so_far = subst AreNames (take_all i versions past) so_far

-- what is told of auxiliary tables is told of each operator
pub auxes_append : (xs ys : List (Numbered Aux)) → auxes_told (xs ++ ys) ≡ auxes_told xs ++ auxes_told ys
auxes_append xs ys = ap (filter has_tables) (map-append aux_line xs ys) ∙ filter-append has_tables (map aux_line xs) (map aux_line ys)

-- likewise of memories
pub memories_append : (es : List (Placed AnyView)) (xs ys : List (Numbered MemoryState)) → memories_told es (xs ++ ys) ≡ memories_told es xs ++ memories_told es ys
memories_append es xs ys =
    ap (filter (λ (line : ℕ × Pairs). remembers es line.0)) (map-append memory_line xs ys)
    ∙ filter-append (λ (line : ℕ × Pairs). remembers es line.0) (map memory_line xs) (map memory_line ys)

-- ---- there are no more distinct things than places for them

record Cut {X : Type 0} (x : X) (ys : List X) : Type 0 where
  front : List X
  back : List X
  is : ys ≡ front ++ x ∷ back

cut : {X : Type 0} (x : X) (ys : List X) → In x ys → Cut x ys
cut x [] i = absurd i
cut x (y ∷ ys) (inl same) = record { front = []; back = ys; is = ap (λ z. z ∷ ys) (sym same) }
cut x (y ∷ ys) (inr i) = let c = cut x ys i in record { front = y ∷ c.front; back = c.back; is = ap (λ l. y ∷ l) c.is }

-- what isn't this one is in the rest
skip : {X : Type 0} (v x : X) (front back : List X) → (v ≡ x → ⊥) → In v (front ++ x ∷ back) → In v (front ++ back)
skip v x [] back other (inl same) = absurd (other same)
skip v x [] back other (inr i) = i
skip v x (y ∷ front) back other (inl same) = inl same
skip v x (y ∷ front) back other (inr i) = inr (skip v x front back other i)

one_longer : {X : Type 0} (x : X) (front back : List X) → length (front ++ x ∷ back) ≡ length (front ++ back) + 1
one_longer x [] back = omega arith
one_longer x (y ∷ front) back = let rest = one_longer x front back in omega (arith, rest)

pub no_more : {X : Type 0} (xs ys : List X) → Distinct xs → Within xs ys → length xs ≤ length ys
no_more [] ys once within = omega arith
no_more {X} (x ∷ xs) ys once within =
    let c = cut x ys (within x (inl refl)) in
    let rest : length xs ≤ length (c.front ++ c.back) =
    no_more xs (c.front ++ c.back) once.1
    (λ v i. skip v x c.front c.back (λ same. once.0 (there v same i)) (here v c.front c.back (within v (inr i)) c.is)) in
    let many = one_longer x c.front c.back in
    let all = ap length c.is in
    omega (arith, rest, many, all)
  where
    there : (v : X) → v ≡ x → In v xs → In x xs
    there v same i = rw (sym same) i

    here : (v : X) (front back : List X) → In v ys → ys ≡ front ++ x ∷ back → In v (front ++ x ∷ back)
    here v front back i is = rw (sym is) i

length_numbers : {O : Type 0} (es : List (Placed O)) → length (numbers es) ≡ length es
length_numbers [] = refl
length_numbers (e ∷ es) = let rest = length_numbers es in omega (arith, rest)

-- there are no more versions than operators
pub versions_few : {O : Type 0} (g : Drawn O) → IsGraph g → length g.versions ≤ length g.edges
versions_few g graph =
    let most = no_more (version_sets g.versions) (numbers g.edges) graph.sets_once (λ n i. each_at (λ k. In k (numbers g.edges)) (version_sets g.versions) n i graph.named) in
    let sets = length-map g.versions (λ (v : List ℕ × ℕ). v.1) in
    let many = length_numbers g.edges in
    omega (arith, most, sets, many)

-- ---- what is told of some items alone

aux_more : (xs : List (Numbered Aux)) (i : ℕ) (x : Numbered Aux) → i < length xs → x ≡ get_or xs i x → take (i + 1) xs ≡ take i xs ++ x ∷ []
aux_more xs i x within is = take_more xs i x within ∙ ap (λ (y : Numbered Aux). take i xs ++ y ∷ []) (sym is)

-- the auxiliary tables of one operator more are written
pub aux_next : (xs : List (Numbered Aux)) (i : ℕ) (x : Numbered Aux) (so_far more : List Data) → i < length xs → x ≡ get_or xs i x
    → so_far ≡ map aux_json (auxes_told (take i xs)) → more ≡ so_far ++ map aux_json (aux_told x) → more ≡ map aux_json (auxes_told (take (i + 1) xs))
aux_next xs i x so_far more within here is m =
    m ∙ ap (λ (l : List Data). l ++ map aux_json (aux_told x)) is
    ∙ sym (ap (λ (l : List (Numbered Aux)). map aux_json (auxes_told l)) (aux_more xs i x within here) ∙ ap (map aux_json) (auxes_append (take i xs) (x ∷ [])) ∙ map-append aux_json (auxes_told (take i xs)) (aux_told x))

memory_more : (xs : List (Numbered MemoryState)) (i : ℕ) (x : Numbered MemoryState) → i < length xs → x ≡ get_or xs i x → take (i + 1) xs ≡ take i xs ++ x ∷ []
memory_more xs i x within is = take_more xs i x within ∙ ap (λ (y : Numbered MemoryState). take i xs ++ y ∷ []) (sym is)

-- the memory of one operator more is written
pub memory_next : (es : List (Placed AnyView)) (xs : List (Numbered MemoryState)) (i : ℕ) (x : Numbered MemoryState) (so_far more : List Data) → i < length xs → x ≡ get_or xs i x
    → so_far ≡ map memory_json (memories_told es (take i xs)) → more ≡ so_far ++ map memory_json (memory_told es x) → more ≡ map memory_json (memories_told es (take (i + 1) xs))
memory_next es xs i x so_far more within here is m =
    m ∙ ap (λ (l : List Data). l ++ map memory_json (memory_told es x)) is
    ∙ sym (ap (λ (l : List (Numbered MemoryState)). map memory_json (memories_told es l)) (memory_more xs i x within here) ∙ ap (map memory_json) (memories_append es (take i xs) (x ∷ [])) ∙ map-append memory_json (memories_told es (take i xs)) (memory_told es x))
