-- Reading what is seen, and making auxiliary tables of it, takes few steps.
use Rattle.std.specs.Prelude.{◌&&◌, ◌||◌, ◌==◌, ⊤}
use Rattle.std.proofs.Common.{◌≡◌, ℕ, ◌+◌, ◌*◌, ◌≤◌, List, [], ◌∷◌, ◌++◌, Bool, true, false, not, cond, map, length, Some, inl, inr, refl, sym, subst, arith}
use Rattle.std.proofs.lemmas.Bool.{eqb-true, ne_eqb}
use Rattle.std.proofs.lemmas.Nat.{mul-le}
use Rattle.row_store.specs.Rows.{Rows}
use Rattle.version_graph.specs.Sets.{In}
use Rattle.version_graph.specs.Edges.{is_in}
use Rattle.version_graph.specs.Forest.{Crossing, Link, forest}
use Rattle.version_graph.specs.declared.parts.Placed.{Placed}
use Rattle.version_graph.proofs.WalkLaws.{IsForest, link_numbers}
use Rattle.op_law.specs.Calls.{StepsWithin}
use Rattle.op_law.specs.Identifiers.{IdsRise, has_id}
use Rattle.op_law.specs.Local.{only, rows_only}
use Rattle.op_law.specs.Meaning.{Meaning, PairState}
use Rattle.op_law.specs.Tables.{Heading, Tables}
use Rattle.version_model.specs.Bounds.{AreAmong, HasOnly}
use Rattle.version_model.specs.States.{State}
use Rattle.version_model.specs.Steps.{directed, pair_in}
use Rattle.version_model.proofs.AmongLaws.{few_in_two}
use Rattle.version_model.proofs.BoundLaws.{side_among, way_local}
use Rattle.storage_law.specs.Storage.{stored_way}
use Rattle.db_state.specs.Calls.{AuxesWithin, IsRelatedAt}
use Rattle.db_state.specs.Parts.{AreLocalAt, Ascends, MaySee, SeenWithin, listed_in, passes, seen_of}
use Rattle.db_state.specs.declared.sight.Sight.{Sight}
use Rattle.db_state.specs.declared.sight.Sight.TheVariants.{All, Of, Part}
use Rattle.db_state.specs.inner.Passes.{SeesOver, passed_in}
use Rattle.db_state.proofs.PartLaws.{rows_twice}

-- ---- steps for each identifier that is seen

pub seen_none : (most : ℕ) (sight : Sight) (count s : ℕ) → SeenWithin most sight count s s
seen_none most All count s = tt
seen_none most (Of ids) count s = omega arith
seen_none most (Part ids) count s = tt

pub seen_more : (most : ℕ) (sight : Sight) (a b s t u : ℕ) → SeenWithin most sight a s t → SeenWithin most sight b t u → SeenWithin most sight (a + b) s u
seen_more most All a b s t u h k = tt
seen_more most (Of ids) a b s t u h k = grind (arith, h, k)
seen_more most (Part ids) a b s t u h k = tt

pub seen_fewer : (most : ℕ) (sight : Sight) (a b s t : ℕ) → a ≤ b → SeenWithin most sight a s t → SeenWithin most sight b s t
seen_fewer most All a b s t less h = tt
seen_fewer most (Of ids) a b s t less h =
    let count = mul-le (length ids.now) a (length ids.now) b (omega arith) less in
    let all = mul-le most (length ids.now * a) most (length ids.now * b) (omega arith) count in
    omega (arith, h, all)
seen_fewer most (Part ids) a b s t less h = tt

pub seen_less : (most more : ℕ) (sight : Sight) (a s t : ℕ) → most ≤ more → SeenWithin most sight a s t → SeenWithin more sight a s t
seen_less most more All a s t less h = tt
seen_less most more (Of ids) a s t less h =
    let all = mul-le most (length ids.now * a) more (length ids.now * a) less (omega arith) in
    omega (arith, h, all)
seen_less most more (Part ids) a s t less h = tt

pub seen_sum : (most more : ℕ) (sight : Sight) (a s t u : ℕ) → SeenWithin most sight a s t → SeenWithin more sight a t u → SeenWithin (most + more) sight a s u
seen_sum most more All a s t u h k = tt
seen_sum most more (Of ids) a s t u h k = grind (arith, h, k)
seen_sum most more (Part ids) a s t u h k = tt

-- ---- one operator

only_twice : (P : ℕ → Bool) (ts : Tables) → only P (only P ts) ≡ only P ts
only_twice P [] = refl
only_twice P (t ∷ ts) = let a = rows_twice P t in let b = only_twice P ts in cc

-- where steps are bounded, the operator treats each identifier by itself
abbrev pub LocalOver : Sight → Meaning → Type 0
LocalOver All m = ⊤
LocalOver (Of ids) m = m.is_local ≡ true
LocalOver (Part ids) m = ⊤

pub local_over : {O : Type 0} (meaning : O → Meaning) (heading : ℕ → Heading) (s : State) (sight : Sight) (e : Link O) → SeesOver meaning heading s sight e → LocalOver sight (meaning e.operator)
local_over meaning heading s All e sees = tt
local_over meaning heading s (Of ids) e sees = sees
local_over meaning heading s (Part ids) e sees = tt

-- its near tables and auxiliary tables have no more identifiers than are seen
pub crossed_within : (sight : Sight) (m : Meaning) (back : Bool) (rows : ℕ → Rows) (ns : List ℕ) (near whole aux : Tables) (s t : ℕ) → Ascends sight → LocalOver sight m
    → near ≡ map (seen_of sight rows) ns → aux ≡ only (passes sight) whole → StepsWithin (directed back m) 2 near aux s t → SeenWithin 2 sight 1 s t
crossed_within All m back rows ns near whole aux s t rise local n a within = tt
crossed_within (Of ids) m back rows ns near whole aux s t rise local n a within =
    let P = has_id ids.now in
    let near_among : AreAmong ids.now near = subst (λ (x : Tables). AreAmong ids.now x) (sym n) (side_among ids.now (λ (k : ℕ). rows_only P (rows k)) ns (λ k. rows_twice P (rows k))) in
    let aux_among : AreAmong ids.now aux = subst (λ (x : Tables). AreAmong ids.now x) (sym a) (only_twice P whole) in
    let most = few_in_two ids.now near aux rise near_among aux_among in
    let own = within (way_local back m local) in
    omega (arith, most, own)
crossed_within (Part ids) m back rows ns near whole aux s t rise local n a within = tt

-- ---- the operators of a pass

one_way : (mine there : Bool) → cond (mine && cond true there (not there)) 1 0 + cond (mine && cond false there (not there)) 1 0 ≡ cond mine 1 0
one_way false there = refl
one_way true false = refl
one_way true true = refl

module _ {O : Type 0} (layout ns : List ℕ) where
  pub passed_append : (back : Bool) (a b : List (Link O)) → passed_in layout ns back (a ++ b) ≡ passed_in layout ns back a + passed_in layout ns back b
  passed_append back [] b = omega arith
  passed_append back (e ∷ es) b = let rest = passed_append back es b in omega (arith, rest)

  -- the operators that are listed are passed one way each
  pub both_passed : (es : List (Link O)) → passed_in layout ns true es + passed_in layout ns false es ≡ listed_in ns es
  both_passed [] = refl
  both_passed (e ∷ es) =
      let one = one_way (is_in e.number ns) (is_in e.number layout) in
      let rest = both_passed es in
      omega (arith, one, rest)

-- ---- how many operators are listed

either : (a b : Bool) → cond (a || b) 1 0 ≤ cond a 1 0 + cond b 1 0
either true b = omega arith
either false b = omega arith

module _ {O : Type 0} where
  abbrev equal_in : ℕ → List (Link O) → ℕ
  equal_in n [] = 0
  equal_in n (e ∷ es) = cond (e.number == n) 1 0 + equal_in n es

  equal_out : (n : ℕ) (es : List (Link O)) → (In n (link_numbers es) → ⊥) → equal_in n es ≡ 0
  equal_out n [] out = refl
  equal_out n (e ∷ es) out =
      let rest = equal_out n es (λ i. out (inr i)) in
      let here : (e.number == n) ≡ false = ne_eqb e.number n (λ same. out (inl (sym same))) in
      rw here (omega (arith, rest))

  -- of the operators of a forest one has the number
  equal_one : (n : ℕ) (es : List (Link O)) → IsForest es → equal_in n es ≤ 1
  equal_one n [] forest = omega arith
  equal_one n (e ∷ es) forest = by_number (e.number == n) refl (equal_one n es forest.1)
    where
      by_number : (b : Bool) → (e.number == n) ≡ b → equal_in n es ≤ 1 → equal_in n (e ∷ es) ≤ 1
      by_number true same rest =
          let is : e.number ≡ n = eqb-true e.number n same in
          let none = equal_out n es (λ i. let less = forest.0.newest n (inr i) in omega arith) in
          rw (same, none) (omega arith)
      by_number false other rest = rw other (omega (arith, rest))

  listed_more : (n : ℕ) (ns : List ℕ) (es : List (Link O)) → listed_in (n ∷ ns) es ≤ equal_in n es + listed_in ns es
  listed_more n ns [] = omega arith
  listed_more n ns (e ∷ es) =
      let one : cond (is_in e.number (n ∷ ns)) 1 0 ≤ cond (e.number == n) 1 0 + cond (is_in e.number ns) 1 0 = either (e.number == n) (is_in e.number ns) in
      let rest = listed_more n ns es in
      omega (arith, one, rest)

  listed_none : (es : List (Link O)) → listed_in [] es ≡ 0
  listed_none [] = refl
  listed_none (e ∷ es) = let rest = listed_none es in omega (arith, rest)

  -- no more live operators are among some numbers than there are numbers
  pub listed_few : (ns : List ℕ) (es : List (Link O)) → IsForest es → listed_in ns es ≤ length ns
  listed_few [] es forest = let none = listed_none es in omega (arith, none)
  listed_few (n ∷ ns) es forest =
      let more = listed_more n ns es in
      let one = equal_one n es forest in
      let rest = listed_few ns es forest in
      omega (arith, more, one, rest)

-- ---- auxiliary tables

module _ {O : Type 0} (meaning : O → Meaning) (es : List (Placed O)) (state : State) where
  pub aux_within : (layout : List ℕ) (n : ℕ) (q : Crossing O) (pair : PairState) (s t : ℕ) → IsRelatedAt meaning es state n → ((e : Link O) → In e (forest es) → e.number ≡ n → Some q ≡ Some (stored_way layout e)) → pair ≡ pair_in state q
      → StepsWithin (directed q.backward (meaning q.operator)) 8 pair.source pair.target s t → AuxesWithin meaning es state (n ∷ []) s t
  aux_within layout n q pair s t known way is within ids rise local has =
      let e = known.over in
      let over : q ≡ stored_way layout e = some_same q (stored_way layout e) (way e known.lives known.number) in
      let own : (meaning e.operator).is_local ≡ true = local e known.lives (inl known.number) in
      let mine : (meaning q.operator).is_local ≡ true = subst (λ (x : Crossing O). (meaning x.operator).is_local ≡ true) (sym over) own in
      let source : AreAmong ids pair.source = subst (λ (x : PairState). AreAmong ids x.source) (sym is) (side_among ids state.tables q.near has) in
      let target : AreAmong ids pair.target = subst (λ (x : PairState). AreAmong ids x.target) (sym is) (side_among ids state.tables q.far has) in
      let most = few_in_two ids pair.source pair.target rise source target in
      let steps = within (way_local q.backward (meaning q.operator) mine) in
      omega (arith, most, steps)
    where
      some_same : (a b : Crossing O) → Some a ≡ Some b → a ≡ b
      some_same a b h = cc

  pub auxes_seen : (sight : Sight) (ns : List ℕ) (s t : ℕ) → MaySee meaning es state ns sight → ((k : ℕ) → rows_only (passes sight) (state.tables k) ≡ state.tables k) → AuxesWithin meaning es state ns s t → SeenWithin 8 sight (length ns) s t
  auxes_seen All ns s t may has within = tt
  auxes_seen (Of ids) ns s t may has within = within ids.now may.0 may.1 has
  auxes_seen (Part ids) ns s t may has within = tt

  -- of the first of some operators
  abbrev pub AuxesSoFar : List ℕ → ℕ → ℕ → ℕ → Type 0
  AuxesSoFar ns i old new = (ids : List ℕ) → IdsRise 0 ids → AreLocalAt meaning es ns → HasOnly ids state → new ≤ old + 8 * (length ids * i)

  pub one_aux_within : (ns : List ℕ) (i n : ℕ) (s t u : ℕ) → In n ns → AuxesSoFar ns i s t → AuxesWithin meaning es state (n ∷ []) t u → AuxesSoFar ns (i + 1) s u
  one_aux_within ns i n s t u listed so_far within ids rise local has =
      let was = so_far ids rise local has in
      let own = within ids rise (λ e at mine. local e at (of_one e.number mine)) has in
      grind (arith, was, own)
    where
      of_one : (k : ℕ) → In k (n ∷ []) → In k ns
      of_one k (inl same) = subst (λ (x : ℕ). In x ns) (sym same) listed
      of_one k (inr none) = absurd none

  pub all_auxes_within : (ns : List ℕ) (i s t : ℕ) → i ≤ length ns → AuxesSoFar ns i s t → AuxesWithin meaning es state ns s t
  all_auxes_within ns i s t inside so_far ids rise local has =
      let was = so_far ids rise local has in
      let most = mul-le (length ids) i (length ids) (length ns) (omega arith) inside in
      omega (arith, was, most)
