-- Drops: what stays, and that it is a graph.
use Rattle.std.proofs.Common.{◌≡◌, ℕ, zero, suc, ◌+◌, ◌-◌, ◌<◌, ◌≤◌, List, [], ◌∷◌, ◌++◌, Bool, true, false, not, cond, refl, sym, ap, ◌∙◌, map, length, take, drop, get_or, arith, inl, inr, append_assoc}
use Rattle.std.specs.Prelude.{◌==◌, ◌||◌, Some, None, remove, position, nat_lt, is_some}
use Rattle.std.specs.List.{list_any, position_or_len}
use Rattle.std.specs.Map.{remove_entry, keys_of, lookup}
use Rattle.std.proofs.lemmas.Bool.{ne_eqb, eq-eqb, cases_eq}
use Rattle.std.proofs.lemmas.List.{append-nil, take_more, drop_more, reverse-append, take_at, drop_at, length-take-le}
use Rattle.std.proofs.lemmas.List.Folds.{list_any-append}
use mathlib.Core.List.{reverse}
use Rattle.version_graph.specs.Edges.{is_in}
use Rattle.version_graph.specs.Dropped.{doomed}
use Rattle.version_graph.specs.Kept.{placed_in, needed_by, staying_nodes}
use Rattle.version_graph.specs.declared.parts.Placed.{Placed}
use Rattle.version_graph.specs.declared.node.Node.{Node}
use Rattle.version_graph.proofs.GrowLaws.{last_first}

-- ---- lists

pub any_map : {X Y : Type 0} (p : Y → Bool) (f : X → Y) (xs : List X) → list_any (λ x. p (f x)) xs ≡ list_any p (map f xs)
any_map p f [] = refl
any_map p f (x ∷ xs) = ap (λ (b : Bool). p (f x) || b) (any_map p f xs)

first_place : {K : Type 0} (test : K → Bool) (k : K) (ks : List K) (b : Bool) → test k ≡ b → position_or_len test (k ∷ ks) ≡ cond b 0 (suc (position_or_len test ks))
first_place test k ks b e =
    let one : 1 + position_or_len test ks ≡ suc (position_or_len test ks) = omega arith in
    ap (λ (c : Bool). cond (not c) (1 + position_or_len test ks) 0) e
    ∙ ap (λ (n : ℕ). cond (not b) n 0) one
    ∙ elim b as (λ c. cond (not c) (suc (position_or_len test ks)) 0 ≡ cond c 0 (suc (position_or_len test ks))) [ true ↦ refl | false ↦ refl ]

removed_one : {K : Type 0} (test : K → Bool) (e : K × ℕ) (es : List (K × ℕ)) (b : Bool) → test e.0 ≡ b → remove (map (λ (v : K × ℕ). v.1) es) (position_or_len test (keys_of es)) ≡ map (λ (v : K × ℕ). v.1) (remove_entry test es)
    → remove (e.1 ∷ map (λ (v : K × ℕ). v.1) es) (position_or_len test (e.0 ∷ keys_of es)) ≡ map (λ (v : K × ℕ). v.1) (cond b es (e ∷ remove_entry test es))
removed_one {K} test e es true is more = ap (λ (n : ℕ). remove (e.1 ∷ map (λ (v : K × ℕ). v.1) es) n) (first_place test e.0 (keys_of es) true is)
removed_one {K} test e es false is more = ap (λ (n : ℕ). remove (e.1 ∷ map (λ (v : K × ℕ). v.1) es) n) (first_place test e.0 (keys_of es) false is) ∙ ap (λ (l : List ℕ). e.1 ∷ l) more

pub removed_set : {K : Type 0} (test : K → Bool) (es : List (K × ℕ)) → remove (map (λ (v : K × ℕ). v.1) es) (position_or_len test (keys_of es)) ≡ map (λ (v : K × ℕ). v.1) (remove_entry test es)
removed_set test [] = refl
removed_set test (e ∷ es) = removed_one test e es (test e.0) refl (removed_set test es)

pub turned_at : {X : Type 0} (xs : List X) (left : ℕ) (k : X) → 0 < left → left ≤ length xs → k ≡ get_or xs (left - 1) k → reverse (take left xs) ≡ k ∷ reverse (take (left - 1) xs)
turned_at {X} xs left k some within is =
    let one : left ≡ left - 1 + 1 = omega arith in
    ap (λ (i : ℕ). reverse (take i xs)) one
    ∙ ap (λ (l : List X). reverse l) (take_more xs (left - 1) k (omega arith) ∙ ap (λ (x : X). take (left - 1) xs ++ x ∷ []) (sym is))
    ∙ last_first (take (left - 1) xs) k

-- ---- one pass, told

same_needed : (p : ℕ) (a b : List ℕ) → ((n : ℕ) → is_in n a ≡ is_in n b) → (n : ℕ) → is_in n (p ∷ a) ≡ is_in n (p ∷ b)
same_needed p a b same n = ap (λ (t : Bool). (n == p) || t) (same n)

pub same_doom : {O : Type 0} (es : List (Placed O)) (a b : List ℕ) → ((n : ℕ) → is_in n a ≡ is_in n b) → doomed a es ≡ doomed b es
same_doom [] a b same = refl
same_doom (e ∷ es) a b same =
    ap (λ (t : Bool). cond t (doomed (e.parent ∷ a) es) (e.number ∷ doomed a es)) (same e.number)
    ∙ elim (is_in e.number b) as (λ t. cond t (doomed (e.parent ∷ a) es) (e.number ∷ doomed a es) ≡ cond t (doomed (e.parent ∷ b) es) (e.number ∷ doomed b es)) [
      | true ↦ same_doom es (e.parent ∷ a) (e.parent ∷ b) (same_needed e.parent a b same)
      | false ↦ ap (λ (l : List ℕ). e.number ∷ l) (same_doom es a b same)
    ]

swap_last : (a b : Bool) → (b || (a || false)) ≡ (a || b)
swap_last true true = refl
swap_last true false = refl
swap_last false true = refl
swap_last false false = refl

-- where a number stands doesn't matter
pub last_is_first : (p : ℕ) (xs : List ℕ) (n : ℕ) → is_in n (xs ++ p ∷ []) ≡ is_in n (p ∷ xs)
last_is_first p xs n = list_any-append (λ k. n == k) xs (p ∷ []) ∙ swap_last (n == p) (is_in n xs)

module _ {O : Type 0} (nodes : List (Node O)) (left : ℕ) (k : Node O) (some : 0 < left) (within : left ≤ length nodes) (is : k ≡ get_or nodes (left - 1) k) where
  abbrev below : List (Placed O)
  below = placed_in (reverse (take (left - 1) nodes))

  pub opened : placed_in (reverse (take left nodes)) ≡ k.placed ∷ below
  opened = ap (λ (l : List (Node O)). placed_in l) (turned_at nodes left k some within is)

  doom_kept : (needed more : List ℕ) (gone all : List ℕ) → gone ++ doomed needed (placed_in (reverse (take left nodes))) ≡ all → is_in k.placed.number needed ≡ true → more ≡ needed ++ k.placed.parent ∷ [] → gone ++ doomed more below ≡ all
  doom_kept needed more gone all so_far test m =
      ap (λ (l : List ℕ). gone ++ doomed l below) m
      ∙ ap (λ (l : List ℕ). gone ++ l) (same_doom below (needed ++ k.placed.parent ∷ []) (k.placed.parent ∷ needed) (last_is_first k.placed.parent needed)
      ∙ sym (ap (λ (b : Bool). cond b (doomed (k.placed.parent ∷ needed) below) (k.placed.number ∷ doomed needed below)) test) ∙ sym (ap (λ (es : List (Placed O)). doomed needed es) opened))
      ∙ so_far

  doom_gone : (needed gone more all : List ℕ) → gone ++ doomed needed (placed_in (reverse (take left nodes))) ≡ all → is_in k.placed.number needed ≡ false → more ≡ gone ++ k.placed.number ∷ [] → more ++ doomed needed below ≡ all
  doom_gone needed gone more all so_far test m =
      ap (λ (l : List ℕ). l ++ doomed needed below) m ∙ append_assoc gone (k.placed.number ∷ []) (doomed needed below)
      ∙ ap (λ (l : List ℕ). gone ++ l) (sym (ap (λ (b : Bool). cond b (doomed (k.placed.parent ∷ needed) below) (k.placed.number ∷ doomed needed below)) test) ∙ sym (ap (λ (es : List (Placed O)). doomed needed es) opened))
      ∙ so_far

  pub doom_step : (needed more gone went all : List ℕ) → gone ++ doomed needed (placed_in (reverse (take left nodes))) ≡ all → more ≡ cond (is_in k.placed.number needed) (needed ++ k.placed.parent ∷ []) needed → went ≡ cond (is_in k.placed.number needed) gone (gone ++ k.placed.number ∷ [])
      → went ++ doomed more below ≡ all
  doom_step needed more gone went all so_far m w =
      (elim (is_in k.placed.number needed) as (λ b. is_in k.placed.number needed ≡ b → more ≡ cond b (needed ++ k.placed.parent ∷ []) needed → went ≡ cond b gone (gone ++ k.placed.number ∷ []) → went ++ doomed more below ≡ all) [
        | true ↦ λ test n x. ap (λ (l : List ℕ). l ++ doomed more below) x ∙ doom_kept needed more gone all so_far test n
        | false ↦ λ test n x. ap (λ (l : List ℕ). went ++ doomed l below) n ∙ doom_gone needed gone went all so_far test x
      ]) refl m w

  -- ---- one pass, done

  pub above : drop (left - 1) nodes ≡ k ∷ drop left nodes
  above =
      let one : left - 1 + 1 ≡ left = omega arith in
      drop_more nodes (left - 1) k (omega arith) ∙ ap (λ (x : Node O). x ∷ drop (left - 1 + 1) nodes) (sym is) ∙ ap (λ (i : ℕ). k ∷ drop i nodes) one

  abbrev stays_from : List (Node O) → List (Node O) → List ℕ → List (Node O)
  stays_from over under sets = reverse over ++ staying_nodes (needed_by over sets) under

  open_pass : (sets : List ℕ) (b : Bool) → is_in k.placed.number (needed_by (drop left nodes) sets) ≡ b
      → stays_from (drop left nodes) (reverse (take left nodes)) sets ≡ reverse (drop left nodes) ++ cond b (k ∷ staying_nodes (k.placed.parent ∷ needed_by (drop left nodes) sets) (reverse (take (left - 1) nodes))) (staying_nodes (needed_by (drop left nodes) sets) (reverse (take (left - 1) nodes)))
  open_pass sets b test =
      ap (λ (l : List (Node O)). stays_from (drop left nodes) l sets) (turned_at nodes left k some within is)
      ∙ ap (λ (c : Bool). reverse (drop left nodes) ++ cond c (k ∷ staying_nodes (k.placed.parent ∷ needed_by (drop left nodes) sets) (reverse (take (left - 1) nodes))) (staying_nodes (needed_by (drop left nodes) sets) (reverse (take (left - 1) nodes)))) test

  pub pass_kept : (sets : List ℕ) (all : List (Node O)) → stays_from (drop left nodes) (reverse (take left nodes)) sets ≡ all → is_in k.placed.number (needed_by (drop left nodes) sets) ≡ true → stays_from (drop (left - 1) nodes) (reverse (take (left - 1) nodes)) sets ≡ all
  pass_kept sets all so_far test =
      let over = drop left nodes in
      let under = reverse (take (left - 1) nodes) in
      ap (λ (l : List (Node O)). stays_from l under sets) above
      ∙ ap (λ (l : List (Node O)). l ++ staying_nodes (k.placed.parent ∷ needed_by over sets) under) (reverse-append (k ∷ []) over)
      ∙ append_assoc (reverse over) (k ∷ []) (staying_nodes (k.placed.parent ∷ needed_by over sets) under)
      ∙ sym (open_pass sets true test) ∙ so_far

  pub pass_gone : (new : List (Node O)) (sets : List ℕ) (all : List (Node O)) → new ≡ remove nodes (left - 1) → stays_from (drop left nodes) (reverse (take left nodes)) sets ≡ all → is_in k.placed.number (needed_by (drop left nodes) sets) ≡ false
      → stays_from (drop (left - 1) new) (reverse (take (left - 1) new)) sets ≡ all
  pass_gone new sets all m so_far test =
      let short = length-take-le (left - 1) nodes (omega arith) in
      let over = drop (suc (left - 1)) nodes in
      let same : drop (left - 1) new ≡ drop left nodes = ap (λ (l : List (Node O)). drop (left - 1) l) m ∙ drop_at (take (left - 1) nodes) over (left - 1) short ∙ ap (λ (i : ℕ). drop i nodes) (let e : suc (left - 1) ≡ left = omega arith in e) in
      let front : take (left - 1) new ≡ take (left - 1) nodes = ap (λ (l : List (Node O)). take (left - 1) l) m ∙ take_at (take (left - 1) nodes) over (left - 1) short in
      ap (λ (l : List (Node O)). stays_from l (reverse (take (left - 1) new)) sets) same
      ∙ ap (λ (l : List (Node O)). stays_from (drop left nodes) (reverse l) sets) front
      ∙ sym (open_pass sets false test) ∙ so_far

-- the pass is over
pub doom_done : {O : Type 0} (nodes : List (Node O)) (left : ℕ) (needed gone all : List ℕ) → left ≡ 0 → gone ++ doomed needed (placed_in (reverse (take left nodes))) ≡ all → gone ≡ all
doom_done nodes left needed gone all none so_far =
    sym (append-nil gone) ∙ ap (λ (n : ℕ). gone ++ doomed needed (placed_in (reverse (take n nodes)))) (sym none) ∙ so_far

pub place_is : {K : Type 0} (test : K → Bool) (ks : List K) (at : ℕ) → position test ks ≡ Some at → position_or_len test ks ≡ at
place_is test ks at e =
    (elim (nat_lt (position_or_len test ks) (length ks)) as (λ b. cond b (Some (position_or_len test ks)) None ≡ Some at → position_or_len test ks ≡ at) [
      | true ↦ λ h. cc
      | false ↦ λ h. cc
    ]) e

pub none_removed : {K : Type 0} (test : K → Bool) (es : List (K × ℕ)) → is_some (lookup test es) ≡ false → remove_entry test es ≡ es
none_removed test [] e = refl
none_removed {K} test (f ∷ es) e =
    (elim (test f.0) as (λ b. is_some (cond b (Some f.1) (lookup test es)) ≡ false → cond b es (f ∷ remove_entry test es) ≡ f ∷ es) [
      | true ↦ λ h. cc
      | false ↦ λ h. ap (λ (l : List (K × ℕ)). f ∷ l) (none_removed test es h)
    ]) e

pub a_node : {X : Type 0} (xs : List X) (i : ℕ) → i < length xs → (k : X) × (k ≡ get_or xs i k)
a_node [] i h = absurd (omega arith)
a_node (x ∷ xs) zero h = (x, refl)
a_node (x ∷ xs) (suc i) h = a_node xs i (omega arith)

or_first : (a b : Bool) → a ≡ true → (a || b) ≡ a
or_first true b e = refl
or_first false b e = cc

or_second : (a b : Bool) → a ≡ false → (a || b) ≡ b
or_second true b e = cc
or_second false b e = refl

module _ {O : Type 0} (over : List (Node O)) (sets : List ℕ) (n : ℕ) (a b : Bool) (is_a : a ≡ list_any (λ k. n == k.placed.parent) over) (is_b : b ≡ is_in n sets) where
  either : is_in n (needed_by over sets) ≡ (a || is_in n sets)
  either = list_any-append (λ k. n == k) (map (λ (k : Node O). k.placed.parent) over) sets ∙ ap (λ (c : Bool). c || is_in n sets) (sym (any_map (λ k. n == k) (λ (k : Node O). k.placed.parent) over) ∙ sym is_a)

  pub by_parent : a ≡ true → a ≡ is_in n (needed_by over sets)
  by_parent e = sym (either ∙ or_first a (is_in n sets) e)

  pub by_name : a ≡ false → b ≡ is_in n (needed_by over sets)
  by_name e = is_b ∙ sym (either ∙ or_second a (is_in n sets) e)

-- what `contains` answers
flip_test : (n k : ℕ) → (n == k) ≡ (k == n)
flip_test n k = elim (cases_eq n k) as (λ _. (n == k) ≡ (k == n)) [ inl e ↦ eq-eqb n k e ∙ sym (eq-eqb k n (sym e)) | inr h ↦ ne_eqb n k h ∙ sym (ne_eqb k n (λ e. h (sym e))) ]

same_tests : (xs : List ℕ) (n : ℕ) → is_in n xs ≡ list_any (λ y. y == n) xs
same_tests [] n = refl
same_tests (x ∷ xs) n = ap (λ (b : Bool). b || is_in n xs) (flip_test n x) ∙ ap (λ (b : Bool). (x == n) || b) (same_tests xs n)

pub contains_is : (xs ys : List ℕ) (n : ℕ) (b : Bool) → ys ≡ xs → b ≡ list_any (λ y. y == n) ys → is_in n xs ≡ b
contains_is xs ys n b same is = same_tests xs n ∙ sym (is ∙ ap (λ (l : List ℕ). list_any (λ y. y == n) l) same)

-- one node less leaves those before it
pub gone_within : {X : Type 0} (xs : List X) (left : ℕ) (new : List X) → new ≡ remove xs (left - 1) → 0 < left → left ≤ length xs → left - 1 ≤ length new
gone_within xs left new m some within =
    let a = ap (λ l. length l) m ∙ Rattle.std.proofs.lemmas.List.length-append (take (left - 1) xs) (drop (suc (left - 1)) xs) in
    let b = length-take-le (left - 1) xs (omega arith) in
    omega (arith, a, b)
