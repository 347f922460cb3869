-- The statements of the script by their places.
use Rattle.std.proofs.Common.{◌≡◌, ◌≢◌, ◌≤◌, ◌<◌, ◌+◌, ◌*◌, ◌/◌, ◌%◌, ℕ, zero, suc, Bool, true, false, List, [], ◌∷◌, ◌++◌, refl, ap, sym, ◌∙◌, length, length-append, append-nil, arith}
use Rattle.std.specs.Prelude.{Some, map, slice_get, cond}
use Rattle.std.specs.List.{filter, range_with_len}
use Rattle.std.proofs.lemmas.Bool.{eqb-true, eqb-false}
use Rattle.std.proofs.lemmas.List.{map-id, length-map}
use Rattle.std.proofs.lemmas.List.FromFn.{length-map-range_with_len, get_or-map-range_with_len, map-range_with_len_more, filter_of_map_range_with_len_more}
use Rattle.std.proofs.lemmas.Option.{slice_get-get_or}
use Rattle.statements.specs.Views.{StatementView}
use Rattle.script_generator.specs.Generated.{below, create_tasky, insert_task, evolution, insert_todo, is_fourth, ending, generated_script, generated_statement}
use Rattle.script_generator.specs.inner.Places.{behind_tasks}

-- ---- items of lists

-- an item of the first list
front_item : {A : Type 0} (xs ys : List A) (k : ℕ) → k < length xs → slice_get (xs ++ ys) k ≡ slice_get xs k
front_item [] ys k h = absurd (omega arith)
front_item (x ∷ xs) ys zero h = refl
front_item (x ∷ xs) ys (suc k) h = front_item xs ys k (omega arith)

-- an item of the second list
later_item : {A : Type 0} (xs ys : List A) (k j : ℕ) → k ≡ length xs + j → slice_get (xs ++ ys) k ≡ slice_get ys j
later_item [] ys k j h = let same : k ≡ j = omega (arith, h) in ap (slice_get ys) same
later_item (x ∷ xs) ys zero j h = absurd (omega arith)
later_item (x ∷ xs) ys (suc k) j h = later_item xs ys k j (omega arith)

-- an item of a list that is made of the numbers below n
row_item : (f : ℕ → StatementView) (n i : ℕ) → i < n → slice_get (map f (range_with_len 0 n)) i ≡ Some (f i)
row_item f n i h =
    let within : i < length (map f (range_with_len 0 n)) = omega (arith, h, length-map-range_with_len f 0 n) in
    slice_get-get_or (map f (range_with_len 0 n)) i (f i) within ∙ ap (λ (s : StatementView). Some s) (get_or-map-range_with_len f 0 n i i (f i) h (omega arith))

-- ---- the numbers that 4 divides

abbrev fourth : ℕ → ℕ
fourth j = 4 * j

more : (n : ℕ) → suc n ≡ n + 1
more n = omega arith

-- one more number, which 4 divides or not
filtered_more : (n : ℕ) → filter is_fourth (below (suc n)) ≡ filter is_fourth (below n) ++ cond (is_fourth n) (n ∷ []) []
filtered_more n =
    ap (λ (k : ℕ). filter is_fourth (below k)) (more n)
    ∙ sym (ap (filter is_fourth) (map-id (below (n + 1))))
    ∙ filter_of_map_range_with_len_more is_fourth (λ (x : ℕ). x) 0 n n (omega arith)
    ∙ ap (λ (l : List ℕ). filter is_fourth l ++ cond (is_fourth n) (n ∷ []) []) (map-id (below n))

-- the numbers below n that 4 divides are the first m, where n is at most 4 m and above 4 (m - 1)
abbrev AreFourths : ℕ → ℕ → Type 0
AreFourths n m = 4 * m ≤ n + 3 → n ≤ 4 * m → filter is_fourth (below n) ≡ map fourth (below m)

-- so with one more number, which 4 divides or not
fourths_more : (n m : ℕ) → AreFourths n m → AreFourths n (suc m) → (b : Bool) → is_fourth n ≡ b → AreFourths (suc n) (suc m)
fourths_more n m before stays true is h k =
    let divided : n % 4 ≡ 0 = eqb-true (n % 4) 0 is in
    let same : n ≡ 4 * m = omega (arith, divided, h, k) in
    filtered_more n ∙ ap (λ (b : Bool). filter is_fourth (below n) ++ cond b (n ∷ []) []) is
    ∙ ap (λ (l : List ℕ). l ++ n ∷ []) (before (omega (arith, same)) (omega (arith, same)))
    ∙ ap (λ (i : ℕ). map fourth (below m) ++ i ∷ []) same
    ∙ sym (ap (λ (k : ℕ). map fourth (below k)) (more m) ∙ map-range_with_len_more fourth 0 m m (omega arith))
fourths_more n m before stays false is h k =
    let other : n % 4 ≢ 0 = eqb-false (n % 4) 0 is in
    let unlike : n ≢ 4 * m = λ e. other (omega (arith, e)) in
    filtered_more n ∙ ap (λ (b : Bool). filter is_fourth (below n) ++ cond b (n ∷ []) []) is
    ∙ append-nil (filter is_fourth (below n))
    ∙ stays (omega (arith, unlike, h)) (omega arith)

fourths : (n m : ℕ) → AreFourths n m
fourths zero zero h k = refl
fourths zero (suc m) h k = absurd (omega arith)
fourths (suc n) zero h k = absurd (omega arith)
fourths (suc n) (suc m) h k = fourths_more n m (fourths n m) (fourths n (suc m)) (is_fourth n) refl h k

-- a function after another, over a list
mapped : (f : ℕ → StatementView) (g : ℕ → ℕ) (xs : List ℕ) → map f (map g xs) ≡ map (λ (x : ℕ). f (g x)) xs
mapped f g [] = refl
mapped f g (x ∷ xs) = ap (λ (l : List StatementView). f (g x) ∷ l) (mapped f g xs)

-- so the rows of `todo` are these
todo_rows : (n m : ℕ) → 4 * m ≤ n + 3 → n ≤ 4 * m → map insert_todo (filter is_fourth (below n)) ≡ map (λ (j : ℕ). insert_todo (4 * j)) (below m)
todo_rows n m h k = ap (map insert_todo) (fourths n m h k) ∙ mapped insert_todo fourth (below m)

-- how many numbers below n 4 divides
pub fourth_count : (n m : ℕ) → 4 * m ≤ n + 3 → n ≤ 4 * m → m ≡ length (filter is_fourth (below n))
fourth_count n m h k = sym (ap length (fourths n m h k) ∙ length-map-range_with_len fourth 0 m)

pub counted_fourths : (n : ℕ) → length (filter is_fourth (below n)) ≡ (n + 3) / 4
counted_fourths n = sym (fourth_count n ((n + 3) / 4) (omega arith) (omega arith))

-- how many statements the script has
pub script_length : (n m : ℕ) → m ≡ length (filter is_fourth (below n)) → length (generated_script n) ≡ 1 + n + 3 + m + 4
unfolding generated_script
script_length n m e = omega (
  arith,
  e,
  length-append (map insert_task (below n)) (behind_tasks n),
  length-map-range_with_len insert_task 0 n,
  length-append (map insert_todo (filter is_fourth (below n))) ending,
  length-map (filter is_fourth (below n)) insert_todo,
)

-- ---- places behind the rows of `task`

module _ (n m : ℕ) (h : 4 * m ≤ n + 3) (k : n ≤ 4 * m) where
  abbrev todos : List StatementView
  todos = map (λ (j : ℕ). insert_todo (4 * j)) (below m)

  parted : behind_tasks n ≡ evolution ++ (todos ++ ending)
  parted = ap (λ (l : List StatementView). evolution ++ (l ++ ending)) (todo_rows n m h k)

  pub todo_place : (at i : ℕ) → at ≡ 3 + i → i < m → slice_get (behind_tasks n) at ≡ Some (insert_todo (4 * i))
  todo_place at i e lt =
      ap (λ (l : List StatementView). slice_get l at) parted
      ∙ later_item evolution (todos ++ ending) at i e
      ∙ front_item todos ending i (omega (arith, lt, length-map-range_with_len (λ (j : ℕ). insert_todo (4 * j)) 0 m))
      ∙ row_item (λ (j : ℕ). insert_todo (4 * j)) m i lt

  pub ending_place : (at i : ℕ) → at ≡ 3 + (m + i) → slice_get (behind_tasks n) at ≡ slice_get ending i
  ending_place at i e =
      ap (λ (l : List StatementView). slice_get l at) parted
      ∙ later_item evolution (todos ++ ending) at (m + i) e
      ∙ later_item todos ending (m + i) i (omega (arith, length-map-range_with_len (λ (j : ℕ). insert_todo (4 * j)) 0 m))

pub evolution_place : (n at : ℕ) → at < 3 → slice_get (behind_tasks n) at ≡ slice_get evolution at
evolution_place n at h = front_item evolution (map insert_todo (filter is_fourth (below n)) ++ ending) at h

-- ---- places in the script

-- the statements behind the first one
later_place : (n k i : ℕ) → k ≡ suc i → generated_statement n k ≡ slice_get (map insert_task (below n) ++ behind_tasks n) i
unfolding generated_script
later_place n k i e = ap (slice_get (generated_script n)) e

pub first_place : (n k : ℕ) → k ≡ 0 → Some create_tasky ≡ generated_statement n k
unfolding generated_script
first_place n k e = ap (slice_get (generated_script n)) (sym e)

pub task_place : (n k i : ℕ) → k ≡ i + 1 → i < n → Some (insert_task i) ≡ generated_statement n k
task_place n k i e h =
    sym (later_place n k i (omega (arith, e))
    ∙ front_item (map insert_task (below n)) (behind_tasks n) i (omega (arith, h, length-map-range_with_len insert_task 0 n))
    ∙ row_item insert_task n i h)

pub behind_place : (n k j : ℕ) → k ≡ n + j + 1 → slice_get (behind_tasks n) j ≡ generated_statement n k
behind_place n k j e =
    sym (later_place n k (n + j) (omega (arith, e))
    ∙ later_item (map insert_task (below n)) (behind_tasks n) (n + j) j (omega (arith, length-map-range_with_len insert_task 0 n)))
