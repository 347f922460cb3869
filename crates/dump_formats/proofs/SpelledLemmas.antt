-- What JSON spells: numbers, counts, and lists of them.
use Rattle.std.specs.Prelude.{◌==◌, ◌<◌, ◌^◌, Option, Some, None, option_and_then, if◌then◌else◌}
use Rattle.std.proofs.Common.{◌≡◌, ℕ, zero, suc, List, [], ◌∷◌, Bool, true, false, cond, get_or, length, map, inl, inr, refl, sym, ap, ◌∙◌, subst, arith}
use Rattle.std.proofs.lemmas.Bool.{cond-true, eq-eqb, eqb-true}
use Rattle.serde_json.specs.Data.{Data, unsigned, negative, float, null, boolean, number, string, array, object, Items, no_items, item}
use Rattle.serde_json.specs.View.{items_of, items_view, view}
use Rattle.serde_json.specs.declared.value.Value.{Value as Json}
use Rattle.version_graph.specs.Sets.{Each, In}
use Rattle.version_graph.proofs.SetLaws.{each_at}
use Rattle.layout_planner.specs.Counts.{tables_counted}
use Rattle.layout_planner.specs.declared.planning.TableCount.{TableCount}
use Rattle.dump_values.specs.Members.{both, number_json, number_of, numbers_json, small_of, within}
use Rattle.dump_values.specs.Pairs.{last_of, two_of}
use Rattle.dump_values.proofs.BackLaws.{small_back}
use Rattle.dump_formats.specs.Formats.{count_json, counts_json, goal_json}
use Rattle.dump_formats.specs.inner.Read.{count_at}

some_is : {A : Type 0} (a b : A) → Some a ≡ Some b → a ≡ b
some_is a b e = cc

-- ---- one number

pub number_is : (d : Data) (n : ℕ) → number_of d ≡ Some n → d ≡ number_json n
number_is null n h = absurd (let no : ⊥ = cc in no)
number_is (boolean b) n h = absurd (let no : ⊥ = cc in no)
number_is (number (unsigned m)) n h = ap (λ (k : ℕ). number_json k) (some_is m n h)
number_is (number (negative z)) n h = absurd (let no : ⊥ = cc in no)
number_is (number (float x)) n h = absurd (let no : ⊥ = cc in no)
number_is (string s) n h = absurd (let no : ⊥ = cc in no)
number_is (array ds) n h = absurd (let no : ⊥ = cc in no)
number_is (object ms) n h = absurd (let no : ⊥ = cc in no)

within_is : (least most m n : ℕ) → within least most m ≡ Some n → m ≡ n
within_is least most m n h = go _ h
  where
    go : (b : Bool) → cond b (Some m) None ≡ Some n → m ≡ n
    go true k = some_is m n k
    go false k = absurd (let no : ⊥ = cc in no)

pub small_is : (d : Data) (n : ℕ) → small_of d ≡ Some n → d ≡ number_json n
small_is d n h = go (number_of d) refl h
  where
    go : (o : Option ℕ) → number_of d ≡ o → option_and_then (within 0 4294967295) o ≡ Some n → d ≡ number_json n
    go None is k = absurd (let no : ⊥ = cc in no)
    go (Some m) is k = number_is d m is ∙ ap (λ (j : ℕ). number_json j) (within_is 0 4294967295 m n k)

-- ---- one count

-- two numbers and nothing behind them
two_is : (ds : Items) (p : ℕ × ℕ) → two_of ds ≡ Some p → ds ≡ item (number_json p.0) (item (number_json p.1) no_items)
two_is no_items p h = absurd (let no : ⊥ = cc in no)
two_is (item a ds) p h = go (number_of a) refl (last_of ds) refl h
  where
    last_is : (es : Items) (n : ℕ) → last_of es ≡ Some n → es ≡ item (number_json n) no_items
    last_is no_items n k = absurd (let no : ⊥ = cc in no)
    last_is (item b no_items) n k = ap (λ (d : Data). item d no_items) (number_is b n k)
    last_is (item b (item c es)) n k = absurd (let no : ⊥ = cc in no)

    go : (x : Option ℕ) → number_of a ≡ x → (y : Option ℕ) → last_of ds ≡ y → both x y ≡ Some p → item a ds ≡ item (number_json p.0) (item (number_json p.1) no_items)
    go (Some n) an (Some m) dm k =
        let same : (n, m) ≡ p = some_is (n, m) p k in
        (λ i. item (number_is a n an i) (last_is ds m dm i))
        ∙ ap (λ (q : ℕ × ℕ). item (number_json q.0) (item (number_json q.1) no_items)) same
    go (Some n) an None dm k = absurd (let no : ⊥ = cc in no)
    go None an y dm k = absurd (let no : ⊥ = cc in no)

pub count_is : (t : ℕ) (d : Data) (n : ℕ) → count_at t d ≡ Some n → d ≡ count_json (record { table = t; count = n })
count_is t null n h = absurd (let no : ⊥ = cc in no)
count_is t (boolean b) n h = absurd (let no : ⊥ = cc in no)
count_is t (number m) n h = absurd (let no : ⊥ = cc in no)
count_is t (string s) n h = absurd (let no : ⊥ = cc in no)
count_is t (object ms) n h = absurd (let no : ⊥ = cc in no)
count_is t (array ds) n h = go (two_of ds) refl h
  where
    go : (o : Option (ℕ × ℕ)) → two_of ds ≡ o → option_and_then (λ (p : ℕ × ℕ). if p.0 == t then Some p.1 else None) o ≡ Some n → array ds ≡ count_json (record { table = t; count = n })
    go None is k = absurd (let no : ⊥ = cc in no)
    go (Some p) is k = by (p.0 == t) refl k
      where
        by : (b : Bool) → (p.0 == t) ≡ b → cond b (Some p.1) None ≡ Some n → array ds ≡ count_json (record { table = t; count = n })
        by true here j =
            ap (λ (es : Items). array es) (two_is ds p is)
            ∙ (λ i. array (item (number_json (eqb-true p.0 t here i)) (item (number_json (some_is p.1 n j i)) no_items)))
        by false here j = absurd (let no : ⊥ = cc in no)

pub count_told : (t n : ℕ) → count_at t (count_json (record { table = t; count = n })) ≡ Some n
count_told t n = cond-true (t == t) (Some n) None (eq-eqb t t refl)

-- ---- lists of them

-- what the item at a place spells
pub number_there : (ns : List ℕ) (xs : List Json) (i : ℕ) (x : Json) → i < length xs → x ≡ get_or xs i x → items_view xs ≡ items_of (map number_json ns) → (n : ℕ) × In n ns × (view x ≡ number_json n)
number_there ns [] i x lt is same = absurd (omega arith)
number_there [] (y ∷ ys) i x lt is same = absurd (let no : ⊥ = cc in no)
number_there (n ∷ ns) (y ∷ ys) zero x lt is same = let head : view y ≡ number_json n = cc in (n, inl refl, ap view is ∙ head)
number_there (n ∷ ns) (y ∷ ys) (suc i) x lt is same =
    let tail : items_view ys ≡ items_of (map number_json ns) = cc in
    let rest = number_there ns ys i x (omega arith) is tail in
    (rest.0, inr rest.1, rest.2)

pub count_there : (told : List TableCount) (xs : List Json) (i t : ℕ) (x : Json) → i < length (tables_counted told) → t ≡ get_or (tables_counted told) i 0 → i < length xs → x ≡ get_or xs i x
    → items_view xs ≡ items_of (map count_json told) → (n : ℕ) × (view x ≡ count_json (record { table = t; count = n }))
count_there [] xs i t x lt at less is same = absurd (omega arith)
count_there (c ∷ cs) [] i t x lt at less is same = absurd (omega arith)
count_there (c ∷ cs) (y ∷ ys) zero t x lt at less is same =
    let head : view y ≡ count_json c = cc in
    (c.count, ap view is ∙ head ∙ ap (λ (k : ℕ). count_json (record { table = k; count = c.count })) (sym at))
count_there (c ∷ cs) (y ∷ ys) (suc i) t x lt at less is same =
    let tail : items_view ys ≡ items_of (map count_json cs) = cc in
    count_there cs ys i t x (omega arith) at (omega arith) is tail

-- a number that has more than 32 bits is none of these
pub no_number : (ns : List ℕ) (xs : List Json) (i : ℕ) (x : Json) → i < length xs → x ≡ get_or xs i x → None ≡ small_of (view x) → Each (λ n. n < 2 ^ 32) ns → items_view xs ≡ items_of (map number_json ns) → ⊥
no_number ns xs i x lt is none each same =
    let n = number_there ns xs i x lt is same in
    let told : small_of (view x) ≡ Some n.0 = ap small_of n.2 ∙ small_back n.0 (each_at (λ k. k < 2 ^ 32) ns n.0 n.1 each) in
    let clash : None ≡ Some n.0 = none ∙ told in
    cc

pub no_such_count : (told : List TableCount) (ts : List ℕ) (xs : List Json) (i t : ℕ) (x : Json) → i < length ts → t ≡ get_or ts i 0 → i < length xs → x ≡ get_or xs i x → None ≡ count_at t (view x)
    → tables_counted told ≡ ts → items_view xs ≡ items_of (map count_json told) → ⊥
no_such_count told ts xs i t x lt at less is none all same =
    let n = count_there told xs i t x (subst (λ (l : List ℕ). i < length l) (sym all) lt) (subst (λ (l : List ℕ). t ≡ get_or l i 0) (sym all) at) less is same in
    let found : count_at t (view x) ≡ Some n.0 = ap (count_at t) n.1 ∙ count_told t n.0 in
    let clash : None ≡ Some n.0 = none ∙ found in
    cc

-- as many items as are spelled
pub spelled_many : {A : Type 0} (write : A → Data) (xs : List Json) (told : List A) → items_view xs ≡ items_of (map write told) → length xs ≡ length told
spelled_many write [] [] same = refl
spelled_many write [] (a ∷ told) same = absurd (let no : ⊥ = cc in no)
spelled_many write (x ∷ xs) [] same = absurd (let no : ⊥ = cc in no)
spelled_many write (x ∷ xs) (a ∷ told) same =
    let tail : items_view xs ≡ items_of (map write told) = cc in
    ap suc (spelled_many write xs told tail)

-- ---- what is spelled is one

pub numbers_same : (ns ms : List ℕ) → items_of (map number_json ns) ≡ items_of (map number_json ms) → ns ≡ ms
numbers_same [] [] same = refl
numbers_same [] (m ∷ ms) same = absurd (let no : ⊥ = cc in no)
numbers_same (n ∷ ns) [] same = absurd (let no : ⊥ = cc in no)
numbers_same (n ∷ ns) (m ∷ ms) same =
    let head : n ≡ m = cc in
    let tail : items_of (map number_json ns) ≡ items_of (map number_json ms) = cc in
    (λ i. head i ∷ numbers_same ns ms tail i)

pub numbers_one : (ns ms : List ℕ) → numbers_json ns ≡ numbers_json ms → ns ≡ ms
numbers_one ns ms same = numbers_same ns ms (let inside : items_of (map number_json ns) ≡ items_of (map number_json ms) = cc in inside)

pub goals_one : (g h : Option (List ℕ)) → goal_json g ≡ goal_json h → g ≡ h
goals_one None None same = refl
goals_one None (Some h) same = absurd (let no : ⊥ = cc in no)
goals_one (Some g) None same = absurd (let no : ⊥ = cc in no)
goals_one (Some g) (Some h) same = ap (λ (l : List ℕ). Some l) (numbers_one g h same)

counts_same : (cs ds : List TableCount) → items_of (map count_json cs) ≡ items_of (map count_json ds) → cs ≡ ds
counts_same [] [] same = refl
counts_same [] (d ∷ ds) same = absurd (let no : ⊥ = cc in no)
counts_same (c ∷ cs) [] same = absurd (let no : ⊥ = cc in no)
counts_same (c ∷ cs) (d ∷ ds) same =
    let table : c.table ≡ d.table = cc in
    let count : c.count ≡ d.count = cc in
    let tail : items_of (map count_json cs) ≡ items_of (map count_json ds) = cc in
    (λ i. record { table = table i; count = count i } ∷ counts_same cs ds tail i)

pub counts_one : (cs ds : List TableCount) → counts_json cs ≡ counts_json ds → cs ≡ ds
counts_one cs ds same = counts_same cs ds (let inside : items_of (map count_json cs) ≡ items_of (map count_json ds) = cc in inside)
